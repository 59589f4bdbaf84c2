-- The text of what a token means, by its head and the list of its macro.
use Rattle.std.proofs.Common.{◌≡◌, ℕ, List, [], ◌++◌, refl, sym, ap, ◌∙◌, subst, append-nil, Bool}
use Rattle.std.specs.Prelude.{Option, Some, None, MatchBool, ◌||◌}
use Rattle.std.proofs.lemmas.List.{map-append}
use Rattle.tex_defs.specs.declared.Full.{Full}
use Rattle.tex_defs.specs.declared.Token.{Token}
use Rattle.tex_defs.specs.declared.Token.TheVariants as token
use Rattle.tex_defs.specs.declared.Seen.{Seen}
use Rattle.tex_defs.specs.declared.Meaning.{Meaning}
use Rattle.tex_defs.specs.declared.Meaning.TheVariants as means
use Rattle.plain_tokens.specs.Names.{name_of}
use Rattle.plain_tokens.specs.Tokens.{made_token, made_text}
use Rattle.plain_tokens.specs.Meanings.{seen_as, name_meaning, whole_meaning, let_meaning, meaning_to_let}
use Rattle.plain_tokens.specs.Printed.{Style, meaning_head, meaning_tokens, meaning_text, list_text}
use Rattle.plain_machine.specs.Plan.{shared_tokens}
use Rattle.input_state.specs.Calls.{macro_text, text_of}
use Rattle.input_state.specs.Stored.{Stored}
use Rattle.input_state.proofs.Walking.{stay}
use Rattle.engine_state.specs.Making.{HasGrown, GrowsNot}
use Rattle.engine_state.proofs.MadeTexts.{head_as, some_of}
use Rattle.engine_state.proofs.TextPutting.{grown_both, later_not, first_not, not_by}

-- THE MACRO THAT A TOKEN MEANS

-- its list
list_as : (lists : List (List Token)) (m : Meaning (Option ℕ)) → macro_text lists m ≡ meaning_tokens (shared_tokens lists) m
list_as lists means.Undefined = refl
list_as lists means.RelaxMarked = refl
list_as lists (means.Char category c) = refl
list_as lists (means.CharGiven c) = refl
list_as lists (means.MathGiven c) = refl
list_as lists (means.Register kind n) = refl
list_as lists (means.Prim n) = refl
list_as lists (means.Macro long outer None) = refl
list_as lists (means.Macro long outer (Some id)) = refl

-- whether a meaning is a macro
abbrev pub IsMacro : {L : Type 0} → Meaning L → Type 0
IsMacro (means.Macro long outer list) = Unit {0}
IsMacro m = ⊥

macro_as : (m : Meaning (Option ℕ)) → IsMacro (seen_as m) → IsMacro m
macro_as (means.Macro long outer list) h = h
macro_as means.Undefined h = absurd h
macro_as means.RelaxMarked h = absurd h
macro_as (means.Char category c) h = absurd h
macro_as (means.CharGiven c) h = absurd h
macro_as (means.MathGiven c) h = absurd h
macro_as (means.Register kind n) h = absurd h
macro_as (means.Prim n) h = absurd h

-- of a token that means a macro its name's
whole_list : (lists : List (List Token)) (cells : List (Meaning (Option ℕ))) (t : Token) → IsMacro (whole_meaning cells t) → text_of lists cells (name_of t) ≡ meaning_tokens (shared_tokens lists) (whole_meaning cells t)
whole_list lists cells (token.Named n) h = list_as lists (name_meaning cells n)
whole_list lists cells (token.Marked n) h = list_as lists (name_meaning cells n)
whole_list lists cells (token.Char category c) h = absurd h
whole_list lists cells (token.Place c) h = absurd h
whole_list lists cells (token.Number n) h = absurd h
whole_list lists cells token.EndPlaces h = absurd h

given_by : (lists : List (List Token)) (cells : List (Meaning (Option ℕ))) (t : Token) (m : Meaning Unit) → IsMacro (let_meaning cells t m) → text_of lists cells (name_of t) ≡ meaning_tokens (shared_tokens lists) (let_meaning cells t m)
given_by lists cells t means.RelaxMarked h = absurd h
given_by lists cells t means.Undefined h = whole_list lists cells t h
given_by lists cells t (means.Char category c) h = whole_list lists cells t h
given_by lists cells t (means.CharGiven c) h = whole_list lists cells t h
given_by lists cells t (means.MathGiven c) h = whole_list lists cells t h
given_by lists cells t (means.Register kind n) h = whole_list lists cells t h
given_by lists cells t (means.Prim n) h = whole_list lists cells t h
given_by lists cells t (means.Macro long outer list) h = whole_list lists cells t h

pub given_text : (lists : List (List Token)) (cells : List (Meaning (Option ℕ))) (x : Seen) (m : Meaning Unit) → m ≡ seen_as (meaning_to_let cells x) → IsMacro m → text_of lists cells (name_of x.token) ≡ meaning_tokens (shared_tokens lists) (meaning_to_let cells x)
given_text lists cells x m is h = given_by lists cells x.token x.meaning (macro_as (meaning_to_let cells x) (subst (λ (y : Meaning Unit). IsMacro y) is h))

-- another meaning has no list
none_as : (lists : List (List Token)) (m : Meaning (Option ℕ)) → (IsMacro (seen_as m) → ⊥) → meaning_tokens (shared_tokens lists) m ≡ []
none_as lists (means.Macro long outer list) h = absurd (h tt)
none_as lists means.Undefined h = refl
none_as lists means.RelaxMarked h = refl
none_as lists (means.Char category c) h = refl
none_as lists (means.CharGiven c) h = refl
none_as lists (means.MathGiven c) h = refl
none_as lists (means.Register kind n) h = refl
none_as lists (means.Prim n) h = refl

pub given_none : (lists : List (List Token)) (cells : List (Meaning (Option ℕ))) (x : Seen) (m : Meaning Unit) → m ≡ seen_as (meaning_to_let cells x) → (IsMacro m → ⊥) → meaning_tokens (shared_tokens lists) (meaning_to_let cells x) ≡ []
given_none lists cells x m is h = none_as lists (meaning_to_let cells x) (λ k. h (subst (λ (y : Meaning Unit). IsMacro y) (sym is) k))

-- THE TEXT

module _ (style : Style) (i j : Stored) (x : Seen) (m : Meaning Unit) (is : m ≡ seen_as (meaning_to_let i.groups.now.meanings x)) (piece : List ℕ) (p : piece ≡ meaning_head style m) where
  abbrev tail : List ℕ
  tail = list_text style (meaning_tokens (shared_tokens i.lists) (meaning_to_let i.groups.now.meanings x))

  whole_is : meaning_text style (shared_tokens i.lists) (meaning_to_let i.groups.now.meanings x) ≡ piece ++ tail
  whole_is = ap (λ (l : List ℕ). l ++ tail) (sym (p ∙ ap (meaning_head style) is ∙ head_as style (meaning_to_let i.groups.now.meanings x)))

  text_is : made_text (meaning_text style (shared_tokens i.lists) (meaning_to_let i.groups.now.meanings x)) ≡ made_text piece ++ made_text tail
  text_is = ap made_text whole_is ∙ map-append made_token piece tail

  -- the head has no room
  pub head_not : (full : Full) → GrowsNot i j (made_text piece) full → GrowsNot i j (made_text (meaning_text style (shared_tokens i.lists) (meaning_to_let i.groups.now.meanings x))) full
  head_not full g = not_by i j _ _ full text_is (first_not i j (made_text piece) (made_text tail) full g)

  module _ (k : Stored) (g : HasGrown i j (made_text piece)) (macro : IsMacro m) (texts : List Token) (same : texts ≡ text_of j.lists j.groups.now.meanings (name_of x.token)) where
    tail_is : tail ≡ list_text style texts
    tail_is = ap (list_text style) (sym (same ∙ stay i j g.keeps (ap (λ (s : Stored). s.groups.now.meanings) g.is) (record { name = name_of x.token; index = 0 }) ∙ given_text i.lists i.groups.now.meanings x m is macro))

    -- a macro's list behind it
    pub macro_whole : meaning_text style (shared_tokens i.lists) (meaning_to_let i.groups.now.meanings x) ≡ piece ++ list_text style texts
    macro_whole = whole_is ∙ ap (λ (l : List ℕ). piece ++ l) tail_is

    pub macro_grown : HasGrown j k (made_text (list_text style texts)) → HasGrown i k (made_text (meaning_text style (shared_tokens i.lists) (meaning_to_let i.groups.now.meanings x)))
    macro_grown h = subst (HasGrown i k) (sym (ap made_text macro_whole ∙ map-append made_token piece (list_text style texts))) (grown_both i j k (made_text piece) (made_text (list_text style texts)) g h)

    pub macro_not : (full : Full) → GrowsNot j k (made_text (list_text style texts)) full → GrowsNot i k (made_text (meaning_text style (shared_tokens i.lists) (meaning_to_let i.groups.now.meanings x))) full
    macro_not full h = not_by i k _ _ full (ap made_text macro_whole ∙ map-append made_token piece (list_text style texts)) (later_not i j k (made_text piece) (made_text (list_text style texts)) g full h)

    pub macro_some : (some more r : Bool) → r ≡ (more || some) → MatchBool some (piece ≡ [] → ⊥) (piece ≡ []) → MatchBool more (list_text style texts ≡ [] → ⊥) (list_text style texts ≡ []) →
        MatchBool r (meaning_text style (shared_tokens i.lists) (meaning_to_let i.groups.now.meanings x) ≡ [] → ⊥) (meaning_text style (shared_tokens i.lists) (meaning_to_let i.groups.now.meanings x) ≡ [])
    macro_some some more r is a b =
        subst (λ (l : List ℕ). MatchBool r (l ≡ [] → ⊥) (l ≡ [])) (sym macro_whole)
        (subst (λ (q : Bool). MatchBool q (piece ++ list_text style texts ≡ [] → ⊥) (piece ++ list_text style texts ≡ [])) (sym is) (some_of some more piece (list_text style texts) a b))

  -- another meaning is its head alone
  module _ (none : IsMacro m → ⊥) where
    bare_whole : meaning_text style (shared_tokens i.lists) (meaning_to_let i.groups.now.meanings x) ≡ piece
    bare_whole = whole_is ∙ ap (λ (ts : List Token). piece ++ list_text style ts) (given_none i.lists i.groups.now.meanings x m is none) ∙ append-nil piece

    pub bare_grown : HasGrown i j (made_text piece) → HasGrown i j (made_text (meaning_text style (shared_tokens i.lists) (meaning_to_let i.groups.now.meanings x)))
    bare_grown g = subst (λ (l : List ℕ). HasGrown i j (made_text l)) (sym bare_whole) g

    pub bare_some : (some : Bool) → MatchBool some (piece ≡ [] → ⊥) (piece ≡ []) → MatchBool some (meaning_text style (shared_tokens i.lists) (meaning_to_let i.groups.now.meanings x) ≡ [] → ⊥) (meaning_text style (shared_tokens i.lists) (meaning_to_let i.groups.now.meanings x) ≡ [])
    bare_some some a = subst (λ (l : List ℕ). MatchBool some (l ≡ [] → ⊥) (l ≡ [])) (sym bare_whole) a

pub is_macro : (m : Meaning Unit) (long outer : Bool) (list : Unit) → m ≡ means.Macro long outer list → IsMacro m
is_macro m long outer list is = subst (λ (y : Meaning Unit). IsMacro y) (sym is) tt

pub no_macro : (m : Meaning Unit) → ((long outer : Bool) (list : Unit) → m ≡ means.Macro long outer list → ⊥) → IsMacro m → ⊥
no_macro (means.Macro long outer list) h k = h long outer list refl
no_macro means.Undefined h k = k
no_macro means.RelaxMarked h k = k
no_macro (means.Char category c) h k = k
no_macro (means.CharGiven c) h k = k
no_macro (means.MathGiven c) h k = k
no_macro (means.Register kind n) h k = k
no_macro (means.Prim n) h k = k
