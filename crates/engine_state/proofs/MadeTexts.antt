-- Texts by which the list that is made grows, piece by piece.
use Rattle.std.proofs.Common.{◌≡◌, ℕ, List, [], ◌∷◌, ◌++◌, refl, sym, ap, ◌∙◌, subst, append_assoc, append-nil, Bool, true, false}
use Rattle.std.specs.Prelude.{Option, Some, MatchBool, ◌||◌, if◌then◌else◌}
use Rattle.std.proofs.lemmas.List.{map-append}
use Rattle.tex_defs.specs.declared.Sizes.{Sizes}
use Rattle.tex_defs.specs.declared.Full.{Full}
use Rattle.tex_defs.specs.declared.Token.{Token}
use Rattle.tex_defs.specs.declared.Meaning.{Meaning}
use Rattle.tex_defs.specs.declared.Meaning.TheVariants as means
use Rattle.plain_tokens.specs.Tokens.{made_token, made_text}
use Rattle.plain_tokens.specs.Meanings.{seen_as}
use Rattle.plain_tokens.specs.Pending.{all_puts}
use Rattle.plain_tokens.specs.Printed.{Style, meaning_head, token_text, list_from, places_after, last_after}
use Rattle.plain_machine.specs.Plan.{Page}
use Rattle.plain_machine.proofs.GroupNumbers.{fetched_same}
use Rattle.plain_machine.proofs.Ties.{text_let}
use Rattle.equivalents.specs.Locations.{SeenValue}
use Rattle.rows.specs.Internal.{is_fetchable, value_text}
use Rattle.input_state.specs.HeldLists.{made as made_list}
use Rattle.input_state.specs.Stored.{Stored}
use Rattle.engine_state.specs.declared.engine.Engine.{Engine}
use Rattle.engine_state.specs.declared.text.Made.{Made}
use Rattle.engine_state.specs.declared.text.Made.TheVariants as make
use Rattle.engine_state.specs.Book.{Book}
use Rattle.engine_state.specs.Stands.{IsSound, page_of, own_style}
use Rattle.engine_state.specs.Making.{HasGrown, GrowsNot, IsInFront, characters_of, characters_in}
use Rattle.engine_state.proofs.TextPutting.{grown_none, grown_both, later_not, first_not, not_by, front_sound}

-- whether there was a character, of two parts
pub some_of : (a b : Bool) (xs ys : List ℕ) → MatchBool a (xs ≡ [] → ⊥) (xs ≡ []) → MatchBool b (ys ≡ [] → ⊥) (ys ≡ []) → MatchBool (b || a) (xs ++ ys ≡ [] → ⊥) (xs ++ ys ≡ [])
some_of true true [] ys h k = absurd (h refl)
some_of true true (x ∷ xs) ys h k = λ is. cc
some_of true false [] ys h k = absurd (h refl)
some_of true false (x ∷ xs) ys h k = λ is. cc
some_of false true xs ys h k = λ is. k (ap (λ (l : List ℕ). l ++ ys) (sym h) ∙ is)
some_of false false xs ys h k = ap (λ (l : List ℕ). l ++ ys) h ∙ k

pub or_then : (a b r : Bool) → a ≡ true → r ≡ a → r ≡ (a || b)
or_then true b r is same = same
or_then false b r is same = cc

pub or_else : (a b r : Bool) → a ≡ false → r ≡ b → r ≡ (a || b)
or_else true b r is same = cc
or_else false b r is same = same

-- The list has grown by a front of this text, of which the rest is left.
pub record Along (i j : Stored) (whole rest : List ℕ) (some : Bool) : Type 0 where
  pub front : List ℕ
  pub parts : whole ≡ front ++ rest
  pub grown : HasGrown i j (made_text front)
  pub flag : MatchBool some (front ≡ [] → ⊥) (front ≡ [])

pub along_none : (i : Stored) (whole : List ℕ) → Along i i whole whole false
along_none i whole = record { front = []; parts = refl; grown = grown_none i; flag = refl }

module _ (i j k : Stored) (whole rest piece left : List ℕ) (some : Bool) (h : Along i j whole rest some) (is : rest ≡ piece ++ left) where
  whole_is : whole ≡ (h.front ++ piece) ++ left
  whole_is = h.parts ∙ ap (λ (l : List ℕ). h.front ++ l) is ∙ sym (append_assoc h.front piece left)

  text_is : made_text (h.front ++ piece) ≡ made_text h.front ++ made_text piece
  text_is = map-append made_token h.front piece

  -- a piece more
  pub along_more : (more : Bool) → HasGrown j k (made_text piece) → MatchBool more (piece ≡ [] → ⊥) (piece ≡ []) → Along i k whole left (more || some)
  along_more more g m = record {
    front = h.front ++ piece;
    parts = whole_is;
    grown = subst (HasGrown i k) (sym text_is) (grown_both i j k (made_text h.front) (made_text piece) h.grown g);
    flag = some_of some more h.front piece h.flag m;
  }

  -- or it has no room
  pub along_not : (full : Full) → GrowsNot j k (made_text piece) full → GrowsNot i k (made_text whole) full
  along_not full g =
      not_by i k ((made_text h.front ++ made_text piece) ++ made_text left) (made_text whole) full
      (ap made_text whole_is ∙ map-append made_token (h.front ++ piece) left ∙ ap (λ (ts : List Token). ts ++ made_text left) text_is)
      (first_not i k (made_text h.front ++ made_text piece) (made_text left) full (later_not i j k (made_text h.front) (made_text piece) h.grown full g))

pub along_flag : (i j : Stored) (whole rest : List ℕ) (some more : Bool) → more ≡ some → Along i j whole rest some → Along i j whole rest more
along_flag i j whole rest some more is h = subst (λ (b : Bool). Along i j whole rest b) (sym is) h

-- a character more
pub along_one : (i j k : Stored) (whole rest left : List ℕ) (c : ℕ) (some : Bool) → Along i j whole rest some → rest ≡ c ∷ left → HasGrown j k (made_text (c ∷ [])) → Along i k whole left true
along_one i j k whole rest left c some h is g = along_more i j k whole rest (c ∷ []) left some h is true g (λ no. cc)

-- all of it
module _ (i j : Stored) (whole rest : List ℕ) (some : Bool) (h : Along i j whole rest some) (is : rest ≡ []) where
  front_is : h.front ≡ whole
  front_is = sym (h.parts ∙ ap (λ (l : List ℕ). h.front ++ l) is ∙ append-nil h.front)

  pub along_all : HasGrown i j (made_text whole)
  along_all = subst (λ (l : List ℕ). HasGrown i j (made_text l)) front_is h.grown

  pub along_some : MatchBool some (whole ≡ [] → ⊥) (whole ≡ [])
  along_some = subst (λ (l : List ℕ). MatchBool some (l ≡ [] → ⊥) (l ≡ [])) front_is h.flag

-- WHAT A TOKEN MEANS

-- a meaning begins as its text does without its list
pub head_as : (style : Style) (m : Meaning (Option ℕ)) → meaning_head style (seen_as m) ≡ meaning_head style m
head_as style means.Undefined = refl
head_as style means.RelaxMarked = refl
head_as style (means.Char category c) = refl
head_as style (means.CharGiven c) = refl
head_as style (means.MathGiven c) = refl
head_as style (means.Register kind n) = refl
head_as style (means.Prim n) = refl
head_as style (means.Macro long outer list) = refl

-- A LIST, token by token

pub list_on : (style : Style) (places last places' last' : ℕ) (t : Token) (all ts us : List Token) (piece : List ℕ) → all ≡ t ∷ ts → us ≡ ts → piece ≡ token_text style places last t → places' ≡ places_after places t → last' ≡ last_after last t →
    list_from style places last all ≡ piece ++ list_from style places' last' us
list_on style places last places' last' t all ts us piece a b c d e = rw (a, b, c, d, e) refl

-- WHAT A MACHINE HAS IS WHAT THE ENGINE HAS

pub characters_are : (sizes : Sizes) (e : Engine) (book : Book) → IsSound sizes e book.number book.all_lists → (m : Made) → characters_of (page_of e book) m ≡ characters_in e m
characters_are sizes e book sound make.JobName = refl
characters_are sizes e book sound (make.Number n) = refl
characters_are sizes e book sound (make.Roman n) = refl
characters_are sizes e book sound (make.Spelling t) = refl
characters_are sizes e book sound (make.Meaning x) = text_let book.number book.all_lists e.input.groups (all_puts e.input.pending) e.input.lists sound.tied (own_style e) x
characters_are sizes e book sound (make.Value l) = ap (λ (v : SeenValue). if is_fetchable l then value_text l v else []) (fetched_same book.number e.input.groups.now l)

-- before and behind what begins a text
pub characters_behind : (sizes : Sizes) (e e1 : Engine) (book : Book) → IsInFront e e1 → IsSound sizes e book.number book.all_lists → (m : Made) → characters_of (page_of e book) m ≡ characters_in e1 m
characters_behind sizes e e1 book front sound m = ap (λ (p : Page). characters_of p m) (sym (front.page book)) ∙ characters_are sizes e1 book (front_sound sizes e e1 book front sound) m

some_text : (cs : List ℕ) → made_text cs ≡ [] → cs ≡ []
some_text [] is = refl
some_text (c ∷ cs) is = cc

pub made_some : (b : Bool) (cs : List ℕ) (o : Option (List Token)) → o ≡ Some (made_text cs) → MatchBool b (cs ≡ [] → ⊥) (cs ≡ []) → MatchBool b (made_list o ≡ [] → ⊥) (made_list o ≡ [])
made_some true cs o is h = λ none. h (some_text cs (sym (ap made_list is) ∙ none))
made_some false cs o is h = ap made_list is ∙ ap made_text h
