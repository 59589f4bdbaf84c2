-- What a call puts.
use Rattle.std.proofs.Common.{◌≡◌, ◌<◌, ℕ, length, arith, List, [], ◌∷◌, map, Option, None, Some, Bool, true, false, not, refl, sym, ap, ◌∙◌}
use Rattle.std.specs.Prelude.{slice_get, if◌then◌else◌}
use Rattle.std.proofs.lemmas.Option.{none-some, same_Some}
use Rattle.tex_defs.specs.declared.Token.{Token}
use Rattle.tex_defs.specs.declared.Token.TheVariants as token
use Rattle.tex_defs.specs.declared.Meaning.{Meaning}
use Rattle.tex_defs.specs.declared.Meaning.TheVariants as means
use Rattle.plain_tokens.specs.Arguments.{has_parameters}
use Rattle.plain_tokens.specs.Puts as plain
use Rattle.token_lists.specs.Codes.{is_end_token}
use Rattle.token_lists.specs.Table.{Entry}
use Rattle.equivalents.specs.Holding.{list_of}
use Rattle.input_stack.specs.Puts.{Put, Item}
use Rattle.input_stack.specs.Calls.{call_put, body_of}
use Rattle.input_stack.specs.Pending.{listed_put}
use Rattle.input_stack.proofs.CallItems.{without_arguments}
use Rattle.input_state.specs.Macros.{list_at}
use Rattle.input_state.specs.declared.answer.CallKind.TheVariants as kind
use Rattle.input_state.specs.Calls.{call_kind, called_put}
use Rattle.input_state.specs.HeldViews.{front}
use Rattle.input_state.proofs.Fronts.{texts_are}

-- the first token decides whether there is a parameter text

begins : (t : Token) (ts : List Token) → not (is_end_token t) ≡ has_parameters (t ∷ ts)
begins (token.Char category code) ts = refl
begins (token.Named name) ts = refl
begins (token.Marked name) ts = refl
begins (token.Place c) ts = refl
begins (token.Number n) ts = refl
begins token.EndPlaces ts = refl

pub first_decides : (ts : List Token) (b : Bool) → 0 < length ts → ((t : Token) → slice_get ts 0 ≡ Some t → b ≡ is_end_token t) → not b ≡ has_parameters ts
first_decides [] b some is = absurd (omega (arith, some))
first_decides (t ∷ ts) b some is = ap (λ (x : Bool). not x) (is t refl) ∙ begins t ts

-- HOW A NAME IS CALLED

pub kind_none : (lists : List (List Token)) (m : Meaning (Option ℕ)) → list_of m ≡ None → call_kind lists m ≡ kind.None
kind_none lists means.Undefined is = refl
kind_none lists means.RelaxMarked is = refl
kind_none lists (means.Char category code) is = refl
kind_none lists (means.CharGiven code) is = refl
kind_none lists (means.MathGiven code) is = refl
kind_none lists (means.Register r n) is = refl
kind_none lists (means.Prim number) is = refl
kind_none lists (means.Macro long outer None) is = refl
kind_none lists (means.Macro long outer (Some id)) is = absurd (none-some id (sym is))

pub kind_some : (lists : List (List Token)) (m : Meaning (Option ℕ)) (id : ℕ) (b : Bool) → list_of m ≡ Some id → b ≡ has_parameters (list_at lists id) → (if b then kind.Gathers else kind.AtOnce) ≡ call_kind lists m
kind_some lists means.Undefined id b is same = absurd (none-some id is)
kind_some lists means.RelaxMarked id b is same = absurd (none-some id is)
kind_some lists (means.Char category code) id b is same = absurd (none-some id is)
kind_some lists (means.CharGiven code) id b is same = absurd (none-some id is)
kind_some lists (means.MathGiven code) id b is same = absurd (none-some id is)
kind_some lists (means.Register r n) id b is same = absurd (none-some id is)
kind_some lists (means.Prim number) id b is same = absurd (none-some id is)
kind_some lists (means.Macro long outer None) id b is same = absurd (none-some id is)
kind_some lists (means.Macro long outer (Some i)) id b is same =
    ap (λ (x : Bool). if x then kind.Gathers else kind.AtOnce) (same ∙ ap (λ (k : ℕ). has_parameters (list_at lists k)) (sym (same_Some i id is)))

-- where there is no list, no arguments are gathered
pub not_gathered : (lists : List (List Token)) (m : Meaning (Option ℕ)) → list_of m ≡ None → call_kind lists m ≡ kind.Gathers → ⊥
not_gathered lists m none gathers =
    let e : kind.None ≡ kind.Gathers = sym (kind_none lists m none) ∙ gathers in
    cc

if_gathers : (b : Bool) → (if b then kind.Gathers else kind.AtOnce) ≡ kind.Gathers → b ≡ true
if_gathers true is = refl
if_gathers false is = cc

-- where arguments are gathered, the list has a parameter text
pub gathers_some : (lists : List (List Token)) (m : Meaning (Option ℕ)) (id : ℕ) → list_of m ≡ Some id → call_kind lists m ≡ kind.Gathers → has_parameters (list_at lists id) ≡ true
gathers_some lists m id is gathers = if_gathers (has_parameters (list_at lists id)) (kind_some lists m id (has_parameters (list_at lists id)) is refl ∙ gathers)

-- WHAT IS PUT, WITHOUT ARGUMENTS

pub same_body : (ts : List Token) → plain.body_of ts ≡ body_of ts
same_body [] = refl
same_body (token.Char category code ∷ ts) = same_body ts
same_body (token.Named name ∷ ts) = same_body ts
same_body (token.Marked name ∷ ts) = same_body ts
same_body (token.Place c ∷ ts) = same_body ts
same_body (token.Number n ∷ ts) = same_body ts
same_body (token.EndPlaces ∷ ts) = refl

plain_texts : (ts : List Token) → plain.substituted [] ts ≡ map plain.Text ts
plain_texts [] = refl
plain_texts (token.Char category code ∷ ts) = ap (λ (xs : List plain.Item). plain.Text (token.Char category code) ∷ xs) (plain_texts ts)
plain_texts (token.Named name ∷ ts) = ap (λ (xs : List plain.Item). plain.Text (token.Named name) ∷ xs) (plain_texts ts)
plain_texts (token.Marked name ∷ ts) = ap (λ (xs : List plain.Item). plain.Text (token.Marked name) ∷ xs) (plain_texts ts)
plain_texts (token.Place c ∷ ts) = ap (λ (xs : List plain.Item). plain.Text (token.Place c) ∷ xs) (plain_texts ts)
plain_texts (token.Number n ∷ ts) = ap (λ (xs : List plain.Item). plain.Text (token.Number n) ∷ xs) (plain_texts ts)
plain_texts (token.EndPlaces ∷ ts) = ap (λ (xs : List plain.Item). plain.Text token.EndPlaces ∷ xs) (plain_texts ts)

-- a call without arguments
pub listed_call : (n : ℕ) (ts : List Token) → call_put n ts [] ≡ listed_put true n (body_of ts)
listed_call n ts = ap (λ (xs : List Item). let p : Put = record { list = n; body = true; arguments = []; reading = None; items = xs } in p) (without_arguments (body_of ts))

pub plain_call : (table : List (Option Entry)) (n : ℕ) (ts : List Token) → front table (listed_put true n (body_of ts)) ≡ plain.call_put n ts []
plain_call table n ts =
    ap (λ (xs : List plain.Item). let p : plain.Put = record { list = plain.Macro n; arguments = []; items = xs } in p) (texts_are (body_of ts) ∙ sym (plain_texts (body_of ts)) ∙ ap (plain.substituted []) (sym (same_body ts)))

-- what a name puts
pub put_of_name : (lists : List (List Token)) (m : Meaning (Option ℕ)) (k : ℕ) → list_of m ≡ Some k → called_put lists m ≡ plain.call_put k (list_at lists k) []
put_of_name lists means.Undefined k is = absurd (none-some k is)
put_of_name lists means.RelaxMarked k is = absurd (none-some k is)
put_of_name lists (means.Char category code) k is = absurd (none-some k is)
put_of_name lists (means.CharGiven code) k is = absurd (none-some k is)
put_of_name lists (means.MathGiven code) k is = absurd (none-some k is)
put_of_name lists (means.Register r n) k is = absurd (none-some k is)
put_of_name lists (means.Prim number) k is = absurd (none-some k is)
put_of_name lists (means.Macro long outer None) k is = absurd (none-some k is)
put_of_name lists (means.Macro long outer (Some i)) k is = ap (λ (n : ℕ). plain.call_put n (list_at lists n) []) (same_Some i k is)
