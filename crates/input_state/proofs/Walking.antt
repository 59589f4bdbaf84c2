-- Places in macros' lists, and characters.
use Rattle.std.proofs.Common.{◌≡◌, ℕ, zero, suc, ◌≤◌, List, [], ◌∷◌, drop, Option, None, Some, true, refl, sym, ap, ◌∙◌, arith}
use Rattle.std.proofs.Math.Seq.{drop-nil}
use Rattle.std.specs.Prelude.{Bool, ◌||◌, MatchOption}
use Rattle.tex_defs.specs.declared.Token.{Token}
use Rattle.tex_defs.specs.declared.Name.{Name}
use Rattle.tex_defs.specs.declared.Meaning.{Meaning}
use Rattle.tex_defs.specs.declared.Meaning.TheVariants as means
use Rattle.plain_tokens.specs.Meanings.{is_listed, name_meaning}
use Rattle.plain_tokens.specs.Puts.{Put}
use Rattle.plain_tokens.specs.Pending.{all_puts}
use Rattle.plain_tokens.specs.Tables.{is_put}
use Rattle.equivalents.specs.Groups.{Groups}
use Rattle.equivalents.specs.Holding.{list_of, lists_held}
use Rattle.input_stack.specs.Pending.{times}
use Rattle.input_state.specs.Macros.{is_shared, KeepsLists}
use Rattle.input_state.specs.Calls.{macro_text, text_of}
use Rattle.input_state.specs.Walks.{WalksStay}
use Rattle.input_state.proofs.Counting.{some_one, is_one}
use Rattle.input_state.proofs.Called.{text_by}
use Rattle.input_state.proofs.NamesHeld.{list_held}
use Rattle.input_state.proofs.Shares.{listed_once}

-- behind a list's end there is nothing
pub ended : {A : Type 0} (xs : List A) (i k : ℕ) → drop i xs ≡ [] → i ≤ k → drop k xs ≡ []
ended [] i k is less = drop-nil k
ended (x ∷ xs) zero k is less = cc
ended (x ∷ xs) (suc i) zero is less = absurd (omega (arith, less))
ended (x ∷ xs) (suc i) (suc k) is less = ended xs i k is (omega (arith, less))

-- what follows of an option, with and without a value
pub option_then : {X P R : Type 0} {Q S : X → Type 0} (o : Option X) → MatchOption o P Q → (P → R) → ((x : X) → Q x → S x) → MatchOption o R S
option_then None p none some = none p
option_then (Some x) q none some = some x q

-- what means no list has no text
pub no_text : (lists : List (List Token)) (m : Meaning (Option ℕ)) → list_of m ≡ None → macro_text lists m ≡ []
no_text lists means.Undefined is = refl
no_text lists means.RelaxMarked is = refl
no_text lists (means.Char category code) is = refl
no_text lists (means.CharGiven code) is = refl
no_text lists (means.MathGiven code) is = refl
no_text lists (means.Register kind k) is = refl
no_text lists (means.Prim number) is = refl
no_text lists (means.Macro long outer None) is = refl
no_text lists (means.Macro long outer (Some id)) is = cc

-- a name that means a macro with a list
means_macro : (g : Groups) (name : Name) (id : ℕ) → list_of (name_meaning g.now.meanings name) ≡ Some id → is_listed (lists_held g) id ≡ true
means_macro g name id is = is_one (is_listed (lists_held g) id) (listed_once id (lists_held g) ∙ some_one (times id (lists_held g)) (list_held g name id is))

meant_stays : (g : Groups) (puts : List Put) (old new : List (List Token)) (name : Name) → KeepsLists (lists_held g) puts old new → (o : Option ℕ) → list_of (name_meaning g.now.meanings name) ≡ o → text_of new g.now.meanings name ≡ text_of old g.now.meanings name
meant_stays g puts old new name keeps None is = no_text new (name_meaning g.now.meanings name) is ∙ sym (no_text old (name_meaning g.now.meanings name) is)
meant_stays g puts old new name keeps (Some id) is =
    let here : is_shared id (lists_held g) puts ≡ true = ap (λ (b : Bool). b || is_put id puts) (means_macro g name id is) in
    text_by new (name_meaning g.now.meanings name) id is ∙ keeps.tokens id here ∙ sym (text_by old (name_meaning g.now.meanings name) id is)

pub stay : WalksStay
stay old new keeps same walk =
    let there = meant_stays new.groups (all_puts new.pending) old.lists new.lists walk.name keeps (list_of (name_meaning new.groups.now.meanings walk.name)) refl in
    ap (λ (ts : List Token). drop walk.index ts) (there ∙ ap (λ (cells : List (Meaning (Option ℕ))). text_of old.lists cells walk.name) same)
