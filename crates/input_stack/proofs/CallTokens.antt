-- A call's items spell the body with the arguments in their places.
use Rattle.std.proofs.Common.{◌≡◌, ℕ, ◌-◌, List, [], ◌∷◌, ◌++◌, map, Option, None, Some, refl, ap, ap₂, ◌∙◌}
use Rattle.std.specs.Prelude.{slice_get}
use Rattle.tex_defs.specs.declared.Token.{Token}
use Rattle.tex_defs.specs.declared.Token.TheVariants.{Char, Named, Marked, Place, Number, EndPlaces}
use Rattle.input_stack.specs.Puts.{Item, Text, First, Later, Gap}
use Rattle.input_stack.specs.Calls.{Argument, spread, placed_argument, token_items, substituted, spelt, argument_tokens, token_spelt, filled}

spelt_append : (xs ys : List Item) → spelt (xs ++ ys) ≡ spelt xs ++ spelt ys
spelt_append [] ys = refl
spelt_append (Text t ∷ xs) ys = ap (λ (ts : List Token). t ∷ ts) (spelt_append xs ys)
spelt_append (First n t ∷ xs) ys = ap (λ (ts : List Token). t ∷ ts) (spelt_append xs ys)
spelt_append (Later n t ∷ xs) ys = ap (λ (ts : List Token). t ∷ ts) (spelt_append xs ys)
spelt_append (Gap ∷ xs) ys = spelt_append xs ys

later_spelt : (n : ℕ) (ts : List Token) → spelt (map (Later n) ts) ≡ ts
later_spelt n [] = refl
later_spelt n (t ∷ ts) = ap (λ (us : List Token). t ∷ us) (later_spelt n ts)

spread_spelt : (n : ℕ) (ts : List Token) → spelt (spread n ts) ≡ ts
spread_spelt n [] = refl
spread_spelt n (t ∷ ts) = ap (λ (us : List Token). t ∷ us) (later_spelt n ts)

placed_spelt : (n : ℕ) (o : Option (Option Argument)) → spelt (placed_argument n o) ≡ argument_tokens n o
placed_spelt n None = refl
placed_spelt n (Some None) = refl
placed_spelt n (Some (Some a)) = spread_spelt a.list a.tokens

token_is_spelt : (arguments : List (Option Argument)) (t : Token) → spelt (token_items arguments t) ≡ token_spelt arguments t
token_is_spelt arguments (Char cat code) = refl
token_is_spelt arguments (Named name) = refl
token_is_spelt arguments (Marked name) = refl
token_is_spelt arguments (Place c) = refl
token_is_spelt arguments (Number n) = placed_spelt n (slice_get arguments (n - 1))
token_is_spelt arguments EndPlaces = refl

pub calls_spelt : (arguments : List (Option Argument)) (ts : List Token) → spelt (substituted arguments ts) ≡ filled arguments ts
calls_spelt arguments [] = refl
calls_spelt arguments (t ∷ ts) = spelt_append (token_items arguments t) (substituted arguments ts) ∙ ap₂ (λ (us vs : List Token). us ++ vs) (token_is_spelt arguments t) (calls_spelt arguments ts)
