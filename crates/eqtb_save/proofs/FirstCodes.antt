-- The category codes among the first values.
use Rattle.std.proofs.Common.{◌≡◌, ℕ, ◌+◌, ◌<◌, ◌≤◌, List, [], ◌∷◌, ◌++◌, length, map, take, set, get_or, sym, ap, ap₂, ◌∙◌, arith}
use Rattle.std.proofs.lemmas.List.{length-map, length-take, get_or-map, get_or-take, take_more, take_more_set, take_all}
use Rattle.save_stack.specs.Groups.{Stack, IsAt, top}
use Rattle.save_stack.specs.Mapped.{mapped}
use Rattle.equivalents.specs.Locations.{V, category_of}
use Rattle.eqtb_save.specs.Values.{numbered_value, categories_in}
use Rattle.eqtb_save.proofs.Held.{K}
use Rattle.eqtb_save.proofs.Places.{top_mapped}

length_codes : (items : List V) → 256 ≤ length items → length (categories_in items) ≡ 256
length_codes items long = omega (arith, length-map (take 256 items) category_of, length-take 256 items, long)

code_at : (items : List K) (i : ℕ) (x : K) → i < 256 → 256 ≤ length items → IsAt items i x → get_or (categories_in (map numbered_value items)) i 0 ≡ category_of (numbered_value x)
code_at items i x within long is =
    let there : i < length (take 256 (map numbered_value items)) = omega (arith, length-take 256 (map numbered_value items), length-map items numbered_value, long, within) in
    get_or-map category_of (take 256 (map numbered_value items)) i (numbered_value x) 0 there
    ∙ ap category_of (get_or-take 256 (map numbered_value items) i (numbered_value x) within ∙ get_or-map numbered_value items i x (numbered_value x) (omega (arith, within, long)) ∙ ap numbered_value (sym (is x)))

module _ (s : Stack K) (long : 256 ≤ length (top s.maps)) where
  abbrev first : List ℕ
  first = categories_in (top (mapped numbered_value s).maps)

  first_is : first ≡ categories_in (map numbered_value (top s.maps))
  first_is = ap categories_in (top_mapped s)

  first_long : length first ≡ 256
  first_long = ap length first_is ∙ length_codes (map numbered_value (top s.maps)) (omega (arith, length-map (top s.maps) numbered_value, long))

  pub more_codes : (codes : List ℕ) (i r : ℕ) (x : K) → i < 256 → length codes ≡ 256 → IsAt (top s.maps) i x → r ≡ category_of (numbered_value x) → take i codes ≡ take i (categories_in (top (mapped numbered_value s).maps)) → take (i + 1) (set codes i r) ≡ take (i + 1) (categories_in (top (mapped numbered_value s).maps))
  more_codes codes i r x within size is code front =
      take_more_set codes i r (omega (arith, within, size))
      ∙ ap₂ (λ (cs : List ℕ) (n : ℕ). cs ++ n ∷ []) front (code ∙ sym (ap (λ (cs : List ℕ). get_or cs i 0) first_is ∙ code_at (top s.maps) i x within long is))
      ∙ sym (take_more first i 0 (omega (arith, within, first_long)))

  pub all_codes : (codes : List ℕ) (i : ℕ) → 256 ≤ i → length codes ≡ 256 → take i codes ≡ take i (categories_in (top (mapped numbered_value s).maps)) → codes ≡ categories_in (top (mapped numbered_value s).maps)
  all_codes codes i past size front =
      sym (take_all i codes (omega (arith, size, past))) ∙ front ∙ take_all i first (omega (arith, past, first_long))
