-- The column behind a text.
use Rattle.std.proofs.Common.{◌≡◌, ◌∙◌, ◌<◌, ◌-◌, ◌+◌, ap, sym, ℕ, List, [], ◌∷◌, ◌++◌, refl, arith, Bool, not, take, take_all, length, nat_eq, slice_index_or, get_or}
use Rattle.std.specs.Prelude.{◌==◌}
use Rattle.std.proofs.lemmas.List.{take_more}
use Rattle.plain_state.specs.Reports.{in_line_after}

in_line_on : (b : Bool) (xs : List ℕ) (c : ℕ) → in_line_after b (xs ++ c ∷ []) ≡ not (c == 10)
in_line_on b [] c = refl
in_line_on b (x ∷ xs) c = in_line_on (not (x == 10)) xs c

pub in_line_last : (b : Bool) (xs : List ℕ) → 0 < length xs → not (nat_eq (slice_index_or xs (length xs - 1) 0) 10) ≡ in_line_after b xs
in_line_last b xs some =
    let n = length xs - 1 in
    let all : take (n + 1) xs ≡ xs = take_all (n + 1) xs (omega arith) in
    sym (ap (in_line_after b) (sym all ∙ take_more xs n 0 (omega arith)) ∙ in_line_on b (take n xs) (get_or xs n 0))

pub in_line_join : (b : Bool) (xs ys : List ℕ) → in_line_after b (xs ++ ys) ≡ in_line_after (in_line_after b xs) ys
in_line_join b [] ys = refl
in_line_join b (x ∷ xs) ys = in_line_join (not (x == 10)) xs ys
