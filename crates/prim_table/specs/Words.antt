-- Words in a text: each ends with one space, and begins where a list of starts says.
use Rattle.std.specs.Prelude.{ℕ, suc, ◌-◌, nat_lt, nat_le, Bool, true, ◌&&◌, List, [], ◌∷◌, take, drop, slice_index}

-- what stands from one start to the space before the next
abbrev pub between : List ℕ → ℕ → ℕ → List ℕ
between text start next = take (next - 1 - start) (drop start text)

unfoldable pub word_at : List ℕ → List ℕ → ℕ → List ℕ
word_at text starts k = between text (slice_index starts k) (slice_index starts (suc k))

-- all words, in order
abbrev pub words : List ℕ → List ℕ → List (List ℕ)
words text [] = []
words text (start ∷ []) = []
words text (start ∷ next ∷ starts) = between text start next ∷ words text (next ∷ starts)

-- each start lies before the next, and none beyond the end
abbrev pub are_in_place : List ℕ → ℕ → Bool
are_in_place [] end = true
are_in_place (start ∷ []) end = nat_le start end
are_in_place (start ∷ next ∷ starts) end = nat_lt start next && are_in_place (next ∷ starts) end
