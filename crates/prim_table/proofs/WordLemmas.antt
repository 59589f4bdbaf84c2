-- Words by their number.
use Rattle.std.proofs.Common.{◌≡◌, ℕ, zero, suc, ◌<◌, ◌≤◌, Bool, true, false, List, [], ◌∷◌, length, get_or, refl, arith, nat_lt, ◌&&◌}
use Rattle.std.proofs.lemmas.Bool.{false≢true, ltb-true, leb-true}
use Rattle.prim_table.specs.Words.{word_at, words, are_in_place}

pub record IsInPlace (starts : List ℕ) (end k : ℕ) : Type 0 where
  pub nonempty : get_or starts k 0 < get_or starts (suc k) 0
  pub within : get_or starts (suc k) 0 ≤ end

both : (a b : Bool) → (a && b) ≡ true → (a ≡ true) × (b ≡ true)
both true b h = (refl, h)
both false b h = absurd (false≢true h)

first_within : (start : ℕ) (starts : List ℕ) (end : ℕ) → are_in_place (start ∷ starts) end ≡ true → start ≤ end
first_within start [] end test = leb-true start end test
first_within start (next ∷ starts) end test =
    let two = both (nat_lt start next) (are_in_place (next ∷ starts) end) test in
    let below : start < next = ltb-true start next two.0 in
    let rest : next ≤ end = first_within next starts end two.1 in
    omega arith

pub in_place : (starts : List ℕ) (end k : ℕ) → are_in_place starts end ≡ true → suc k < length starts → IsInPlace starts end k
in_place [] end k test below = absurd (omega arith)
in_place (start ∷ []) end k test below = absurd (omega arith)
in_place (start ∷ next ∷ starts) end zero test below =
    let two = both (nat_lt start next) (are_in_place (next ∷ starts) end) test in
    record { nonempty = ltb-true start next two.0; within = first_within next starts end two.1 }
in_place (start ∷ next ∷ starts) end (suc k) test below =
    let two = both (nat_lt start next) (are_in_place (next ∷ starts) end) test in
    let rest : IsInPlace (next ∷ starts) end k = in_place (next ∷ starts) end k two.1 (omega arith) in
    record { nonempty = rest.nonempty; within = rest.within }

pub word_of : (text starts : List ℕ) (k : ℕ) → suc k < length starts → get_or (words text starts) k [] ≡ word_at text starts k
unfolding word_at
word_of text [] k below = absurd (omega arith)
word_of text (start ∷ []) k below = absurd (omega arith)
word_of text (start ∷ next ∷ starts) zero below = refl
word_of text (start ∷ next ∷ starts) (suc k) below = word_of text (next ∷ starts) k (omega arith)
