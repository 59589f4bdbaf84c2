-- Whether a number is among others.
use Rattle.std.proofs.Common.{◌≡◌, ℕ, List, [], ◌∷◌, refl, ap}
use Rattle.std.specs.Prelude.{Bool, ◌==◌, ◌||◌}
use Rattle.std.specs.List.{list_any}
use Rattle.plain_tokens.specs.Meanings.{is_listed}

pub listed_is : (ns : List ℕ) (number : ℕ) → list_any (λ n. n == number) ns ≡ is_listed ns number
listed_is [] number = refl
listed_is (n ∷ ns) number = ap (λ (b : Bool). (n == number) || b) (listed_is ns number)
