-- The kind of the innermost group.
use Rattle.std.proofs.Common.{◌≡◌, suc, ◌-◌, List, [], ◌∷◌, length, refl, ap, ◌∙◌, arith}
use Rattle.std.specs.Prelude.{slice_get}
use Rattle.save_stack.specs.declared.GroupKind.{GroupKind}
use Rattle.save_stack.specs.Closing.{kind_last}

pub kind_is : (ks : List GroupKind) → slice_get ks (length ks - 1) ≡ kind_last ks
kind_is [] = refl
kind_is (k ∷ []) = refl
kind_is (k ∷ l ∷ ks) = let one : length (k ∷ l ∷ ks) - 1 ≡ suc (length (l ∷ ks) - 1) = omega arith in ap (slice_get (k ∷ l ∷ ks)) one ∙ kind_is (l ∷ ks)
