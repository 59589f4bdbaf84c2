use Rattle.std.proofs.Common.{refl}
use Rattle.equivalents.proofs.Frames.{others_stay}
use Rattle.equivalents.proofs.laws.other_kinds_stay.Goals as goal

pub returns : goal.returns
returns c = record {
  others = others_stay;
  codes = λ m n v. refl;
  names = λ m c v. refl;
  counts = λ m n v. refl;
  opening = λ g kind. refl;
}
