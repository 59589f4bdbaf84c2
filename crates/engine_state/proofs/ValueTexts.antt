-- What stands at a location that is there, and the text of glue, put part by part.
use Rattle.std.proofs.Common.{◌≡◌, ℕ, List, [], ◌++◌, append_assoc, arith, codes, Bool}
use Rattle.std.proofs.lemmas.Bool.Decides.{nat_tests}
use Rattle.equivalents.specs.declared.values.Loc.{Loc}
use Rattle.equivalents.specs.declared.values.Loc.TheVariants as loc
use Rattle.equivalents.specs.Groups.{Groups, IsLocation}
use Rattle.equivalents.specs.declared.values.Glue.{Glue}
use Rattle.plain_tokens.specs.Numerals.{scaled}
use Rattle.rows.specs.Internal.{finite_unit, glue_part, glue_text, IsFetchable}

-- what may be fetched is a location
pub fetchable : (g : Groups) (l : Loc) → IsFetchable l → IsLocation g l
fetchable g (loc.Code kind c) h = grind (arith, nat_tests, h)
fetchable g (loc.Integer i) h = grind (arith, nat_tests, h)
fetchable g (loc.Dimension i) h = grind (arith, nat_tests, h)
fetchable g (loc.Glue i) h = grind (arith, nat_tests, h)
fetchable g (loc.Register kind n) h = grind (arith, nat_tests, h)
fetchable g (loc.Tokens i) h = grind (arith, nat_tests, h)
fetchable g (loc.Means n) h = absurd cc

parts : (w x y z : List ℕ) → ((w ++ x) ++ y) ++ z ≡ w ++ (x ++ (y ++ z))
parts w x y z = simp append_assoc

-- the width with its unit, then stretch and shrink
pub glue_parts : (mu : Bool) (g : Glue) (a b c d e unit : List ℕ) → a ≡ [] → b ≡ a ++ scaled g.width → unit ≡ finite_unit mu → c ≡ b ++ unit → d ≡ c ++ glue_part (codes " plus ") mu g.stretch g.stretch_order →
    e ≡ d ++ glue_part (codes " minus ") mu g.shrink g.shrink_order → e ≡ glue_text mu g
glue_parts mu g a b c d e unit i j u k l m =
    rw (m, l, k, u, j, i) (parts (scaled g.width) (finite_unit mu) (glue_part (codes " plus ") mu g.stretch g.stretch_order) (glue_part (codes " minus ") mu g.shrink g.shrink_order))
