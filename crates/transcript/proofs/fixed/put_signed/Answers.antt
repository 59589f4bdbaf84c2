use Rattle.std.proofs.Common.{arith, ◌∙◌, ap, List, ℕ, ◌++◌, w32}
use Rattle.std.specs.Fmt.{signed_decimal}
use Rattle.std.proofs.lemmas.Int.{to_z-of_z}
use Rattle.transcript.proofs.Printing.{plain_by, signed_plain}
use Rattle.transcript.proofs.fixed.put_signed.Goals as goal

pub put_fixed-requires-clause-plain : goal.put_fixed-requires-clause-plain
put_fixed-requires-clause-plain c =
    plain_by _ _ (c.bytes.ensures.bytes ∙ rw (to_z-of_z w32 c.args.n c.ranges.n) at c.put_int.ensures ∙ ap (λ (t : List ℕ). t ++ signed_decimal c.args.n) c.new-number.ensures) (signed_plain c.args.n (omega (arith, c.ranges.n)))
