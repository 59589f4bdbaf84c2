use Rattle.std.proofs.Common.{arith, ◌∙◌, ap, List, ℕ, ◌++◌}
use Rattle.std.specs.Fmt.{decimal}
use Rattle.transcript.proofs.Printing.{plain_by, decimal_plain}
use Rattle.transcript.proofs.fixed.put_number.Goals as goal

pub put_fixed-requires-clause-plain : goal.put_fixed-requires-clause-plain
put_fixed-requires-clause-plain c =
    plain_by _ _ (c.bytes.ensures.bytes ∙ c.put_count.ensures ∙ ap (λ (t : List ℕ). t ++ decimal c.args.n) c.new-number.ensures) (decimal_plain c.args.n (omega (arith, c.ranges.n)))
