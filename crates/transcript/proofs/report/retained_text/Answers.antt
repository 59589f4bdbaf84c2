use Rattle.std.proofs.Common.{codes, w32}
use Rattle.std.specs.Fmt.{decimal}
use Rattle.std.proofs.lemmas.Int.{to_z-of_z}
use Rattle.plain_tokens.specs.Printed.{printed_by}
use Rattle.plain_state.specs.Reports.{fresh_line}
use Rattle.transcript.proofs.Texts.{three}
use Rattle.transcript.proofs.report.retained_text.Goals as goal

pub returns : goal.returns
returns c = λ n. let e = to_z-of_z w32 c.args.newline c.ranges.newline in
    three (printed_by c.args.newline) (fresh_line c.args.in_line) (codes " the previous value will be retained (") (decimal c.args.earlier) (codes ")") _ _ _
    (rw c.fresh_line-text.ensures.text at (rw e at c.put_fixed.ensures.text)) (rw (e, c.from.ensures) at c.put_number.ensures.text) (rw e at c.put_fixed-2.ensures.text)
