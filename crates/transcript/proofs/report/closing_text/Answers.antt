use Rattle.std.proofs.Common.{w32}
use Rattle.std.proofs.lemmas.Int.{to_z-of_z}
use Rattle.transcript.proofs.Texts.{second_line_by}
use Rattle.transcript.proofs.report.closing_text.Goals as goal

pub returns-in-IncompatibleMagnification : goal.returns-in-IncompatibleMagnification
returns-in-IncompatibleMagnification c =
    let n = c.in-IncompatibleMagnification.field-0 in
    second_line_by c.args.newline _ c.args.in_line c.args.report n c.in-IncompatibleMagnification.earlier c.retained_text.result c.in-IncompatibleMagnification.is (to_z-of_z w32 c.args.newline c.ranges.newline)
    (c.retained_text.ensures n)
