use Rattle.std.proofs.Common.{codes, w32}
use Rattle.std.specs.Fmt.{signed_decimal}
use Rattle.std.proofs.lemmas.Int.{to_z-of_z}
use Rattle.plain_tokens.specs.Printed.{printed_by}
use Rattle.transcript.proofs.Texts.{three}
use Rattle.transcript.proofs.report.put_incompatible_magnification.Goals as goal

pub returns : goal.returns
returns c = λ style earlier. let e = to_z-of_z w32 c.args.newline c.ranges.newline in
    three (printed_by c.args.newline) c.args.text.now (codes "Incompatible magnification (") (signed_decimal c.args.n) (codes ");") _ _ _
    (rw e at c.put_fixed.ensures.text) (rw (e, to_z-of_z w32 c.args.n c.ranges.n) at c.put_signed.ensures.text) (rw e at c.put_fixed-2.ensures.text)
