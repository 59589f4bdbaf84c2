use Rattle.std.proofs.Common.{◌∙◌, codes, w32, FitsSigned, rules}
use Rattle.std.proofs.lemmas.Int.{to_z-of_z}
use Rattle.std.specs.Fmt.{decimal}
use Rattle.plain_tokens.specs.Printed.{printed_by}
use Rattle.plain_state.specs.Reports.{fresh_line}
use Rattle.transcript.proofs.Texts.{around_parts}
use Rattle.transcript.proofs.Joins.{same_ok, same_front}
use Rattle.transcript.proofs.report.write_missing_file.Goals as goal

pub returns-clause-ok : goal.returns-clause-ok
returns-clause-ok g c = let r : FitsSigned w32 c.args.view.names.newline = search rules in let e = to_z-of_z w32 c.args.view.names.newline r in
    same_ok _ _ _ _ _ _ _
    (around_parts (printed_by c.args.view.names.newline) (fresh_line c.args.in_line.now) (codes "! ") (codes "I can't find file `") c.args.file.now (codes "'") (codes ".") (codes "l.") (decimal c.args.line) _ _ _ _ (rw e at c.report_mark-before.ensures.text)
    (c.bytes.ensures.bytes ∙ rw e at c.put_fixed.ensures.text) c.show_bytes.ensures (c.bytes-2.ensures.bytes ∙ rw e at c.line_number-behind.ensures))
    c.put_around.ensures.ok

pub returns-clause-err : goal.returns-clause-err
returns-clause-err g c = let r : FitsSigned w32 c.args.view.names.newline = search rules in let e = to_z-of_z w32 c.args.view.names.newline r in
    same_front _ _ _ _ _ _ _
    (around_parts (printed_by c.args.view.names.newline) (fresh_line c.args.in_line.now) (codes "! ") (codes "I can't find file `") c.args.file.now (codes "'") (codes ".") (codes "l.") (decimal c.args.line) _ _ _ _ (rw e at c.report_mark-before.ensures.text)
    (c.bytes.ensures.bytes ∙ rw e at c.put_fixed.ensures.text) c.show_bytes.ensures (c.bytes-2.ensures.bytes ∙ rw e at c.line_number-behind.ensures))
    c.put_around.ensures.err
