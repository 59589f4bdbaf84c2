use Rattle.std.proofs.Common.{◌∙◌, w32, FitsSigned, rules}
use Rattle.std.proofs.lemmas.Int.{to_z-of_z}
use Rattle.token_show.specs.Views.{style_of}
use Rattle.transcript.proofs.Texts.{report_parts}
use Rattle.transcript.proofs.Joins.{same_ok, same_front}
use Rattle.transcript.proofs.report.write_report.Goals as goal

pub returns-clause-ok : goal.returns-clause-ok
returns-clause-ok g c = let r : FitsSigned w32 c.args.view.names.newline = search rules in let e = to_z-of_z w32 c.args.view.names.newline r in
    same_ok _ _ _ _ _ _ _
    (report_parts (style_of c.args.view) c.args.in_line.now c.args.line c.args.report _ _ _ _ _ _ c.new-text.result c.new-last.result c.two.result
    (rw e at c.report_mark-before.ensures.text) (c.bytes-opened.ensures.bytes ∙ c.put_opening.ensures)
    c.show_subject.ensures (c.bytes.ensures.bytes ∙ rw (e, c.ends_in_line-in_opened.ensures) at c.closing_text-close.ensures) c.show_closing_name.ensures (c.bytes-2.ensures.bytes ∙ rw e at c.line_number-behind.ensures)
    c.new-text.ensures c.new-last.ensures c.two.ensures)
    c.put_said.ensures.ok

pub returns-clause-err : goal.returns-clause-err
returns-clause-err g c = let r : FitsSigned w32 c.args.view.names.newline = search rules in let e = to_z-of_z w32 c.args.view.names.newline r in
    same_front _ _ _ _ _ _ _
    (report_parts (style_of c.args.view) c.args.in_line.now c.args.line c.args.report _ _ _ _ _ _ c.new-text.result c.new-last.result c.two.result
    (rw e at c.report_mark-before.ensures.text) (c.bytes-opened.ensures.bytes ∙ c.put_opening.ensures)
    c.show_subject.ensures (c.bytes.ensures.bytes ∙ rw (e, c.ends_in_line-in_opened.ensures) at c.closing_text-close.ensures) c.show_closing_name.ensures (c.bytes-2.ensures.bytes ∙ rw e at c.line_number-behind.ensures)
    c.new-text.ensures c.new-last.ensures c.two.ensures)
    c.put_said.ensures.err
