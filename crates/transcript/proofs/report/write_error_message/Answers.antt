use Rattle.std.proofs.Common.{◌∙◌, w32, FitsSigned, rules, Bor, List}
use Rattle.std.proofs.lemmas.Int.{to_z-of_z}
use Rattle.tex_defs.specs.declared.Token.{Token}
use Rattle.token_lists.specs.declared.Build.{Build}
use Rattle.token_show.specs.Views.{style_of, build_tokens}
use Rattle.transcript.specs.Given.{tokens_given}
use Rattle.transcript.proofs.Texts.{message_parts}
use Rattle.transcript.proofs.Joins.{same_ok, same_front}
use Rattle.transcript.proofs.report.write_error_message.Goals as goal

pub returns-clause-ok : goal.returns-clause-ok
returns-clause-ok g c =
    let r : FitsSigned w32 c.args.view.names.newline = search rules in let e = to_z-of_z w32 c.args.view.names.newline r in
    let ts : List Token = tokens_given (λ (build : Bor Build). build_tokens c.args.view build.now) c.args.list in
    same_ok _ _ _ _ _ _ _
    (message_parts (style_of c.args.view) c.args.in_line.now c.args.line ts _ _ _ (c.bytes.ensures.bytes ∙ rw e at c.report_mark-before.ensures.text)
    c.show_given.ensures (c.bytes-2.ensures.bytes ∙ rw e at c.line_number-behind.ensures))
    c.put_around.ensures.ok

pub returns-clause-err : goal.returns-clause-err
returns-clause-err g c =
    let r : FitsSigned w32 c.args.view.names.newline = search rules in let e = to_z-of_z w32 c.args.view.names.newline r in
    let ts : List Token = tokens_given (λ (build : Bor Build). build_tokens c.args.view build.now) c.args.list in
    same_front _ _ _ _ _ _ _
    (message_parts (style_of c.args.view) c.args.in_line.now c.args.line ts _ _ _ (c.bytes.ensures.bytes ∙ rw e at c.report_mark-before.ensures.text)
    c.show_given.ensures (c.bytes-2.ensures.bytes ∙ rw e at c.line_number-behind.ensures))
    c.put_around.ensures.err
