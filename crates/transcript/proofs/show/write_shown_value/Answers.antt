use Rattle.std.proofs.Common.{◌∙◌, w32, FitsSigned, rules, Bor, List}
use Rattle.std.proofs.lemmas.Int.{to_z-of_z}
use Rattle.tex_defs.specs.declared.Token.{Token}
use Rattle.token_lists.specs.declared.ListRef.{ListRef}
use Rattle.token_show.specs.Views.{style_of, list_tokens}
use Rattle.transcript.specs.Given.{tokens_given}
use Rattle.transcript.proofs.Texts.{value_parts}
use Rattle.transcript.proofs.Joins.{same_ok, same_front}
use Rattle.transcript.proofs.show.write_shown_value.Goals as goal

pub returns-clause-ok : goal.returns-clause-ok
returns-clause-ok g c =
    let r : FitsSigned w32 c.args.view.names.newline = search rules in let e = to_z-of_z w32 c.args.view.names.newline r in
    let ts : List Token = tokens_given (λ (r : Bor ListRef). list_tokens c.args.view r.now) c.args.list in
    same_ok _ _ _ _ _ _ _
    (value_parts (style_of c.args.view) c.args.in_line.now c.args.line c.args.text.now ts c.bytes.result.now c.show_bytes.result c.show_listed.result c.bytes-2.result.now
    c.new-value.result c.new-tokens.result c.two.result
    (c.bytes.ensures.bytes ∙ rw e at c.shown_mark-mark.ensures) c.show_bytes.ensures c.show_listed.ensures (c.bytes-2.ensures.bytes ∙ rw e at c.line_number-behind.ensures)
    c.new-value.ensures c.new-tokens.ensures c.two.ensures)
    c.put_said.ensures.ok

pub returns-clause-err : goal.returns-clause-err
returns-clause-err g c =
    let r : FitsSigned w32 c.args.view.names.newline = search rules in let e = to_z-of_z w32 c.args.view.names.newline r in
    let ts : List Token = tokens_given (λ (r : Bor ListRef). list_tokens c.args.view r.now) c.args.list in
    same_front _ _ _ _ _ _ _
    (value_parts (style_of c.args.view) c.args.in_line.now c.args.line c.args.text.now ts c.bytes.result.now c.show_bytes.result c.show_listed.result c.bytes-2.result.now
    c.new-value.result c.new-tokens.result c.two.result
    (c.bytes.ensures.bytes ∙ rw e at c.shown_mark-mark.ensures) c.show_bytes.ensures c.show_listed.ensures (c.bytes-2.ensures.bytes ∙ rw e at c.line_number-behind.ensures)
    c.new-value.ensures c.new-tokens.ensures c.two.ensures)
    c.put_said.ensures.err
