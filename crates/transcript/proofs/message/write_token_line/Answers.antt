use Rattle.std.proofs.Common.{◌∙◌, [], ◌∷◌, w32, FitsSigned, rules}
use Rattle.std.proofs.lemmas.Int.{to_z-of_z}
use Rattle.plain_tokens.specs.Printed.{printed_by, meaning_head}
use Rattle.plain_state.specs.Reports.{fresh_line}
use Rattle.token_show.specs.Views.{style_of}
use Rattle.transcript.proofs.Texts.{line_parts}
use Rattle.transcript.proofs.Joins.{same_ok, same_front}
use Rattle.transcript.proofs.message.write_token_line.Goals as goal

pub returns-clause-ok : goal.returns-clause-ok
returns-clause-ok g c = let r : FitsSigned w32 c.args.view.names.newline = search rules in let e = to_z-of_z w32 c.args.view.names.newline r in
    same_ok _ _ _ _ _ _ _
    (line_parts (printed_by c.args.view.names.newline) (fresh_line c.args.in_line.now) (123 ∷ []) (meaning_head (style_of c.args.view) c.args.meaning) (125 ∷ []) _ _ _ _ _ _ c.fresh_line-before.ensures.text
    (c.bytes.ensures.bytes ∙ rw e at c.put_fixed.ensures.text) c.meaning_head.ensures c.new-behind.ensures (rw e at c.put_fixed-2.ensures.text) (c.bytes-2.ensures.bytes ∙ c.put_char.ensures))
    c.put_around.ensures.ok

pub returns-clause-err : goal.returns-clause-err
returns-clause-err g c = let r : FitsSigned w32 c.args.view.names.newline = search rules in let e = to_z-of_z w32 c.args.view.names.newline r in
    same_front _ _ _ _ _ _ _
    (line_parts (printed_by c.args.view.names.newline) (fresh_line c.args.in_line.now) (123 ∷ []) (meaning_head (style_of c.args.view) c.args.meaning) (125 ∷ []) _ _ _ _ _ _ c.fresh_line-before.ensures.text
    (c.bytes.ensures.bytes ∙ rw e at c.put_fixed.ensures.text) c.meaning_head.ensures c.new-behind.ensures (rw e at c.put_fixed-2.ensures.text) (c.bytes-2.ensures.bytes ∙ c.put_char.ensures))
    c.put_around.ensures.err
