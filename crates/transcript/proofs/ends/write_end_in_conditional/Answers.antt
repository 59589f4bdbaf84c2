use Rattle.std.proofs.Common.{◌∙◌, codes, ◌++◌, w32, FitsSigned, rules}
use Rattle.std.proofs.lemmas.Int.{to_z-of_z}
use Rattle.std.specs.Fmt.{decimal}
use Rattle.plain_tokens.specs.Printed.{printed_by, escaped, primitive_word}
use Rattle.token_show.specs.Views.{style_of}
use Rattle.transcript.proofs.Joins.{same_ok, same_front}
use Rattle.transcript.proofs.Texts.{left_parts, begun_by}
use Rattle.transcript.proofs.ends.write_end_in_conditional.Goals as goal

pub returns-clause-ok : goal.returns-clause-ok
returns-clause-ok g c = let r : FitsSigned w32 c.args.view.names.newline = search rules in let e = to_z-of_z w32 c.args.view.names.newline r in
    same_ok _ _ _ _ _ _ _
    (left_parts (printed_by c.args.view.names.newline) (codes "(") (escaped (style_of c.args.view) (codes "end")) (codes " occurred when ") (escaped (style_of c.args.view) (primitive_word c.args.number))
    (codes " on line " ++ (decimal c.args.line ++ codes " was incomplete)")) _ _ _
    (c.bytes.ensures.bytes ∙ c.end_words-before.ensures) c.show_primitive.ensures (begun_by c.args.view.names.newline _ c.args.line _ _ c.bytes-2.ensures.bytes e c.begun_words-behind.ensures))
    c.put_around.ensures.ok

pub returns-clause-err : goal.returns-clause-err
returns-clause-err g c = let r : FitsSigned w32 c.args.view.names.newline = search rules in let e = to_z-of_z w32 c.args.view.names.newline r in
    same_front _ _ _ _ _ _ _
    (left_parts (printed_by c.args.view.names.newline) (codes "(") (escaped (style_of c.args.view) (codes "end")) (codes " occurred when ") (escaped (style_of c.args.view) (primitive_word c.args.number))
    (codes " on line " ++ (decimal c.args.line ++ codes " was incomplete)")) _ _ _
    (c.bytes.ensures.bytes ∙ c.end_words-before.ensures) c.show_primitive.ensures (begun_by c.args.view.names.newline _ c.args.line _ _ c.bytes-2.ensures.bytes e c.begun_words-behind.ensures))
    c.put_around.ensures.err
