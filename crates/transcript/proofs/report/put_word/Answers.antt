use Rattle.std.proofs.Common.{w32, FitsSigned, rules}
use Rattle.std.proofs.lemmas.Int.{to_z-of_z}
use Rattle.plain_tokens.specs.Printed.{printed_by, character_of}
use Rattle.transcript.proofs.Texts.{three}
use Rattle.transcript.proofs.report.put_word.Goals as goal

pub returns : goal.returns
returns c = let r : FitsSigned w32 c.args.view.names.newline = search rules in let e = to_z-of_z w32 c.args.view.names.newline r in
    three (printed_by c.args.view.names.newline) c.args.text.now c.args.before.now (character_of c.args.view.names.escape) c.args.word.now _ _ _
    (rw e at c.put_fixed.ensures.text) c.put_escape.ensures.text (rw e at c.put_fixed-2.ensures.text)
