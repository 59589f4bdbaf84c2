use Rattle.std.proofs.Common.{codes, w32, FitsSigned, rules}
use Rattle.std.proofs.lemmas.Int.{to_z-of_z}
use Rattle.plain_tokens.specs.Printed.{printed_by, character_of}
use Rattle.transcript.proofs.Texts.{word_begun}
use Rattle.transcript.proofs.ends.end_words.Goals as goal

pub returns : goal.returns
returns c = let r : FitsSigned w32 c.args.view.names.newline = search rules in let e = to_z-of_z w32 c.args.view.names.newline r in
    word_begun (printed_by c.args.view.names.newline) (codes "(") (character_of c.args.view.names.escape) (codes "end") (codes " occurred when ") _ _ _ _
    c.new-text.ensures (rw e at c.put_fixed.ensures.text) c.put_escape.ensures.text (rw e at c.put_fixed-2.ensures.text)
