use Rattle.std.proofs.Common.{codes, w32, FitsSigned, rules}
use Rattle.std.proofs.lemmas.Int.{to_z-of_z}
use Rattle.std.specs.Fmt.{decimal}
use Rattle.plain_tokens.specs.Printed.{printed_by, character_of}
use Rattle.transcript.proofs.Texts.{numbered}
use Rattle.transcript.proofs.ends.put_depth.Goals as goal

pub returns : goal.returns
returns c = let r : FitsSigned w32 c.args.view.names.newline = search rules in let e = to_z-of_z w32 c.args.view.names.newline r in
    numbered (printed_by c.args.view.names.newline) c.args.text.now (codes "(") (character_of c.args.view.names.escape) (codes "end")
    (codes " occurred inside a group at level ") (decimal c.args.depth) (codes ")") _ _ _ _ _ _
    (rw e at c.put_fixed.ensures.text) c.put_escape.ensures.text (rw e at c.put_fixed-2.ensures.text)
    (rw (e, c.from.ensures) at c.put_number.ensures.text) (rw e at c.put_fixed-3.ensures.text) c.put_char.ensures
