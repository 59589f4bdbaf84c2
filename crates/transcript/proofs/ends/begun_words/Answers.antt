use Rattle.std.proofs.Common.{codes, w32}
use Rattle.std.proofs.lemmas.Int.{to_z-of_z}
use Rattle.std.specs.Fmt.{decimal}
use Rattle.plain_tokens.specs.Printed.{printed_by}
use Rattle.transcript.proofs.Texts.{three_line}
use Rattle.transcript.proofs.ends.begun_words.Goals as goal

pub returns : goal.returns
returns c = let e = to_z-of_z w32 c.args.newline c.ranges.newline in
    three_line (printed_by c.args.newline) (codes " on line ") (decimal c.args.line) (codes " was incomplete)") _ _ _ _ _
    c.new-text.ensures (rw e at c.put_fixed.ensures.text) (rw e at c.put_number.ensures.text) (rw e at c.put_fixed-2.ensures.text) c.put_char.ensures
