use Rattle.std.proofs.Common.{arith, ◌∷◌, [], ap, length, length-append}
use Rattle.transcript.proofs.Printing.{fixed_more}
use Rattle.transcript.proofs.fixed.put_fixed.Goals as goal

pub loop-c-preserved : goal.loop-c-preserved
loop-c-preserved c = record {
  text = fixed_more _ c.args.characters.now c.args.text.now c.loop-c.text c.put_char.new.self c.loop-c.c-index c.fixed_byte.result c.loop-c-test.true c.requires.plain c.loop-c.invariant.text c.fixed_byte.ensures c.put_char.ensures;
  room = omega (arith, ap length c.put_char.ensures, length-append c.loop-c.text (c.fixed_byte.result ∷ []));
}
