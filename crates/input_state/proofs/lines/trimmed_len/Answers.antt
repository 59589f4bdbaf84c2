use Rattle.std.proofs.Common.{arith, sym, ◌∙◌}
use Rattle.input_state.proofs.LineEnds.{space_goes, other_stays}
use Rattle.input_state.proofs.lines.trimmed_len.Goals as goal

pub loop-n-preserved : goal.loop-n-preserved
loop-n-preserved c = (omega arith, c.loop-n.invariant.1 ∙ space_goes c.args.line.now c.loop-n.n (omega arith) (omega arith) c.if-line-n-eq32.true)

pub returns-else-line-n-eq32-clause-kept : goal.returns-else-line-n-eq32-clause-kept
returns-else-line-n-eq32-clause-kept c = sym (c.loop-n.invariant.1 ∙ other_stays c.args.line.now c.loop-n.n (omega arith) (omega arith) c.if-line-n-eq32.false)
