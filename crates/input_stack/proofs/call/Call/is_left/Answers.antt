use Rattle.std.proofs.Common.{◌∙◌, sym}
use Rattle.input_stack.proofs.call.Call.is_left.Goals as goal

pub returns-then-is_at_hand : goal.returns-then-is_at_hand
returns-then-is_at_hand c = c.if-is_at_hand.true ∙ sym (c.is_at_hand.ensures c.args.args.now c.if-is_at_hand.true)
