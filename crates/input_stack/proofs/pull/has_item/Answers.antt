use Rattle.std.proofs.Common.{◌∙◌, sym, ap}
use Rattle.std.specs.Prelude.{is_some}
use Rattle.input_stack.specs.declared.level.Level.{Level}
use Rattle.input_stack.specs.Levels.{level_item}
use Rattle.input_stack.specs.Wholes.{whole}
use Rattle.input_stack.proofs.AtOnce.{list_at_hand}
use Rattle.input_stack.proofs.pull.has_item.Goals as goal

pub returns-in-List : goal.returns-in-List
returns-in-List c = list_at_hand c.args.lists.now (whole c.args.args.now c.args.level.now) c.in-List.reader c.is_left.result (ap (whole c.args.args.now) c.in-List.is) c.is_left.ensures

pub returns-in-Call : goal.returns-in-Call
returns-in-Call c = c.is_left-in-Call.ensures ∙ ap (λ (l : Level). is_some (level_item c.args.lists.now (whole c.args.args.now l))) (sym c.in-Call.is)
