use Rattle.std.proofs.Common.{◌∙◌, ap}
use Rattle.std.specs.Prelude.{option_map}
use Rattle.input_stack.specs.CallViews.{opens}
use Rattle.input_stack.specs.Wholes.{whole}
use Rattle.input_stack.proofs.LevelItems.{listed_opens, source_opens}
use Rattle.input_stack.proofs.levels.next_opens.Goals as goal

pub returns-in-Source : goal.returns-in-Source
returns-in-Source c = source_opens c.args.lists.now (whole c.args.args.now c.args.level.now) c.in-Source.field-0 (ap (whole c.args.args.now) c.in-Source.is)

pub returns-in-List : goal.returns-in-List
returns-in-List c = listed_opens c.args.lists.now c.args.args.now c.args.level.now c.opens.result c.in-List.is (c.opens.ensures ∙ ap (option_map opens) c.next_item.ensures)
