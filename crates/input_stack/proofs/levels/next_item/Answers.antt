use Rattle.std.proofs.Common.{◌∙◌, sym, ap}
use Rattle.input_stack.specs.Rest.{rest}
use Rattle.input_stack.specs.declared.level.Level.{Level}
use Rattle.input_stack.specs.Wholes.{whole}
use Rattle.input_stack.specs.CallViews.{met}
use Rattle.input_stack.specs.Levels.{level_item}
use Rattle.input_stack.proofs.LevelItems.{list_some, list_none}
use Rattle.input_stack.proofs.levels.next_item.Goals as goal

pub returns-in-Some : goal.returns-in-Some
returns-in-Some c = list_some (rest c.args.lists.now c.in-List.reader) c.in-Some.token (sym c.in-Some.is ∙ c.peek.ensures) ∙ ap (λ (l : Level). met (level_item c.args.lists.now (whole c.args.args.now l))) (sym c.in-List.is)

pub returns-in-None : goal.returns-in-None
returns-in-None c = list_none (rest c.args.lists.now c.in-List.reader) (sym c.in-None.is ∙ c.peek.ensures) ∙ ap (λ (l : Level). met (level_item c.args.lists.now (whole c.args.args.now l))) (sym c.in-List.is)
