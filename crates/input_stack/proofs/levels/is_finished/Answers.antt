use Rattle.std.proofs.Common.{◌∙◌, sym, ap}
use Rattle.input_stack.specs.declared.level.Level.{Level}
use Rattle.input_stack.specs.Levels.{is_level_finished}
use Rattle.input_stack.specs.Wholes.{whole}
use Rattle.input_stack.proofs.levels.is_finished.Goals as goal

pub returns-in-Call : goal.returns-in-Call
returns-in-Call c = λ args. c.is_finished.ensures args ∙ ap (λ (l : Level). is_level_finished c.args.lists.now (whole args l)) (sym c.in-Call.is)
