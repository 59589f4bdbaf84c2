-- An ender behind which more text is skipped.
use Rattle.std.specs.Prelude.{◌≡◌, List, ◌++◌}
use Rattle.tex_defs.specs.Places.{World}
use Rattle.tex_defs.specs.declared.Sizes.{Sizes}
use Rattle.conditionals.specs.declared.choice.Passing.{Passing}
use Rattle.plain_machine.specs.States.{State, Move}
use Rattle.plain_machine.specs.Plan.{Page, passed}
use Rattle.plain_machine.specs.Runs.{steps}
use Rattle.plain_machine.specs.Does.{Did}

-- What it comes to is done without a step, and the rule goes on with these moves.
pub record Passes (sizes : Sizes) (s s' : State) (w w' : World) (page : Page) (p : Passing) (rest : List Move) : Type 0 where
  pub front : List Move
  pub moves : passed page p rest ≡ front ++ rest
  pub did : Did sizes s s' w w' front
  pub free : steps front ≡ 0
