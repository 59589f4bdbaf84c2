-- The first stage of a row asks for a token or begins another reading.
use Rattle.std.proofs.Common.{List, []}
use Rattle.rows.specs.declared.stage.Stage.{Stage}
use Rattle.rows.specs.declared.stage.Start.{Start}
use Rattle.rows.specs.declared.stage.Start.TheVariants.{Looks, Begins}
use Rattle.rows.specs.declared.command.Call.{Call}
use Rattle.rows.specs.Stages.{start}
use Rattle.rows.specs.Table.{row_of, first_in, rest_in}
use Rattle.rows.specs.Commands.{command_ask}
use Rattle.rows.specs.Run.{started, behind, run, turned}
use Rattle.rows.specs.Laws.{Starts}
use Rattle.rows.proofs.laws.readings_start.Goals as goal

first_starts : (c : Call) (s : Stage) (ss : List Stage) (begun : Start) → Starts (command_ask (behind turned c [] (λ es more. run turned c ss es more) (started s c begun [])))
first_starts c s ss (Looks want) = tt
first_starts c s ss (Begins k) = tt

pub returns : goal.returns
returns _ c = first_starts c (first_in (row_of c.head).0) (rest_in (row_of c.head).0) (start (first_in (row_of c.head).0) c [])
