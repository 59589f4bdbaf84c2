-- The row that was found is the primitive's, and runs from the beginning.
use Rattle.std.proofs.Common.{List, [], ap, sym, ◌∙◌}
use Rattle.rows.specs.declared.command.Row.{Row}
use Rattle.rows.specs.declared.command.Action.{Action}
use Rattle.rows.specs.declared.command.Call.{Call}
use Rattle.rows.specs.Readings as reading
use Rattle.rows.specs.Commands.{CommandAsk}
use Rattle.rows.specs.Table.{stages_in, stages_of}
use Rattle.row_frames.specs.declared.turn.Kept.TheVariants as kept
use Rattle.row_frames.specs.Resumes.{resume_row, turn_of}
use Rattle.row_frames.proofs.Rows.{run_starts}
use Rattle.row_frames.proofs.frame.RowFrame.begin.Goals as goal

pub returns-clause-stands : goal.returns-clause-stands
returns-clause-stands c fed =
    let turn : Call → List reading.Fed → CommandAsk = λ d more. turn_of c.args.is_turned d more in
    run_starts turn c.args.call (stages_of c.args.call.head) [] fed
    ∙ ap (λ (row : Row × Action). resume_row turn c.args.call (stages_in row.0) [] kept.Start fed) (sym c.row_of.ensures)
