use Rattle.rows.specs.declared.stage.Note.{Note}
use Rattle.rows.specs.declared.stage.Note.TheVariants as note
use Rattle.rows.specs.Commands.{command_ask}
use Rattle.rows.specs.Run.{due}
use Rattle.rows.specs.Laws.{BeginsLower}
use Rattle.rows.proofs.Runs.{row_holds}
use Rattle.rows.proofs.laws.readings_begin_lower.Goals as goal

due_low : (n : Note) → BeginsLower 1 (command_ask (due n))
due_low (note.Tells report back) = tt
due_low (note.Inserts t report back) = tt
due_low (note.Relaxes c n) = tt

pub returns : goal.returns
returns _ c fed = row_holds (λ b a. BeginsLower 1 (command_ask a)) (λ b want. tt) (λ b k begins low. low) (λ b c e. tt) (λ b c e ts. tt) (λ b c n ts. tt) (λ b. tt) due_low c fed
