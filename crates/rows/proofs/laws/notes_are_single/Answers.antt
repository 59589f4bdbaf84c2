use Rattle.std.proofs.Common.{false, refl}
use Rattle.rows.specs.declared.stage.Note.{Note}
use Rattle.rows.specs.declared.stage.Note.TheVariants as note
use Rattle.rows.specs.Commands.{command_ask}
use Rattle.rows.specs.Run.{due}
use Rattle.rows.specs.Laws.{NotesOnce}
use Rattle.rows.proofs.Runs.{row_holds}
use Rattle.rows.proofs.laws.notes_are_single.Goals as goal

due_once : (n : Note) → NotesOnce false (command_ask (due n))
due_once (note.Tells report back) = refl
due_once (note.Inserts t report back) = refl
due_once (note.Relaxes c n) = tt

pub returns : goal.returns
returns _ c fed = row_holds (λ b a. NotesOnce b (command_ask a)) (λ b want. tt) (λ b k begins low. tt) (λ b c e. tt) (λ b c e ts. tt) (λ b c n ts. tt) (λ b. tt) due_once c fed
