use Rattle.plain_readings.proofs.Notes.{notes, single}
use Rattle.plain_readings.proofs.laws.notes_fall.Goals as goal

pub returns : goal.returns
returns _ = record { falls = notes; single = single }
