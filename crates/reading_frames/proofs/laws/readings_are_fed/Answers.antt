use Rattle.reading_frames.proofs.Feeding.{fed_on}
use Rattle.reading_frames.proofs.laws.readings_are_fed.Goals as goal

pub returns : goal.returns
returns x = λ c c' old new fs held held' y work on stands. fed_on c c' old new fs held held' y work on stands
