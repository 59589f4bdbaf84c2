use Rattle.reading_frames.proofs.Feeding.{begun}
use Rattle.reading_frames.proofs.laws.readings_begin.Goals as goal

pub returns : goal.returns
returns x = λ c k f fs held new work b stands. begun c k f fs held new work b stands
