-- The stages that are left.
use Rattle.std.proofs.Common.{length}
use Rattle.rows.specs.Table.{stages_left}
use Rattle.row_frames.proofs.frame.RowFrame.+feed.Given as goal

abbrev pub decreases-feed : goal.decreases-feed
decreases-feed l = length (stages_left l.self.now.left)
