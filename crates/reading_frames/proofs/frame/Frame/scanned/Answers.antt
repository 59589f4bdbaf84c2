-- No other frame is read itself, nor skips text.
use Rattle.reading_frames.proofs.Scanning.{unread}
use Rattle.reading_frames.proofs.frame.Frame.scanned.Goals as goal

pub returns-in_default : goal.returns-in_default
returns-in_default c = unread c.args.self.now c.args.number c.in_default.not-Build c.in_default.not-Skips
