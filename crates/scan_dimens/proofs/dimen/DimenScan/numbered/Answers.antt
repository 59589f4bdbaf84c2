use Rattle.scan_dimens.proofs.Strays.{no_number}
use Rattle.scan_dimens.proofs.dimen.DimenScan.numbered.Goals as goal

pub returns-in_default : goal.returns-in_default
returns-in_default c = no_number c.args.self.now.kind c.args.self.now.negative c.args.self.now.place c.args.n c.in_default.not-Numbered c.in_default.not-Ended
