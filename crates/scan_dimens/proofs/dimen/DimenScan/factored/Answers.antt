use Rattle.scan_dimens.proofs.Strays.{no_factor}
use Rattle.scan_dimens.proofs.dimen.DimenScan.factored.Goals as goal

pub returns-in_default : goal.returns-in_default
returns-in_default c = no_factor c.args.self.now.kind c.args.self.now.negative c.args.self.now.place c.args.n c.args.point c.in_default.not-Factor c.in_default.not-Ended
