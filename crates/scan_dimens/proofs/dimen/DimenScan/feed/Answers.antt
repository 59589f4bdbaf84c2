use Rattle.scan_dimens.proofs.Strays.{no_token}
use Rattle.scan_dimens.proofs.dimen.DimenScan.feed.Goals as goal

pub returns-in_default : goal.returns-in_default
returns-in_default c = no_token c.args.self.now.kind c.args.self.now.negative c.args.self.now.place c.args.seen c.in_default.not-Signs c.in_default.not-Point c.in_default.not-Fraction c.in_default.not-UnitSought c.in_default.not-Space c.in_default.not-Ended
