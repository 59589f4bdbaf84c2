use Rattle.scan_dimens.proofs.Strays.{no_value}
use Rattle.scan_dimens.proofs.dimen.DimenScan.fetched.Goals as goal

pub returns-in_default : goal.returns-in_default
returns-in_default c = no_value c.args.self.now.kind c.args.self.now.negative c.args.self.now.place c.args.value c.in_default.not-Fetching c.in_default.not-MagnificationFetched c.in_default.not-Ended
