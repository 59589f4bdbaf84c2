use Rattle.scan_dimens.proofs.Strays.{no_note}
use Rattle.scan_dimens.proofs.dimen.DimenScan.noted.Goals as goal

pub returns-in_default : goal.returns-in_default
returns-in_default c = no_note c.args.self.now.kind c.args.self.now.negative c.args.self.now.place c.in_default.not-BadNumber c.in_default.not-Incompatible c.in_default.not-NoNumber c.in_default.not-TooLong c.in_default.not-Illegal c.in_default.not-TooLarge c.in_default.not-Magnification c.in_default.not-Ended
