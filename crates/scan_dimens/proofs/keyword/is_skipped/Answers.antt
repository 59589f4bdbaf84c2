use Rattle.std.proofs.Common.{sym, arith}
use Rattle.scan_dimens.proofs.Letters.{none_skipped}
use Rattle.scan_dimens.proofs.keyword.is_skipped.Goals as goal

pub returns-then-read-gt0 : goal.returns-then-read-gt0
returns-then-read-gt0 c = λ ts five. sym (none_skipped ts c.args.read c.args.seen five (omega (arith, c.if-read-gt0.true)) c.requires)
