use Rattle.scan_dimens.proofs.Letters.{asks_more}
use Rattle.scan_dimens.proofs.keyword.KeywordScan.ask.Goals as goal

pub returns-in-Letters : goal.returns-in-Letters
returns-in-Letters c = asks_more c.args.self.now c.in-Letters.field-0 c.in-Letters.is
