use Rattle.rows.specs.Readings.{Tok}
use Rattle.scan_dimens.proofs.Letters.{back_ends}
use Rattle.scan_dimens.proofs.keyword.KeywordScan.feed.Goals as goal

pub returns-in-PutsBack-clause-asks : goal.returns-in-PutsBack-clause-asks
returns-in-PutsBack-clause-asks c = λ fed. back_ends c.args.self.now c.in-PutsBack.field-0 (Tok c.args.seen) fed c.in-PutsBack.is tt
