use Rattle.rows.specs.Readings.{Noted}
use Rattle.scan_dimens.proofs.Letters.{letters_end, back_goes_on, back_over}
use Rattle.scan_dimens.proofs.keyword.KeywordScan.noted.Goals as goal

pub returns-in-Letters : goal.returns-in-Letters
returns-in-Letters c = λ fed. letters_end c.args.self.now c.in-Letters.field-0 Noted fed c.in-Letters.is tt

pub returns-then-count-gt1 : goal.returns-then-count-gt1
returns-then-count-gt1 c = λ fed. back_goes_on c.args.self.now c.in-PutsBack.count fed c.in-PutsBack.is

pub returns-else-count-gt1 : goal.returns-else-count-gt1
returns-else-count-gt1 c = λ fed. back_over c.args.self.now c.in-PutsBack.count fed c.in-PutsBack.is c.if-count-gt1.false
