use Rattle.rows.specs.Readings.{Val, Fetched, Cut}
use Rattle.scan_dimens.proofs.Letters.{letters_end, back_ends}
use Rattle.scan_dimens.proofs.keyword.KeywordScan.stop.Goals as goal

pub returns-in-Letters : goal.returns-in-Letters
returns-in-Letters c = record {
  value = λ v ts fed. letters_end c.args.self.now c.in-Letters.field-0 (Val v ts) fed c.in-Letters.is tt;
  fetched = λ v fed. letters_end c.args.self.now c.in-Letters.field-0 (Fetched v) fed c.in-Letters.is tt;
  cut = λ fed. letters_end c.args.self.now c.in-Letters.field-0 Cut fed c.in-Letters.is tt;
}

pub returns-in-PutsBack : goal.returns-in-PutsBack
returns-in-PutsBack c = record {
  value = λ v ts fed. back_ends c.args.self.now c.in-PutsBack.field-0 (Val v ts) fed c.in-PutsBack.is tt;
  fetched = λ v fed. back_ends c.args.self.now c.in-PutsBack.field-0 (Fetched v) fed c.in-PutsBack.is tt;
  cut = λ fed. back_ends c.args.self.now c.in-PutsBack.field-0 Cut fed c.in-PutsBack.is tt;
}
