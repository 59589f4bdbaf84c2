use Rattle.std.proofs.Common.{Bool, ◌∷◌, Option, Some, sym, ap, ◌∙◌}
use Rattle.rows.specs.Readings.{Tok}
use Rattle.plain_readings.specs.Factors.{is_point}
use Rattle.scan_numbers.specs.Resumes.{resume}
use Rattle.scan_numbers.specs.FactorViews.{decimal_behind}
use Rattle.scan_numbers.specs.FactorResumes.{resume_at}
use Rattle.scan_numbers.specs.declared.number.NumberScan.{NumberScan}
use Rattle.scan_numbers.proofs.Factors.{stepped}
use Rattle.scan_numbers.proofs.factor.FactorScan.feed.Goals as goal

pub returns : goal.returns
returns c = λ fed.
    stepped c.args.self.now.decimal c.args.self.now.point c.args.self.now.scan c.feed.new.self (Tok c.args.seen) c.args.self.now.fresh
    (λ more. ap (λ (s : NumberScan). resume s (Tok c.args.seen ∷ more)) (sym c.begin.ensures.scan) ∙ c.feed.ensures more) fed ∙
    (ap (λ (o : Option Bool). resume_at o (is_point c.args.seen) c.feed.new.self fed)
    (sym (c.begin.ensures.began ∙ ap (λ (b : Bool). Some (decimal_behind c.args.self.now.decimal b)) c.is_decimal.ensures)) ∙
    ap (λ (p : Bool). resume_at c.begin.new.self.decimal p c.feed.new.self fed) (sym c.is_point-self.ensures))
