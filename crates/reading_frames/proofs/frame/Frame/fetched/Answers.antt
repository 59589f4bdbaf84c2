-- Behind what it asked for a frame weighs less.
use Rattle.reading_frames.proofs.Weights.{number_fetched, fraction_fetched, measure_fetched, skip_fetched, keyword_fetched}
use Rattle.reading_frames.proofs.frame.Frame.fetched.Goals as goal

pub returns-in-Integer-clause-weight : goal.returns-in-Integer-clause-weight
returns-in-Integer-clause-weight c = number_fetched c.args.self.now c.in-Integer.scan c.fetched-in-Integer.new.self c.args.value c.in-Integer.is c.fetched-in-Integer.ensures

pub returns-in-Factor-clause-weight : goal.returns-in-Factor-clause-weight
returns-in-Factor-clause-weight c = fraction_fetched c.args.self.now c.in-Factor.scan c.fetched-in-Factor.new.self c.args.value c.in-Factor.is c.fetched-in-Factor.ensures

pub returns-in-Dimension-clause-weight : goal.returns-in-Dimension-clause-weight
returns-in-Dimension-clause-weight c = measure_fetched c.args.self.now c.in-Dimension.scan c.fetched-in-Dimension.new.self c.args.value c.in-Dimension.is c.fetched-in-Dimension.ensures

pub returns-in-Glue-clause-weight : goal.returns-in-Glue-clause-weight
returns-in-Glue-clause-weight c = skip_fetched c.args.self.now c.in-Glue.scan c.fetched-in-Glue.new.self c.args.value c.in-Glue.is c.fetched-in-Glue.ensures

pub returns-in-Keyword-clause-weight : goal.returns-in-Keyword-clause-weight
returns-in-Keyword-clause-weight c = keyword_fetched c.args.self.now c.in-Keyword.scan c.stop.new.self c.in-Keyword.is
