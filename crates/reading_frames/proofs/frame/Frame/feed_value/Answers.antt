-- Behind a value a frame weighs little, whichever list came with it.
use Rattle.std.proofs.Common.{[]}
use Rattle.reading_frames.specs.Resumes.{with_list}
use Rattle.reading_frames.proofs.Weights.{command_light, integer_valued, factor_valued, measured, glued, keyword_valued, sample, sampled}
use Rattle.reading_frames.proofs.frame.Frame.feed_value.Goals as goal

pub returns-in-Command-clause-weight : goal.returns-in-Command-clause-weight
returns-in-Command-clause-weight c =
    command_light c.in-Command.scan c.args.value c.args.is_empty c.feed_value.new.self (with_list c.feed_value.result (sample c.args.is_empty) [])
    (c.feed_value.ensures.asks (sample c.args.is_empty) (sampled c.args.is_empty) [] [])

pub returns-in-Integer-clause-weight : goal.returns-in-Integer-clause-weight
returns-in-Integer-clause-weight c = integer_valued c.feed_value-in-Integer.new.self

pub returns-in-Factor-clause-weight : goal.returns-in-Factor-clause-weight
returns-in-Factor-clause-weight c = factor_valued c.feed_value-in-Factor.new.self

pub returns-in-Dimension-clause-weight : goal.returns-in-Dimension-clause-weight
returns-in-Dimension-clause-weight c = measured c.in-Dimension.scan c.feed_value-in-Dimension.new.self c.args.value c.feed_value-in-Dimension.ensures

pub returns-in-Glue-clause-weight : goal.returns-in-Glue-clause-weight
returns-in-Glue-clause-weight c = glued c.in-Glue.scan c.feed_value-in-Glue.new.self c.args.value c.feed_value-in-Glue.ensures

pub returns-in-Keyword-clause-weight : goal.returns-in-Keyword-clause-weight
returns-in-Keyword-clause-weight c = keyword_valued c.stop.new.self
