-- Behind a token a frame asks for no more than one of its kind may.
use Rattle.reading_frames.specs.declared.frame.Frame.TheVariants.{Command}
use Rattle.reading_frames.proofs.Weights.{command_fed, number_fed, fraction_fed, dimension_fed, glue_fed, keyword_fed}
use Rattle.reading_frames.proofs.frame.Frame.feed_other.Goals as goal

pub returns-in-Command-clause-weight : goal.returns-in-Command-clause-weight
returns-in-Command-clause-weight c = command_fed c.args.self.now c.in-Command.scan c.in-Command.field-1 (Command c.feed.new.self c.in-Command.field-1) c.in-Command.is

pub returns-in-Integer-clause-weight : goal.returns-in-Integer-clause-weight
returns-in-Integer-clause-weight c = number_fed c.args.self.now c.in-Integer.scan c.feed-in-Integer.new.self c.args.x c.in-Integer.is c.feed-in-Integer.ensures

pub returns-in-Factor-clause-weight : goal.returns-in-Factor-clause-weight
returns-in-Factor-clause-weight c = fraction_fed c.args.self.now c.in-Factor.scan c.feed-in-Factor.new.self c.args.x c.in-Factor.is c.feed-in-Factor.ensures

pub returns-in-Dimension-clause-weight : goal.returns-in-Dimension-clause-weight
returns-in-Dimension-clause-weight c = dimension_fed c.args.self.now c.in-Dimension.scan c.feed-in-Dimension.new.self c.in-Dimension.is

pub returns-in-Glue-clause-weight : goal.returns-in-Glue-clause-weight
returns-in-Glue-clause-weight c = glue_fed c.args.self.now c.in-Glue.scan c.feed-in-Glue.new.self c.in-Glue.is

pub returns-in-Keyword-clause-weight : goal.returns-in-Keyword-clause-weight
returns-in-Keyword-clause-weight c = keyword_fed c.args.self.now c.in-Keyword.scan c.feed-in-Keyword.new.self c.in-Keyword.is c.feed-in-Keyword.ensures.kept
