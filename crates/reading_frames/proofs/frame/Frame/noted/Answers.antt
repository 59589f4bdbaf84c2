-- What reports, or has the magnification checked, goes on with less.
use Rattle.std.proofs.Common.{[]}
use Rattle.reading_frames.specs.Views.{grown}
use Rattle.reading_frames.proofs.Weights.{command_falls, number_falls, fraction_falls, dimension_falls, glue_falls, keyword_falls, build_falls}
use Rattle.reading_frames.proofs.frame.Frame.noted.Goals as goal

pub returns-in-Command-clause-weight : goal.returns-in-Command-clause-weight
returns-in-Command-clause-weight c = command_falls c.args.self.now c.in-Command.scan c.noted.new.self c.in-Command.field-1 c.in-Command.is (c.noted.ensures.asks [] [])

pub returns-in-Integer-clause-weight : goal.returns-in-Integer-clause-weight
returns-in-Integer-clause-weight c = number_falls c.args.self.now c.in-Integer.scan c.noted-in-Integer.new.self c.in-Integer.is c.noted-in-Integer.ensures

pub returns-in-Factor-clause-weight : goal.returns-in-Factor-clause-weight
returns-in-Factor-clause-weight c = fraction_falls c.args.self.now c.in-Factor.scan c.noted-in-Factor.new.self c.in-Factor.is c.noted-in-Factor.ensures

pub returns-in-Dimension-clause-weight : goal.returns-in-Dimension-clause-weight
returns-in-Dimension-clause-weight c = dimension_falls c.args.self.now c.in-Dimension.scan c.noted-in-Dimension.new.self c.in-Dimension.is c.noted-in-Dimension.ensures

pub returns-in-Glue-clause-weight : goal.returns-in-Glue-clause-weight
returns-in-Glue-clause-weight c = glue_falls c.args.self.now c.in-Glue.scan c.noted-in-Glue.new.self c.in-Glue.is c.noted-in-Glue.ensures

pub returns-in-Keyword-clause-weight : goal.returns-in-Keyword-clause-weight
returns-in-Keyword-clause-weight c = keyword_falls c.args.self.now c.in-Keyword.scan c.noted-in-Keyword.new.self c.in-Keyword.is c.noted-in-Keyword.ensures

pub returns-in-Build-clause-weight : goal.returns-in-Build-clause-weight
returns-in-Build-clause-weight c =
    build_falls c.args.self.now c.in-Build.scan c.noted-in-Build.new.self (grown c.noted-in-Build.result []) c.in-Build.is (c.noted-in-Build.ensures.goes_on [] [])
