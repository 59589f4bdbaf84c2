-- A command begins with little.
use Rattle.std.proofs.Common.{ap, ◌∙◌}
use Rattle.reading_frames.specs.declared.ask.Opening.TheVariants.{Reads}
use Rattle.reading_frames.proofs.Weights.{command_begun}
use Rattle.reading_frames.proofs.frame.Frame.begin.Goals as goal

pub returns-in-Reads-Command-clause-weight : goal.returns-in-Reads-Command-clause-weight
returns-in-Reads-Command-clause-weight c = command_begun c.in-Reads-Command.call c.new.result c.in-Reads-Command.call.head c.args.opening (c.in-Reads-Command.is ∙ ap Reads (rw c.in-Reads-Command.is at c.in-Reads-Command.field-0-is)) c.new.ensures.asks
