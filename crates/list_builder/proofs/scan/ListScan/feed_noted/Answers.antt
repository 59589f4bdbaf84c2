use Rattle.plain_state.specs.Definitions.{Noted}
use Rattle.list_builder.proofs.Feeding.{fed_answers, fed_cut_short}
use Rattle.list_builder.proofs.scan.ListScan.feed_noted.Goals as goal

pub returns-clause-answers : goal.returns-clause-answers
returns-clause-answers c = fed_answers c.args.lists.now c.go.new.lists c.args.self.now c.go.new.self Noted c.noted-step.result c.noted-step.ensures.takes c.go.result c.go.ensures.goes

pub returns-clause-cut_short : goal.returns-clause-cut_short
returns-clause-cut_short c = fed_cut_short c.args.lists.now c.go.new.lists c.args.self.now c.go.new.self Noted c.noted-step.result c.noted-step.ensures.takes c.go.result c.go.ensures.cut_short
