use Rattle.list_builder.proofs.Going.{cut_short, goes_on}
use Rattle.list_builder.proofs.scan.ListScan.go.Goals as goal

pub returns-in-Err-clause-cut_short : goal.returns-in-Err-clause-cut_short
returns-in-Err-clause-cut_short c =
    let e = c.in-Err.ensures in
    cut_short c.args.lists.now c.grow.new.lists c.args.self.now c.args.step c.grow.new.work c.requires.sound e.building e.same e.others e.account e.cut_short

pub returns-in-On-clause-goes : goal.returns-in-On-clause-goes
returns-in-On-clause-goes c =
    let e = c.in_default.ensures in
    goes_on c.args.lists.now c.grow.new.lists c.args.self.now c.args.step c.grow.new.work c.requires.sound e.building e.same e.others e.account c.in-On.stage c.ask.result c.in-On.is c.requires.shallow e.grown c.ask.ensures.answer c.ask.ensures.goes_on
