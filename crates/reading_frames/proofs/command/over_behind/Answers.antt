-- A row that is over stays so.
use Rattle.row_frames.specs.Views.{fed_of}
use Rattle.reading_frames.proofs.Over.{over_behind}
use Rattle.reading_frames.proofs.Commands.{acts_on, defines}
use Rattle.reading_frames.proofs.command.over_behind.Goals as goal

pub returns-in-Acts-clause-over : goal.returns-in-Acts-clause-over
returns-in-Acts-clause-over c = λ ts held fed same. over_behind c.args.row.now (fed_of ts c.args.y) (c.in-Acts.ensures.answer ts) tt fed

pub returns-in-ActsOn-clause-over : goal.returns-in-ActsOn-clause-over
returns-in-ActsOn-clause-over c = λ ts held fed same. acts_on _ _ ts _ c.args.row.now (fed_of ts c.args.y) fed (c.in-ActsOn.ensures.answer ts) same

pub returns-in-Defines-clause-over : goal.returns-in-Defines-clause-over
returns-in-Defines-clause-over c = λ ts held fed same. defines _ _ ts _ c.args.row.now (fed_of ts c.args.y) fed (c.in-Defines.ensures.answer ts) same

pub returns-in-Ends-clause-over : goal.returns-in-Ends-clause-over
returns-in-Ends-clause-over c = λ ts held fed same. over_behind c.args.row.now (fed_of ts c.args.y) (c.in-Ends.ensures.answer ts) tt fed
