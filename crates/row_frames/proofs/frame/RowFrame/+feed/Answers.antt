-- What the row comes to is what its stage comes to, and then what the rest of the row comes to.
use Rattle.std.proofs.Common.{List, [], refl, ◌∙◌}
use Rattle.rows.specs.declared.command.Call.{Call}
use Rattle.rows.specs.Readings as reading
use Rattle.rows.specs.Commands.{CommandAsk}
use Rattle.row_frames.specs.declared.frame.RowFrame.{RowFrame}
use Rattle.row_frames.specs.Data.{values}
use Rattle.row_frames.specs.Views.{fed_of}
use Rattle.row_frames.specs.Resumes.{turn_of}
use Rattle.row_frames.proofs.Rows.{row_takes, row_leaves}
use Rattle.row_frames.proofs.frame.RowFrame.+feed.Goals as goal

-- what comes where the command goes on as another
abbrev turn : RowFrame → Call → List reading.Fed → CommandAsk
turn f c fed = turn_of f.is_turned c fed

pub returns-in-Takes-clause-answer : goal.returns-in-Takes-clause-answer
returns-in-Takes-clause-answer t c ts =
    let f = c.args.self.now in
    row_takes (turn f) f.call f.left c.in-Some.stages c.in-Some.is c.first.result c.first.ensures (values f.read) f.kept (fed_of ts c.args.y) c.rest-self.result c.rest-self.ensures
    c.in-Takes.datum (c.in-Takes.ensures ts) (values c.push.new.self) c.push.ensures [] ∙ c.first_ask.ensures.asks refl ts

pub returns-in-Takes-clause-goes_on : goal.returns-in-Takes-clause-goes_on
returns-in-Takes-clause-goes_on t c o ts fed =
    let f = c.args.self.now in
    row_takes (turn f) f.call f.left c.in-Some.stages c.in-Some.is c.first.result c.first.ensures (values f.read) f.kept (fed_of ts c.args.y) c.rest-self.result c.rest-self.ensures
    c.in-Takes.datum (c.in-Takes.ensures ts) (values c.push.new.self) c.push.ensures fed

pub returns-in-Leaves-clause-goes_on : goal.returns-in-Leaves-clause-goes_on
returns-in-Leaves-clause-goes_on t c o ts fed =
    let f = c.args.self.now in
    row_leaves (turn f) f.call f.left c.in-Some.stages c.in-Some.is c.first.result c.first.ensures (values f.read) f.kept (fed_of ts c.args.y) c.rest-self-in-Leaves.result c.rest-self-in-Leaves.ensures
    (c.in-Leaves.ensures ts) fed ∙ c.feed.ensures.goes_on o ts fed
