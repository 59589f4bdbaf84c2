use Rattle.engine_state.proofs.CallFeeding.{went_if}
use Rattle.engine_state.proofs.CallFeedingCuts.{cuts_if}
use Rattle.engine_state.proofs.InnermostFed.{call_fed, call_cut, frame_fed, frame_cut}
use Rattle.engine_state.proofs.engine.Engine.feed.Goals as goal

pub returns-then-is_taking-clause-ok : goal.returns-then-is_taking-clause-ok
returns-then-is_taking-clause-ok c = let e = c.args.self.now in let t = c.feed_call in
    call_fed e t.new.self c.args.x t.result c.if-is_taking.ensures (went_if t.result e t.new.self c.args.x t.ensures.others t.ensures.last t.ensures.keeps t.ensures.ok t.ensures.fits t.ensures.within)

pub returns-then-is_taking-clause-err : goal.returns-then-is_taking-clause-err
returns-then-is_taking-clause-err c = let e = c.args.self.now in let t = c.feed_call in
    call_cut e t.new.self c.args.x t.result c.if-is_taking.ensures (cuts_if t.result e t.new.self c.args.x t.ensures.others t.ensures.keeps t.ensures.within t.ensures.full t.ensures.fed t.ensures.unfed t.ensures.err)

pub returns-clause-ok : goal.returns-clause-ok
returns-clause-ok c = let t = c.feed_frame in
    frame_fed c.args.self.now t.new.self c.args.x t.result c.if-is_taking.ensures t.ensures.stands t.ensures.did

pub returns-clause-err : goal.returns-clause-err
returns-clause-err c = let t = c.feed_frame in
    frame_cut c.args.self.now t.new.self c.args.x t.result c.if-is_taking.ensures t.ensures.refused
