use Rattle.std.proofs.Common.{[], ◌∷◌, refl, sym, ap, drop, ◌∙◌}
use Rattle.plain_machine.proofs.Doing.{did_none}
use Rattle.input_state.specs.Stored.{Stored}
use Rattle.reading_frames.specs.Resumes.{listed_count}
use Rattle.reading_frames.specs.Stack.{Stack, reading_ended}
use Rattle.engine_state.specs.Book.{with_work}
use Rattle.engine_state.specs.Stands.{state_of}
use Rattle.engine_state.proofs.CallEnding.{closed_here}
use Rattle.engine_state.proofs.FramesHeld.{keeps_all}
use Rattle.engine_state.proofs.ReadingCloses.{closed_frame}
use Rattle.engine_state.proofs.ReadingEnds.{closes}
use Rattle.engine_state.proofs.Uncalled.{some_call}
use Rattle.engine_state.proofs.engine.Engine.close_reading.Goals as goal

-- a call ends
pub returns-then-is_calling-clause-ends : goal.returns-then-is_calling-clause-ends
returns-then-is_calling-clause-ends c = let e = c.args.self.now in let i = c.drop_call.new.self in let e' = record e { readings = c.end.new.self; input = i } in let call = some_call e.input.call c.if-is_calling.ensures in
    λ sizes w book r rs _ st. let s = state_of e (with_work (r ∷ rs) book) in
    closed_here sizes e e' book r rs call.0 call.1 st
    (ap (λ (s : Stack). record e { readings = s; input = i }) c.end.ensures.rest ∙ ap (λ (x : Stored). record e { readings = reading_ended e.readings; input = x }) c.drop_call.ensures.after) c.drop_call.ensures.keeps s w w [] (did_none sizes s w) refl

-- a frame ends, with its lists

pub returns-then-end-clause-stands : goal.returns-then-end-clause-stands
returns-then-end-clause-stands c = λ sizes book r rs st. let e = c.args.self.now in let n = c.end-2.ensures in
    (closes sizes e c.drop_top.new.self book r rs c.end-2.new.self c.end-2.result (drop 1 e.input.builds) c.drop_top.ensures.after (ap (λ (s : Stack). s.size) n.rest) c.drop_top.ensures.keeps
    n.list (ap (λ (b : _). drop (listed_count b) e.input.builds) (sym c.if-end.true)) n.stands n.shallow st).0

pub returns-then-end-clause-state : goal.returns-then-end-clause-state
returns-then-end-clause-state c = λ sizes book r rs st. let e = c.args.self.now in let n = c.end-2.ensures in
    (closes sizes e c.drop_top.new.self book r rs c.end-2.new.self c.end-2.result (drop 1 e.input.builds) c.drop_top.ensures.after (ap (λ (s : Stack). s.size) n.rest) c.drop_top.ensures.keeps
    n.list (ap (λ (b : _). drop (listed_count b) e.input.builds) (sym c.if-end.true)) n.stands n.shallow st).1

pub returns-then-end-clause-ends : goal.returns-then-end-clause-ends
returns-then-end-clause-ends c = closed_frame c.args.self.now c.drop_top.new.self (returns-then-end-clause-stands c) (returns-then-end-clause-state c) c.if-is_calling.ensures

-- without one

pub returns-else-end-clause-stands : goal.returns-else-end-clause-stands
returns-else-end-clause-stands c = λ sizes book r rs st. let e = c.args.self.now in let n = c.end-2.ensures in
    (closes sizes e (record e { readings = c.end-2.new.self }) book r rs c.end-2.new.self c.end-2.result e.input.builds refl (ap (λ (s : Stack). s.size) n.rest) (keeps_all e.input)
    n.list (ap (λ (b : _). drop (listed_count b) e.input.builds) (sym c.if-end.false)) n.stands n.shallow st).0

pub returns-else-end-clause-state : goal.returns-else-end-clause-state
returns-else-end-clause-state c = λ sizes book r rs st. let e = c.args.self.now in let n = c.end-2.ensures in
    (closes sizes e (record e { readings = c.end-2.new.self }) book r rs c.end-2.new.self c.end-2.result e.input.builds refl (ap (λ (s : Stack). s.size) n.rest) (keeps_all e.input)
    n.list (ap (λ (b : _). drop (listed_count b) e.input.builds) (sym c.if-end.false)) n.stands n.shallow st).1

pub returns-else-end-clause-ends : goal.returns-else-end-clause-ends
returns-else-end-clause-ends c = let e = c.args.self.now in
    closed_frame e (record e { readings = c.end-2.new.self }) (returns-else-end-clause-stands c) (returns-else-end-clause-state c) c.if-is_calling.ensures
