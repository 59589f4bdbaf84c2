use Rattle.std.proofs.Common.{◌∷◌, ap, sym, subst}
use Rattle.rows.specs.Readings.{Tok}
use Rattle.reading_frames.specs.Stack.{Stack}
use Rattle.plain_machine.specs.declared.broken.Broken.TheVariants as broken
use Rattle.plain_machine.specs.Plan.{feeding}
use Rattle.engine_state.specs.Book.{with_work}
use Rattle.engine_state.specs.CutReadings.{CutsIn}
use Rattle.engine_state.specs.Stands.{state_of}
use Rattle.engine_state.specs.declared.engine.Engine.{Engine}
use Rattle.engine_state.proofs.ReadingsFed.{feeds_stands, feeds_did, feeds_cut, feeding_moves, moves_did, moves_in}
use Rattle.engine_state.proofs.engine.Engine.feed_at_risk.Goals as goal

pub returns-clause-stands : goal.returns-clause-stands
returns-clause-stands c = λ sizes book st. let e = c.args.self.now in let t = c.feed-grown.ensures in
    feeds_stands sizes e c.feed-grown.new.self c.feed-grown.result (Tok c.args.x) t.stands t.shallow t.beneath t.listed t.size (record c.take.new.self { last = c.args.x }) book
    (ap (λ (x : Engine). record x { last = c.args.x }) c.in_default.ensures.ok) c.take.ensures.keeps st

pub returns-clause-did : goal.returns-clause-did
returns-clause-did c = λ sizes w book r rs st. let e = c.args.self.now in let t = c.feed-grown.ensures in
    moves_did sizes _ _ w _ _ (feeding_moves e.readings.frames e.input.builds r rs c.args.x st.readings.frames)
    (feeds_did sizes e c.feed-grown.new.self c.feed-grown.result (Tok c.args.x) t.stands t.shallow t.beneath t.listed t.size book r rs st (record c.take.new.self { last = c.args.x }) w
    (ap (λ (x : Engine). record x { last = c.args.x }) c.in_default.ensures.ok) c.in_default.ensures.fits)

pub returns-in-Err-clause-refused : goal.returns-in-Err-clause-refused
returns-in-Err-clause-refused c = λ sizes w book r rs st. let e = c.args.self.now in let t = c.feed-grown.ensures in
    subst (λ (x : Stack). CutsIn sizes (state_of e (with_work (r ∷ rs) book)) (record c.take.new.self { readings = x }) w w (feeding r c.args.x) (broken.Full c.in-Err.full)) (sym c.restore.ensures)
    (moves_in sizes _ _ w _ _ _ (feeding_moves e.readings.frames e.input.builds r rs c.args.x st.readings.frames)
    (feeds_cut sizes e c.feed-grown.new.self c.feed-grown.result (Tok c.args.x) t.stands t.shallow t.beneath t.listed t.size book r rs st c.frame_at_risk-kept.result c.take.new.self c.in-Err.full w c.frame_at_risk-kept.ensures t.rest t.count c.take.ensures.keeps c.in-Err.ensures.err))
