use Rattle.std.proofs.Common.{◌∷◌, sym, subst}
use Rattle.rows.specs.Readings.{Noted}
use Rattle.reading_frames.specs.Stack.{Stack}
use Rattle.plain_machine.specs.declared.broken.Broken.TheVariants as broken
use Rattle.plain_machine.specs.Plan.{noting}
use Rattle.engine_state.specs.Book.{with_work}
use Rattle.engine_state.specs.CutReadings.{CutsIn}
use Rattle.engine_state.specs.Stands.{state_of}
use Rattle.engine_state.proofs.ReadingsFed.{feeds_stands, feeds_did, feeds_cut, noting_moves, moves_did, moves_in}
use Rattle.engine_state.proofs.engine.Engine.note_frame.Goals as goal

pub returns-clause-stands : goal.returns-clause-stands
returns-clause-stands c = λ sizes book st. let e = c.args.self.now in let t = c.noted-grown.ensures in
    feeds_stands sizes e c.noted-grown.new.self c.noted-grown.result Noted t.stands t.shallow t.beneath t.listed t.size c.take.new.self book c.in_default.ensures.ok c.take.ensures.keeps st

pub returns-clause-did : goal.returns-clause-did
returns-clause-did c = λ sizes w book r rs st. let e = c.args.self.now in let t = c.noted-grown.ensures in
    moves_did sizes _ _ w _ _ (noting_moves e.readings.frames e.input.builds r rs st.readings.frames)
    (feeds_did sizes e c.noted-grown.new.self c.noted-grown.result Noted t.stands t.shallow t.beneath t.listed t.size book r rs st c.take.new.self w c.in_default.ensures.ok c.in_default.ensures.fits)

pub returns-in-Err-clause-refused : goal.returns-in-Err-clause-refused
returns-in-Err-clause-refused c = λ sizes w book r rs st. let e = c.args.self.now in let t = c.noted-grown.ensures in
    subst (λ (x : Stack). CutsIn sizes (state_of e (with_work (r ∷ rs) book)) (record c.take.new.self { readings = x }) w w (noting r) (broken.Full c.in-Err.full)) (sym c.restore.ensures)
    (moves_in sizes _ _ w _ _ _ (noting_moves e.readings.frames e.input.builds r rs st.readings.frames)
    (feeds_cut sizes e c.noted-grown.new.self c.noted-grown.result Noted t.stands t.shallow t.beneath t.listed t.size book r rs st c.frame_at_risk-kept.result c.take.new.self c.in-Err.full w c.frame_at_risk-kept.ensures t.rest t.count c.take.ensures.keeps c.in-Err.ensures.err))
