use Rattle.std.proofs.Common.{◌∷◌, ◌≤◌, ◌+◌, ap}
use Rattle.rows.specs.Readings.{Tok}
use Rattle.input_state.specs.Stored.{words}
use Rattle.engine_state.specs.Book.{with_work}
use Rattle.engine_state.specs.declared.engine.Engine.{Engine}
use Rattle.engine_state.proofs.ReadingsFed.{feeds_stands, feeds_did, feeds_fit, feeding_moves, moves_did, many_groups}
use Rattle.engine_state.proofs.engine.Engine.feed_frame.Goals as goal

pub returns-then-not-has_few_groups-clause-stands : goal.returns-then-not-has_few_groups-clause-stands
returns-then-not-has_few_groups-clause-stands c = λ sizes book st.
    many_groups sizes c.args.self.now book c.words-used.result c.words-used.ensures.is c.words-used.type_inv st c.if-not-has_few_groups.ensures

pub returns-then-not-has_few_groups-clause-did : goal.returns-then-not-has_few_groups-clause-did
returns-then-not-has_few_groups-clause-did c = λ sizes w book r rs st.
    many_groups sizes c.args.self.now (with_work (r ∷ rs) book) c.words-used.result c.words-used.ensures.is c.words-used.type_inv st c.if-not-has_few_groups.ensures

pub returns-clause-stands : goal.returns-clause-stands
returns-clause-stands c = λ sizes book st. let e = c.args.self.now in let t = c.feed-grown.ensures in
    feeds_stands sizes e c.feed-grown.new.self c.feed-grown.result (Tok c.args.x) t.stands t.shallow t.beneath t.listed t.size (record c.take.new.self { last = c.args.x }) book
    (ap (λ (x : Engine). record x { last = c.args.x }) c.in_default.ensures.ok) c.take.ensures.keeps st

pub returns-clause-did : goal.returns-clause-did
returns-clause-did c = λ sizes w book r rs st. let e = c.args.self.now in let t = c.feed-grown.ensures in
    moves_did sizes _ _ w _ _ (feeding_moves e.readings.frames e.input.builds r rs c.args.x st.readings.frames)
    (feeds_did sizes e c.feed-grown.new.self c.feed-grown.result (Tok c.args.x) t.stands t.shallow t.beneath t.listed t.size book r rs st (record c.take.new.self { last = c.args.x }) w
    (ap (λ (x : Engine). record x { last = c.args.x }) c.in_default.ensures.ok) c.in_default.ensures.fits)

pub returns-in-Err-clause-refused : goal.returns-in-Err-clause-refused
returns-in-Err-clause-refused c = λ sizes w book r rs st. let e = c.args.self.now in let t = c.feed-grown.ensures in
    let room : words e.input + 2 ≤ e.sizes.main_memory_size = c.if-not-has_room.ensures in
    feeds_fit sizes e c.feed-grown.new.self c.feed-grown.result (Tok c.args.x) t.stands t.shallow t.beneath t.listed t.size book r rs st c.take.new.self c.in-Err.full room c.take.ensures.keeps c.in-Err.ensures.err
