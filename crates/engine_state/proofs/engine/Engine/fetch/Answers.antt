-- The frame is fed with what stands at the location, and no list changes.
use Rattle.std.proofs.Common.{◌≡◌, sym, subst, ◌∙◌, refl, rules, None}
use Rattle.equivalents.specs.Locations.{SeenValue, value_seen}
use Rattle.equivalents.specs.Tables.{get}
use Rattle.rows.specs.Readings.{Fetched}
use Rattle.plain_readings.specs.Readings.{fed_with}
use Rattle.plain_machine.proofs.GroupNumbers.{fetched_same}
use Rattle.reading_frames.specs.Frames as frames
use Rattle.engine_state.specs.declared.engine.Engine.{Engine}
use Rattle.engine_state.specs.Stands.{SameBut, page_of}
use Rattle.engine_state.proofs.FramesHeld.{stands_new}
use Rattle.engine_state.proofs.engine.Engine.fetch.Goals as goal

pub returns-clause-stands : goal.returns-clause-stands
returns-clause-stands c = λ sizes book st.
    let e : Engine = c.args.self.now in let e' : Engine = record e { readings = c.fetched.new.self } in
    let is : value_seen (get e.input.groups.now c.args.loc) ≡ value_seen (get (page_of e book).now c.args.loc) = sym (fetched_same book.number e.input.groups.now c.args.loc) in
    let same : SameBut e e' = search rules in
    stands_new sizes e e' book (fed_with (Fetched (value_seen (get (page_of e book).now c.args.loc))) book.work) c.fetched.new.self.frames e.input.builds same refl refl st
    (subst (λ (v : SeenValue). frames.AreFramesOf None c.fetched.new.self.frames e.input.builds (fed_with (Fetched v) book.work)) (c.value-value.ensures ∙ is)
    (c.fetched.ensures.stands e.input.builds book.work st.readings.frames))
    (c.fetched.ensures.shallow e.input.builds st.readings.shallow)
