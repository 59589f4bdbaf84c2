use Rattle.std.proofs.Common.{[], length, ◌∙◌}
use Rattle.std.specs.Prelude.{Some, None}
use Rattle.plain_readings.specs.Readings.{lists, opened}
use Rattle.reading_frames.specs.Views.{reading_kind}
use Rattle.reading_frames.specs.Frames.{opened_lists}
use Rattle.engine_state.proofs.ReadingsOpened.{begun_refusal, opened_words, opens, words_of}
use Rattle.engine_state.proofs.engine.Engine.begin.Goals as goal

pub returns-in-Err-begin_list-clause-refused : goal.returns-in-Err-begin_list-clause-refused
returns-in-Err-begin_list-clause-refused c = λ sizes book counts. let e = c.args.self.now in let o = c.args.opening in
    begun_refusal sizes e book (lists (reading_kind o) []) (length (opened_lists o [])) (Some c.in-Err-begin_list.full) counts c.in_default.ensures.room
    (words_of (lists (reading_kind o) []) (opened_lists o []) (c.in_default.ensures.lists []) ∙ opened_words o) c.in-Err-begin_list.ensures.refused

pub returns-clause-fits : goal.returns-clause-fits
returns-clause-fits c = λ sizes book counts. let e = c.args.self.now in let o = c.args.opening in
    begun_refusal sizes e book (lists (reading_kind o) []) (length (opened_lists o [])) None counts c.in_default.ensures.room
    (words_of (lists (reading_kind o) []) (opened_lists o []) (c.in_default.ensures.lists []) ∙ opened_words o) c.in_default-begin_list.ensures.fits

pub returns-clause-stands : goal.returns-clause-stands
returns-clause-stands c = λ sizes book st. let e = c.args.self.now in let o = c.args.opening in let b = c.in_default.ensures in
    opens sizes e c.begin_list.new.self book (opened (reading_kind o) book.work) c.begin.new.self (opened_lists o e.input.builds) c.in_default-begin_list.ensures.ok b.size c.begin_list.ensures.keeps
    (b.begins e.input.builds book.work st.readings.frames) (b.shallow e.input.builds st.readings.shallow) st
