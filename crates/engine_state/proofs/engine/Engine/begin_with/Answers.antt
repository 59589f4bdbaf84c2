use Rattle.std.proofs.Common.{◌≡◌, ◌+◌, [], ◌∷◌, length, ◌∙◌, sym}
use Rattle.std.specs.Prelude.{Some, None}
use Rattle.rows.specs.Readings.{Tok}
use Rattle.plain_readings.specs.Readings.{lists, opened_with}
use Rattle.reading_frames.specs.Views.{reading_kind, on_top}
use Rattle.reading_frames.specs.Resumes.{token_count}
use Rattle.reading_frames.specs.Frames.{opened_lists}
use Rattle.engine_state.proofs.ReadingsOpened.{begun_refusal, begun_words, none_of, opens, opens_state, own_sizes, words_of, by_stack, frames_over, shallow_over}
use Rattle.engine_state.proofs.engine.Engine.begin_with.Goals as goal

pub returns-in-Some-clause-refused : goal.returns-in-Some-clause-refused
returns-in-Some-clause-refused c = λ sizes book counts. let e = c.args.self.now in let o = c.args.opening in let g = c.in-Ok.grown in let b = c.in-Ok.ensures in
    begun_refusal sizes e book (lists (reading_kind o) (Tok e.last ∷ [])) (length (opened_lists o []) + token_count g) (Some c.in-Some.full) counts c.in-Ok.ensures.room
    (words_of (lists (reading_kind o) (Tok e.last ∷ [])) (on_top g (opened_lists o [])) (b.lists []) ∙ begun_words o g b.listed)
    (own_sizes sizes e book (length (opened_lists o []) + token_count g) (Some c.in-Some.full) counts (sym c.list_refusal.ensures ∙ c.in-Some.is))

pub returns-clause-fits : goal.returns-clause-fits
returns-clause-fits c = λ sizes book counts. let e = c.args.self.now in let o = c.args.opening in let g = c.in-Ok.grown in let b = c.in-Ok.ensures in
    begun_refusal sizes e book (lists (reading_kind o) (Tok e.last ∷ [])) (length (opened_lists o []) + token_count g) None counts c.in-Ok.ensures.room
    (words_of (lists (reading_kind o) (Tok e.last ∷ [])) (on_top g (opened_lists o [])) (b.lists []) ∙ begun_words o g b.listed)
    (own_sizes sizes e book (length (opened_lists o []) + token_count g) None counts (sym c.list_refusal.ensures ∙ none_of c.list_refusal.result c.in_default.not-Some))

pub returns-clause-stands : goal.returns-clause-stands
returns-clause-stands c = λ sizes book st. let e = c.args.self.now in let o = c.args.opening in let g = c.in-Ok.grown in let b = c.in-Ok.ensures in let l = c.begin_grown.ensures in
    let grows : c.begin_grown.new.self.input.builds ≡ on_top g (opened_lists o e.input.builds) = l.grows sizes book (by_stack sizes e book c.begin_with.new.self b.size st.sound) st.uncalled b.listed (sym c.list_refusal.ensures ∙ none_of c.list_refusal.result c.in_default.not-Some) in
    opens sizes e c.begin_grown.new.self book (opened_with (reading_kind o) (Tok e.last) book.work) c.begin_with.new.self c.begin_grown.new.self.input.builds l.only b.size l.keeps
    (frames_over c.begin_with.new.self.frames (on_top g (opened_lists o e.input.builds)) c.begin_grown.new.self.input.builds (opened_with (reading_kind o) (Tok e.last) book.work) grows (b.begins e.input.builds book.work st.readings.frames))
    (shallow_over c.begin_with.new.self.frames (on_top g (opened_lists o e.input.builds)) c.begin_grown.new.self.input.builds grows (b.shallow e.input.builds st.readings.shallow)) st

pub returns-clause-state : goal.returns-clause-state
returns-clause-state c = λ sizes book st. let e = c.args.self.now in let o = c.args.opening in let g = c.in-Ok.grown in let b = c.in-Ok.ensures in let l = c.begin_grown.ensures in
    let grows : c.begin_grown.new.self.input.builds ≡ on_top g (opened_lists o e.input.builds) = l.grows sizes book (by_stack sizes e book c.begin_with.new.self b.size st.sound) st.uncalled b.listed (sym c.list_refusal.ensures ∙ none_of c.list_refusal.result c.in_default.not-Some) in
    opens_state sizes e c.begin_grown.new.self book (opened_with (reading_kind o) (Tok e.last) book.work) c.begin_with.new.self (lists (reading_kind o) (Tok e.last ∷ [])) c.begin_grown.new.self.input.builds l.only b.size l.keeps
    (frames_over c.begin_with.new.self.frames (on_top g (opened_lists o e.input.builds)) c.begin_grown.new.self.input.builds (opened_with (reading_kind o) (Tok e.last) book.work) grows (b.begins e.input.builds book.work st.readings.frames))
    (shallow_over c.begin_with.new.self.frames (on_top g (opened_lists o e.input.builds)) c.begin_grown.new.self.input.builds grows (b.shallow e.input.builds st.readings.shallow)) st (b.lists e.input.builds ∙ sym grows)
