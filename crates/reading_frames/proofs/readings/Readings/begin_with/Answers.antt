use Rattle.std.proofs.Common.{[], ◌∷◌, ◌∙◌, arith}
use Rattle.rows.specs.Readings.{Tok}
use Rattle.plain_readings.specs.Readings.{lists}
use Rattle.reading_frames.specs.Views.{reading_kind, on_top}
use Rattle.reading_frames.specs.Frames.{opened_lists}
use Rattle.reading_frames.proofs.Whole.{whole, opened_list}
use Rattle.reading_frames.proofs.readings.Readings.begin_with.Goals as goal

pub returns-in-Ok-clause-lists : goal.returns-in-Ok-clause-lists
returns-in-Ok-clause-lists c = λ held.
    let b = c.in-Ok.ensures in
    let f = c.feed.ensures in
    let o = opened_lists c.args.opening held in
    whole c.feed.new.self.frames (on_top c.feed.result o) (lists (reading_kind c.args.opening) (Tok c.args.x ∷ [])) held
    (b.builds held (Tok c.args.x ∷ []) ∙ f.built o) (f.holds o (b.holds held)) (f.beneath o ∙ b.beneath held)

pub returns-in-Ok-clause-listed : goal.returns-in-Ok-clause-listed
returns-in-Ok-clause-listed c = λ some held. opened_list c.args.opening held (omega (arith, c.feed.ensures.listed some, c.in-Ok.ensures.holds []))
