-- The lists of the one that begins stand above those that were held.
use Rattle.std.proofs.Common.{Result, Ok, Err, [], ◌∷◌}
use Rattle.std.specs.Prelude.{OnOk}
use Rattle.plain_readings.specs.Readings.{lists}
use Rattle.reading_frames.specs.Views.{reading_kind}
use Rattle.reading_frames.specs.Frames.{opened_lists}
use Rattle.reading_frames.proofs.Whole.{whole}
use Rattle.reading_frames.proofs.readings.Readings.begin.Goals as goal

on_any : {T E : Type 0} {P : Type 0} → (r : Result T E) → P → OnOk r P
on_any (Ok x) h = h
on_any (Err e) h = tt

pub returns-clause-lists : goal.returns-clause-lists
returns-clause-lists c = on_any c.push.result (λ held.
    let b = c.begin.ensures.begins held in
    whole (c.begin.result ∷ []) (opened_lists c.args.opening held) (lists (reading_kind c.args.opening) []) held (b.lists_are []) b.holds b.beneath)
