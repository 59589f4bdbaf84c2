-- A reading that begins, and one that is fed.
use Rattle.std.specs.Prelude.{Option}
use Rattle.std.proofs.Common.{List, [], ◌∷◌, sym, ◌∙◌, append_assoc, subst, None}
use Rattle.rows.specs.Readings.{Fed}
use Rattle.plain_readings.specs.Readings.{Kind, Reading, opened, fed_with}
use Rattle.reading_frames.specs.Views.{Lists}
use Rattle.reading_frames.specs.Frames.{OpenCall, AreFramesOf, Begins, GoesOn}
use Rattle.reading_frames.specs.declared.frame.Frame.{Frame}

pub begun : (c : Option OpenCall) (k : Kind) (f : Frame) (fs : List Frame) (held new : Lists) (work : List Reading) → Begins c k f held new → AreFramesOf None fs held work → AreFramesOf c (f ∷ fs) new (opened k work)
begun c k f fs held new work b stands =
    (record { goes_on = b.asks; builds_on = b.lists_are; holds = b.holds; checks = b.checks; framed = b.framed; apart = b.apart }, subst (λ (l : Lists). AreFramesOf None fs l work) (sym b.beneath) stands)

pub fed_on : (c c' : Option OpenCall) (old new : Frame) (fs : List Frame) (held held' : Lists) (y : Fed) (work : List Reading) →
    GoesOn c c' old new held held' y → AreFramesOf c (old ∷ fs) held work → AreFramesOf c' (new ∷ fs) held' (fed_with y work)
fed_on c c' old new fs held held' y [] on stands = absurd stands
fed_on c c' old new fs held held' y (r ∷ rs) on stands = (
  record {
    goes_on = λ fed. rw append_assoc (stands.0.goes_on (y ∷ fed) ∙ on.asks fed);
    builds_on = λ fed. rw append_assoc (stands.0.builds_on (y ∷ fed) ∙ on.lists_are fed);
    holds = on.holds stands.0.holds;
    checks = stands.0.checks ∙ sym on.checks;
    framed = on.framed r.kind r.fed stands.0.framed;
    apart = on.apart stands.0.apart;
  },
  subst (λ (l : Lists). AreFramesOf None fs l rs) (sym on.beneath) stands.1,
)
