-- The innermost is read itself, or skips text.
use Rattle.std.proofs.Common.{reverse, Option, sym, ap, ◌∙◌}
use Rattle.reading_frames.specs.Stack.{Stack, frames_of, found_in}
use Rattle.reading_frames.specs.declared.frame.Frame.{Frame}
use Rattle.reading_frames.proofs.Scanning.{first_found}
use Rattle.reading_frames.proofs.readings.Readings.scanned.Goals as goal

pub returns-in-Some-scanned-clause-is : goal.returns-in-Some-scanned-clause-is
returns-in-Some-scanned-clause-is c =
    sym
    (sym (ap (λ (s : Stack). found_in s.frames) c.self.view_is)
    ∙ ap (λ (o : Option Frame). found_in (frames_of o (reverse c.self.inside.beneath.items))) c.in-Some.is
    ∙ first_found c.in-Some.frame (reverse c.self.inside.beneath.items) c.in-Some-scanned.found (sym c.if-is_unguarded.ensures) (sym c.in-Some-scanned.ensures))
