-- The innermost goes on with less.
use Rattle.std.proofs.Common.{reverse, sym, ap, ◌∙◌}
use Rattle.std.specs.Option.{option_copied_mut}
use Rattle.reading_frames.specs.Stack.{Stack}
use Rattle.reading_frames.proofs.Weights.{innermost_falls}
use Rattle.reading_frames.proofs.readings.Readings.noted.Goals as goal

pub returns-clause-weight : goal.returns-clause-weight
returns-clause-weight c =
    innermost_falls c.args.self.now.frames c.self.inside.innermost c.in-Some.frame.now c.noted.new.self (reverse c.self.inside.beneath.items)
    (sym (ap (λ (s : Stack). s.frames) c.self.view_is)) (sym (ap option_copied_mut c.in-Some.is) ∙ c.as_mut.ensures.value) c.noted.ensures.weight
