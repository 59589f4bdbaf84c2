-- A list is asked in front of the other readings.
use Rattle.std.proofs.Common.{◌∙◌, Option, reverse, sym, ap}
use Rattle.reading_frames.specs.Views.{Lists, top_list}
use Rattle.reading_frames.specs.Stack.{Stack, frames_of}
use Rattle.reading_frames.specs.declared.frame.Frame.{Frame}
use Rattle.reading_frames.proofs.Stacks.{build_stands}
use Rattle.reading_frames.proofs.readings.Readings.ask.Goals as goal

pub returns-in-Build-clause-stands : goal.returns-in-Build-clause-stands
returns-in-Build-clause-stands c =
    build_stands c.args.self.now.frames (reverse c.self.inside.beneath.items) c.in-Some.frame c.in-Build.scan c.of_list.result
    (sym (ap (λ (s : Stack). s.frames) c.self.view_is) ∙ ap (λ (o : Option Frame). frames_of o (reverse c.self.inside.beneath.items)) c.in-Some.is) c.in-Build.is
    (λ (held : Lists). c.of_list.ensures.is held ∙ c.ask.ensures (top_list held))
