-- The stack with its innermost frame first.
use Rattle.std.proofs.Common.{◌≡◌, ◌∙◌, List, [], ◌∷◌, Option, Some, None, reverse, length, refl, sym, ap}
use Rattle.std.specs.Prelude.{IfSome}
use Rattle.tex_syntax.specs.declared.words.Want.{Want}
use Rattle.std.proofs.lemmas.List.{append-nil, length-reverse}
use Rattle.plain_readings.specs.Readings.{Reading, ask}
use Rattle.reading_frames.specs.Views.{Lists, ask_of}
use Rattle.reading_frames.specs.Resumes.{resume}
use Rattle.reading_frames.specs.Frames.{AreFramesOf}
use Rattle.reading_frames.specs.Stack.{asks_in, asked_in}
use Rattle.reading_frames.specs.declared.ask.Ask.{Ask}
use Rattle.reading_frames.specs.declared.ask.Ask.TheVariants as asks
use Rattle.reading_frames.specs.declared.text.BuildScan.{BuildScan}
use Rattle.reading_frames.specs.declared.frame.Frame.{Frame}
use Rattle.reading_frames.specs.declared.frame.Frame.TheVariants.{Build}

pub count_reversed : (fs : List Frame) → length (reverse fs) ≡ length fs
count_reversed fs = length-reverse fs

-- the innermost asks for what the reading asks for which it stands
asks_stand : (fs : List Frame) (held : Lists) (work : List Reading) → AreFramesOf None fs held work → asks_in fs held ≡ asked_in work
asks_stand [] held [] st = refl
asks_stand [] held (r ∷ rs) st = absurd st
asks_stand (f ∷ fs) held [] st = absurd st
asks_stand (f ∷ fs) held (r ∷ rs) st = ap Some (sym (st.0.goes_on []) ∙ ap (ask r.kind) (append-nil r.fed))

pub build_stands : (fs beneath : List Frame) (f : Frame) (scan : BuildScan) (a : Ask) → fs ≡ f ∷ beneath → f ≡ Build scan → ((held : Lists) → ask_of held a ≡ resume (Build scan) held []) →
    (held : Lists) (work : List Reading) → AreFramesOf None fs held work → Some (ask_of held a) ≡ asked_in work
build_stands fs beneath f scan a is at asks held work st =
    ap Some (asks held) ∙ (sym (ap (λ (x : List Frame). asks_in x held) (is ∙ ap (λ (x : Frame). x ∷ beneath) at)) ∙ asks_stand fs held work st)

-- so it is with what a body wants
pub body_stands : (fs beneath : List Frame) (f : Frame) (scan : BuildScan) (o : Option Want) → fs ≡ f ∷ beneath → f ≡ Build scan → IfSome o (λ want. (held : Lists) → ask_of held (asks.More want) ≡ resume (Build scan) held []) →
    IfSome o (λ want. (held : Lists) (work : List Reading) → AreFramesOf None fs held work → Some (ask_of held (asks.More want)) ≡ asked_in work)
body_stands fs beneath f scan None is at h = tt
body_stands fs beneath f scan (Some want) is at h = build_stands fs beneath f scan (asks.More want) is at h
