-- An engine that has noted whether it has stopped: all else is as it was.
use Rattle.std.proofs.Common.{ℕ, refl}
use Rattle.std.specs.Prelude.{Bool, List, Option}
use Rattle.tex_syntax.specs.declared.words.Outcome.TheVariants.{Finished, AtFatal}
use Rattle.tex_syntax.specs.declared.words.Outcome.{Outcome}
use Rattle.tex_syntax.specs.declared.words.Want.{Want}
use Rattle.tex_defs.specs.declared.Seen.{Seen}
use Rattle.tex_defs.specs.declared.Sizes.{Sizes}
use Rattle.tex_defs.specs.Places.{World}
use Rattle.plain_machine.specs.declared.broken.Broken.{Broken}
use Rattle.plain_machine.specs.States.{State, Move}
use Rattle.world_io.specs.Contents.{SinkTold}
use Rattle.engine_state.specs.declared.engine.Engine.{Engine}
use Rattle.engine_state.specs.declared.outcome.Next.{Next}
use Rattle.engine_state.specs.declared.outcome.Next.TheVariants as next
use Rattle.engine_state.specs.Book.{Book}
use Rattle.engine_state.specs.Calls.{AllStand}
use Rattle.engine_state.specs.CutReadings.{FramesAtCut, CutsIn}
use Rattle.engine_state.specs.Stands.{SameFrames, SameReadings}
use Rattle.engine_state.specs.Rules.{Takes, CountsReports, Went, Halts, Cuts, Comes, Nexts}
use Rattle.engine_state.specs.OneRule.{ReadsNext, CutsNext}
use Rattle.engine_state.proofs.CuttingReadings.{near_still}
use Rattle.engine_state.proofs.CallKept.{all_still}
use Rattle.engine_state.proofs.Storing.{store_same, sound_still}

-- with this noted
abbrev pub noted : Bool → Engine → Engine
noted b e = record e { stopped = b }

pub noted_same : (b : Bool) (e : Engine) → SameFrames e (noted b e)
noted_same b e = record { readings = refl; lists = refl; call = refl }

pub noted_stands : (b : Bool) (sizes : Sizes) (e : Engine) (book : Book) → AllStand sizes e book → AllStand sizes (noted b e) book
noted_stands b sizes e book st =
    all_still sizes e (noted b e) book (noted_same b e) (store_same e.input) (sound_still sizes e (noted b e) book.number book.all_lists refl refl refl refl refl (store_same e.input) st.sound) st.idle st

pub noted_frames : (b : Bool) (e e' : Engine) → SameFrames e e' → SameFrames e (noted b e')
noted_frames b e e' h = record { readings = h.readings; lists = h.lists; call = h.call }

pub noted_readings : (b : Bool) (e e' : Engine) → SameReadings e e' → SameReadings e (noted b e')
noted_readings b e e' h = record { readings = h.readings; lists = h.lists; call = h.call }

pub noted_takes : (b : Bool) (sizes : Sizes) (want : Option Want) (e : Engine) (book : Book) → Takes sizes want e book → Takes sizes want (noted b e) book
noted_takes b sizes want e book t = (t.0, noted_stands b sizes e book t.1)

pub noted_counts : (b : Bool) (o : Outcome) (t : State) (e : Engine) → CountsReports o t e → CountsReports o t (noted b e)
noted_counts b Finished t e h = h
noted_counts b (AtFatal f) t e h = h

pub noted_near : (b : Bool) (x : Broken) (e : Engine) (book : Book) → FramesAtCut x e book.work → FramesAtCut x (noted b e) book.work
noted_near b x e book h = near_still x e (noted b e) book.work (noted_same b e) h

module _ (b : Bool) (sizes : Sizes) (s : State) (e : Engine) (w w' : World) (moves : List Move) where
  pub noted_went : (k : ℕ) → Went sizes s e w w' moves k → Went sizes s (noted b e) w w' moves k
  noted_went k h = record { book' = h.book'; stands = noted_stands b sizes e h.book' h.stands; did = h.did; count = h.count }

  pub noted_halts : (book : Book) (o : Outcome) (k : ℕ) → Halts sizes s e book w w' moves o k → Halts sizes s (noted b e) book w w' moves o k
  noted_halts book o k h = record { t = h.t; did = h.did; stopped = h.stopped; due = h.due; reports = noted_counts b o h.t e h.reports; same = h.same; count = h.count }

  pub noted_cuts : (book : Book) (x : Broken) → Cuts sizes s e book w w' moves x → Cuts sizes s (noted b e) book w w' moves x
  noted_cuts book x h = record { at = h.at; cut = h.cut; same = h.same }

  pub noted_in : (x : Broken) → CutsIn sizes s e w w' moves x → CutsIn sizes s (noted b e) w w' moves x
  noted_in x h = record { book' = h.book'; cuts = noted_cuts h.book' x h.cuts; near = noted_near b x e h.book' h.near }

  pub noted_comes : (want : Option Want) (book : Book) (x : Seen) (k : ℕ) → Comes sizes want s e book w w' moves x k → Comes sizes want s (noted b e) book w w' moves x k
  noted_comes want book x k h = record { book' = h.book'; still = h.still; takes = noted_takes b sizes want e h.book' h.takes; front = h.front; did = h.did; whole = h.whole; count = h.count }

  noted_nexts : (want : Option Want) (book : Book) (n : Next) → Nexts sizes want s e book w w' moves n → Nexts sizes want s (noted b e) book w w' moves n
  noted_nexts want book (next.Token x) h = noted_comes want book x 1 h
  noted_nexts want book next.Line h = noted_went 1 h
  noted_nexts want book next.Skipped h = noted_went 0 h
  noted_nexts want book (next.Over o) h = noted_halts book o 1 h

-- ONE RULE

module _ (b : Bool) (e e' : Engine) (before after : SinkTold) where
  pub reads_noted : (enters : Bool) (n : Next) → ReadsNext enters e e' before after n → ReadsNext enters e (noted b e') before after n
  reads_noted enters n h = λ sizes f book want is takes. noted_nexts b sizes _ e' _ _ _ want book n (h sizes f book want is takes)

  pub cuts_noted : (enters : Bool) (x : Broken) → CutsNext enters e e' before after x → CutsNext enters e (noted b e') before after x
  cuts_noted enters x h = λ sizes f book want is takes. noted_in b sizes _ e' _ _ _ x (h sizes f book want is takes)
