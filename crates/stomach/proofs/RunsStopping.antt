-- An engine that has noted whether it has stopped stands for the same moment of a run.
use Rattle.std.proofs.Common.{ℕ, List}
use Rattle.std.specs.Prelude.{Bool, Result, Ok, Err, MatchResult}
use Rattle.tex_defs.specs.declared.Sizes.{Sizes}
use Rattle.tex_defs.specs.Places.{World}
use Rattle.plain_readings.specs.Readings.{Reading}
use Rattle.plain_machine.specs.States.{State}
use Rattle.world_io.specs.Contents.{SinkTold}
use Rattle.engine_state.specs.declared.engine.Engine.{Engine}
use Rattle.engine_state.specs.Calls.{FramesOf}
use Rattle.engine_state.proofs.CallKept.{frames_still}
use Rattle.engine_state.proofs.Stopping.{noted, noted_same, noted_counts, noted_near, noted_stands}
use Rattle.line_reader.specs.Readers.{OpenReaders}
use Rattle.plain_machine.specs.Extended.{Rests}
use Rattle.stomach.specs.declared.early.Early.{Early}
use Rattle.stomach.specs.declared.early.Early.TheVariants as early
use Rattle.stomach.specs.declared.runs.Ended.{Ended}
use Rattle.stomach.specs.declared.runs.Ended.TheVariants as ended
use Rattle.stomach.specs.Ahead.{Lacks, LacksLine, LacksFirst}
use Rattle.stomach.specs.Ran.{IsUnread, ForLine, ForFile, IsEnd, IsAt, EndsAs, Ran, StoppedBy, RanTo, StoppedTo}

pub match_to : {T E : Type 0} {P P' : T → Type 0} {Q Q' : E → Type 0} → (r : Result T E) → ((x : T) → P x → P' x) → ((y : E) → Q y → Q' y) → MatchResult r P Q → MatchResult r P' Q'
match_to (Ok x) f g h = f x h
match_to (Err y) f g h = g y h

frames_noted : (b : Bool) (e : Engine) (work : List Reading) → FramesOf e work → FramesOf (noted b e) work
frames_noted b e work h = frames_still e (noted b e) work (noted_same b e) h

module _ (b : Bool) (e' : Engine) (left : Rests) (t : State) where
  end_noted : IsEnd e' left t → IsEnd (noted b e') left t
  end_noted h = record { book' = h.book'; frames = frames_noted b e' h.book'.work h.frames; same = h.same }

  at_noted : (sizes : Sizes) → IsAt sizes e' left t → IsAt sizes (noted b e') left t
  at_noted sizes h = record { book' = h.book'; stands = noted_stands b sizes e' h.book' h.stands; same = h.same }

  ends_noted : (sizes : Sizes) (x : Ended) → EndsAs sizes x e' left t → EndsAs sizes x (noted b e') left t
  ends_noted sizes (ended.Halted o) h = (h.0, (noted_counts b o t e' h.1.0, end_noted h.1.1))
  ends_noted sizes ended.Steps h = at_noted sizes h

lacks_noted : (b : Bool) (e : Engine) → Lacks e → Lacks (noted b e)
lacks_noted b e (LacksLine none wants needs) = LacksLine none wants needs
lacks_noted b e (LacksFirst needs) = LacksFirst needs

unread_noted : (b : Bool) (e : Engine) (t : State) → IsUnread e t → IsUnread (noted b e) t
unread_noted b e t (ForLine none lacks) = ForLine none (lacks_noted b e lacks)
unread_noted b e t (ForFile name u goes) = ForFile name u goes

module _ (b : Bool) (sizes : Sizes) (s : State) (n : ℕ) (e' : Engine) (left : Rests) (w w' : World) where
  run_noted : (x : Ended) → Ran sizes s n e' left w w' x → Ran sizes s n (noted b e') left w w' x
  run_noted x h = record { ms = h.ms; t = h.t; run = h.run; ends = ends_noted b e' left h.t sizes x h.ends; written = h.written }

  by_noted : (x : Early) → StoppedBy sizes s n e' left w w' x → StoppedBy sizes s n (noted b e') left w w' x
  by_noted (early.Broken x) h = record { t = h.t; cut = h.cut; book' = h.book'; frames = noted_near b x e' h.book' h.frames; same = h.same }
  by_noted (early.Unread fault) h = record { t = h.t; read = h.read; at = at_noted b e' left h.t sizes h.at; unread = unread_noted b e' h.t h.unread }

module _ (b : Bool) (rs : OpenReaders) (e e' : Engine) (before after : SinkTold) (n : ℕ) where
  pub ran_noted : (x : Ended) (all left : Rests) → RanTo rs e before e' after n x all left → RanTo rs e before (noted b e') after n x all left
  ran_noted x all left h = λ sizes f book st tied. run_noted b sizes _ n e' left _ _ x (h sizes f book st tied)

  pub stopped_noted : (x : Early) (all left : Rests) → StoppedTo rs e before e' after n x all left → StoppedTo rs e before (noted b e') after n x all left
  stopped_noted x all left h = λ sizes f book st tied. by_noted b sizes _ n e' left _ _ x (h sizes f book st tied)
