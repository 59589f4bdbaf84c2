-- What becomes of a token that isn't expanded.
use Rattle.std.proofs.Common.{◌≡◌, List, [], ◌∷◌, refl, sym, ap, subst, ◌∙◌, Bool, true, false}
use Rattle.std.specs.Prelude.{Option, None, Some, Result, Ok, Err, IfOk, if◌then◌else◌}
use Rattle.tex_syntax.specs.declared.words.Want.{Want}
use Rattle.tex_syntax.specs.declared.words.Want.TheVariants as want
use Rattle.tex_defs.specs.declared.Meaning.{Meaning}
use Rattle.tex_defs.specs.declared.Meaning.TheVariants as means
use Rattle.tex_defs.specs.declared.Seen.{Seen}
use Rattle.tex_defs.specs.declared.Sizes.{Sizes}
use Rattle.tex_defs.specs.declared.Token.{Token}
use Rattle.tex_defs.specs.Places.{World}
use Rattle.rows.specs.Readings.{Ask, More}
use Rattle.plain_readings.specs.Readings.{Reading}
use Rattle.reading_frames.specs.Views.{Lists}
use Rattle.reading_frames.specs.Stack.{asks_in}
use Rattle.reading_frames.specs.Frames as frames
use Rattle.reading_frames.specs.Frames.{OpenCall}
use Rattle.reading_frames.specs.declared.frame.Frame.{Frame}
use Rattle.plain_machine.specs.declared.broken.Broken.{Broken}
use Rattle.plain_machine.specs.States.{State, Move}
use Rattle.plain_machine.specs.Plan.{Page, expansion, expanded, expanded_as, command}
use Rattle.input_state.specs.Callings.{Calling, NotCalling, Gathering, Stopped, Gathered, call_in}
use Rattle.macro_call.specs.PlainScans.{resume_scan}
use Rattle.plain_tokens.specs.Arguments.{Called}
use Rattle.plain_tokens.specs.Meanings.{is_expandable}
use Rattle.engine_state.specs.Calls.{AllStand, ended_answer, open_call_of}
use Rattle.engine_state.specs.declared.engine.Engine.{Engine}
use Rattle.engine_state.specs.declared.outcome.Next.{Next}
use Rattle.engine_state.specs.declared.outcome.Ruled.{Ruled}
use Rattle.engine_state.specs.declared.outcome.Ruled.TheVariants.{Step, Free, Halted}
use Rattle.engine_state.specs.Book.{Book, with_work}
use Rattle.engine_state.specs.Stands.{state_of, page_of}
use Rattle.engine_state.specs.Steps.{IsFree, IsHalted, NextStepsIf, StepsIf, asked_by, asks_now}
use Rattle.gullet.specs.Stepping.{Stays}
use Rattle.engine_state.specs.Rules.{onward_of, feeds_of, Takes, Comes, DoesRule, DoesOnward}
use Rattle.engine_state.proofs.Coming.{comes_went, comes_halts}
use Rattle.gullet.proofs.Stepping.{no}
use Rattle.stomach.specs.Obeying.{is_dropped}

-- A TOKEN THAT STAYS

unexpanded_as : (page : Page) (t : Token) (m : Meaning Unit) (moves : List Move) → is_expandable m ≡ false → expanded_as page t m moves ≡ moves
unexpanded_as page t means.Undefined moves is = no (sym is)
unexpanded_as page t (means.Macro long outer list) moves is = no (sym is)
unexpanded_as page t (means.Prim n) moves is = ap (λ (b : Bool). if b then expansion page t n else moves) is
unexpanded_as page t means.RelaxMarked moves is = refl
unexpanded_as page t (means.Char category code) moves is = refl
unexpanded_as page t (means.CharGiven n) moves is = refl
unexpanded_as page t (means.MathGiven n) moves is = refl
unexpanded_as page t (means.Register r n) moves is = refl

module _ (page : Page) (work : List Reading) (x : Seen) where
  unexpanded : (moves : List Move) → is_expandable x.meaning ≡ false → expanded page x moves ≡ moves
  unexpanded moves is = unexpanded_as page x.token x.meaning moves is

  -- where no reading is open it is obeyed
  pub obeyed_moves : Stays None x → onward_of page None work x ≡ command page x.token x.meaning
  obeyed_moves stays = unexpanded (command page x.token x.meaning) stays

  abbrev feeds : List Move
  feeds = feeds_of work x

  -- and else it is fed, if it isn't dropped
  pub fed_moves : (w : Want) → is_dropped w x ≡ false → Stays (Some w) x → onward_of page (Some w) work x ≡ feeds_of work x
  fed_moves want.Raw is stays = refl
  fed_moves want.Unentered is stays = refl
  fed_moves want.Expanded is stays = unexpanded feeds stays
  fed_moves want.Copied is stays = unexpanded feeds stays
  fed_moves want.Nonblank is stays = ap (λ (b : Bool). if b then [] else expanded page x feeds) is ∙ unexpanded feeds stays
  fed_moves want.Command is stays = ap (λ (b : Bool). if b then [] else expanded page x feeds) is ∙ unexpanded feeds stays

-- A READING IS FED

no_call_open : (c : OpenCall) (fs : List Frame) (held : Lists) → frames.AreFramesOf (Some c) fs held [] → ⊥
no_call_open c [] held st = st
no_call_open c (f ∷ fs) held st = st

-- where none is open, nothing is asked for
no_reading : (k : Calling) (text : List Token) (fs : List Frame) (held : Lists) (a : Ask) → frames.AreFramesOf (open_call_of text k) fs held [] → asked_by (call_in k) k (asks_in fs held) ≡ Some a → ⊥
no_reading NotCalling text [] held a st is = cc
no_reading NotCalling text (f ∷ fs) held a st is = st
no_reading (Gathering name scan) text fs held a st is = no_call_open (record { name = name; text = text; answers = resume_scan text scan }) fs held st
no_reading (Stopped name why scan) text fs held a st is = no_call_open (record { name = name; text = text; answers = λ fed. ended_answer why scan }) fs held st
no_reading (Gathered name args) text fs held a st is = no_call_open (record { name = name; text = text; answers = λ fed. Called args }) fs held st

module _ (sizes : Sizes) (e : Engine) where
  -- the one that wants a token is the innermost
  pub feeds_innermost : (w : Want) (x : Seen) (P : Book → List Move → Type 0) →
      ((book : Book) (r : Reading) (rs : List Reading) → asks_now e ≡ Some (More w) → AllStand sizes e (with_work (r ∷ rs) book) → P (with_work (r ∷ rs) book) (feeds_of (r ∷ rs) x)) →
      (book : Book) → Takes sizes (Some w) e book → P book (feeds_of book.work x)
  feeds_innermost w x P h book t = at book.work t.1 where
    at : (work : List Reading) → AllStand sizes e (with_work work book) → P (with_work work book) (feeds_of work x)
    at [] st = absurd (no_reading e.input.call st.all.readings.text e.readings.frames e.input.builds (More w) st.all.readings.frames.frames t.0)
    at (r ∷ rs) st = h book r rs t.0 st

-- BEHIND THE STEP

module _ (sizes : Sizes) (want : Option Want) (s : State) (e1 e2 : Engine) (book : Book) (w v w' : World) (moves : List Move) (x : Seen) (c : Comes sizes want s e1 book w v moves x 1) where
  pub rule_on : (ruled : Ruled) → (IsHalted ruled → e1.input.call ≡ NotCalling) → DoesOnward sizes (state_of e1 c.book') e2 c.book' v w' (onward_of (page_of e1 c.book') want c.book'.work x) ruled → DoesRule sizes s e2 book w w' moves ruled
  rule_on Step none h = comes_went sizes want s e1 e2 book w v w' moves x 1 c 0 h
  rule_on Free none h = absurd h
  rule_on (Halted o) none h = comes_halts sizes want s e1 e2 book w v w' moves x 1 c o 0 (none tt) h

-- whether there was a step
pub next_counts : (b : Bool) (n m : Next) → n ≡ m → NextStepsIf n b → NextStepsIf m b
next_counts b n m is h = subst (λ (x : Next). NextStepsIf x b) is h

pub stepped_steps : (r : Result Ruled Broken) (b : Bool) → b ≡ true → IfOk r (λ ruled. IsFree ruled → ⊥) → IfOk r (λ ruled. StepsIf ruled b)
stepped_steps (Ok Step) b is h = is
stepped_steps (Ok Free) b is h = absurd (h tt)
stepped_steps (Ok (Halted o)) b is h = tt
stepped_steps (Err x) b is h = tt
