-- A rule of the frames is by what the innermost asks for.
use Rattle.std.proofs.Common.{◌≡◌, List, [], ◌∷◌, refl, sym, ap, ◌∙◌, subst, Bool, true, false}
use Rattle.std.specs.Prelude.{Option, Some, None, ◌&&◌}
use Rattle.tex_syntax.specs.declared.words.Want.{Want}
use Rattle.tex_defs.specs.declared.Sizes.{Sizes}
use Rattle.plain_tokens.specs.Pending.{pulled}
use Rattle.rows.specs.declared.command.Call.{Call as Command}
use Rattle.rows.specs.declared.command.Effect.{Effect}
use Rattle.rows.specs.declared.command.Effect.TheVariants as effect
use Rattle.rows.specs.Readings as reading
use Rattle.tex_defs.specs.declared.Token.{Token}
use Rattle.plain_readings.specs.Readings.{Reading, ask}
use Rattle.plain_readings.specs.Weights.{IsNoted}
use Rattle.reading_frames.specs.Views.{Lists, ask_of, kept_list_of}
use Rattle.reading_frames.specs.Stack.{asked_in, asked_of, asks_in}
use Rattle.reading_frames.specs.Weights.{IsReported}
use Rattle.reading_frames.specs.declared.ask.Ask.{Ask}
use Rattle.reading_frames.specs.declared.ask.Ask.TheVariants as asks
use Rattle.plain_machine.specs.declared.broken.Broken.{Broken}
use Rattle.plain_machine.specs.States.{Move, Files}
use Rattle.plain_machine.specs.Plan.{Page, acts_in, acts_on, answered}
use Rattle.plain_machine.specs.Extended.{starts}
use Rattle.world_io.specs.Contents.{FilesTold, SinkTold}
use Rattle.input_state.specs.Reads.{gives_step}
use Rattle.input_state.specs.declared.answer.Call.{Call}
use Rattle.input_state.specs.Callings.{NotCalling, call_in, Calling}
use Rattle.engine_state.specs.declared.engine.Engine.{Engine}
use Rattle.engine_state.specs.declared.outcome.Ruled.{Ruled}
use Rattle.engine_state.specs.Book.{Book, with_work}
use Rattle.engine_state.specs.CutReadings.{CutsIn}
use Rattle.engine_state.specs.Rules.{WantsHere, Takes, world_of, plan_of, next_moves}
use Rattle.engine_state.specs.Stands.{Stands, state_of}
use Rattle.engine_state.specs.Steps.{asked, asks_more, asks_start, stepping, asks_bare, asks_now, asked_by, wants_token}
use Rattle.engine_state.proofs.CallsIn.{uncalled_reported}
use Rattle.engine_state.proofs.Uncalled.{all_of}
use Rattle.stomach.specs.declared.innermost.Innermost.{Innermost}
use Rattle.stomach.specs.declared.innermost.Innermost.TheVariants as innermost
use Rattle.stomach.specs.Innermost.{AsksFor, ReadingsAsk, IsAsked, IsInnermost, ask_wants, frame_wants, innermost_wants, ask_opens, frame_opens, innermost_opens}
use Rattle.stomach.specs.Halting.{DoesRuleIn}
use Rattle.stomach.proofs.Unread.{call_more, call_starts}

-- WHAT THE INNERMOST READING ASKS FOR

pub call_innermost : (e : Engine) (i : Innermost) (c : Call) → i ≡ innermost.Call c → IsInnermost e i → call_in e.input.call ≡ Some c
call_innermost e i c is h = subst (λ (x : Innermost). IsInnermost e x) is h

pub frame_innermost : (e : Engine) (i : Innermost) (a : Option Ask) → i ≡ innermost.Frame a → IsInnermost e i → (e.input.call ≡ NotCalling) × IsAsked e a
frame_innermost e i a is h = subst (λ (x : Innermost). IsInnermost e x) is h

pub asked_is : (e : Engine) (a b : Option Ask) → a ≡ b → IsAsked e a → IsAsked e b
asked_is e a b is h = subst (λ (x : Option Ask). IsAsked e x) is h

-- whether that is a token
wants_of : (held : Lists) (x : Ask) → asks_more (ask_of held x) ≡ ask_wants x
wants_of held (asks.More want) = refl
wants_of held x = refl

wants_frame : (held : Lists) (a : Option Ask) → wants_token (asked_of held a) ≡ frame_wants a
wants_frame held None = refl
wants_frame held (Some x) = wants_of held x

pub wants_same : (e : Engine) (i : Innermost) → IsInnermost e i → innermost_wants i ≡ wants_token (asks_now e)
wants_same e (innermost.Call c) h = call_more c.name c.ask NotCalling e.input.call ∙ sym (ap (λ (o : Option Call). wants_token (asked_by o e.input.call (asked e))) h)
wants_same e (innermost.Frame a) h =
    sym (wants_frame e.input.builds a) ∙ (ap wants_token (h.1.asks e.input.builds) ∙ sym (ap (λ (k : Calling). wants_token (asked_by (call_in k) k (asked e))) h.0))

-- and whether that a file be opened
opens_of : (held : Lists) (x : Ask) → starts (ask_of held x) ≡ ask_opens x
opens_of held (asks.ActsOn c (effect.StartInput back) listed) = refl
opens_of held x = refl

opens_frame : (held : Lists) (a : Option Ask) → asks_start (asked_of held a) ≡ frame_opens a
opens_frame held None = refl
opens_frame held (Some x) = opens_of held x

pub opens_same : (e : Engine) (i : Innermost) → IsInnermost e i → innermost_opens i ≡ asks_start (asks_now e)
opens_same e (innermost.Call c) h = sym (call_starts c.name c.ask e.input.call) ∙ sym (ap (λ (o : Option Call). asks_start (asked_by o e.input.call (asked e))) h)
opens_same e (innermost.Frame a) h =
    sym (opens_frame e.input.builds a) ∙ (ap asks_start (h.1.asks e.input.builds) ∙ sym (ap (λ (k : Calling). asks_start (asked_by (call_in k) k (asked e))) h.0))

pub asks_as : (e : Engine) (a b : Ask) → a ≡ b → AsksFor e (Some a) → AsksFor e (Some b)
asks_as e a b is h = subst (λ (x : Ask). AsksFor e (Some x)) is h

-- over the lists that it has
pub asked_here : (e : Engine) (a b : Ask) → a ≡ b → AsksFor e (Some a) → asked e ≡ Some (ask_of e.input.builds b)
asked_here e a b is h = sym (asks_as e a b is h e.input.builds)

-- and over none
pub asked_bare : (e : Engine) (a b : Ask) → a ≡ b → AsksFor e (Some a) → asks_in e.readings.frames [] ≡ Some (ask_of [] b)
asked_bare e a b is h = sym (asks_as e a b is h [])

-- a report, over its lists and over none
pub reports_here : (e : Engine) (a b : Ask) → a ≡ b → AsksFor e (Some a) → e.input.call ≡ NotCalling → IsNoted (ask_of e.input.builds b) → IsReported (asks_now e)
reports_here e a b is h none noted = uncalled_reported e.input.call (asked e) none (subst IsReported (sym (asked_here e a b is h)) noted)

pub reports_bare : (e : Engine) (a b : Ask) → a ≡ b → AsksFor e (Some a) → e.input.call ≡ NotCalling → IsNoted (ask_of [] b) → IsReported (asks_bare e)
reports_bare e a b is h none noted = uncalled_reported e.input.call (asks_in e.readings.frames []) none (subst IsReported (sym (asked_bare e a b is h)) noted)

-- no list is kept of none
pub none_kept : (listed : Bool) → kept_list_of listed [] ≡ []
none_kept true = refl
none_kept false = refl

-- THE RULE

pub by_ask : (sizes : Sizes) (e : Engine) (a b : Ask) (P : Book → List Move → Type 0) → a ≡ b → ReadingsAsk e (Some a) →
    ((book : Book) (r : Reading) (rs : List Reading) → Stands sizes e (with_work (r ∷ rs) book) → P (with_work (r ∷ rs) book) (answered (state_of e (with_work (r ∷ rs) book)) (r ∷ rs) r (ask_of e.input.builds b))) →
    (book : Book) → Stands sizes e book → P book (plan_of e book)
by_ask sizes e a b P is asks h book st = at book.work st (subst (λ (x : Ask). ReadingsAsk e (Some x)) is asks e.input.builds book.work st.readings.frames) where
  at : (work : List Reading) → Stands sizes e (with_work work book) → Some (ask_of e.input.builds b) ≡ asked_in work → P (with_work work book) (plan_of e (with_work work book))
  at [] st now = absurd cc
  at (r ∷ rs) st now =
      let same : ask_of e.input.builds b ≡ ask r.kind r.fed = cc now in
      subst (λ (x : reading.Ask). P (with_work (r ∷ rs) book) (answered (state_of e (with_work (r ∷ rs) book)) (r ∷ rs) r x)) same (h book r rs st)

pub asked_rules : (e e' : Engine) (s s' : SinkTold) (a b : Ask) (ruled : Ruled) → a ≡ b → ReadingsAsk e (Some a) → (sizes : Sizes) (f : FilesTold) →
    ((book : Book) (r : Reading) (rs : List Reading) → Stands sizes e (with_work (r ∷ rs) book) →
    DoesRuleIn sizes (state_of e (with_work (r ∷ rs) book)) e' (world_of f s e) (world_of f s' e') (answered (state_of e (with_work (r ∷ rs) book)) (r ∷ rs) r (ask_of e.input.builds b)) ruled) →
    (book : Book) → Stands sizes e book → DoesRuleIn sizes (state_of e book) e' (world_of f s e) (world_of f s' e') (plan_of e book) ruled
asked_rules e e' s s' a b ruled is asks sizes f h book st = by_ask sizes e a b (λ book plan. DoesRuleIn sizes (state_of e book) e' (world_of f s e) (world_of f s' e') plan ruled) is asks h book st

-- it is cut off
pub asked_cuts : (e e' : Engine) (s s' : SinkTold) (a b : Ask) (why : Broken) → a ≡ b → ReadingsAsk e (Some a) → (sizes : Sizes) (f : FilesTold) →
    ((book : Book) (r : Reading) (rs : List Reading) → Stands sizes e (with_work (r ∷ rs) book) →
    CutsIn sizes (state_of e (with_work (r ∷ rs) book)) e' (world_of f s e) (world_of f s' e') (answered (state_of e (with_work (r ∷ rs) book)) (r ∷ rs) r (ask_of e.input.builds b)) why) →
    (book : Book) → Stands sizes e book → CutsIn sizes (state_of e book) e' (world_of f s e) (world_of f s' e') (plan_of e book) why
asked_cuts e e' s s' a b why is asks sizes f h book st = by_ask sizes e a b (λ book plan. CutsIn sizes (state_of e book) e' (world_of f s e) (world_of f s' e') plan why) is asks h book st

-- where none is open
pub by_none : (sizes : Sizes) (e : Engine) (P : Book → List Move → Type 0) → AsksFor e None → ReadingsAsk e None → e.input.call ≡ NotCalling →
    ((book : Book) → Takes sizes None e book → P book (next_moves None e book)) → (book : Book) → Stands sizes e book → P book (plan_of e book)
by_none sizes e P asks stand none h book st = at book.work st (stand e.input.builds book.work st.readings.frames) where
  taken : (work : List Reading) → Stands sizes e (with_work work book) → Takes sizes None e (with_work work book)
  taken work st = (subst (λ (k : Calling). WantsHere (asked_by (call_in k) k (asked e)) None) (sym none) (sym (asks e.input.builds)), all_of sizes e (with_work work book) st)

  at : (work : List Reading) → Stands sizes e (with_work work book) → None ≡ asked_in work → P (with_work work book) (plan_of e (with_work work book))
  at [] st now = h (with_work [] book) (taken [] st)
  at (r ∷ rs) st now = absurd cc

-- a token is wanted
pub more_taken : (sizes : Sizes) (e : Engine) (want : Want) (book : Book) → e.input.call ≡ NotCalling → asked e ≡ Some (reading.More want) → Stands sizes e book → Takes sizes (Some want) e book
more_taken sizes e want book none asks st = (subst (λ (k : Calling). WantsHere (asked_by (call_in k) k (asked e)) (Some want)) (sym none) asks, all_of sizes e book st)

-- an act with a list that opens no file
pub not_started : (e : Engine) (a : reading.Ask) → e.input.call ≡ NotCalling → asked e ≡ Some a → asks_start (asks_now e) ≡ false → starts a ≡ false
not_started e a none is h = ap asks_start (sym is) ∙ (ap (λ (k : Calling). asks_start (asked_by (call_in k) k (asked e))) (sym none) ∙ h)

pub acts_as : (files : Files) (page : Page) (c : Command) (e : Effect) (ts : List Token) → starts (reading.ActsOn c e ts) ≡ false → acts_in files page c e ts ≡ acts_on page c e ts
acts_as files page c (effect.StartInput back) ts none = absurd cc
acts_as files page c x ts none = refl

-- WHETHER THE RULE HAS A STEP

pub asked_steps : (e : Engine) (a : Option reading.Ask) → e.input.call ≡ NotCalling → asked e ≡ a → stepping e ≡ (wants_token a && gives_step (pulled e.input.groups.now.categories e.input.pending))
asked_steps e a none is =
    ap (λ (k : Calling). wants_token (asked_by (call_in k) k (asked e)) && gives_step (pulled e.input.groups.now.categories e.input.pending)) none
    ∙ ap (λ (o : Option reading.Ask). wants_token o && gives_step (pulled e.input.groups.now.categories e.input.pending)) is
