-- Whether a rule wants a token, by what its engine asks for: one for which none is wanted reads nothing.
use Rattle.std.proofs.Common.{◌≡◌, ℕ, List, [], ◌∷◌, refl, sym, ap, ◌∙◌, subst, true, false}
use Rattle.std.specs.Prelude.{Option, Some, None}
use Rattle.std.proofs.lemmas.Bool.{false≢true}
use Rattle.tex_syntax.specs.declared.words.Want.{Want}
use Rattle.tex_defs.specs.declared.Sizes.{Sizes}
use Rattle.tex_defs.specs.declared.Name.{Name}
use Rattle.rows.specs.declared.command.Effect.TheVariants as effect
use Rattle.rows.specs.Readings.{Ask, More, ActsOn}
use Rattle.plain_readings.specs.Readings.{Reading, ask}
use Rattle.reading_frames.specs.Stack.{asked_in}
use Rattle.plain_machine.specs.Extended.{starts, starts_input}
use Rattle.plain_machine.proofs.Pulls.{pulls, answered_none, WantsNone}
use Rattle.plain_machine.proofs.FileRules.{WantsToken}
use Rattle.input_state.specs.Callings.{Calling, call_in}
use Rattle.input_state.specs.declared.answer.Call.{Call}
use Rattle.macro_call.specs.declared.ask.CallAsk.{CallAsk}
use Rattle.macro_call.specs.declared.ask.CallAsk.TheVariants as call
use Rattle.engine_state.specs.declared.engine.Engine.{Engine}
use Rattle.engine_state.specs.Book.{Book, with_work}
use Rattle.engine_state.specs.Calls.{asks_by, AllStand, asks_of}
use Rattle.engine_state.proofs.CallsKnown.{ReadingsBy, split}
use Rattle.engine_state.specs.Rules.{plan_of}
use Rattle.engine_state.specs.Stands.{FramesStand, state_of}
use Rattle.engine_state.specs.Steps.{asked, asks_more, asks_start, asks_now, asked_by, wants_token}
use Rattle.gullet.proofs.Stepping.{asked_same, no}

-- NO FILE IS TO BE OPENED

pub call_starts : (name : Name) (a : CallAsk) (k : Calling) → starts (asks_by name a k) ≡ false
call_starts name (call.ParEnded true) k = refl
call_starts name (call.ParEnded false) k = refl
call_starts name a k = refl

work_starts : (work : List Reading) → starts_input work ≡ asks_start (asked_in work)
work_starts [] = refl
work_starts (r ∷ rs) = refl

frames_start : (e : Engine) (work : List Reading) → FramesStand e work → starts_input work ≡ asks_start (asked e)
frames_start e work h = work_starts work ∙ ap asks_start (asked_same e.readings.frames e.input.builds work h.frames)

starts_at : (e : Engine) (c : Option Call) (number : ℕ → ℕ) (work : List Reading) → ReadingsBy c e number work → starts_input work ≡ asks_start (asked_by c e.input.call (asked e))
starts_at e None number work h = frames_start e work h
starts_at e (Some c) number [] h = absurd h
starts_at e (Some c) number (r ∷ rs) h = ap starts (sym h.asked)

-- the machine begins a file by its name where the engine does
pub starts_same : (sizes : Sizes) (e : Engine) (book : Book) → AllStand sizes e book → starts_input book.work ≡ asks_start (asks_now e)
starts_same sizes e book h = starts_at e (call_in e.input.call) book.number book.work (split e book.number book.work h.all)

-- NO TOKEN IS WANTED

ask_none : (a : Ask) → asks_more a ≡ false → starts a ≡ false → WantsNone a
ask_none (More want) h k = no (sym h)
ask_none (ActsOn c (effect.StartInput back) ts) h k = no (sym k)
ask_none a h k = tt

-- how far the call is doesn't matter
pub call_more : (name : Name) (a : CallAsk) (k k' : Calling) → asks_more (asks_by name a k) ≡ asks_more (asks_by name a k')
call_more name (call.ParEnded true) k k' = refl
call_more name (call.ParEnded false) k k' = refl
call_more name a k k' = refl

frames_ask : (e : Engine) (work : List Reading) → FramesStand e work → wants_token (asked_in work) ≡ wants_token (asked e)
frames_ask e work h = ap wants_token (asked_same e.readings.frames e.input.builds work h.frames)

work_unread : (e : Engine) (book : Book) (work : List Reading) → wants_token (asked_in work) ≡ false → starts_input work ≡ false → pulls (plan_of e (with_work work book)) ≡ 0
work_unread e book [] none never = no (sym none)
work_unread e book (r ∷ rs) none never = answered_none (state_of e (with_work (r ∷ rs) book)) (r ∷ rs) r (ask r.kind r.fed) (ask_none (ask r.kind r.fed) none never)

unread_at : (e : Engine) (c : Option Call) (book : Book) (work : List Reading) → ReadingsBy c e book.number work → wants_token (asked_by c e.input.call (asked e)) ≡ false → asks_start (asked_by c e.input.call (asked e)) ≡ false → pulls (plan_of e (with_work work book)) ≡ 0
unread_at e None book work h none never = work_unread e book work (frames_ask e work h ∙ none) (frames_start e work h ∙ never)
unread_at e (Some c) book [] h none never = absurd h
unread_at e (Some c) book (r ∷ rs) h none never =
    answered_none (state_of e (with_work (r ∷ rs) book)) (r ∷ rs) r (ask r.kind r.fed) (subst WantsNone h.asked (ask_none (asks_of c e.input.call) none never))

pub plan_unread : (sizes : Sizes) (e : Engine) → wants_token (asks_now e) ≡ false → asks_start (asks_now e) ≡ false → (book : Book) → AllStand sizes e book → pulls (plan_of e book) ≡ 0
plan_unread sizes e none never book h = unread_at e (call_in e.input.call) book book.work (split e book.number book.work h.all) none never

-- A TOKEN IS WANTED

ask_wants : (a : Ask) → asks_more a ≡ true → (want : Want) × (a ≡ More want)
ask_wants (More want) h = (want, refl)
ask_wants a h = absurd (false≢true h)

work_asks : (work : List Reading) → wants_token (asked_in work) ≡ true → WantsToken work
work_asks [] h = tt
work_asks (r ∷ rs) h = ask_wants (ask r.kind r.fed) h

wants_at : (e : Engine) (c : Option Call) (number : ℕ → ℕ) (work : List Reading) → ReadingsBy c e number work → wants_token (asked_by c e.input.call (asked e)) ≡ true → WantsToken work
wants_at e None number work h wants = work_asks work (frames_ask e work h ∙ wants)
wants_at e (Some c) number [] h wants = absurd h
wants_at e (Some c) number (r ∷ rs) h wants = let w = ask_wants (asks_of c e.input.call) wants in (w.0, sym h.asked ∙ w.1)

pub work_wants : (sizes : Sizes) (e : Engine) → wants_token (asks_now e) ≡ true → (book : Book) → AllStand sizes e book → WantsToken book.work
work_wants sizes e wants book h = wants_at e (call_in e.input.call) book.number book.work (split e book.number book.work h.all) wants

-- where a token is wanted no file is to be opened
wants_none : (a : Ask) → asks_more a ≡ true → starts a ≡ false
wants_none (More want) h = refl
wants_none a h = no h

frames_none : (o : Option Ask) → wants_token o ≡ true → asks_start o ≡ false
frames_none None h = refl
frames_none (Some a) h = wants_none a h

pub wants_no_start : (e : Engine) → wants_token (asks_now e) ≡ true → asks_start (asks_now e) ≡ false
wants_no_start e h = frames_none (asks_now e) h
