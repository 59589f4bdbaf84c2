-- The next rule has a step exactly where the engine says so: of a call that gathers its arguments, or of a frame.
use Rattle.std.proofs.Common.{◌≡◌, List, [], ◌∷◌, sym, ap, ◌∙◌, true, false}
use Rattle.std.specs.Prelude.{Option, Some, None, ◌&&◌}
use Rattle.tex_syntax.specs.declared.words.Want.TheVariants.{Raw}
use Rattle.tex_defs.specs.declared.Sizes.{Sizes}
use Rattle.tex_defs.specs.declared.Name.{Name}
use Rattle.plain_tokens.specs.Pending.{pulled}
use Rattle.plain_readings.specs.Readings.{Reading}
use Rattle.plain_readings.specs.Scanning.{scanning}
use Rattle.plain_machine.specs.Plan.{Page, page_of, answered, wanted, feeding}
use Rattle.plain_machine.specs.Runs.{steps}
use Rattle.plain_machine.proofs.Joins.{StepComes}
use Rattle.plain_machine.proofs.Pulls.{answered_none, kind_none, wanted_none}
use Rattle.input_state.specs.Reads.{gives_step}
use Rattle.input_state.specs.Stored.{gathered}
use Rattle.input_state.specs.declared.answer.Call.{Call}
use Rattle.input_state.specs.Callings.{call_in}
use Rattle.macro_call.specs.declared.ask.CallAsk.{CallAsk}
use Rattle.macro_call.specs.declared.ask.CallAsk.TheVariants as call
use Rattle.engine_state.specs.declared.engine.Engine.{Engine}
use Rattle.engine_state.specs.Book.{Book, with_work}
use Rattle.engine_state.specs.Calls.{asks_by, AllStand}
use Rattle.engine_state.proofs.CallsKnown.{ReadingsBy, split}
use Rattle.engine_state.specs.Stands.{state_of}
use Rattle.engine_state.specs.Steps.{stepping, asked, asks_more, asked_by, wants_token}
use Rattle.engine_state.specs.Rules.{plan_of}
use Rattle.gullet.proofs.Stepping.{no, one_if, free_of, handed_now, pulled_needs, frame_steps, frame_needs}

-- A RULE'S STEPS

call_steps : (e : Engine) (book : Book) (work : List Reading) (r : Reading) (name : Name) (a : CallAsk) → steps (answered (state_of e book) work r (asks_by name a e.input.call)) ≡ one_if (asks_more (asks_by name a e.input.call) && gives_step (pulled e.input.groups.now.categories e.input.pending))
call_steps e book work r name call.More =
    let page : Page = page_of (state_of e book) in
    handed_now e book page true (scanning work (gathered e.input)) (λ x. wanted page Raw (feeding r x) x) (λ x. wanted_none page Raw (feeding r x) x (kind_none r.kind r.fed x))
call_steps e book work r name (call.ParEnded true) =
    free_of (answered (state_of e book) work r (asks_by name (call.ParEnded true) e.input.call)) (answered_none (state_of e book) work r (asks_by name (call.ParEnded true) e.input.call) tt)
call_steps e book work r name (call.ParEnded false) =
    free_of (answered (state_of e book) work r (asks_by name (call.ParEnded false) e.input.call)) (answered_none (state_of e book) work r (asks_by name (call.ParEnded false) e.input.call) tt)
call_steps e book work r name a =
    free_of (answered (state_of e book) work r (asks_by name a e.input.call)) (answered_none (state_of e book) work r (asks_by name a e.input.call) tt)

steps_at : (e : Engine) (c : Option Call) (book : Book) (work : List Reading) → ReadingsBy c e book.number work → steps (plan_of e (with_work work book)) ≡ one_if (wants_token (asked_by c e.input.call (asked e)) && gives_step (pulled e.input.groups.now.categories e.input.pending))
steps_at e None book work h = frame_steps e (with_work work book) h
steps_at e (Some c) book [] h = absurd h
steps_at e (Some c) book (r ∷ rs) h = rw (← h.asked) (call_steps e (with_work (r ∷ rs) book) (r ∷ rs) r c.name c.ask)

pub plan_steps : (sizes : Sizes) (e : Engine) (book : Book) → AllStand sizes e book → steps (plan_of e book) ≡ one_if (stepping e)
plan_steps sizes e book h = steps_at e (call_in e.input.call) book book.work (split e book.number book.work h.all)

-- a rule that begins with a step has one
pub plan_one : (sizes : Sizes) (e : Engine) → stepping e ≡ true → (book : Book) → AllStand sizes e book → steps (plan_of e book) ≡ 1
plan_one sizes e g book h = plan_steps sizes e book h ∙ ap one_if g

-- A STEP COMES, where no file was opened

call_needs : (sizes : Sizes) (e : Engine) (book : Book) (work : List Reading) (r : Reading) (name : Name) (a : CallAsk) → e.input.pending.next ≡ None → plan_of e book ≡ answered (state_of e book) work r (asks_by name a e.input.call) →
    (asks_more (asks_by name a e.input.call) && gives_step (pulled e.input.groups.now.categories e.input.pending)) ≡ true → StepComes sizes (state_of e book)
call_needs sizes e book work r name call.More unopened h g =
    let page : Page = page_of (state_of e book) in
    pulled_needs sizes e book page true (scanning work (gathered e.input)) (λ x. wanted page Raw (feeding r x) x) unopened h g
call_needs sizes e book work r name (call.ParEnded true) unopened h g = no g
call_needs sizes e book work r name (call.ParEnded false) unopened h g = no g
call_needs sizes e book work r name a unopened h g = no g

needs_at : (sizes : Sizes) (e : Engine) (c : Option Call) (book : Book) (work : List Reading) → e.input.pending.next ≡ None → ReadingsBy c e book.number work → (wants_token (asked_by c e.input.call (asked e)) && gives_step (pulled e.input.groups.now.categories e.input.pending)) ≡ true → StepComes sizes (state_of e (with_work work book))
needs_at sizes e None book work unopened h g = frame_needs sizes e (with_work work book) unopened h g
needs_at sizes e (Some c) book [] unopened h g = absurd h
needs_at sizes e (Some c) book (r ∷ rs) unopened h g =
    call_needs sizes e (with_work (r ∷ rs) book) (r ∷ rs) r c.name c.ask unopened (ap (answered (state_of e (with_work (r ∷ rs) book)) (r ∷ rs) r) (sym h.asked)) g

pub stepping_needs : (sizes : Sizes) (e : Engine) → e.input.pending.next ≡ None → stepping e ≡ true → (book : Book) → AllStand sizes e book → StepComes sizes (state_of e book)
stepping_needs sizes e unopened g book h = needs_at sizes e (call_in e.input.call) book book.work unopened (split e book.number book.work h.all) g
