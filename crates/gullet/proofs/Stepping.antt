-- The next rule has a step exactly where the engine says so.
use Rattle.std.proofs.Common.{◌≡◌, ℕ, List, [], ◌∷◌, ◌++◌, refl, sym, ap, ◌∙◌, arith, Bool, true, false, true≢false}
use Rattle.std.proofs.lemmas.List.{append-nil}
use Rattle.std.specs.Prelude.{Option, Some, None, if◌then◌else◌, ◌&&◌}
use Rattle.tex_syntax.specs.declared.words.Report.TheVariants as reports
use Rattle.tex_defs.specs.declared.Seen.{Seen}
use Rattle.tex_defs.specs.declared.Sizes.{Sizes}
use Rattle.tex_defs.specs.declared.Token.{Token}
use Rattle.plain_tokens.specs.Meanings.{met as met_token}
use Rattle.rows.specs.declared.command.Call.{Call}
use Rattle.rows.specs.declared.command.Effect.{Effect}
use Rattle.rows.specs.declared.command.Effect.TheVariants as effect
use Rattle.plain_tokens.specs.Lookup.{token_of, new_name}
use Rattle.plain_tokens.specs.Pending.{Pending, Pulled, TokenFrom, LexemeFrom, LineTaken, InvalidMet, FileOver, NothingLeft, pulled}
use Rattle.rows.specs.Readings.{Ask, More, Inner, Done, Acts, ActsOn, Defines, Ends, Calls, Fails, RunsAway, Tells, Inserts, Puts, Relaxes, Magnifies, Fetches}
use Rattle.plain_readings.specs.Readings.{Reading, ask}
use Rattle.plain_readings.specs.Scanning.{Scanning, scanning}
use Rattle.reading_frames.specs.declared.frame.Frame.{Frame}
use Rattle.reading_frames.specs.Views.{Lists}
use Rattle.reading_frames.specs.Stack.{asks_in, asked_in}
use Rattle.reading_frames.specs.Frames as frames
use Rattle.plain_machine.specs.States.{State, Move, Handed, Taken}
use Rattle.plain_machine.specs.Plan.{Page, page_of, plan, ruled, answered, input_begun, handed, met, entered, enters_names, checked, at_line, reported, stomach, wanted, feeding}
use Rattle.plain_machine.specs.Numbers.{pending_of, pulled_of}
use Rattle.plain_machine.specs.Runs.{steps}
use Rattle.plain_machine.proofs.Joins.{StepComes, plan_needs}
use Rattle.plain_machine.proofs.Pulls.{pulls, steps_pull, steps_read, begun_reads, pulls_join, kind_none, stomach_none, wanted_none, met_none, entered_none, reported_none, checked_none, answered_none, WantsNone}
use Rattle.plain_machine.proofs.Renumbering.{pulled_same}
use Rattle.input_state.specs.Reads.{gives_step}
use Rattle.input_state.specs.Stored.{gathered}
use Rattle.engine_state.specs.declared.engine.Engine.{Engine}
use Rattle.engine_state.specs.Book.{Book, with_work}
use Rattle.engine_state.specs.Stands.{FramesStand, state_of}
use Rattle.engine_state.specs.Steps.{asked, asks_more, wants_token}
use Rattle.engine_state.specs.Rules.{plan_of}

-- MOVES WITHOUT A STEP

abbrev pub one_if : Bool → ℕ
one_if b = if b then 1 else 0

-- moves that pull nothing
pub free_of : (ms : List Move) → pulls ms ≡ 0 → steps ms ≡ 0
free_of ms none = omega (arith, steps_pull ms, none)

-- A RULE'S STEPS

handed_steps : (page : Page) (enters : Bool) (o : Option Scanning) (onward : Seen → List Move) (p : Pulled) → ((x : Seen) → pulls (onward x) ≡ 0) → steps (handed page enters o onward p) ≡ one_if (gives_step p)
handed_steps page enters o onward (TokenFrom t q) h = omega (arith, free_of (met page o onward (met_token page.now.meanings t)) (met_none page o onward (met_token page.now.meanings t) h))
handed_steps page enters o onward (LexemeFrom x q) h =
    let t : Token = token_of enters page.names x in
    let names : List Move = entered (new_name enters page.names x) in
    let moves : List Move = met page o onward (met_token page.now.meanings t) in
    let none : pulls (names ++ moves) ≡ 0 = omega (arith, pulls_join names moves, entered_none (new_name enters page.names x), met_none page o onward (met_token page.now.meanings t) h) in
    omega (arith, free_of (names ++ moves) none)
handed_steps page enters o onward (LineTaken l q) h = refl
handed_steps page enters o onward (InvalidMet q) h = omega (arith, free_of (reported page reports.InvalidCharacter []) (reported_none page reports.InvalidCharacter [] refl))
handed_steps page enters o onward (FileOver q) h = omega (arith, free_of (checked (at_line q.number page) o) (checked_none (at_line q.number page) o))
handed_steps page enters o onward NothingLeft h = refl

-- it gives a step under other numbers too
step_same : (number : ℕ → ℕ) (r : Pulled) → gives_step (pulled_of number r) ≡ gives_step r
step_same number (TokenFrom t q) = refl
step_same number (LexemeFrom x q) = refl
step_same number (LineTaken l q) = refl
step_same number (InvalidMet q) = refl
step_same number (FileOver q) = refl
step_same number NothingLeft = refl

pub gives_same : (number : ℕ → ℕ) (categories : List ℕ) (p : Pending) → gives_step (pulled categories (pending_of number p)) ≡ gives_step (pulled categories p)
gives_same number categories p = ap gives_step (pulled_same number categories p) ∙ step_same number (pulled categories p)

pub handed_now : (e : Engine) (book : Book) (page : Page) (enters : Bool) (o : Option Scanning) (onward : Seen → List Move) → ((x : Seen) → pulls (onward x) ≡ 0) →
    steps (handed page enters o onward (pulled e.input.groups.now.categories (pending_of book.number e.input.pending))) ≡ one_if (gives_step (pulled e.input.groups.now.categories e.input.pending))
handed_now e book page enters o onward h = handed_steps page enters o onward (pulled e.input.groups.now.categories (pending_of book.number e.input.pending)) h ∙ ap one_if (gives_same book.number e.input.groups.now.categories e.input.pending)

-- what the frames ask for is what the machine's innermost reading does
pub asked_same : (fs : List Frame) (held : Lists) (work : List Reading) → frames.AreFramesOf None fs held work → asked_in work ≡ asks_in fs held
asked_same [] held [] h = refl
asked_same [] held (r ∷ rs) h = absurd h
asked_same (f ∷ fs) held [] h = absurd h
asked_same (f ∷ fs) held (r ∷ rs) h = ap (λ (a : Ask). Some a) (ap (ask r.kind) (sym (append-nil r.fed)) ∙ h.0.goes_on [])

pub asked_stands : (e : Engine) (work : List Reading) → FramesStand e work → asked_in work ≡ asked e
asked_stands e work h = asked_same e.readings.frames e.input.builds work h.frames

answer_free : (s : State) (work : List Reading) (r : Reading) (a : Ask) → WantsNone a → steps (answered s work r a) ≡ 0
answer_free s work r a none = free_of (answered s work r a) (answered_none s work r a none)

-- where a file is opened there is no step yet
input_free : (s : State) (back : Bool) (name : List ℕ) → steps (input_begun s.files (page_of s) back name) ≡ 0
input_free s back name = omega (arith, steps_read (input_begun s.files (page_of s) back name), begun_reads s.files (page_of s) back name)

acts_on_free : (s : State) (work : List Reading) (r : Reading) (c : Call) (ef : Effect) (ts : List Token) → steps (answered s work r (ActsOn c ef ts)) ≡ 0
acts_on_free s work r c (effect.StartInput back) ts = input_free s back _
acts_on_free s work r c ef ts = answer_free s work r (ActsOn c ef ts) tt

answer_steps : (e : Engine) (book : Book) (work : List Reading) (r : Reading) (a : Ask) → steps (answered (state_of e book) work r a) ≡ one_if (asks_more a && gives_step (pulled e.input.groups.now.categories e.input.pending))
answer_steps e book work r (More w) =
    let page : Page = page_of (state_of e book) in
    handed_now e book page (enters_names w) (scanning work (gathered e.input)) (λ x. wanted page w (feeding r x) x) (λ x. wanted_none page w (feeding r x) x (kind_none r.kind r.fed x))
answer_steps e book work r (Inner k begins) = answer_free (state_of e book) work r (Inner k begins) tt
answer_steps e book work r (Done v back) = answer_free (state_of e book) work r (Done v back) tt
answer_steps e book work r (Acts c ef) = answer_free (state_of e book) work r (Acts c ef) tt
answer_steps e book work r (ActsOn c ef ts) = acts_on_free (state_of e book) work r c ef ts
answer_steps e book work r (Defines c n ts) = answer_free (state_of e book) work r (Defines c n ts) tt
answer_steps e book work r Ends = answer_free (state_of e book) work r Ends tt
answer_steps e book work r (Calls args) = answer_free (state_of e book) work r (Calls args) tt
answer_steps e book work r (Fails report) = answer_free (state_of e book) work r (Fails report) tt
answer_steps e book work r (RunsAway report) = answer_free (state_of e book) work r (RunsAway report) tt
answer_steps e book work r (Tells report back) = answer_free (state_of e book) work r (Tells report back) tt
answer_steps e book work r (Inserts t report back) = answer_free (state_of e book) work r (Inserts t report back) tt
answer_steps e book work r (Puts t more) = answer_free (state_of e book) work r (Puts t more) tt
answer_steps e book work r (Relaxes c n) = answer_free (state_of e book) work r (Relaxes c n) tt
answer_steps e book work r Magnifies = answer_free (state_of e book) work r Magnifies tt
answer_steps e book work r (Fetches l) = answer_free (state_of e book) work r (Fetches l) tt

steps_of : (e : Engine) (book : Book) (work : List Reading) → steps (plan_of e (with_work work book)) ≡ one_if (wants_token (asked_in work) && gives_step (pulled e.input.groups.now.categories e.input.pending))
steps_of e book [] = let page : Page = page_of (state_of e (with_work [] book)) in handed_now e book page false None (stomach page) (stomach_none page)
steps_of e book (r ∷ rs) = answer_steps e (with_work (r ∷ rs) book) (r ∷ rs) r (ask r.kind r.fed)

pub frame_steps : (e : Engine) (book : Book) → FramesStand e book.work → steps (plan_of e book) ≡ one_if (wants_token (asked e) && gives_step (pulled e.input.groups.now.categories e.input.pending))
frame_steps e book h = steps_of e book book.work ∙ ap (λ (o : Option Ask). one_if (wants_token o && gives_step (pulled e.input.groups.now.categories e.input.pending))) (asked_stands e book.work h)

-- A STEP COMES, where no file was opened

-- where none does (`cc` would go through the whole plan)
pub no : {A : Type 0} → false ≡ true → A
no h = absurd (true≢false (sym h))

module _ (sizes : Sizes) where
  needs_of : (s : State) (page : Page) (enters : Bool) (o : Option Scanning) (onward : Seen → List Move) (p : Pulled) → s.due ≡ [] → plan s s.stopped ≡ handed page enters o onward p → gives_step p ≡ true → StepComes sizes s
  needs_of s page enters o onward (TokenFrom t q) e f g = plan_needs sizes s (Handed t) _ e f refl
  needs_of s page enters o onward (LexemeFrom x q) e f g = plan_needs sizes s (Handed (token_of enters page.names x)) _ e f refl
  needs_of s page enters o onward (LineTaken l q) e f g = plan_needs sizes s (Taken l) _ e f refl
  needs_of s page enters o onward (InvalidMet q) e f g = no g
  needs_of s page enters o onward (FileOver q) e f g = no g
  needs_of s page enters o onward NothingLeft e f g = no g

  pub pulled_needs : (e : Engine) (book : Book) (page : Page) (enters : Bool) (o : Option Scanning) (onward : Seen → List Move) → e.input.pending.next ≡ None → plan_of e book ≡ handed page enters o onward (pulled e.input.groups.now.categories (pending_of book.number e.input.pending)) →
      gives_step (pulled e.input.groups.now.categories e.input.pending) ≡ true → StepComes sizes (state_of e book)
  pulled_needs e book page enters o onward unopened h g =
      needs_of (state_of e book) page enters o onward (pulled e.input.groups.now.categories (pending_of book.number e.input.pending)) refl (ap (ruled (state_of e book)) unopened ∙ h) (gives_same book.number e.input.groups.now.categories e.input.pending ∙ g)

  answer_needs : (e : Engine) (book : Book) (work : List Reading) (r : Reading) (a : Ask) → e.input.pending.next ≡ None → plan_of e book ≡ answered (state_of e book) work r a →
      (asks_more a && gives_step (pulled e.input.groups.now.categories e.input.pending)) ≡ true → StepComes sizes (state_of e book)
  answer_needs e book work r (More w) unopened h g =
      let page : Page = page_of (state_of e book) in
      pulled_needs e book page (enters_names w) (scanning work (gathered e.input)) (λ x. wanted page w (feeding r x) x) unopened h g
  answer_needs e book work r (Inner k begins) unopened h g = no g
  answer_needs e book work r (Done v back) unopened h g = no g
  answer_needs e book work r (Acts c ef) unopened h g = no g
  answer_needs e book work r (ActsOn c ef ts) unopened h g = no g
  answer_needs e book work r (Defines c n ts) unopened h g = no g
  answer_needs e book work r Ends unopened h g = no g
  answer_needs e book work r (Calls args) unopened h g = no g
  answer_needs e book work r (Fails report) unopened h g = no g
  answer_needs e book work r (RunsAway report) unopened h g = no g
  answer_needs e book work r (Tells report back) unopened h g = no g
  answer_needs e book work r (Inserts t report back) unopened h g = no g
  answer_needs e book work r (Puts t more) unopened h g = no g
  answer_needs e book work r (Relaxes c n) unopened h g = no g
  answer_needs e book work r Magnifies unopened h g = no g
  answer_needs e book work r (Fetches l) unopened h g = no g

  needs_in : (e : Engine) (book : Book) (work : List Reading) → e.input.pending.next ≡ None → (wants_token (asked_in work) && gives_step (pulled e.input.groups.now.categories e.input.pending)) ≡ true → StepComes sizes (state_of e (with_work work book))
  needs_in e book [] unopened g = let page : Page = page_of (state_of e (with_work [] book)) in pulled_needs e (with_work [] book) page false None (stomach page) unopened refl g
  needs_in e book (r ∷ rs) unopened g = answer_needs e (with_work (r ∷ rs) book) (r ∷ rs) r (ask r.kind r.fed) unopened refl g

  pub frame_needs : (e : Engine) (book : Book) → e.input.pending.next ≡ None → FramesStand e book.work → (wants_token (asked e) && gives_step (pulled e.input.groups.now.categories e.input.pending)) ≡ true → StepComes sizes (state_of e book)
  frame_needs e book unopened h g =
      needs_in e book book.work unopened (ap (λ (o : Option Ask). wants_token o && gives_step (pulled e.input.groups.now.categories e.input.pending)) (asked_stands e book.work h) ∙ g)
