-- A run, round by round: the files are read on, and a rule follows.
use Rattle.std.proofs.Common.{◌≡◌, ℕ, ◌+◌, ◌≤◌, List, [], refl, sym, ap, ◌∙◌, subst, Bool, true, false, arith}
use Rattle.std.proofs.lemmas.Bool.{true≢false}
use Rattle.std.specs.Prelude.{◌&&◌, ◌||◌, Option, None, Some, Result, Ok, Err, IsErrAnd, MatchResult}
use Rattle.tex_syntax.specs.declared.words.Outcome.{Outcome}
use Rattle.tex_defs.specs.declared.Sizes.{Sizes}
use Rattle.world_io.specs.declared.traits.Fault.{Fault}
use Rattle.world_io.specs.declared.traits.Fault.TheVariants.{Failed}
use Rattle.world_io.specs.Contents.{FilesTold, SinkTold, world}
use Rattle.plain_machine.specs.Runs.{steps}
use Rattle.plain_machine.specs.Extended.{Rests, closes, rests_before}
use Rattle.plain_machine.proofs.Joins.{StepComes}
use Rattle.input_state.specs.Stored.{Stored, KeepsShared}
use Rattle.plain_tokens.specs.Pending.{pulled, end_token_lists}
use Rattle.input_state.specs.Reads.{gives_step}
use Rattle.line_reader.specs.Readers.{OpenReader, OpenReaders, MayLeave}
use Rattle.engine_state.specs.declared.engine.Engine.{Engine}
use Rattle.engine_state.specs.Book.{Book}
use Rattle.engine_state.specs.Calls.{AllStand}
use Rattle.engine_state.specs.declared.outcome.Ruled.{Ruled}
use Rattle.engine_state.specs.declared.outcome.Ruled.TheVariants.{Step, Free, Halted}
use Rattle.engine_state.specs.Rules.{world_of, plan_of}
use Rattle.engine_state.specs.Stands.{state_of}
use Rattle.input_state.specs.declared.answer.Call.{Call}
use Rattle.input_state.specs.Callings.{call_in}
use Rattle.plain_machine.specs.Weights.{pending_weight}
use Rattle.engine_state.specs.Steps.{weight, readings_weight, stepping, asks_now, wants_token, asks_start}
use Rattle.stomach.specs.declared.early.Early.{Early}
use Rattle.stomach.specs.declared.early.Early.TheVariants as early
use Rattle.stomach.specs.declared.runs.Ended.TheVariants as ended
use Rattle.stomach.specs.Ahead.{came_in, given, is_opened, needs_step, IsGiven, Knows, Needs}
use Rattle.stomach.specs.Ran.{Came, CameOn, Stops, StoppedBy, RanTo, StoppedTo, RuledTo, FreeTo, step_count, whole_state}
use Rattle.stomach.specs.Read.{AreTied, ReadsTo}
use Rattle.stomach.proofs.CallSteps.{plan_one, stepping_needs}
use Rattle.stomach.proofs.FilesKept.{closing_is_free, open_before, plan_counts}
use Rattle.stomach.proofs.GivenBytes.{came_given}
use Rattle.stomach.proofs.Knowing.{reads_known, unread}
use Rattle.stomach.proofs.Reading.{reads_map, reads_then}
use Rattle.stomach.proofs.Running.{came_none, came_join, came_whole, comes_known, comes_opened, stops_join, stops_whole, stopped_join}
use Rattle.stomach.proofs.Unread.{starts_same, wants_no_start}

-- the engine has come behind k steps, whatever it stands for, and each open file has its reader
abbrev pub CameTo : OpenReaders → Engine → SinkTold → OpenReaders → Engine → SinkTold → ℕ → (all left : Rests) → Type 0
CameTo rs e s rs' e' s' k all left =
    (sizes : Sizes) (f : FilesTold) (book : Book) → AllStand sizes e book → AreTied rs e → CameOn sizes (whole_state all e book) rs' e' left (world_of f s e) (world_of f s' e') k

-- to its end, behind at most k steps
abbrev pub StopsTo : OpenReaders → Engine → SinkTold → Engine → SinkTold → ℕ → Outcome → (all left : Rests) → Type 0
StopsTo rs e s e' s' k o all left =
    (sizes : Sizes) (f : FilesTold) (book : Book) → AllStand sizes e book → AreTied rs e → Stops sizes (whole_state all e book) e' left (world_of f s e) (world_of f s' e') k o

-- an error that `?` hands on
pub match_err : {T E : Type 0} → (r : Result T E) (x : E) (P : T → Type 0) (Q : E → Type 0) → IsErrAnd r (λ e. e ≡ x) → Q x → MatchResult r P Q
match_err (Ok y) x P Q h q = absurd h
match_err (Err e) x P Q h q = subst Q (sym h) q

-- what an answer says of an error
pub of_err : {T E : Type 0} → (r : Result T E) (x : E) (P : Result T E → Type 0) → IsErrAnd r (λ e. e ≡ x) → P (Err x) → P r
of_err (Ok y) x P h q = absurd h
of_err (Err e) x P h q = subst (λ y. P (Err y)) (sym h) q

abbrev fault_of : Early → Fault
fault_of (early.Broken b) = Failed
fault_of (early.Unread fault) = fault

pub same_fault : (a b : Fault) → early.Unread a ≡ early.Unread b → a ≡ b
same_fault a b h = ap fault_of h

pub came_first : (rs : OpenReaders) (e : Engine) (s : SinkTold) (all : Rests) → CameTo rs e s rs e s 0 all all
came_first rs e s all sizes f book stands tied = record { came = came_none sizes e all book (world_of f s e) stands; tied = tied }

-- THE FILES ARE READ ON

module _ (all left : Rests) (e e' : Engine) (is : IsGiven all left e e') where
  pub column_given : e.in_line ≡ e'.in_line
  column_given = sym (ap (λ (x : Engine). x.in_line) is.after)

  pub idle_given : e.input.making ≡ None → e'.input.making ≡ None
  idle_given h = ap (λ (x : Engine). x.input.making) is.after ∙ h

  pub running_given : e.stopped ≡ false → e'.stopped ≡ false
  running_given h = ap (λ (x : Engine). x.stopped) is.after ∙ h

  readings_given : (c : Option Call) → readings_weight c (given is.bytes e) ≡ readings_weight c e
  readings_given None = refl
  readings_given (Some c) = refl

  pending_given : (o : Option (List ℕ)) → pending_weight (came_in o is.bytes e.input.pending) ≡ pending_weight e.input.pending
  pending_given None = refl
  pending_given (Some bytes) = refl

  pub weight_given : weight e' ≡ weight e
  weight_given = ap weight is.after ∙ omega (arith, readings_given (call_in e.input.call), pending_given e.input.pending.next)

module _ (rs0 rs rs' : OpenReaders) (e0 e e' : Engine) (s0 s : SinkTold) (k : ℕ) where
  pub came_more : (all mid left : Rests) → (AreTied rs e → AreTied rs' e') → CameTo rs0 e0 s0 rs e s k all mid → IsGiven mid left e e' → CameTo rs0 e0 s0 rs' e' s k all left
  came_more all mid left ties came is sizes f book stands tied =
      let on = came sizes f book stands tied in
      record {
        came = subst (λ (column : Bool). Came sizes (whole_state all e0 book) e' left (world_of f s0 e0) (world f s column) k) (column_given mid left e e' is)
            (came_given sizes mid left e e' is (whole_state all e0 book) (world_of f s0 e0) (world_of f s e) k on.came);
        tied = ties on.tied;
      }

  -- and the bytes that are needed don't come
  pub unread_more : (n : ℕ) (fault : Fault) (all mid left : Rests) → k ≤ n → Needs e' rs'.readers → CameTo rs0 e0 s0 rs e s k all mid → IsGiven mid left e e' → StoppedTo rs0 e0 s0 e' s n (early.Unread fault) all left
  unread_more n fault all mid left le needs came is sizes f book stands tied =
      let on = came sizes f book stands tied in
      subst (λ (column : Bool). StoppedBy sizes (whole_state all e0 book) n e' left (world_of f s0 e0) (world f s column) (early.Unread fault)) (column_given mid left e e' is)
      (stopped_join sizes (whole_state all e0 book) e e' mid (world_of f s0 e0) (world_of f s e) (world_of f s e) k on.came left 0 n (early.Unread fault) (omega (arith, le))
      (λ w h. unread sizes e e' mid left (world_of f s e) 0 is rs'.readers needs w h))

-- ONE PART OF A RUN BEHIND ANOTHER

module _ (rs0 rs rs' : OpenReaders) (e0 e e' : Engine) (s0 s s' : SinkTold) (k : ℕ) (all mid left : Rests) (came : CameTo rs0 e0 s0 rs e s k all mid) where
  pub came_then : (j : ℕ) → CameTo rs e s rs' e' s' j mid left → CameTo rs0 e0 s0 rs' e' s' (k + j) all left
  came_then j next sizes f book stands tied =
      let on = came sizes f book stands tied in
      let behind = next sizes f on.came.book' on.came.stands on.tied in
      record {
        came = came_join sizes (whole_state all e0 book) e e' mid (world_of f s0 e0) (world_of f s e) (world_of f s' e') k on.came left j (λ w h. (next sizes f w h on.tied).came);
        tied = behind.tied;
      }

  pub stops_then : (j : ℕ) (o : Outcome) → StopsTo rs e s e' s' j o mid left → StopsTo rs0 e0 s0 e' s' (k + j) o all left
  stops_then j o next sizes f book stands tied =
      let on = came sizes f book stands tied in
      stops_join sizes (whole_state all e0 book) e e' mid (world_of f s0 e0) (world_of f s e) (world_of f s' e') k on.came left j o (λ w h. next sizes f w h on.tied)

  pub stopped_then : (j n : ℕ) (x : Early) → k + j ≤ n → StoppedTo rs e s e' s' j x mid left → StoppedTo rs0 e0 s0 e' s' n x all left
  stopped_then j n x le next sizes f book stands tied =
      let on = came sizes f book stands tied in
      stopped_join sizes (whole_state all e0 book) e e' mid (world_of f s0 e0) (world_of f s e) (world_of f s' e') k on.came left j n x le (λ w h. next sizes f w h on.tied)

-- as many steps
pub came_count : (rs rs' : OpenReaders) (e e' : Engine) (s s' : SinkTold) (j k : ℕ) (all left : Rests) → j ≡ k → CameTo rs e s rs' e' s' j all left → CameTo rs e s rs' e' s' k all left
came_count rs rs' e e' s s' j k all left is h = subst (λ (n : ℕ). CameTo rs e s rs' e' s' n all left) is h

-- a run that has ended, within any bound that holds its steps
pub stops_ran : (rs : OpenReaders) (e e' : Engine) (s s' : SinkTold) (k n : ℕ) (o : Outcome) (all left : Rests) → k ≤ n → StopsTo rs e s e' s' k o all left → RanTo rs e s e' s' n (ended.Halted o) all left
stops_ran rs e e' s s' k n o all left le h sizes f book stands tied = stops_whole sizes (whole_state all e book) e' left (world_of f s e) (world_of f s' e') k n o le (h sizes f book stands tied)

-- WHAT A RULE ANSWERED

module _ (rs rs' : OpenReaders) (e e' : Engine) (s s' : SinkTold) (all left : Rests) where
  pub ruled_step : (ruled : Ruled) → ruled ≡ Step → RuledTo rs e s rs' e' s' all left (Ok ruled) → CameTo rs e s rs' e' s' 1 all left
  ruled_step ruled is h = subst (λ (x : Ruled). RuledTo rs e s rs' e' s' all left (Ok x)) is h

  pub ruled_free : (ruled : Ruled) → ruled ≡ Free → RuledTo rs e s rs' e' s' all left (Ok ruled) → CameTo rs e s rs' e' s' 0 all left
  ruled_free ruled is h = subst (λ (x : Ruled). RuledTo rs e s rs' e' s' all left (Ok x)) is h

  pub ruled_end : (ruled : Ruled) (o : Outcome) (b : Bool) → ruled ≡ Halted o → needs_step e ≡ b → RuledTo rs e s rs' e' s' all left (Ok ruled) → StopsTo rs e s e' s' (step_count b) o all left
  ruled_end ruled o b is steps h sizes f book stands tied =
      subst (λ (x : Bool). Stops sizes (whole_state all e book) e' left (world_of f s e) (world_of f s' e') (step_count x) o) steps (subst (λ (x : Ruled). RuledTo rs e s rs' e' s' all left (Ok x)) is h sizes f book stands tied)

  pub ruled_err : (x : Early) (b : Bool) → needs_step e ≡ b → RuledTo rs e s rs' e' s' all left (Err x) → StoppedTo rs e s e' s' (step_count b) x all left
  ruled_err x b steps h sizes f book stands tied = subst (λ (y : Bool). StoppedBy sizes (whole_state all e book) (step_count y) e' left (world_of f s e) (world_of f s' e') x) steps (h sizes f book stands tied)

  pub free_none : (o : Option Outcome) → o ≡ None → FreeTo rs e s rs' e' s' all left (Ok o) → CameTo rs e s rs' e' s' 0 all left
  free_none o is h = subst (λ (x : Option Outcome). FreeTo rs e s rs' e' s' all left (Ok x)) is h

  pub free_some : (o : Option Outcome) (p : Outcome) → o ≡ Some p → FreeTo rs e s rs' e' s' all left (Ok o) → StopsTo rs e s e' s' 0 p all left
  free_some o p is h = subst (λ (x : Option Outcome). FreeTo rs e s rs' e' s' all left (Ok x)) is h

-- THE STEPS WERE TAKEN

wants_step : (wants gives : Bool) → (wants && gives) ≡ true → wants ≡ true
wants_step true gives h = refl
wants_step false gives h = cc

step_of : (opened step : Bool) → (opened || step) ≡ true → opened ≡ false → step ≡ true
step_of true step h k = absurd (true≢false k)
step_of false step h k = h

open_if : (b : Bool) → (b ≡ true → ⊥) → b ≡ false
open_if true h = absurd (h refl)
open_if false h = refl

module _ (sizes : Sizes) (e : Engine) (left : Rests) (rs : List OpenReader) (knows : Knows e rs) (may : MayLeave rs left.left) (book : Book) (stands : AllStand sizes e book) where
  -- the file goes by no step
  pub keeps_open : e.input.pending.next ≡ None → stepping e ≡ true → closes (plan_of e book) ≡ false
  keeps_open unopened waits =
      let never : asks_start (asks_now e) ≡ false = wants_no_start e (wants_step (wants_token (asks_now e)) (gives_step (pulled e.input.groups.now.categories e.input.pending)) waits) in
      let one : steps (plan_of e book) ≡ 1 = plan_one sizes e waits book stands in
      open_if (closes (plan_of e book)) (λ is. omega (arith, one, closing_is_free (state_of e book) (plan_of e book) (plan_counts (state_of e book) unopened (starts_same sizes e book stands ∙ never)) is))

  step_known : e.input.pending.next ≡ None → stepping e ≡ true → StepComes sizes (whole_state left e book)
  step_known unopened waits =
      let wants : wants_token (asks_now e) ≡ true = wants_step (wants_token (asks_now e)) (gives_step (pulled e.input.groups.now.categories e.input.pending)) waits in
      let stays : closes (plan_of e book) ≡ false = keeps_open unopened waits in
      let may' : MayLeave rs (rests_before [] (plan_of e book) left).left = subst (λ (r : Rests). MayLeave rs r.left) (sym (open_before [] (plan_of e book) left stays)) may in
      comes_known sizes e left book [] stays (reads_known sizes e book stands [] left unopened (wants_no_start e wants) rs knows wants may') (stepping_needs sizes e unopened waits book stands)

  step_at : (o : Option (List ℕ)) → e.input.pending.next ≡ o → (is_opened o || stepping e) ≡ true → StepComes sizes (whole_state left e book)
  step_at None is waits = step_known is waits
  step_at (Some bytes) is waits = comes_opened sizes e left book bytes is

  pub step_comes : needs_step e ≡ true → StepComes sizes (whole_state left e book)
  step_comes waits = step_at e.input.pending.next refl waits

pub came_steps : (rs0 rs : OpenReaders) (e0 e : Engine) (s0 s : SinkTold) (k : ℕ) → (AreTied rs e → Knows e rs.readers) → (all left : Rests) → MayLeave rs.readers left.left → CameTo rs0 e0 s0 rs e s k all left →
    (i : Stored) → i ≡ record e.input { pending = end_token_lists e.input.pending; lists = i.lists } → KeepsShared e.input i → needs_step e ≡ true → RanTo rs0 e0 s0 (record e { input = i }) s k ended.Steps all left
came_steps rs0 rs e0 e s0 s k knows all left may came i is kept waits sizes f book stands tied =
    let on = came sizes f book stands tied in
    came_whole sizes e left i is kept (whole_state all e0 book) (world_of f s0 e0) (world_of f s e) k on.came (λ w h. step_comes sizes e left rs.readers (knows on.tied) may w h waits)

-- a run that stopped early, and its answer
pub reads_err : (rs : OpenReaders) (e : Engine) (s : SinkTold) (rs' : OpenReaders) (e' : Engine) (s' : SinkTold) (result : Result (Option Outcome) Early) (x : Early) (f f' : FilesTold) → IsErrAnd result (λ y. y ≡ x) → ReadsTo rs.readers rs'.readers f f' (StoppedTo rs e s e' s' 0 x) →
    ReadsTo rs.readers rs'.readers f f' (λ all left. FreeTo rs e s rs' e' s' all left result)
reads_err rs e s rs' e' s' result x f f' is h =
    reads_map (StoppedTo rs e s e' s' 0 x) rs.readers rs'.readers f f' (λ (all left : Rests). FreeTo rs e s rs' e' s' all left result) h
    (λ all left may may' a. of_err result x (λ (y : Result (Option Outcome) Early). FreeTo rs e s rs' e' s' all left y) is a)

-- of a whole run
pub runs_err : {T : Type 0} (result : Result T Early) (x : Early) (P : T → (all left : Rests) → Type 0) (Q : Early → (all left : Rests) → Type 0) (rs rs' : List OpenReader) (f f' : FilesTold) → IsErrAnd result (λ y. y ≡ x) → ReadsTo rs rs' f f' (Q x) →
    ReadsTo rs rs' f f' (λ all left. MatchResult result (λ y. P y all left) (λ y. Q y all left))
runs_err result x P Q rs rs' f f' is h =
    reads_map (Q x) rs rs' f f' (λ (all left : Rests). MatchResult result (λ y. P y all left) (λ y. Q y all left)) h (λ all left may may' a. match_err result x (λ y. P y all left) (λ y. Q y all left) is a)

-- the engine goes on from there without a step, to where one comes next
pub came_settled : (rs0 rs rs' : OpenReaders) (e0 e e' : Engine) (s0 s s' : SinkTold) (k : ℕ) (f f' f'' : FilesTold) (x : Option Outcome) → x ≡ None →
    ReadsTo rs0.readers rs.readers f f' (CameTo rs0 e0 s0 rs e s k) → ReadsTo rs.readers rs'.readers f' f'' (λ all left. FreeTo rs e s rs' e' s' all left (Ok x)) → ReadsTo rs0.readers rs'.readers f f'' (CameTo rs0 e0 s0 rs' e' s' k)
came_settled rs0 rs rs' e0 e e' s0 s s' k f f' f'' x is came on =
    reads_then (CameTo rs0 e0 s0 rs e s k) rs0.readers rs.readers rs'.readers f f' f'' (λ (all left : Rests). FreeTo rs e s rs' e' s' all left (Ok x)) (CameTo rs0 e0 s0 rs' e' s' k) came on
    (λ all mid left p q. came_count rs0 rs' e0 e' s0 s' (k + 0) k all left (omega arith) (came_then rs0 rs rs' e0 e e' s0 s s' k all mid left p 0 (free_none rs rs' e e' s s' mid left x is q)))
