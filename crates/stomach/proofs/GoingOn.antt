-- A conditional goes on behind the reading that ends.
use Rattle.std.proofs.Common.{◌≡◌, ℕ, ◌≤◌, ◌<◌, ◌+◌, List, [], ◌∷◌, ◌++◌, drop, Some, refl, ap, subst, arith}
use Rattle.tex_syntax.specs.declared.words.Report.TheVariants.{ExtraFiOrElse}
use Rattle.tex_defs.specs.Places.{World, Transcript}
use Rattle.tex_defs.specs.declared.Sizes.{Sizes}
use Rattle.conditionals.specs.declared.choice.Choice.{Choice}
use Rattle.conditionals.specs.declared.choice.End.{End}
use Rattle.conditionals.specs.declared.choice.End.TheVariants as ending
use Rattle.conditionals.specs.declared.choice.Passing.{Passing}
use Rattle.conditionals.specs.declared.choice.Passing.TheVariants as passing
use Rattle.conditionals.specs.declared.choice.Step.TheVariants as step
use Rattle.conditionals.specs.Skipping.{or_primitive}
use Rattle.plain_state.specs.Reports.{report_bytes}
use Rattle.rows.specs.declared.command.Call.{Call}
use Rattle.rows.specs.Readings.{Ask}
use Rattle.plain_readings.specs.Readings.{Reading, Skips}
use Rattle.plain_readings.specs.Weights.{act_frame, act_weight}
use Rattle.reading_frames.specs.Stack.{asks_in}
use Rattle.reading_frames.specs.Weights.{frames_weight, innermost_weight, IsEnd}
use Rattle.reading_frames.proofs.Rules.{ends_frame, ends_heavy}
use Rattle.plain_machine.specs.declared.broken.Broken.{Broken}
use Rattle.plain_machine.specs.States.{State, Move, Begun, Closed, ConditionClosed, Reported, Written, made}
use Rattle.plain_machine.specs.Plan.{Page, ended_by, reached, skips, style_of}
use Rattle.plain_machine.specs.Runs.{steps}
use Rattle.plain_machine.specs.Does.{Did}
use Rattle.plain_machine.proofs.Doing.{did_none, did_one}
use Rattle.world_io.specs.Contents.{FilesTold, SinkTold}
use Rattle.input_state.specs.Stored.{Stored}
use Rattle.input_state.specs.Callings.{NotCalling}
use Rattle.engine_state.specs.declared.engine.Engine.{Engine}
use Rattle.engine_state.specs.Book.{Book, with_work}
use Rattle.engine_state.specs.CutReadings.{CutsIn}
use Rattle.engine_state.specs.Rules.{world_of, Reports, Went}
use Rattle.engine_state.specs.Stands.{Stands, SameBut, page_of, state_of}
use Rattle.plain_machine.specs.Weights.{pending_weight}
use Rattle.engine_state.specs.Steps.{weight}
use Rattle.engine_state.proofs.CuttingReadings.{in_by, later_in}
use Rattle.engine_state.proofs.Joining.{quiet_here, went_by, went_on}
use Rattle.engine_state.proofs.Uncalled.{all_of}
use Rattle.stomach.specs.Skipping.{Passes}
use Rattle.stomach.proofs.ActingAlone.{did_still}
use Rattle.stomach.proofs.ActsEnding.{closed_leaves, turned_page}
use Rattle.stomach.proofs.Lighter.{weight_none}

-- THE READING ENDS, and what comes then depends on what texts depend on

module _ (sizes : Sizes) (e e1 e2 : Engine) (book : Book) (r : Reading) (rs : List Reading) (w : World) (is : made Closed (state_of e (with_work (r ∷ rs) book)) ≡ state_of e1 (with_work rs book)) (moves : Page → List Move) where
  abbrev all : Book
  all = with_work (r ∷ rs) book

  abbrev left : Book
  left = with_work rs book

  same_page : page_of e1 left ≡ page_of e book
  same_page = turned_page e e1 all left Closed is closed_leaves

  closed : Did sizes (state_of e all) (state_of e1 left) w w (Closed ∷ [])
  closed = did_one sizes Closed (state_of e all) (state_of e1 left) w w refl is (quiet_here Closed w tt)

  pub behind_went : Went sizes (state_of e1 left) e2 w w (moves (page_of e1 left)) 0 → Went sizes (state_of e all) e2 w w (Closed ∷ moves (page_of e book)) 0
  behind_went h =
      subst (λ (page : Page). Went sizes (state_of e all) e2 w w (Closed ∷ moves page) 0) same_page
      (went_on sizes (state_of e all) (state_of e1 left) e2 w w w (Closed ∷ []) (moves (page_of e1 left)) 0 0 closed refl h)

  pub behind_in : (b : Broken) → CutsIn sizes (state_of e1 left) e2 w w (moves (page_of e1 left)) b → CutsIn sizes (state_of e all) e2 w w (Closed ∷ moves (page_of e book)) b
  behind_in b h =
      subst (λ (page : Page). CutsIn sizes (state_of e all) e2 w w (Closed ∷ moves page) b) same_page
      (later_in sizes (state_of e all) (state_of e1 left) e2 w w w (Closed ∷ []) (moves (page_of e1 left)) b closed h)

-- MORE IS SKIPPED, behind what the ender comes to

module _ (sizes : Sizes) (e e1 e2 : Engine) (book : Book) (w v v' : World) (c : Call) (p : Passing) (choice : Choice) (h : Passes sizes (state_of e book) (state_of e1 book) w v (page_of e book) p (skips (page_of e book) c choice.aim)) (input : e1.input ≡ e.input) where
  same_skips : skips (page_of e1 book) c choice.aim ≡ skips (page_of e book) c choice.aim
  same_skips = ap (λ (i : Stored). Begun (Skips c choice.aim i.pending.number) ∷ []) input

  pub passed_went : Went sizes (state_of e1 book) e2 v v' (skips (page_of e1 book) c choice.aim) 0 → Went sizes (state_of e book) e2 w v' (reached (page_of e book) c (step.Skips p choice)) 0
  passed_went went =
      went_by sizes (state_of e book) e2 w v' (h.front ++ skips (page_of e book) c choice.aim) (reached (page_of e book) c (step.Skips p choice)) 0 h.moves
      (went_on sizes (state_of e book) (state_of e1 book) e2 w v v' h.front (skips (page_of e book) c choice.aim) 0 0 h.did h.free
      (subst (λ (ms : List Move). Went sizes (state_of e1 book) e2 v v' ms 0) same_skips went))

  pub passed_in : (b : Broken) → CutsIn sizes (state_of e1 book) e2 v v' (skips (page_of e1 book) c choice.aim) b → CutsIn sizes (state_of e book) e2 w v' (reached (page_of e book) c (step.Skips p choice)) b
  passed_in b cuts =
      in_by sizes (state_of e book) e2 w v' (h.front ++ skips (page_of e book) c choice.aim) (reached (page_of e book) c (step.Skips p choice)) b h.moves
      (later_in sizes (state_of e book) (state_of e1 book) e2 w v v' h.front (skips (page_of e book) c choice.aim) b h.did
      (subst (λ (ms : List Move). CutsIn sizes (state_of e1 book) e2 v v' ms b) same_skips cuts))

-- WHAT BECOMES LIGHTER: what comes behind the end weighs no more than the end did

pub gone_on_lighter : (e e1 e2 : Engine) (a : Ask) → e.input.call ≡ NotCalling → asks_in e.readings.frames [] ≡ Some a → IsEnd a → (e.input.call ≡ NotCalling → SameBut e e1) → frames_weight e1.readings.frames ≡ frames_weight (drop 1 e.readings.frames) → innermost_weight e1.readings.frames < act_frame + act_weight →
    ((most : ℕ) → act_frame ≤ most → innermost_weight e1.readings.frames ≤ most → weight e2 ≤ frames_weight e1.readings.frames + most + pending_weight e1.input.pending) → weight e2 < weight e
gone_on_lighter e e1 e2 a none asks end but frames light most =
    let small : innermost_weight e1.readings.frames ≤ 98 = omega (arith, light) in
    omega (arith, most 98 (omega arith) small, frames, weight_none e none, ends_frame e.readings.frames a asks end, ends_heavy e.readings.frames a asks end, ap pending_weight (but none).pending)

-- THE ENDER COMES TO THIS, behind which more is skipped

pub passes_nothing : (sizes : Sizes) (s : State) (w : World) (page : Page) (rest : List Move) → Passes sizes s s w w page passing.Nothing rest
passes_nothing sizes s w page rest = record { front = []; moves = refl; did = did_none sizes s w; free = refl }

pub passes_above : (sizes : Sizes) (s s' : State) (w w' : World) (page : Page) (rest : List Move) → Did sizes s s' w w' (ConditionClosed ∷ []) → Passes sizes s s' w w' page passing.ClosesAbove rest
passes_above sizes s s' w w' page rest did = record { front = ConditionClosed ∷ []; moves = refl; did = did; free = refl }

pub passes_or : (sizes : Sizes) (s s' : State) (w w' : World) (page : Page) (rest : List Move) → Reports sizes s s' w w' page (ExtraFiOrElse or_primitive) rest → Passes sizes s s' w w' page passing.ExtraOr rest
passes_or sizes s s' w w' page rest h = record {
  front = Written Transcript (report_bytes (style_of page) page.in_line page.line (ExtraFiOrElse or_primitive)) ∷ Reported ∷ [];
  moves = h.moves;
  did = h.did;
  free = refl;
}

-- NO MORE IS SKIPPED

ended_free : (how : End) → steps (ended_by how) ≡ 0
ended_free (ending.Reads l) = refl
ended_free ending.Closes = refl

pub ended_went : (sizes : Sizes) (e e1 : Engine) (book : Book) (f : FilesTold) (s : SinkTold) (c : Call) (how : End) → e1.in_line ≡ e.in_line → Did sizes (state_of e book) (state_of e1 book) (world_of f s e) (world_of f s e) (ended_by how) → Stands sizes e1 book →
    Went sizes (state_of e book) e1 (world_of f s e) (world_of f s e1) (reached (page_of e book) c (step.Ends how)) 0
ended_went sizes e e1 book f s c how column did st = record {
  book' = book;
  stands = all_of sizes e1 book st;
  did = did_still sizes (state_of e book) (state_of e1 book) e e1 f s (ended_by how) column did;
  count = ended_free how;
}
