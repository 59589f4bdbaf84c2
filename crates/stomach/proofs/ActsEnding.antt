-- A command does what it does, and its reading ends.
use Rattle.std.proofs.Common.{◌≡◌, ℤ, List, [], ◌∷◌, ◌++◌, refl, sym, ap, subst, ◌∙◌, arith}
use Rattle.std.proofs.lemmas.List.{append-nil}
use Rattle.std.specs.Prelude.{Bool, true, false, Option, Some, None, if◌then◌else◌}
use Rattle.tex_syntax.specs.declared.words.Outcome.{Outcome}
use Rattle.tex_syntax.specs.declared.words.Report.TheVariants.{ArithmeticOverflow}
use Rattle.plain_state.specs.Reports.{report_bytes}
use Rattle.rows.specs.Arithmetic.{as_glue, as_number, value_computed}
use Rattle.rows.specs.Internal.{is_glue}
use Rattle.rows.specs.declared.words.Datum.{Datum}
use Rattle.tex_defs.specs.declared.Full.{Full}
use Rattle.tex_defs.specs.declared.Seen.{Seen}
use Rattle.tex_defs.specs.declared.Sizes.{Sizes}
use Rattle.tex_defs.specs.declared.Token.{Token}
use Rattle.tex_defs.specs.Places.{World, Transcript}
use Rattle.world_io.specs.Contents.{FilesTold, SinkTold, world}
use Rattle.equivalents.specs.declared.values.Glue.{Glue}
use Rattle.equivalents.specs.declared.values.Loc.{Loc}
use Rattle.equivalents.specs.declared.values.Val.TheVariants as val
use Rattle.equivalents.specs.Locations.{SeenValue, value_seen}
use Rattle.equivalents.specs.Tables.{get}
use Rattle.conditionals.specs.declared.choice.Aim.{Aim}
use Rattle.conditionals.specs.declared.choice.Value.{Value}
use Rattle.conditionals.specs.declared.skip.Ender.{Ender}
use Rattle.rows.specs.declared.arithmetic.Operation.{Operation}
use Rattle.rows.specs.declared.command.Call.{Call}
use Rattle.rows.specs.declared.command.Effect.{Effect}
use Rattle.rows.specs.declared.command.Effect.TheVariants as effect
use Rattle.rows.specs.Readings.{Ask, Acts, ActsOn}
use Rattle.plain_readings.specs.Readings.{Kind, Behind, Reading, ask, opened}
use Rattle.reading_frames.specs.Resumes.{resume}
use Rattle.reading_frames.specs.Stack.{asks_in}
use Rattle.reading_frames.specs.Frames as frames
use Rattle.reading_frames.specs.declared.frame.Frame.{Frame}
use Rattle.plain_machine.specs.declared.broken.Broken.{Broken}
use Rattle.plain_machine.specs.declared.broken.Broken.TheVariants as broken
use Rattle.plain_machine.specs.States.{State, Move, Closed, Begun, Reported, Written, made}
use Rattle.plain_machine.specs.Demands.{refusal}
use Rattle.plain_machine.specs.Plan as plan
use Rattle.plain_machine.specs.Plan.{Page, acts, acts_above, behind_assignment, computed_to, expanded, put_one, style_of}
use Rattle.plain_machine.specs.Runs.{steps}
use Rattle.plain_machine.specs.Does.{Did}
use Rattle.plain_machine.proofs.Doing.{did_join, did_one}
use Rattle.plain_machine.proofs.Pulls.{acts_none}
use Rattle.engine_state.specs.declared.engine.Engine.{Engine}
use Rattle.gullet.specs.declared.expansion.Once.{Once}
use Rattle.gullet.specs.declared.expansion.Once.TheVariants as once
use Rattle.engine_state.specs.declared.outcome.Ruled.{Ruled}
use Rattle.engine_state.specs.declared.outcome.Ruled.TheVariants.{Step, Free, Halted}
use Rattle.engine_state.specs.Book.{Book, with_work}
use Rattle.engine_state.specs.Calls.{FramesOf}
use Rattle.engine_state.specs.CutReadings.{CutsIn}
use Rattle.engine_state.specs.Rules.{world_of, Cuts, Reports, Went, Halts, DoesOnward}
use Rattle.engine_state.specs.Stands.{Stands, FramesStand, SameFrames, SameOthers, SameStore, state_of, page_of}
use Rattle.gullet.specs.Stepping.{ExpandsOnce, EndsRun}
use Rattle.engine_state.specs.Steps.{asked, freed, IsHalted}
use Rattle.engine_state.proofs.Uncalled.{all_of, frames_none as uncalled_frames}
use Rattle.engine_state.proofs.CallKept.{frames_kept}
use Rattle.gullet.proofs.JobName.{name_stands}
use Rattle.engine_state.proofs.Joining.{quiet_wrote, halts_on, halts_least, went_by, went_on}
use Rattle.engine_state.proofs.CuttingReadings.{later_in, stands_in, in_by}
use Rattle.engine_state.proofs.Reporting.{full_out}
use Rattle.engine_state.proofs.AtLocations.{same_engine}
use Rattle.gullet.proofs.Stepping.{free_of}
use Rattle.rows.specs.Suiting.{IsSuited, IsThere, IsVariable, TakesAll, AsksSuited}
use Rattle.stomach.specs.Effects.{done_alone, assignment_of, IsAlone}
use Rattle.stomach.specs.Halting.{DoesRuleIn}
use Rattle.stomach.proofs.Codes.{sets_small}
use Rattle.input_state.specs.Callings.{NotCalling}

-- WHAT IS DONE ALONE

-- the moves of an effect that is done alone, behind which the reading ends
pub alone_acts : (page : Page) (c : Call) (e : Effect) → IsAlone e → acts page c e ≡ done_alone page c e ++ Closed ∷ []
alone_acts page c (effect.Obey x) h = absurd h
alone_acts page c (effect.ExpandBehind x y) h = absurd h
alone_acts page c (effect.Compute operation l d) h = absurd h
alone_acts page c (effect.PutList l) h = absurd h
alone_acts page c (effect.Choose v) h = absurd h
alone_acts page c (effect.Compare x y) h = absurd h
alone_acts page c (effect.Reach a ender) h = absurd h
alone_acts page c e h = refl

pub is_alone : (e : Effect) → ((x : Seen) → e ≡ effect.Obey x → ⊥) → ((x y : Seen) → e ≡ effect.ExpandBehind x y → ⊥) → ((operation : Operation) (l : Loc) (d : Datum) → e ≡ effect.Compute operation l d → ⊥) → ((l : Loc) → e ≡ effect.PutList l → ⊥) →
    ((v : Value) → e ≡ effect.Choose v → ⊥) → ((x y : Seen) → e ≡ effect.Compare x y → ⊥) → ((a : Aim) (ender : Ender) → e ≡ effect.Reach a ender → ⊥) → IsAlone e
is_alone (effect.Obey x) obeys expands computes puts chooses compares reaches = obeys x refl
is_alone (effect.ExpandBehind x y) obeys expands computes puts chooses compares reaches = expands x y refl
is_alone (effect.Compute operation l d) obeys expands computes puts chooses compares reaches = computes operation l d refl
is_alone (effect.PutList l) obeys expands computes puts chooses compares reaches = puts l refl
is_alone (effect.Choose v) obeys expands computes puts chooses compares reaches = chooses v refl
is_alone (effect.Compare x y) obeys expands computes puts chooses compares reaches = compares x y refl
is_alone (effect.Reach a ender) obeys expands computes puts chooses compares reaches = reaches a ender refl
is_alone e obeys expands computes puts chooses compares reaches = tt

-- what is alone is the same above whatever readings
pub above_acts : (beneath : List Reading) (page : Page) (c : Call) (e : Effect) → IsAlone e → acts_above beneath page c e ≡ acts page c e
above_acts beneath page c (effect.PutList l) h = absurd h
above_acts beneath page c e h = refl

asks_as : (fs : List Frame) (held : List (List Token)) (r : Reading) (rs : List Reading) (a : Ask) → frames.AreFramesOf None fs held (r ∷ rs) → asks_in fs held ≡ Some a → ask r.kind r.fed ≡ a
asks_as [] held r rs a st asks = absurd st
asks_as (f ∷ fs) held r rs a st asks =
    let is : resume f held [] ≡ a = cc asks in
    ap (ask r.kind) (sym (append-nil r.fed)) ∙ st.0.goes_on [] ∙ is

-- with a list
pub small_gathered : (sizes : Sizes) (e : Engine) (book : Book) (r : Reading) (rs : List Reading) (c : Call) (does : Effect) (ts : List Token) → Stands sizes e (with_work (r ∷ rs) book) → asked e ≡ Some (ActsOn c does ts) → IsSuited does
small_gathered sizes e book r rs c does ts st asks =
    subst AsksSuited (asks_as e.readings.frames e.input.builds r rs (ActsOn c does ts) st.readings.frames asks) (sets_small r.kind r.fed)

pub small_effect : (sizes : Sizes) (e : Engine) (book : Book) (r : Reading) (rs : List Reading) (c : Call) (does : Effect) → Stands sizes e (with_work (r ∷ rs) book) → asked e ≡ Some (Acts c does) → IsSuited does
small_effect sizes e book r rs c does st asks =
    subst AsksSuited (asks_as e.readings.frames e.input.builds r rs (Acts c does) st.readings.frames asks) (sets_small r.kind r.fed)

-- THE OPEN READINGS

pub frames_none : (e e' : Engine) (work : List Reading) → e.input.call ≡ NotCalling → SameFrames e e' → FramesStand e work → FramesOf e' work
frames_none e e' work none same st = uncalled_frames e' work (same.call ∙ none) (frames_kept e e' work same st)

-- ONE MOVE OF THE READINGS

-- a move by which no text changes
abbrev pub LeavesPage : Move → Type 0
LeavesPage m = (s : State) → (plan.page_of (made m s) ≡ plan.page_of s) × ((made m s).reports ≡ s.reports)

module _ (e e1 : Engine) (before after : Book) (m : Move) (is : made m (state_of e before) ≡ state_of e1 after) (turns : LeavesPage m) where
  pub turned_page : page_of e1 after ≡ page_of e before
  turned_page = sym (ap plan.page_of is) ∙ (turns (state_of e before)).0

  turned_reports : (state_of e1 after).reports ≡ (state_of e before).reports
  turned_reports = sym (ap (λ (x : State). x.reports) is) ∙ (turns (state_of e before)).1

pub closed_leaves : LeavesPage Closed
closed_leaves s = (refl, refl)

begun_leaves : (k : Kind) → LeavesPage (Begun k)
begun_leaves k s = (refl, refl)

-- WHAT COMES BEHIND MOVES

-- the readings being others then
rules_behind : (sizes : Sizes) (s u : State) (e' : Engine) (book : Book) (w v w' : World) (ms ns : List Move) (ruled : Ruled) → u.reports ≡ s.reports → Did sizes s u w v ms → steps ms ≡ 0 → (IsHalted ruled → FramesOf e' book.work) →
    DoesOnward sizes u e' book v w' ns ruled → DoesRuleIn sizes s e' w w' (ms ++ ns) (freed ruled)
rules_behind sizes s u e' book w v w' ms ns Step same d n stand h = went_on sizes s u e' w v w' ms ns 0 0 d n h
rules_behind sizes s u e' book w v w' ms ns Free same d n stand h = absurd h
rules_behind sizes s u e' book w v w' ms ns (Halted o) same d n stand h = record {
  book' = book;
  halts = halts_least sizes s e' book w w' (ms ++ ns) o 0 1 (omega arith) (halts_on sizes s u e' book w v w' ms ns o 0 0 same d n h);
  frames = stand tt;
}

-- what came of expanding a token once
module _ (sizes : Sizes) (s : State) (e' : Engine) (book : Book) (w w' : World) (moves others : List Move) (n : Once) (h : ExpandsOnce sizes s e' book w w' moves others n) where
  pub once_went : n ≡ once.Expanded → Went sizes s e' w w' moves 0
  once_went is = subst (ExpandsOnce sizes s e' book w w' moves others) is h

  pub once_stays : n ≡ once.Stays → moves ≡ others
  once_stays is = subst (ExpandsOnce sizes s e' book w w' moves others) is h

  pub once_halts : (o : Outcome) → n ≡ once.Over o → Halts sizes s e' book w w' moves o 0
  once_halts o is = subst (ExpandsOnce sizes s e' book w w' moves others) is h

pub once_over : (n : Once) (o : Outcome) → n ≡ once.Over o → EndsRun n
once_over n o is = subst EndsRun (sym is) tt

-- THE READING ENDS, and its token is obeyed, or its conditional goes on

module _ (sizes : Sizes) (e e1 : Engine) (book : Book) (r : Reading) (rs : List Reading) (f : FilesTold) (s : SinkTold) (is : made Closed (state_of e (with_work (r ∷ rs) book)) ≡ state_of e1 (with_work rs book)) (column : e1.in_line ≡ e.in_line) where
  abbrev all : Book
  all = with_work (r ∷ rs) book

  abbrev left : Book
  left = with_work rs book

  pub closed_did : Did sizes (state_of e all) (state_of e1 left) (world_of f s e) (world_of f s e1) (Closed ∷ [])
  closed_did = did_one sizes Closed (state_of e all) (state_of e1 left) _ _ refl is (quiet_wrote Closed f s e.in_line e1.in_line tt column)

  closed_page : page_of e1 left ≡ page_of e book
  closed_page = turned_page e e1 all left Closed is closed_leaves

  closed_reports : (state_of e1 left).reports ≡ (state_of e all).reports
  closed_reports = turned_reports e e1 all left Closed is closed_leaves

  -- and what comes then depends on what texts depend on
  module _ (e2 : Engine) (s' : SinkTold) (moves : Page → List Move) where
    pub obeyed_rule : (ruled now : Ruled) → now ≡ freed ruled → e1.input.call ≡ NotCalling → (IsHalted ruled → SameFrames e1 e2) → Stands sizes e1 left →
        DoesOnward sizes (state_of e1 left) e2 left (world_of f s e1) (world_of f s' e2) (moves (page_of e1 left)) ruled →
        DoesRuleIn sizes (state_of e all) e2 (world_of f s e) (world_of f s' e2) (Closed ∷ moves (page_of e book)) now
    obeyed_rule ruled now to none halts st h =
        subst (λ (y : Ruled). DoesRuleIn sizes (state_of e all) e2 (world_of f s e) (world_of f s' e2) (Closed ∷ moves (page_of e book)) y) (sym to)
        (subst (λ (page : Page). DoesRuleIn sizes (state_of e all) e2 (world_of f s e) (world_of f s' e2) (Closed ∷ moves page) (freed ruled)) closed_page
        (rules_behind sizes (state_of e all) (state_of e1 left) e2 left (world_of f s e) (world_of f s e1) (world_of f s' e2) (Closed ∷ []) (moves (page_of e1 left)) ruled closed_reports closed_did refl
        (λ halted. frames_none e1 e2 rs none (halts halted) st.readings) h))

    pub obeyed_cut : (b : Broken) → CutsIn sizes (state_of e1 left) e2 (world_of f s e1) (world_of f s' e2) (moves (page_of e1 left)) b →
        CutsIn sizes (state_of e all) e2 (world_of f s e) (world_of f s' e2) (Closed ∷ moves (page_of e book)) b
    obeyed_cut b h =
        subst (λ (page : Page). CutsIn sizes (state_of e all) e2 (world_of f s e) (world_of f s' e2) (Closed ∷ moves page) b) closed_page
        (later_in sizes (state_of e all) (state_of e1 left) e2 (world_of f s e) (world_of f s e1) (world_of f s' e2) (Closed ∷ []) (moves (page_of e1 left)) b closed_did h)

  -- ANOTHER BEGINS IN ITS PLACE

  -- or there is no room for it
  pub begun_cut : (e2 : Engine) (k : Kind) (more : List Move) (full : Full) → e2 ≡ e1 → refusal sizes (Begun k) (state_of e1 left) ≡ Some full → Stands sizes e1 left →
      CutsIn sizes (state_of e all) e2 (world_of f s e) (world_of f s e2) (Closed ∷ Begun k ∷ more) (broken.Full full)
  begun_cut e2 k more full same refused st =
      later_in sizes (state_of e all) (state_of e1 left) e2 (world_of f s e) (world_of f s e1) (world_of f s e2) (Closed ∷ []) (Begun k ∷ more) (broken.Full full) closed_did
      (stands_in sizes e1 e2 left (world_of f s e1) (world_of f s e2) (Begun k ∷ more) (broken.Full full) (full_out sizes e1 e2 f s left (Begun k) more full same refused) (same_engine e1 e2 same) st)

  module _ (e2 : Engine) (c : Call) (x y : Seen) (begun : made (Begun (Behind c x)) (state_of e1 left) ≡ state_of e2 (with_work (opened (Behind c x) rs) book)) (fits : refusal sizes (Begun (Behind c x)) (state_of e1 left) ≡ None)
      (still : e2.in_line ≡ e1.in_line) where
    abbrev behind : Book
    behind = with_work (opened (Behind c x) rs) book

    abbrev fronts : List Move
    fronts = Closed ∷ Begun (Behind c x) ∷ []

    begun_did : Did sizes (state_of e all) (state_of e2 behind) (world_of f s e) (world_of f s e2) fronts
    begun_did =
        did_join sizes (state_of e all) (state_of e1 left) (state_of e2 behind) (world_of f s e) (world_of f s e1) (world_of f s e2) (Closed ∷ []) (Begun (Behind c x) ∷ []) closed_did
        (did_one sizes (Begun (Behind c x)) (state_of e1 left) (state_of e2 behind) _ _ fits begun (quiet_wrote (Begun (Behind c x)) f s e1.in_line e2.in_line tt still))

    begun_page : page_of e2 behind ≡ page_of e book
    begun_page = turned_page e1 e2 left behind (Begun (Behind c x)) begun (begun_leaves (Behind c x)) ∙ closed_page

    begun_reports : (state_of e2 behind).reports ≡ (state_of e all).reports
    begun_reports = turned_reports e1 e2 left behind (Begun (Behind c x)) begun (begun_leaves (Behind c x)) ∙ closed_reports

    module _ (e3 : Engine) (s' : SinkTold) where
      abbrev moves : List Move
      moves = acts (page_of e book) c (effect.ExpandBehind x y)

      -- the second token is expanded, or the run ends
      pub expanded_rule : (ruled : Ruled) → e2.input.call ≡ NotCalling → (IsHalted ruled → SameFrames e2 e3) → Stands sizes e2 behind →
          DoesOnward sizes (state_of e2 behind) e3 behind (world_of f s e2) (world_of f s' e3) (expanded (page_of e2 behind) y (put_one y.token)) ruled →
          DoesRuleIn sizes (state_of e all) e3 (world_of f s e) (world_of f s' e3) moves (freed ruled)
      expanded_rule ruled none halts st h =
          subst (λ (page : Page). DoesRuleIn sizes (state_of e all) e3 (world_of f s e) (world_of f s' e3) (fronts ++ expanded page y (put_one y.token)) (freed ruled)) begun_page
          (rules_behind sizes (state_of e all) (state_of e2 behind) e3 behind (world_of f s e) (world_of f s e2) (world_of f s' e3) fronts (expanded (page_of e2 behind) y (put_one y.token)) ruled begun_reports begun_did refl
          (λ halted. frames_none e2 e3 behind.work none (halts halted) st.readings) h)

      pub expanded_cut : (b : Broken) → CutsIn sizes (state_of e2 behind) e3 (world_of f s e2) (world_of f s' e3) (expanded (page_of e2 behind) y (put_one y.token)) b →
          CutsIn sizes (state_of e all) e3 (world_of f s e) (world_of f s' e3) moves b
      expanded_cut b h =
          subst (λ (page : Page). CutsIn sizes (state_of e all) e3 (world_of f s e) (world_of f s' e3) (fronts ++ expanded page y (put_one y.token)) b) begun_page
          (later_in sizes (state_of e all) (state_of e2 behind) e3 (world_of f s e) (world_of f s e2) (world_of f s' e3) fronts (expanded (page_of e2 behind) y (put_one y.token)) b begun_did h)

      -- it stays, and is put back
      module _ (same : e3 ≡ e2) (silent : s' ≡ s) (stays : expanded (page_of e2 behind) y (put_one y.token) ≡ put_one y.token) (st : Stands sizes e2 behind) where
        abbrev here : World
        here = world_of f s' e3

        pub stayed_stands : Stands sizes e3 behind
        stayed_stands = subst (λ (z : Engine). Stands sizes z behind) (sym same) st

        stayed_did : Did sizes (state_of e all) (state_of e3 behind) (world_of f s e) here fronts
        stayed_did =
            subst (λ (t : SinkTold). Did sizes (state_of e all) (state_of e3 behind) (world_of f s e) (world_of f t e3) fronts) (sym silent)
            (subst (λ (z : Engine). Did sizes (state_of e all) (state_of z behind) (world_of f s e) (world_of f s z) fronts) (sym same) begun_did)

        stayed_moves : fronts ++ put_one y.token ≡ moves
        stayed_moves = ap (λ (ms : List Move). fronts ++ ms) (sym stays) ∙ ap (λ (page : Page). fronts ++ expanded page y (put_one y.token)) begun_page

        module _ (e4 : Engine) (same4 : SameFrames e3 e4) (others : SameOthers e3 e4) where
          pub stayed_rule : SameStore e3.input e4.input → e4.input.making ≡ None → Did sizes (state_of e3 behind) (state_of e4 behind) here here (put_one y.token) →
              Went sizes (state_of e all) e4 (world_of f s e) (world_of f s' e4) moves 0
          stayed_rule store idle put =
              subst (λ (b : Bool). Went sizes (state_of e all) e4 (world_of f s e) (world f s' b) moves 0) (sym others.in_line)
              (subst (λ (ms : List Move). Went sizes (state_of e all) e4 (world_of f s e) here ms 0) stayed_moves (record {
                book' = behind;
                stands = all_of sizes e4 behind (name_stands sizes e3 e4 behind same4 others store idle stayed_stands);
                did = did_join sizes (state_of e all) (state_of e3 behind) (state_of e4 behind) (world_of f s e) here here fronts (put_one y.token) stayed_did put;
                count = refl;
              }))

          pub stayed_cut : (b : Broken) → Cuts sizes (state_of e3 behind) e4 behind here here (put_one y.token) b → CutsIn sizes (state_of e all) e4 (world_of f s e) (world_of f s' e4) moves b
          stayed_cut b cuts =
              subst (λ (column : Bool). CutsIn sizes (state_of e all) e4 (world_of f s e) (world f s' column) moves b) (sym others.in_line)
              (subst (λ (ms : List Move). CutsIn sizes (state_of e all) e4 (world_of f s e) here ms b) stayed_moves
              (later_in sizes (state_of e all) (state_of e3 behind) e4 (world_of f s e) here here fronts (put_one y.token) b stayed_did (stands_in sizes e3 e4 behind here here (put_one y.token) b cuts same4 stayed_stands)))

-- IT DOES WHAT IT SAYS ALONE, and ends

module _ (sizes : Sizes) (e e1 : Engine) (book : Book) (r : Reading) (rs : List Reading) (f : FilesTold) (s s' : SinkTold) (c : Call) (does : Effect) where
  pub alone_cut : (b : Broken) → IsAlone does → SameFrames e e1 → Stands sizes e (with_work (r ∷ rs) book) →
      Cuts sizes (state_of e (with_work (r ∷ rs) book)) e1 (with_work (r ∷ rs) book) (world_of f s e) (world_of f s' e1) (done_alone (page_of e (with_work (r ∷ rs) book)) c does ++ Closed ∷ []) b → CutsIn sizes (state_of e (with_work (r ∷ rs) book)) e1 (world_of f s e) (world_of f s' e1) (acts (page_of e book) c does) b
  alone_cut b alone same st cuts =
      in_by sizes (state_of e (with_work (r ∷ rs) book)) e1 (world_of f s e) (world_of f s' e1) (done_alone (page_of e (with_work (r ∷ rs) book)) c does ++ Closed ∷ []) (acts (page_of e book) c does) b (alone_acts (page_of e book) c does alone)
      (stands_in sizes e e1 (with_work (r ∷ rs) book) (world_of f s e) (world_of f s' e1) (done_alone (page_of e (with_work (r ∷ rs) book)) c does ++ Closed ∷ []) b cuts same st)

  pub alone_rule : (e2 : Engine) → IsAlone does → Did sizes (state_of e (with_work (r ∷ rs) book)) (state_of e1 (with_work (r ∷ rs) book)) (world_of f s e) (world_of f s' e1) (done_alone (page_of e (with_work (r ∷ rs) book)) c does) →
      made Closed (state_of e1 (with_work (r ∷ rs) book)) ≡ state_of e2 (with_work rs book) → e2.in_line ≡ e1.in_line → Stands sizes e2 (with_work rs book) → Went sizes (state_of e (with_work (r ∷ rs) book)) e2 (world_of f s e) (world_of f s' e2) (acts (page_of e book) c does) 0
  alone_rule e2 alone did is column st = record {
    book' = with_work rs book;
    stands = all_of sizes e2 (with_work rs book) st;
    did = subst (Did sizes (state_of e (with_work (r ∷ rs) book)) (state_of e2 (with_work rs book)) (world_of f s e) (world_of f s' e2)) (sym (alone_acts (page_of e book) c does alone))
        (did_join sizes (state_of e (with_work (r ∷ rs) book)) (state_of e1 (with_work (r ∷ rs) book)) (state_of e2 (with_work rs book)) (world_of f s e) (world_of f s' e1) (world_of f s' e2) (done_alone (page_of e (with_work (r ∷ rs) book)) c does) (Closed ∷ []) did (closed_did sizes e1 e2 book r rs f s' is column));
    count = free_of (acts (page_of e book) c does) (acts_none (page_of e book) c does);
  }

-- A RESULT OUT OF BOUNDS IS REPORTED, and the command ends behind what comes behind an assignment

module _ (sizes : Sizes) (e e1 e2 : Engine) (book : Book) (r : Reading) (rs : List Reading) (f : FilesTold) (s0 s1 s2 : SinkTold) (c : Call) (l : Loc) where
  abbrev over : Book
  over = with_work (r ∷ rs) book

  -- what is done alone then
  abbrev rest : List Move
  rest = acts (page_of e book) c effect.Unassigned

  abbrev moves_of : List Move
  moves_of = computed_to (page_of e book) c l None

  module _ (h : Reports sizes (state_of e over) (state_of e1 over) (world_of f s0 e) (world_of f s1 e1) (page_of e book) ArithmeticOverflow rest) where
    same_rest : acts (page_of e1 book) c effect.Unassigned ≡ rest
    same_rest = ap (λ (o : Option Token). behind_assignment o ++ Closed ∷ []) (sym (ap (λ (s : State). s.after) h.did.state))

    abbrev written : List Move
    written = Written Transcript (report_bytes (style_of (page_of e book)) e.in_line e.input.pending.number ArithmeticOverflow) ∷ Reported ∷ []

    pub overflow_went : Went sizes (state_of e1 over) e2 (world_of f s1 e1) (world_of f s2 e2) (acts (page_of e1 book) c effect.Unassigned) 0 → Went sizes (state_of e over) e2 (world_of f s0 e) (world_of f s2 e2) moves_of 0
    overflow_went went =
        went_by sizes (state_of e over) e2 (world_of f s0 e) (world_of f s2 e2) (written ++ rest) moves_of 0 h.moves
        (went_on sizes (state_of e over) (state_of e1 over) e2 (world_of f s0 e) (world_of f s1 e1) (world_of f s2 e2) written rest 0 0 h.did refl
        (subst (λ (ms : List Move). Went sizes (state_of e1 over) e2 (world_of f s1 e1) (world_of f s2 e2) ms 0) same_rest went))

    pub overflow_cut : (b : Broken) → CutsIn sizes (state_of e1 over) e2 (world_of f s1 e1) (world_of f s2 e2) (acts (page_of e1 book) c effect.Unassigned) b → CutsIn sizes (state_of e over) e2 (world_of f s0 e) (world_of f s2 e2) moves_of b
    overflow_cut b cuts =
        in_by sizes (state_of e over) e2 (world_of f s0 e) (world_of f s2 e2) (written ++ rest) moves_of b h.moves
        (later_in sizes (state_of e over) (state_of e1 over) e2 (world_of f s0 e) (world_of f s1 e1) (world_of f s2 e2) written rest b h.did
        (subst (λ (ms : List Move). CutsIn sizes (state_of e1 over) e2 (world_of f s1 e1) (world_of f s2 e2) ms b) same_rest cuts))

-- WHAT ARITHMETIC COMES TO

pub computed_moves : (e : Engine) (book : Book) (c : Call) (operation : Operation) (l : Loc) (value : SeenValue) (d : Datum) (o : Option SeenValue) → value ≡ value_seen (get (page_of e book).now l) → value_computed operation l value d ≡ o →
    acts (page_of e book) c (effect.Compute operation l d) ≡ computed_to (page_of e book) c l o
computed_moves e book c operation l value d o at is = ap (computed_to (page_of e book) c l) (ap (λ (v : SeenValue). value_computed operation l v d) (sym at) ∙ is)

-- it is assigned
assigned_moves : (page : Page) (c : Call) (l : Loc) (v : SeenValue) → computed_to page c l (Some v) ≡ acts page c (assignment_of l v)
assigned_moves page c l (val.Number n) = refl
assigned_moves page c l (val.Skip g) = refl
assigned_moves page c l (val.Meant m) = refl
assigned_moves page c l (val.Tokens ts) = refl

pub assigned_alone : (l : Loc) (v : SeenValue) → IsAlone (assignment_of l v)
assigned_alone l (val.Number n) = tt
assigned_alone l (val.Skip g) = tt
assigned_alone l v = tt

-- to a location that such values suit
number_small : (l : Loc) (v : SeenValue) (o : Option ℤ) → IsThere l → TakesAll false l → as_number o ≡ Some v → IsSuited (assignment_of l v)
number_small l v None there takes is = absurd cc
number_small l v (Some n) there takes is = let same : val.Number n ≡ v = cc in subst (λ (x : SeenValue). IsSuited (assignment_of l x)) same (there, takes n)

glue_small : (l : Loc) (v : SeenValue) (o : Option Glue) → IsThere l → TakesAll true l → as_glue o ≡ Some v → IsSuited (assignment_of l v)
glue_small l v None there takes is = absurd cc
glue_small l v (Some g) there takes is = let same : val.Skip g ≡ v = cc in subst (λ (x : SeenValue). IsSuited (assignment_of l x)) same (there, takes g)

value_small : (b : Bool) (l : Loc) (v : SeenValue) (o : Option Glue) (p : Option ℤ) → IsThere l → TakesAll b l → (if b then as_glue o else as_number p) ≡ Some v → IsSuited (assignment_of l v)
value_small true l v o p there takes is = glue_small l v o there takes is
value_small false l v o p there takes is = number_small l v p there takes is

pub assigned_small : (operation : Operation) (l : Loc) (value v : SeenValue) (d : Datum) → IsVariable l → value_computed operation l value d ≡ Some v → IsSuited (assignment_of l v)
assigned_small operation l value v d h is = value_small (is_glue l) l v _ _ h.0 h.1 is

pub set_moves : (e : Engine) (book : Book) (c : Call) (operation : Operation) (l : Loc) (value v : SeenValue) (d : Datum) → value ≡ value_seen (get (page_of e book).now l) → value_computed operation l value d ≡ Some v →
    acts (page_of e book) c (effect.Compute operation l d) ≡ acts (page_of e book) c (assignment_of l v)
set_moves e book c operation l value v d at is = computed_moves e book c operation l value d (Some v) at is ∙ assigned_moves (page_of e book) c l v
