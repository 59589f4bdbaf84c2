-- A rule behind whose moves the innermost reading ends without a value.
use Rattle.std.proofs.Common.{◌≡◌, ℕ, ◌+◌, List, [], ◌∷◌, ◌++◌, refl, sym, ap, ◌∙◌, subst, arith, Bool, true, false, ◌<◌, drop}
use Rattle.std.specs.Prelude.{Option, Some, if◌then◌else◌}
use Rattle.tex_syntax.specs.declared.words.Outcome.{Outcome}
use Rattle.tex_defs.specs.Places.{World}
use Rattle.tex_defs.specs.declared.Name.{Name}
use Rattle.tex_defs.specs.declared.Meaning.{Meaning}
use Rattle.tex_defs.specs.declared.Meaning.TheVariants as means
use Rattle.tex_defs.specs.declared.Sizes.{Sizes}
use Rattle.tex_defs.specs.declared.Token.{Token}
use Rattle.tex_defs.specs.declared.Token.TheVariants as token
use Rattle.plain_tokens.specs.Names.{relax_primitive}
use Rattle.plain_readings.specs.Readings.{Reading}
use Rattle.plain_readings.specs.Weights.{act_frame, act_weight}
use Rattle.equivalents.specs.declared.values.Loc.{Loc}
use Rattle.rows.specs.declared.command.Call.{Call}
use Rattle.rows.specs.declared.command.Effect.{Effect}
use Rattle.rows.specs.declared.command.Effect.TheVariants as effect
use Rattle.rows.specs.Readings.{Ask}
use Rattle.reading_frames.specs.Stack.{Stack, asks_in}
use Rattle.reading_frames.specs.Weights.{frames_weight, innermost_weight, IsEnd}
use Rattle.plain_machine.specs.States.{State, Move, Assigned, Closed, Spelt}
use Rattle.plain_machine.specs.Plan.{Page, acts_on, entered, name_made, newly_spelt, put_one, relax_if_undefined, reported_as, spelt}
use Rattle.plain_machine.specs.Runs.{steps}
use Rattle.plain_machine.specs.Does.{Did}
use Rattle.plain_machine.proofs.Doing.{did_none}
use Rattle.plain_machine.proofs.Joins.{steps_join}
use Rattle.world_io.specs.Contents.{FilesTold, SinkTold, world}
use Rattle.engine_state.specs.declared.engine.Engine.{Engine}
use Rattle.engine_state.specs.Book.{Book, with_work}
use Rattle.engine_state.specs.Rules.{world_of, Halts, ReportsAs, Went}
use Rattle.engine_state.specs.Stands.{Stands, IsSized, SameBut, SameFrames, OnlyColumn, page_of, state_of}
use Rattle.plain_machine.specs.Weights.{pending_weight}
use Rattle.engine_state.specs.Steps.{weight}
use Rattle.engine_state.proofs.CallWeighing.{lighter_by}
use Rattle.engine_state.proofs.Joining.{went_by, halts_least}
use Rattle.engine_state.proofs.ReadingCloses.{ClosesStands, ClosesState, closed_here}
use Rattle.engine_state.proofs.Reporting.{column_sound, input_sound, stands_still}
use Rattle.engine_state.proofs.AtLocations.{only_frames}
use Rattle.engine_state.proofs.Weighing.{acted_lighter}
use Rattle.stomach.specs.Halting.{HaltsIn}
use Rattle.stomach.proofs.RuleHalts.{halts_in}
use Rattle.input_state.specs.Callings.{NotCalling, call_in}

-- THE END

module _ (e e' : Engine) (stands : ClosesStands e e') (state : ClosesState e e') (column : e'.in_line ≡ e.in_line) where
  -- behind these moves
  pub closed_behind : (sizes : Sizes) (s : State) (book : Book) (r : Reading) (rs : List Reading) (f : FilesTold) (told : SinkTold) (w : World) (moves : List Move) → Did sizes s (state_of e (with_work (r ∷ rs) book)) w (world_of f told e) moves → steps moves ≡ 0 →
      Stands sizes e (with_work (r ∷ rs) book) → Went sizes s e' w (world_of f told e') (moves ++ Closed ∷ []) 0
  closed_behind sizes s book r rs f told w moves did none st =
      subst (λ (b : Bool). Went sizes s e' w (world f told b) (moves ++ Closed ∷ []) 0) (sym column) (closed_here e e' stands state sizes s book r rs w (world_of f told e) moves did none st)

  -- alone
  pub closed_alone : (sizes : Sizes) (book : Book) (r : Reading) (rs : List Reading) (f : FilesTold) (told : SinkTold) → Stands sizes e (with_work (r ∷ rs) book) → Went sizes (state_of e (with_work (r ∷ rs) book)) e' (world_of f told e) (world_of f told e') (Closed ∷ []) 0
  closed_alone sizes book r rs f told st = closed_behind sizes _ book r rs f told _ [] (did_none sizes (state_of e (with_work (r ∷ rs) book)) (world_of f told e)) refl st

-- behind moves that lead to this engine
pub closed_as : (e1 e2 n : Engine) → e1 ≡ n → ClosesStands e1 e2 → ClosesState e1 e2 → e2.in_line ≡ e1.in_line → (sizes : Sizes) (s : State) (book : Book) (r : Reading) (rs : List Reading) (f : FilesTold) (told : SinkTold) (w : World) (moves all : List Move) → all ≡ moves ++ Closed ∷ [] →
    Did sizes s (state_of n (with_work (r ∷ rs) book)) w (world_of f told n) moves → steps moves ≡ 0 → Stands sizes n (with_work (r ∷ rs) book) → Went sizes s e2 w (world_of f told e2) all 0
closed_as e1 e2 n is stands state column sizes s book r rs f told w moves all whole did none st =
    went_by sizes s e2 w _ (moves ++ Closed ∷ []) all 0 whole
    (closed_behind n e2 (subst (λ (x : Engine). ClosesStands x e2) is stands) (subst (λ (x : Engine). ClosesState x e2) is state) (column ∙ ap (λ (x : Engine). x.in_line) is) sizes s book r rs f told w moves did none st)

-- the world that is told when the column stays
pub column_did : (sizes : Sizes) (s t : State) (n : Engine) (f : FilesTold) (told : SinkTold) (b : Bool) (moves : List Move) → n.in_line ≡ b → Did sizes s t (world f told b) (world f told b) moves → Did sizes s t (world f told b) (world_of f told n) moves
column_did sizes s t n f told b moves is h = subst (λ (x : Bool). Did sizes s t (world f told b) (world f told x) moves) (sym is) h

-- BEHIND A TEXT

pub column_stands : (sizes : Sizes) (e e1 : Engine) (book : Book) → OnlyColumn e e1 → Stands sizes e book → Stands sizes e1 book
column_stands sizes e e1 book only st =
    stands_still sizes e e1 book (only_frames e e1 only) (column_sound sizes e e1 book.number book.all_lists only st.sound) (ap (λ (x : Engine). x.input.making) only.same ∙ st.idle) st

-- BEHIND A REPORT

pub reported_stands : (sizes : Sizes) (e e1 : Engine) (book : Book) → SameFrames e e1 → e1.input ≡ e.input → (IsSized sizes e → IsSized sizes e1) → Stands sizes e book → Stands sizes e1 book
reported_stands sizes e e1 book same input sized st =
    stands_still sizes e e1 book same (input_sound sizes e e1 book input sized st.sound) (ap (λ (i : _). i.making) input ∙ st.idle) st

pub reported_closed : (sizes : Sizes) (e e1 e2 : Engine) (book : Book) (r : Reading) (rs : List Reading) (f : FilesTold) (s0 s1 : SinkTold) (ts : List Token) → ClosesStands e1 e2 → ClosesState e1 e2 → e2.in_line ≡ e1.in_line →
    SameFrames e e1 → e1.input ≡ e.input → (IsSized sizes e → IsSized sizes e1) → Stands sizes e (with_work (r ∷ rs) book) →
    ReportsAs sizes (state_of e (with_work (r ∷ rs) book)) (state_of e1 (with_work (r ∷ rs) book)) (world_of f s0 e) (world_of f s1 e1) (page_of e book) ts (Closed ∷ []) →
    Went sizes (state_of e (with_work (r ∷ rs) book)) e2 (world_of f s0 e) (world_of f s1 e2) (reported_as (page_of e book) ts (Closed ∷ [])) 0
reported_closed sizes e e1 e2 book r rs f s0 s1 ts stands state column same input sized st h =
    went_by sizes _ e2 _ _ _ _ 0 h.moves
    (closed_behind e1 e2 stands state column sizes _ book r rs f s1 _ _ h.did refl (reported_stands sizes e e1 (with_work (r ∷ rs) book) same input sized st))

pub reported_halts : (sizes : Sizes) (e e1 : Engine) (book : Book) (w w' : World) (moves : List Move) (o : Outcome) → SameFrames e e1 → Stands sizes e book → Halts sizes (state_of e book) e1 book w w' moves o 0 → HaltsIn sizes (state_of e book) e1 w w' moves o 1
reported_halts sizes e e1 book w w' moves o same st h =
    halts_in sizes e e1 book w w' moves o 1 st (record { readings = same.readings; lists = same.lists; call = ap call_in same.call }) (halts_least sizes _ e1 book w w' moves o 0 1 (omega arith) h)

-- WHAT A COMMAND DOES WITH A LIST

-- with some effects it does nothing
pub acts_else : (page : Page) (c : Call) (e : Effect) (ts : List Token) → (e ≡ effect.Message → ⊥) → (e ≡ effect.ErrorMessage → ⊥) → (e ≡ effect.MakeName → ⊥) → ((upper : Bool) → e ≡ effect.ChangeCase upper → ⊥) → ((l : Loc) → e ≡ effect.SetList l → ⊥) →
    acts_on page c e ts ≡ Closed ∷ []
acts_else page c effect.Message ts messages errors names cases sets = absurd (messages refl)
acts_else page c effect.ErrorMessage ts messages errors names cases sets = absurd (errors refl)
acts_else page c effect.MakeName ts messages errors names cases sets = absurd (names refl)
acts_else page c (effect.ChangeCase upper) ts messages errors names cases sets = absurd (cases upper refl)
acts_else page c (effect.SetList l) ts messages errors names cases sets = absurd (sets l refl)
acts_else page c x ts messages errors names cases sets = refl

-- a name is made without a step
entered_free : (names : List (List ℕ)) → steps (entered names) ≡ 0
entered_free [] = refl
entered_free (name ∷ names) = refl

relax_free : (meanings : List (Meaning (Option ℕ))) (n : Name) → steps (relax_if_undefined meanings n) ≡ 0
relax_free meanings n = by _ where
  by : (b : Bool) → steps (if b then Assigned false n (means.Prim relax_primitive) ∷ [] else []) ≡ 0
  by true = refl
  by false = refl

pub name_free : (page : Page) (characters : List ℕ) → steps (name_made page characters) ≡ 0
name_free page characters =
    let n : Name = spelt page.names characters in
    let last : steps (relax_if_undefined page.now.meanings n ++ put_one (token.Named n)) ≡ 0 = steps_join (relax_if_undefined page.now.meanings n) (put_one (token.Named n)) ∙ omega (arith, relax_free page.now.meanings n) in
    steps_join (Spelt characters ∷ entered (newly_spelt page.names characters)) (relax_if_undefined page.now.meanings n ++ put_one (token.Named n))
    ∙ omega (arith, entered_free (newly_spelt page.names characters), last)

-- WHAT BECOMES LIGHTER

pub closed_lighter : (e e' : Engine) (a : Ask) → e.input.call ≡ NotCalling → asks_in e.readings.frames [] ≡ Some a → IsEnd a → (e.input.call ≡ NotCalling → SameBut e e') → frames_weight e'.readings.frames ≡ frames_weight (drop 1 e.readings.frames) → innermost_weight e'.readings.frames < act_frame + act_weight → weight e' < weight e
closed_lighter e e' a none asks end but frames light = let same : SameBut e e' = but none in acted_lighter e e' none (same.call ∙ none) same.pending a asks end frames light

-- behind what leaves the frames as they were
pub closed_lighter_behind : (e e1 e' : Engine) (a : Ask) → e.input.call ≡ NotCalling → asks_in e.readings.frames [] ≡ Some a → IsEnd a → SameFrames e e1 → pending_weight e1.input.pending ≡ pending_weight e.input.pending →
    (e1.input.call ≡ NotCalling → SameBut e1 e') → frames_weight e'.readings.frames ≡ frames_weight (drop 1 e1.readings.frames) → innermost_weight e'.readings.frames < act_frame + act_weight → weight e' < weight e
closed_lighter_behind e e1 e' a none asks end same left but frames light =
    lighter_by e e1 e' same left (closed_lighter e1 e' a (same.call ∙ none) (ap (λ (s : Stack). asks_in s.frames []) same.readings ∙ asks) end but frames light)
