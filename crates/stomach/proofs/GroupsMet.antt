-- What the stomach makes of braces and of `\endgroup`.
use Rattle.std.proofs.Common.{◌≡◌, List, [], ◌∷◌, ◌++◌, refl, sym, ◌∙◌, subst, arith, Bool}
use Rattle.std.specs.Prelude.{Some}
use Rattle.tex_syntax.specs.declared.words.Report.TheVariants.{MissingRightBrace}
use Rattle.save_stack.specs.declared.GroupKind.TheVariants.{Simple}
use Rattle.tex_defs.specs.declared.Sizes.{Sizes}
use Rattle.tex_defs.specs.declared.Token.{Token}
use Rattle.tex_defs.specs.Places.{World}
use Rattle.plain_machine.specs.declared.broken.Broken.{Broken}
use Rattle.plain_machine.specs.States.{State, Move}
use Rattle.plain_machine.specs.Plan.{Page, put_one, put_each, group_ended, right_brace, endgroup_met, reported}
use Rattle.plain_machine.specs.Runs.{steps}
use Rattle.plain_machine.specs.Does.{Did}
use Rattle.plain_machine.proofs.Doing.{did_join}
use Rattle.plain_machine.proofs.Joins.{steps_join}
use Rattle.world_io.specs.Contents.{FilesTold, SinkTold, world}
use Rattle.engine_state.specs.declared.engine.Engine.{Engine}
use Rattle.engine_state.specs.declared.outcome.Ruled.{Ruled}
use Rattle.engine_state.specs.Book.{Book}
use Rattle.engine_state.specs.CutReadings.{CutsIn}
use Rattle.engine_state.specs.Rules.{world_of, Cuts, Went, DoesOnward}
use Rattle.engine_state.specs.Stands.{Stands, SameFrames, state_of, page_of}
use Rattle.engine_state.proofs.Uncalled.{all_of}
use Rattle.engine_state.proofs.CuttingReadings.{stands_in, later_in, column_in}
use Rattle.engine_state.proofs.Joining.{column_went, onward_join}

-- NO STEP

each_silent : (ts : List Token) → steps (put_each ts) ≡ 0
each_silent [] = refl
each_silent (t ∷ ts) = steps_join (put_one t) (put_each ts) ∙ omega (arith, each_silent ts)

ended_silent : (page : Page) → steps (group_ended page) ≡ 0
ended_silent page = omega (arith, each_silent page.tokens)

-- THE COLUMN STAYS

pub onward_column : (sizes : Sizes) (st : State) (e' : Engine) (book : Book) (f : FilesTold) (s : SinkTold) (b : Bool) (ms : List Move) (ruled : Ruled) → e'.in_line ≡ b →
    DoesOnward sizes st e' book (world f s b) (world f s b) ms ruled → DoesOnward sizes st e' book (world f s b) (world_of f s e') ms ruled
onward_column sizes st e' book f s b ms ruled is h = subst (λ (x : Bool). DoesOnward sizes st e' book (world f s b) (world f s x) ms ruled) (sym is) h

-- THE INNERMOST GROUP ENDS

module _ (sizes : Sizes) (e e' : Engine) (f : FilesTold) (s : SinkTold) (book : Book) (column : e'.in_line ≡ e.in_line) where
  abbrev ended : List Move
  ended = group_ended (page_of e book)

  pub ended_went : Stands sizes e' book → Did sizes (state_of e book) (state_of e' book) (world_of f s e) (world_of f s e) ended → Went sizes (state_of e book) e' (world_of f s e) (world_of f s e') ended 0
  ended_went st did = column_went sizes (state_of e book) e' f s e.in_line ended 0 column
      (record { book' = book; stands = all_of sizes e' book st; did = did; count = ended_silent (page_of e book) })

  -- moves that are cut off
  pub column_cuts : (moves : List Move) (b : Broken) → SameFrames e e' → Stands sizes e book → Cuts sizes (state_of e book) e' book (world_of f s e) (world_of f s e) moves b →
      CutsIn sizes (state_of e book) e' (world_of f s e) (world_of f s e') moves b
  column_cuts moves b same st cuts = column_in sizes (state_of e book) e' f s e.in_line moves b column (stands_in sizes e e' book (world_of f s e) (world_of f s e) moves b cuts same st)

-- `\endgroup` IS PUT BACK, a right brace inserted, and the report comes

abbrev pub reports : Engine → Book → List Move
reports e book = reported (page_of e book) MissingRightBrace []

module _ (sizes : Sizes) (e e1 e2 : Engine) (f : FilesTold) (s : SinkTold) (book : Book) (t : Token) (first : Did sizes (state_of e book) (state_of e1 book) (world_of f s e) (world_of f s e) (put_one t)) where
  abbrev here : World
  here = world_of f s e

  -- the brace has no room
  pub brace_in : (b : Broken) → e2.in_line ≡ e.in_line → SameFrames e1 e2 → Stands sizes e1 book → Cuts sizes (state_of e1 book) e2 book here here (put_one right_brace ++ reports e book) b →
      CutsIn sizes (state_of e book) e2 here (world_of f s e2) (endgroup_met (page_of e book) t (Some Simple)) b
  brace_in b column same st cuts =
      column_in sizes (state_of e book) e2 f s e.in_line (put_one t ++ (put_one right_brace ++ reports e book)) b column
      (later_in sizes (state_of e book) (state_of e1 book) e2 here here here (put_one t) (put_one right_brace ++ reports e book) b first
      (stands_in sizes e1 e2 book here here (put_one right_brace ++ reports e book) b cuts same st))

  module _ (e3 : Engine) (s' : SinkTold) (page : page_of e2 book ≡ page_of e book) (second : Did sizes (state_of e1 book) (state_of e2 book) here here (put_one right_brace)) where
    both : Did sizes (state_of e book) (state_of e2 book) here here (put_one t ++ put_one right_brace)
    both = did_join sizes (state_of e book) (state_of e1 book) (state_of e2 book) here here here (put_one t) (put_one right_brace) first second

    pub missing_onward : (ruled : Ruled) → e2.reports ≡ e.reports → DoesOnward sizes (state_of e2 book) e3 book (world_of f s e2) (world_of f s' e3) (reports e2 book) ruled →
        DoesOnward sizes (state_of e book) e3 book here (world_of f s' e3) (endgroup_met (page_of e book) t (Some Simple)) ruled
    missing_onward ruled counted h =
        onward_join sizes (state_of e book) (state_of e2 book) e3 book here here (world_of f s' e3) (put_one t ++ put_one right_brace) (reports e book) ruled counted both refl
        (subst (λ (p : Page). DoesOnward sizes (state_of e2 book) e3 book (world f s p.in_line) (world_of f s' e3) (reported p MissingRightBrace []) ruled) page h)

    pub missing_in : (b : Broken) → SameFrames e2 e3 → Stands sizes e2 book → Cuts sizes (state_of e2 book) e3 book (world_of f s e2) (world_of f s' e3) (reports e2 book) b →
        CutsIn sizes (state_of e book) e3 here (world_of f s' e3) (endgroup_met (page_of e book) t (Some Simple)) b
    missing_in b same st cuts =
        later_in sizes (state_of e book) (state_of e2 book) e3 here here (world_of f s' e3) (put_one t ++ put_one right_brace) (reports e book) b both
        (stands_in sizes e2 e3 book here (world_of f s' e3) (reports e book) b
        (subst (λ (p : Page). Cuts sizes (state_of e2 book) e3 book (world f s p.in_line) (world_of f s' e3) (reported p MissingRightBrace []) b) page cuts) same st)
