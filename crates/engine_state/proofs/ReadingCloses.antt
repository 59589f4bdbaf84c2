-- The innermost frame ends without a value.
use Rattle.std.proofs.Common.{◌≡◌, List, [], ◌∷◌, ◌++◌, refl, ◌∙◌, arith}
use Rattle.tex_defs.specs.Places.{World}
use Rattle.tex_defs.specs.declared.Sizes.{Sizes}
use Rattle.plain_readings.specs.Readings.{Reading}
use Rattle.plain_machine.specs.States.{State, Move, Closed, made}
use Rattle.plain_machine.specs.Runs.{steps}
use Rattle.plain_machine.specs.Does.{Did}
use Rattle.plain_machine.proofs.Doing.{did_join, did_none, did_one}
use Rattle.plain_machine.proofs.Joins.{steps_join}
use Rattle.input_state.specs.Callings.{NotCalling}
use Rattle.engine_state.specs.declared.engine.Engine.{Engine}
use Rattle.engine_state.specs.Book.{Book, with_work}
use Rattle.engine_state.specs.Clauses.{DoesInnermost}
use Rattle.engine_state.specs.Rules.{Went}
use Rattle.engine_state.specs.Stands.{Stands, state_of}
use Rattle.engine_state.proofs.Joining.{quiet_here}
use Rattle.engine_state.proofs.Uncalled.{all_of, framed}

-- by what is said of it
abbrev pub ClosesStands : Engine → Engine → Type 0
ClosesStands e e' = (sizes : Sizes) (book : Book) (r : Reading) (rs : List Reading) → Stands sizes e (with_work (r ∷ rs) book) → Stands sizes e' (with_work rs book)

abbrev pub ClosesState : Engine → Engine → Type 0
ClosesState e e' = (sizes : Sizes) (book : Book) (r : Reading) (rs : List Reading) → Stands sizes e (with_work (r ∷ rs) book) → made Closed (state_of e (with_work (r ∷ rs) book)) ≡ state_of e' (with_work rs book)

module _ (e e' : Engine) (stands : ClosesStands e e') (state : ClosesState e e') where
  -- behind these moves
  pub closed_here : (sizes : Sizes) (s : State) (book : Book) (r : Reading) (rs : List Reading) (w v : World) (moves : List Move) → Did sizes s (state_of e (with_work (r ∷ rs) book)) w v moves → steps moves ≡ 0 →
      Stands sizes e (with_work (r ∷ rs) book) → Went sizes s e' w v (moves ++ Closed ∷ []) 0
  closed_here sizes s book r rs w v moves did none st = record {
    book' = with_work rs book;
    stands = all_of sizes e' (with_work rs book) (stands sizes book r rs st);
    did = did_join sizes _ _ _ w _ _ moves (Closed ∷ []) did (did_one sizes Closed _ _ _ _ refl (state sizes book r rs st) (quiet_here Closed v tt));
    count = steps_join moves (Closed ∷ []) ∙ omega (arith, none);
  }

  -- alone, where no call gathers its arguments
  pub closed_frame : e.input.call ≡ NotCalling → DoesInnermost (Unit {0}) Went e e' (λ _. Closed ∷ []) 0
  closed_frame none sizes w book r rs _ st =
      closed_here sizes _ book r rs w w [] (did_none sizes (state_of e (with_work (r ∷ rs) book)) w) refl (framed sizes e (with_work (r ∷ rs) book) none st)
