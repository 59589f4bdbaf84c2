-- Runs one after another, and a rule as a run.
use Rattle.std.proofs.Common.{◌≡◌, ◌+◌, List, [], ◌∷◌, ◌++◌, refl, sym, ap, ◌∙◌, subst, arith}
use Rattle.std.specs.Prelude.{Bool, Some}
use Rattle.std.proofs.lemmas.List.{append-nil}
use Rattle.tex_syntax.specs.declared.words.Outcome.{Outcome}
use Rattle.tex_defs.specs.Places.{Place, File}
use Rattle.tex_defs.specs.declared.Sizes.{Sizes}
use Rattle.plain_machine.specs.declared.broken.Broken.{Broken}
use Rattle.plain_machine.specs.declared.broken.Broken.TheVariants as broken
use Rattle.plain_machine.specs.States.{State, Move, Handed, ListsEnded, made}
use Rattle.plain_machine.specs.Demands.{refusal}
use Rattle.plain_machine.specs.Plan.{Ends, Goes, next, plan}
use Rattle.plain_machine.specs.Runs.{step_of, steps, after, changed, columns_after, column_changed, Moves, NeedsStep, made_all}
use Rattle.plain_machine.specs.Bounded.{AllFit, FitMoves}
use Rattle.plain_machine.specs.Does.{but_due, Refuses}

-- RUNS

pub moves_join : (s t u : State) (ms ns : List Move) → Moves s ms t → Moves t ns u → Moves s (ms ++ ns) u
moves_join s t u [] ns a b = subst (λ (x : State). Moves x ns u) (sym a) b
moves_join s t u (m ∷ ms) ns a b = (a.0, (a.1.0, moves_join a.0 t u ms ns a.1.1 b))

pub steps_join : (ms ns : List Move) → steps (ms ++ ns) ≡ steps ms + steps ns
steps_join [] ns = omega arith
steps_join (m ∷ ms) ns = omega (arith, steps_join ms ns)

pub after_join : (ms ns : List Move) (p : Place) (f : File) → after (ms ++ ns) p f ≡ after ns p (after ms p f)
after_join [] ns p f = refl
after_join (m ∷ ms) ns p f = after_join ms ns p (changed m p f)

pub columns_join : (ms ns : List Move) (b : Bool) → columns_after (ms ++ ns) b ≡ columns_after ns (columns_after ms b)
columns_join [] ns b = refl
columns_join (m ∷ ms) ns b = columns_join ms ns (column_changed m b)

pub made_all_join : (ms ns : List Move) (s : State) → made_all (ms ++ ns) s ≡ made_all ns (made_all ms s)
made_all_join [] ns s = refl
made_all_join (m ∷ ms) ns s = made_all_join ms ns (made m s)

-- runs within sizes, one after another
pub fits_join : (sizes : Sizes) (s t u : State) (ms ns : List Move) → FitMoves sizes s ms t → FitMoves sizes t ns u → FitMoves sizes s (ms ++ ns) u
fits_join sizes s t u [] ns a b = subst (λ (x : State). FitMoves sizes x ns u) (sym a) b
fits_join sizes s t u (m ∷ ms) ns a b = (a.0, (a.1.0, (a.1.1.0, fits_join sizes a.0 t u ms ns a.1.1.1 b)))

-- they are runs of the machine
pub moves_of : (sizes : Sizes) (s : State) (ms : List Move) (t : State) → FitMoves sizes s ms t → Moves s ms t
moves_of sizes s [] t h = h
moves_of sizes s (m ∷ ms) t h = (h.0, (h.1.0, moves_of sizes h.0 ms t h.1.1.1))

-- WHAT DOESN'T HANG ON WHAT IS DUE

pub made_due : (m : Move) (s : State) (x : List Move) → made m (record s { due = x }) ≡ record (made m s) { due = x }
made_due (Handed t) s x = refl
made_due m s x = refl

pub made_all_due : (ms : List Move) (s : State) (x : List Move) → made_all ms (record s { due = x }) ≡ record (made_all ms s) { due = x }
made_all_due [] s x = refl
made_all_due (m ∷ ms) s x = ap (made_all ms) (made_due m s x) ∙ made_all_due ms (made m s) x

pub due_kept : (m : Move) (s : State) → (made m s).due ≡ s.due
due_kept (Handed t) s = refl
due_kept m s = refl

pub all_due_kept : (ms : List Move) (s : State) → (made_all ms s).due ≡ s.due
all_due_kept [] s = refl
all_due_kept (m ∷ ms) s = all_due_kept ms (made m s) ∙ due_kept m s

pub due_none : (s : State) → s.due ≡ [] → but_due s ≡ s
due_none s e = ap (λ (x : List Move). record s { due = x }) (sym e)

pub refusal_due : (sizes : Sizes) (m : Move) (s : State) (x : List Move) → refusal sizes m (record s { due = x }) ≡ refusal sizes m s
refusal_due sizes (Handed t) s x = refl
refusal_due sizes m s x = refl

pub same_refusal : (sizes : Sizes) (m : Move) (s t : State) → but_due t ≡ but_due s → refusal sizes m t ≡ refusal sizes m s
same_refusal sizes m s t e = sym (refusal_due sizes m t []) ∙ ap (refusal sizes m) e ∙ refusal_due sizes m s []

pub refuses_due : (sizes : Sizes) (why : Broken) (m : Move) (s t : State) → but_due t ≡ but_due s → Refuses sizes why m s → Refuses sizes why m t
refuses_due sizes (broken.Full full) m s t e h = same_refusal sizes m s t e ∙ h
refuses_due sizes broken.WriteFault m s t e h = h
refuses_due sizes broken.Want m s t e h = h

same_made : (m : Move) (s t : State) → but_due t ≡ but_due s → but_due (made m t) ≡ but_due (made m s)
same_made m s t e = sym (made_due m t []) ∙ ap (made m) e ∙ made_due m s []

pub all_fit_same : (sizes : Sizes) (ms : List Move) (s t : State) → but_due t ≡ but_due s → AllFit sizes ms s → AllFit sizes ms t
all_fit_same sizes [] s t e h = tt
all_fit_same sizes (m ∷ ms) s t e h = (same_refusal sizes m s t e ∙ h.0, all_fit_same sizes ms (made m s) (made m t) (same_made m s t e) h.1)

pub all_fit_due : (sizes : Sizes) (ms : List Move) (s : State) (x : List Move) → AllFit sizes ms s → AllFit sizes ms (record s { due = x })
all_fit_due sizes ms s x h = all_fit_same sizes ms s (record s { due = x }) refl h

-- MOVES THAT FIT

pub all_fit_join : (sizes : Sizes) (ms ns : List Move) (s : State) → AllFit sizes ms s → AllFit sizes ns (made_all ms s) → AllFit sizes (ms ++ ns) s
all_fit_join sizes [] ns s a b = b
all_fit_join sizes (m ∷ ms) ns s a b = (a.0, all_fit_join sizes ms ns (made m s) a.1 b)

-- THE NEXT MOVE

pub next_due : (s : State) (m : Move) (ms : List Move) → s.due ≡ m ∷ ms → next s ≡ Goes m (made m (record s { due = ms }))
unfolding next
next_due s m ms e = rw e refl

pub next_plan : (s : State) (m : Move) (ms : List Move) → s.due ≡ [] → plan s s.stopped ≡ m ∷ ms → next s ≡ Goes m (made m (record s { due = ms }))
unfolding next
next_plan s m ms e f = rw e (rw f refl)

-- A state that has stopped has no next move.
pub stopped_ends : (s : State) (o : Outcome) → s.due ≡ [] → s.stopped ≡ Some o → next s ≡ Ends
unfolding next
stopped_ends s o e f = rw e (rw f refl)

-- A RULE AS A RUN

-- moves that are due
fits_due : (sizes : Sizes) (s : State) (ms rest : List Move) → AllFit sizes ms s → FitMoves sizes (record s { due = ms ++ rest }) ms (record (made_all ms s) { due = rest })
fits_due sizes s [] rest h = refl
fits_due sizes s (m ∷ ms) rest h =
    (_, (next_due (record s { due = m ∷ ms ++ rest }) m (ms ++ rest) refl ∙ ap (Goes m) (made_due m s (ms ++ rest)), (refusal_due sizes m s (m ∷ ms ++ rest) ∙ h.0, fits_due sizes (made m s) ms rest h.1)))

-- moves of a rule, of which there is one
fits_plan : (sizes : Sizes) (s : State) (m : Move) (ms rest : List Move) → s.due ≡ [] → plan s s.stopped ≡ m ∷ ms ++ rest → AllFit sizes (m ∷ ms) s →
    FitMoves sizes s (m ∷ ms) (record (made_all ms (made m s)) { due = rest })
fits_plan sizes s m ms rest e f h =
    (_, (next_plan s m (ms ++ rest) e f ∙ ap (Goes m) (made_due m s (ms ++ rest)), (h.0, fits_due sizes (made m s) ms rest h.1)))

with_due : (s : State) (ms : List Move) → s.due ≡ ms → record s { due = ms } ≡ s
with_due s ms e = ap (λ (x : List Move). record s { due = x }) (sym e)

-- All moves of a rule are a run.
pub plan_made : (sizes : Sizes) (s : State) (ms : List Move) → s.due ≡ [] → plan s s.stopped ≡ ms → AllFit sizes ms s → FitMoves sizes s ms (made_all ms s)
plan_made sizes s [] e f h = refl
plan_made sizes s (m ∷ ms) e f h =
    subst (FitMoves sizes s (m ∷ ms)) (due_none (made_all ms (made m s)) (all_due_kept (m ∷ ms) s ∙ e)) (fits_plan sizes s m ms [] e (f ∙ sym (append-nil (m ∷ ms))) h)

-- and all moves that are due
pub due_made : (sizes : Sizes) (s : State) (ms : List Move) → s.due ≡ ms → AllFit sizes ms s → FitMoves sizes s ms (but_due (made_all ms s))
due_made sizes s ms e h =
    subst (λ (x : State). FitMoves sizes x ms (but_due (made_all ms s))) (with_due s (ms ++ []) (e ∙ sym (append-nil ms))) (fits_due sizes s ms [] h)

-- Where moves are cut: at this moment the first of them are made, and the next one comes.
pub record Moment (sizes : Sizes) (s : State) (done : List Move) (m : Move) : Type 0 where
  pub t : State
  pub u : State
  pub moves : FitMoves sizes s done t
  pub goes : next t ≡ Goes m u
  pub same : but_due t ≡ but_due (made_all done s)

pub due_moment : (sizes : Sizes) (s : State) (done : List Move) (m : Move) (rest : List Move) → s.due ≡ done ++ m ∷ rest → AllFit sizes done s → Moment sizes s done m
due_moment sizes s done m rest e h = record {
  t = record (made_all done s) { due = m ∷ rest };
  u = _;
  moves = subst (λ (x : State). FitMoves sizes x done (record (made_all done s) { due = m ∷ rest })) (with_due s (done ++ m ∷ rest) e) (fits_due sizes s done (m ∷ rest) h);
  goes = next_due (record (made_all done s) { due = m ∷ rest }) m rest refl;
  same = refl;
}

-- The first moves of a rule lead to a moment, and the next one comes there.
pub plan_moment : (sizes : Sizes) (s : State) (done : List Move) (m : Move) (rest : List Move) → s.due ≡ [] → plan s s.stopped ≡ done ++ m ∷ rest → AllFit sizes done s → Moment sizes s done m
plan_moment sizes s [] m rest e f h = record { t = s; u = _; moves = refl; goes = next_plan s m rest e f; same = refl }
plan_moment sizes s (d ∷ ds) m rest e f h = record {
  t = record (made_all ds (made d s)) { due = m ∷ rest };
  u = _;
  moves = fits_plan sizes s d ds (m ∷ rest) e f h;
  goes = next_due (record (made_all ds (made d s)) { due = m ∷ rest }) m rest refl;
  same = refl;
}

-- A rule that begins with a step needs one, once the finished lists in front have gone.
pub record StepComes (sizes : Sizes) (s : State) : Type 0 where
  pub t : State
  pub moves : FitMoves sizes s (ListsEnded ∷ []) t
  pub needs : NeedsStep t
  pub same : but_due t ≡ but_due (made ListsEnded s)

pub plan_needs : (sizes : Sizes) (s : State) (m : Move) (ms : List Move) → s.due ≡ [] → plan s s.stopped ≡ ListsEnded ∷ m ∷ ms → step_of m ≡ 1 → StepComes sizes s
plan_needs sizes s m ms e f one =
    let here : Moment sizes s (ListsEnded ∷ []) m = plan_moment sizes s (ListsEnded ∷ []) m ms e f (refl, tt) in
    record { t = here.t; moves = here.moves; needs = (m, (here.u, (here.goes, one))); same = here.same }
