-- Each state and bound has a run, since from each state silent moves come to an end or to a step.
use Rattle.std.proofs.Common.{◌≡◌, ◌⊎◌, ℕ, ◌+◌, ◌≤◌, List, [], ◌∷◌, ◌++◌, refl, ◌∙◌, inl, inr, arith, zero, suc}
use Rattle.plain_machine.specs.States.{State, Move, Handed, Taken, FirstTaken, ListsEnded, made}
use Rattle.plain_machine.specs.Plan.{Ends, Goes, next, plan}
use Rattle.plain_machine.specs.Runs.{step_of, steps, Moves, NeedsStep, HasRun, all_made}
use Rattle.plain_machine.proofs.Joins.{moves_join, steps_join, due_kept, next_due, next_plan}
use Rattle.plain_readings.specs.Weights.{WeightsFall}
use Rattle.plain_machine.proofs.Silent.{Rule, Over, Step, Falls, rule, state_weight}

-- silent moves that lead to an end or to a step
record Pauses (s : State) : Type 0 where
  ms : List Move
  t : State
  moves : Moves s ms t
  silent : steps ms ≡ 0
  paused : (next t ≡ Ends) ⊎ NeedsStep t

kind_of_step : (m : Move) → (step_of m ≡ 0) ⊎ (step_of m ≡ 1)
kind_of_step (Handed t) = inr refl
kind_of_step (Taken l) = inr refl
kind_of_step (FirstTaken l) = inr refl
kind_of_step m = inl refl

goes : (s u : State) (m : Move) → next s ≡ Goes m u → (step_of m ≡ 0) ⊎ (step_of m ≡ 1) → Pauses u → Pauses s
goes s u m e (inl none) p = record { ms = m ∷ p.ms; t = p.t; moves = (u, (e, p.moves)); silent = omega (arith, none, p.silent); paused = p.paused }
goes s u m e (inr one) p = record { ms = []; t = s; moves = refl; silent = refl; paused = inr (m, (u, (e, one))) }

goes_due : (s : State) (ms : List Move) → s.due ≡ ms → Pauses (all_made ms s) → Pauses s
goes_due s [] e p = p
goes_due s (m ∷ ms) e p =
    let u : State = made m (record s { due = ms }) in
    goes s u m (next_due s m ms e) (kind_of_step m) (goes_due u ms (due_kept m (record s { due = ms })) p)

goes_plan : (s : State) (ms : List Move) → s.due ≡ [] → plan s s.stopped ≡ ms → Pauses (all_made ms s) → Pauses s
goes_plan s [] e f p = p
goes_plan s (m ∷ ms) e f p =
    let u : State = made m (record s { due = ms }) in
    goes s u m (next_plan s m ms e f) (kind_of_step m) (goes_due u ms (due_kept m (record s { due = ms })) p)

due_none : (s : State) (ms : List Move) → s.due ≡ ms → (all_made ms s).due ≡ []
due_none s [] e = e
due_none s (m ∷ ms) e = due_none (made m (record s { due = ms })) ms (due_kept m (record s { due = ms }))

plan_none : (s : State) (ms : List Move) → s.due ≡ [] → (all_made ms s).due ≡ []
plan_none s [] e = e
plan_none s (m ∷ ms) e = due_none (made m (record s { due = ms })) ms (due_kept m (record s { due = ms }))

ends : (s : State) → s.due ≡ [] → plan s s.stopped ≡ [] → next s ≡ Ends
unfolding next
ends s e f = rw e (rw f refl)

-- a step comes once the finished lists in front have gone
at_step : (s : State) (m : Move) (ms : List Move) → s.due ≡ [] → plan s s.stopped ≡ ListsEnded ∷ m ∷ ms → step_of m ≡ 1 → Pauses s
at_step s m ms e f one =
    let u : State = made ListsEnded (record s { due = m ∷ ms }) in
    record { ms = ListsEnded ∷ []; t = u; moves = (u, (next_plan s ListsEnded (m ∷ ms) e f, refl)); silent = refl; paused = inr (m, (_, (next_due u m ms refl, one))) }

module _ (falls : WeightsFall) where
  settles : (n : ℕ) (s : State) → s.due ≡ [] → state_weight s ≤ n → Pauses s
  settles n s e le = by_rule n s e le (rule falls s) where
    by_rule : (n : ℕ) (s : State) → s.due ≡ [] → state_weight s ≤ n → Rule s (plan s s.stopped) → Pauses s
    by_rule n s e le (Over f) = record { ms = []; t = s; moves = refl; silent = refl; paused = inl (ends s e f) }
    by_rule n s e le (Step m ms f one) = at_step s m ms e f one
    by_rule zero s e le (Falls less) = absurd (omega arith)
    by_rule (suc n) s e le (Falls less) =
        let u : State = all_made (plan s s.stopped) s in
        goes_plan s (plan s s.stopped) e refl (by_rule n u (plan_none s (plan s s.stopped) e) (omega arith) (rule falls u))

  pauses : (s : State) → Pauses s
  pauses s =
      let u : State = all_made s.due s in
      goes_due s s.due refl (settles (state_weight u) u (due_none s s.due refl) (omega arith))

module _ (s : State) (p : Pauses s) where
  run_here : (k : ℕ) → (next p.t ≡ Ends) ⊎ ((0 ≡ k) × NeedsStep p.t) → HasRun s k
  run_here k w = record { ms = p.ms; t = p.t; trace = record { moves = p.moves; within = omega (arith, p.silent); whole = rw p.silent w } }

  run_on : (k : ℕ) (m : Move) (u : State) → next p.t ≡ Goes m u → step_of m ≡ 1 → HasRun u k → HasRun s (suc k)
  run_on k m u e one h =
      let sum : steps (p.ms ++ m ∷ h.ms) ≡ steps h.ms + 1 = steps_join p.ms (m ∷ h.ms) ∙ omega (arith, p.silent, one) in
      record {
        ms = p.ms ++ m ∷ h.ms;
        t = h.t;
        trace = record {
          moves = moves_join s p.t h.t p.ms (m ∷ h.ms) p.moves (u, (e, h.trace.moves));
          within = omega (arith, sum, h.trace.within);
          whole = rw sum (one_more h.trace.whole);
        };
      } where
        one_more : (next h.t ≡ Ends) ⊎ ((steps h.ms ≡ k) × NeedsStep h.t) → (next h.t ≡ Ends) ⊎ ((steps h.ms + 1 ≡ suc k) × NeedsStep h.t)
        one_more (inl e) = inl e
        one_more (inr n) = inr (omega (arith, n.0), n.1)

  run_zero : (next p.t ≡ Ends) ⊎ NeedsStep p.t → HasRun s 0
  run_zero (inl e) = run_here 0 (inl e)
  run_zero (inr n) = run_here 0 (inr (refl, n))

  run_suc : (k : ℕ) → ((u : State) → HasRun u k) → (next p.t ≡ Ends) ⊎ NeedsStep p.t → HasRun s (suc k)
  run_suc k h (inl e) = run_here (suc k) (inl e)
  run_suc k h (inr n) = run_on k n.0 n.1.0 n.1.1.0 n.1.1.1 (h n.1.0)

pub has_run : WeightsFall → (k : ℕ) (s : State) → HasRun s k
has_run falls zero s = run_zero s (pauses falls s) (pauses falls s).paused
has_run falls (suc k) s = run_suc s (pauses falls s) k (has_run falls k) (pauses falls s).paused
