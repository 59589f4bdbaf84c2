-- A run within j + k steps is a run within j and then one within k.
use Rattle.std.proofs.Common.{◌≡◌, ◌⊎◌, ℕ, ◌+◌, List, [], ◌∷◌, ◌++◌, inl, inr, arith}
use Rattle.plain_readings.specs.Weights.{WeightsFall}
use Rattle.plain_machine.specs.States.{State, Move}
use Rattle.plain_machine.specs.Plan.{Ends, next}
use Rattle.plain_machine.specs.Runs.{steps, Moves, NeedsStep, Trace, Same, HasRun, TwoRuns}
use Rattle.plain_machine.proofs.Joins.{moves_join, steps_join}
use Rattle.plain_machine.proofs.Laws.{one_run}
use Rattle.plain_machine.proofs.Pauses.{has_run}

none_behind : (u t : State) (ns : List Move) → next u ≡ Ends → Moves u ns t → next t ≡ Ends
none_behind u t [] e h = rw (← h) e
none_behind u t (m ∷ ns) e h = cc (h.1.0)

module _ (s u t : State) (j k : ℕ) (ms ns : List Move) where
  whole_of : Moves u ns t → (next u ≡ Ends) ⊎ ((steps ms ≡ j) × NeedsStep u) → (next t ≡ Ends) ⊎ ((steps ns ≡ k) × NeedsStep t) → (next t ≡ Ends) ⊎ ((steps (ms ++ ns) ≡ j + k) × NeedsStep t)
  whole_of h a (inl e) = inl e
  whole_of h (inl e) (inr n) = inl (none_behind u t ns e h)
  whole_of h (inr m) (inr n) = inr (omega (arith, steps_join ms ns, m.0, n.0), n.1)

  pub trace_join : Trace s j ms u → Trace u k ns t → Trace s (j + k) (ms ++ ns) t
  trace_join a b = record {
    moves = moves_join s u t ms ns a.moves b.moves;
    within = omega (arith, steps_join ms ns, a.within, b.within);
    whole = whole_of b.moves a.whole b.whole;
  }

pub joined : (s : State) (j k : ℕ) (ms : List Move) (t : State) → TwoRuns s j k ms t → Trace s (j + k) ms t
joined s j k ms t h = rw h.moves (trace_join s h.between t j k h.first h.second h.before h.behind)

-- by determinism: both parts have a run, and the two make one
pub parted : WeightsFall → (s : State) (j k : ℕ) (ms : List Move) (t : State) → Trace s (j + k) ms t → TwoRuns s j k ms t
parted falls s j k ms t h =
    let a : HasRun s j = has_run falls j s in
    let b : HasRun a.t k = has_run falls k a.t in
    let c : Trace s (j + k) (a.ms ++ b.ms) b.t = trace_join s a.t b.t j k a.ms b.ms a.trace b.trace in
    let same : Same ms (a.ms ++ b.ms) t b.t = one_run s (j + k) ms (a.ms ++ b.ms) t b.t h.moves h.within h.whole c.moves c.within c.whole in
    record { first = a.ms; between = a.t; second = b.ms; moves = same.moves; before = a.trace; behind = rw same.state b.trace }
