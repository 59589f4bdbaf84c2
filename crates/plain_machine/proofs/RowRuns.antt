-- What is computed of a state are its first moves.
use Rattle.std.proofs.Common.{◌≡◌, inl, inr, ℕ, zero, suc, ◌+◌, List, [], ◌∷◌, ◌++◌, length, refl, sym, ap, ◌∙◌, arith}
use Rattle.std.specs.Prelude.{Option, Some, None, ◌⊎◌}
use Rattle.tex_syntax.specs.declared.words.Outcome.{Outcome}
use Rattle.tex_defs.specs.declared.Full.{Full}
use Rattle.tex_defs.specs.declared.Sizes.{Sizes}
use Rattle.plain_machine.specs.States.{State, Move}
use Rattle.plain_machine.specs.Demands.{refusal}
use Rattle.plain_machine.specs.Plan.{Next, Ends, Goes, next, next_of}
use Rattle.plain_machine.specs.Runs.{step_of}
use Rattle.plain_machine.specs.Rows.{Result, EndsSo, IsRun, IsWhole, FitsTo, RowsAreRuns, EndedRowsAreWhole, RefusalsAreRuns, run_of, full_in, went, went_within, fitted, with_move, text_of}

next_is : (s : State) → next s ≡ next_of s s.due
unfolding next
next_is s = refl

-- a move, and then a run
one_more : (n : ℕ) (s u : State) (m : Move) (r : Result) → next s ≡ Goes m u → IsRun n u r → IsRun (suc n) s (with_move m r)
one_more n s u m r goes h = record {
  ms = m ∷ h.ms;
  t = h.t;
  moves = (u, (goes, h.moves));
  within = omega (arith, h.within);
  told = on h.told;
  text = ap (λ (bs : List ℕ). text_of m ++ bs) h.text;
  count = ap (λ (k : ℕ). step_of m + k) h.count;
  names = h.names;
  reports = h.reports;
  flawed = h.flawed;
} where
  on : EndsSo n h.ms h.t r.stopped → EndsSo (suc n) (m ∷ h.ms) h.t r.stopped
  on (inl e) = inl e
  on (inr e) = inr (omega (arith, e.0), e.1)

by_next : (n : ℕ) (s : State) (x : Next) → next s ≡ x → ((u : State) → IsRun n u (run_of n u)) → IsRun (suc n) s (went s (λ u. run_of n u) x)
by_next n s Ends is h = record { ms = []; t = s; moves = refl; within = omega arith; told = inl (is, refl); text = refl; count = refl; names = refl; reports = refl; flawed = refl }
by_next n s (Goes m u) is h = one_more n s u m (run_of n u) is (h u)

pub rows_run : RowsAreRuns
unfolding run_of
rows_run zero s = record { ms = []; t = s; moves = refl; within = omega arith; told = inr (refl, refl); text = refl; count = refl; names = refl; reports = refl; flawed = refl }
rows_run (suc n) s = by_next n s (next_of s s.due) (next_is s) (λ u. rows_run n u)

-- where an end is told
by_told : (n : ℕ) (s : State) (r : Result) (o : Outcome) (h : IsRun n s r) → EndsSo n h.ms h.t r.stopped → r.stopped ≡ Some o → IsWhole s r o
by_told n s r o h (inl e) is = record {
  ms = h.ms;
  t = h.t;
  trace = λ k le. record { moves = h.moves; within = omega (arith, le, h.count); whole = inl e.0 };
  stopped = sym e.1 ∙ is;
  text = h.text;
  count = h.count;
  names = h.names;
  reports = h.reports;
  flawed = h.flawed;
}
by_told n s r o h (inr e) is = absurd (cc (e.1, is))

pub ended_whole : EndedRowsAreWhole
ended_whole n s o is = let h = rows_run n s in by_told n s (run_of n s) o h h.told is

-- WITHIN SIZES

module _ (sizes : Sizes) where
  fit_more : (n : ℕ) (s u : State) (m : Move) (full : Option Full) → next s ≡ Goes m u → refusal sizes m s ≡ None → FitsTo sizes n u full → FitsTo sizes (suc n) s full
  fit_more n s u m None goes fits h = record { ms = m ∷ h.ms; t = h.t; moves = (u, (goes, (fits, h.moves))); within = omega (arith, h.within); ends = on h.ends } where
    on : (next h.t ≡ Ends) ⊎ (length h.ms ≡ n) → (next h.t ≡ Ends) ⊎ (length (m ∷ h.ms) ≡ suc n)
    on (inl e) = inl e
    on (inr e) = inr (omega (arith, e))
  fit_more n s u m (Some full) goes fits h = record { ms = m ∷ h.ms; t = h.t; moves = (u, (goes, (fits, h.moves))); within = omega (arith, h.within); ends = h.ends }

  by_refusal : (n : ℕ) (s u : State) (m : Move) (o : Option Full) → next s ≡ Goes m u → refusal sizes m s ≡ o → FitsTo sizes n u (full_in sizes n u) → FitsTo sizes (suc n) s (fitted (λ v. full_in sizes n v) u o)
  by_refusal n s u m None goes is h = fit_more n s u m (full_in sizes n u) goes is h
  by_refusal n s u m (Some full) goes is h = record { ms = []; t = s; moves = refl; within = omega arith; ends = (m, (u, (goes, is))) }

  by_next_fit : (n : ℕ) (s : State) (x : Next) → next s ≡ x → ((u : State) → FitsTo sizes n u (full_in sizes n u)) → FitsTo sizes (suc n) s (went_within sizes s (λ u. full_in sizes n u) x)
  by_next_fit n s Ends is h = record { ms = []; t = s; moves = refl; within = omega arith; ends = inl is }
  by_next_fit n s (Goes m u) is h = by_refusal n s u m (refusal sizes m s) is refl (h u)

  refusals_of : (n : ℕ) (s : State) → FitsTo sizes n s (full_in sizes n s)
  unfolding full_in
  refusals_of zero s = record { ms = []; t = s; moves = refl; within = omega arith; ends = inr refl }
  refusals_of (suc n) s = by_next_fit n s (next_of s s.due) (next_is s) (λ u. refusals_of n u)

pub refusals_run : RefusalsAreRuns
refusals_run sizes n s = refusals_of sizes n s
