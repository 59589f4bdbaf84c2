-- A run within sizes is the machine's run up to the first move that doesn't fit, and it is the only one.
use Rattle.std.proofs.Common.{◌≡◌, ◌⊎◌, ℕ, ◌+◌, ◌-◌, ◌≤◌, List, [], ◌∷◌, ◌++◌, refl, sym, ap, subst, inl, inr, arith}
use Rattle.std.specs.Prelude.{Option, Some, None}
use Rattle.std.proofs.lemmas.List.{append-nil}
use Rattle.tex_defs.specs.declared.Full.{Full}
use Rattle.tex_defs.specs.declared.Sizes.{Sizes}
use Rattle.plain_readings.specs.Weights.{WeightsFall}
use Rattle.plain_machine.specs.States.{State, Move}
use Rattle.plain_machine.specs.Demands.{refusal}
use Rattle.plain_machine.specs.Plan.{Ends, Goes, next}
use Rattle.plain_machine.specs.Runs.{step_of, steps, Moves, NeedsStep, HasRun}
use Rattle.plain_machine.specs.Bounded.{FitMoves, IsFull, End, AtEnd, AtSteps, AtFull, Comes, Bounded, SameEnd, HasBounded, Beyond, IsFront}
use Rattle.plain_machine.proofs.Joins.{moves_join, steps_join, moves_of}
use Rattle.plain_machine.proofs.Laws.{SameMove, goes_one_way}
use Rattle.plain_machine.proofs.Pauses.{has_run}

module _ (sizes : Sizes) where
  -- ONE RUN

  -- where a run has come to its end no move follows that fits
  none_follows : (s : State) (k : ℕ) (m : Move) (ms : List Move) (u : State) (end : End) → Comes sizes 0 k s end → next s ≡ Goes m u → refusal sizes m s ≡ None → step_of m + steps ms ≤ k → ⊥
  none_follows s k m ms u AtEnd w e f le = cc
  none_follows s k m ms u AtSteps w e f le =
      let same : SameMove w.1.0 m w.1.1.0 u = goes_one_way s _ _ _ _ w.1.1.1.0 e in
      let one : step_of m ≡ 1 = subst (λ (n : Move). step_of n ≡ 1) same.move w.1.1.1.1 in
      omega (arith, w.0)
  none_follows s k m ms u (AtFull full) w e f le =
      let same : SameMove w.m m w.u u = goes_one_way s _ _ _ _ w.goes e in
      let full_too : refusal sizes m s ≡ Some full = subst (λ (n : Move). refusal sizes n s ≡ Some full) same.move w.refused in
      cc

  -- a step that would be one too many, and a move that isn't
  not_both : (s : State) (k : ℕ) (full : Full) → Comes sizes 0 k s AtSteps → IsFull sizes 0 k s full → ⊥
  not_both s k full a b =
      let same : SameMove a.1.0 b.m a.1.1.0 b.u = goes_one_way s _ _ _ _ a.1.1.1.0 b.goes in
      let one : step_of b.m ≡ 1 = subst (λ (n : Move). step_of n ≡ 1) same.move a.1.1.1.1 in
      omega (arith, a.0, b.room)

  same_full : (s : State) (k : ℕ) (full full' : Full) → IsFull sizes 0 k s full → IsFull sizes 0 k s full' → AtFull full ≡ AtFull full'
  same_full s k full full' a b =
      let same : SameMove a.m b.m a.u b.u = goes_one_way s _ _ _ _ a.goes b.goes in
      let refused : refusal sizes b.m s ≡ Some full = subst (λ (n : Move). refusal sizes n s ≡ Some full) same.move a.refused in
      cc (refused, b.refused)

  -- a state comes to one end
  one_end : (s : State) (k : ℕ) (end end' : End) → Comes sizes 0 k s end → Comes sizes 0 k s end' → end ≡ end'
  one_end s k AtEnd AtEnd a b = refl
  one_end s k AtEnd AtSteps a b = let goes : next s ≡ Goes b.1.0 b.1.1.0 = b.1.1.1.0 in cc
  one_end s k AtEnd (AtFull full) a b = let goes : next s ≡ Goes b.m b.u = b.goes in cc
  one_end s k AtSteps AtEnd a b = let goes : next s ≡ Goes a.1.0 a.1.1.0 = a.1.1.1.0 in cc
  one_end s k AtSteps AtSteps a b = refl
  one_end s k AtSteps (AtFull full) a b = absurd (not_both s k full a b)
  one_end s k (AtFull full) AtEnd a b = let goes : next s ≡ Goes a.m a.u = a.goes in cc
  one_end s k (AtFull full) AtSteps a b = absurd (not_both s k full b a)
  one_end s k (AtFull full) (AtFull full') a b = same_full s k full full' a b

  -- behind a move
  less : (n j k : ℕ) (t : State) (end : End) → Comes sizes (n + j) k t end → Comes sizes j (k - n) t end
  less n j k t AtEnd w = w
  less n j k t AtSteps w = (omega (arith, w.0), w.1)
  less n j k t (AtFull full) w = record { m = w.m; u = w.u; goes = w.goes; room = omega (arith, w.room); refused = w.refused }

  one_run : (s : State) (k : ℕ) (ms ms' : List Move) (t t' : State) (end end' : End) →
      FitMoves sizes s ms t → steps ms ≤ k → Comes sizes (steps ms) k t end →
      FitMoves sizes s ms' t' → steps ms' ≤ k → Comes sizes (steps ms') k t' end' → SameEnd ms ms' t t' end end'
  one_run s k [] [] t t' end end' a la wa b lb wb = record {
    moves = refl;
    state = cc;
    same_end = one_end s k end end' (subst (λ (x : State). Comes sizes 0 k x end) (sym a) wa) (subst (λ (x : State). Comes sizes 0 k x end') (sym b) wb);
  }
  one_run s k [] (m' ∷ ms') t t' end end' a la wa b lb wb =
      absurd (none_follows s k m' ms' b.0 end (subst (λ (x : State). Comes sizes 0 k x end) (sym a) wa) b.1.0 b.1.1.0 lb)
  one_run s k (m ∷ ms) [] t t' end end' a la wa b lb wb =
      absurd (none_follows s k m ms a.0 end' (subst (λ (x : State). Comes sizes 0 k x end') (sym b) wb) a.1.0 a.1.1.0 la)
  one_run s k (m ∷ ms) (m' ∷ ms') t t' end end' a la wa b lb wb =
      let first : SameMove m m' a.0 b.0 = goes_one_way s _ _ _ _ a.1.0 b.1.0 in
      let b' : FitMoves sizes a.0 ms' t' = subst (λ (x : State). FitMoves sizes x ms' t') (sym first.state) b.1.1.1 in
      let same_step : step_of m' ≡ step_of m = ap step_of (sym first.move) in
      let wb' : Comes sizes (step_of m + steps ms') k t' end' = subst (λ (n : ℕ). Comes sizes (n + steps ms') k t' end') same_step wb in
      let rest : SameEnd ms ms' t t' end end' =
      one_run a.0 (k - step_of m) ms ms' t t' end end' a.1.1.1 (omega arith) (less _ _ _ t end wa) b' (omega (arith, same_step)) (less _ _ _ t' end' wb') in
      record { moves = cc (first.move, rest.moves); state = rest.state; same_end = rest.same_end }

  pub one_bounded : (s : State) (k : ℕ) (ms ms' : List Move) (t t' : State) (end end' : End) → Bounded sizes s k ms t end → Bounded sizes s k ms' t' end' → SameEnd ms ms' t t' end end'
  one_bounded s k ms ms' t t' end end' a b = one_run s k ms ms' t t' end end' a.moves a.within a.whole b.moves b.within b.whole

  -- EACH HAS A RUN

  -- one move more in front
  first : (s u : State) (m : Move) (k : ℕ) → next s ≡ Goes m u → refusal sizes m s ≡ None → step_of m ≤ k → HasBounded sizes u (k - step_of m) → HasBounded sizes s k
  first s u m k e fits le h = record {
    ms = m ∷ h.ms;
    t = h.t;
    end = h.end;
    bounded = record { moves = (u, (e, (fits, h.bounded.moves))); within = omega (arith, h.bounded.within); whole = later h.end h.bounded.whole };
  } where
    later : (end : End) → Comes sizes (steps h.ms) (k - step_of m) h.t end → Comes sizes (step_of m + steps h.ms) k h.t end
    later AtEnd w = w
    later AtSteps w = (omega (arith, w.0), w.1)
    later (AtFull full) w = record { m = w.m; u = w.u; goes = w.goes; room = omega (arith, w.room); refused = w.refused }

  -- the machine's run, cut off where a move doesn't fit
  cut : (s : State) (k : ℕ) (ms : List Move) (t : State) → Moves s ms t → steps ms ≤ k → (next t ≡ Ends) ⊎ ((steps ms ≡ k) × NeedsStep t) → HasBounded sizes s k
  cut s k [] t a le (inl e) = record { ms = []; t = t; end = AtEnd; bounded = record { moves = a; within = le; whole = e } }
  cut s k [] t a le (inr n) = record { ms = []; t = t; end = AtSteps; bounded = record { moves = a; within = le; whole = n } }
  cut s k (m ∷ ms) t a le w = at_move (refusal sizes m s) refl (cut a.0 (k - step_of m) ms t a.1.1 (omega arith) (behind w)) where
    behind : (next t ≡ Ends) ⊎ ((step_of m + steps ms ≡ k) × NeedsStep t) → (next t ≡ Ends) ⊎ ((steps ms ≡ k - step_of m) × NeedsStep t)
    behind (inl e) = inl e
    behind (inr n) = inr (omega (arith, n.0), n.1)

    at_move : (r : Option Full) → refusal sizes m s ≡ r → HasBounded sizes a.0 (k - step_of m) → HasBounded sizes s k
    at_move None e h = first s a.0 m k a.1.0 e (omega arith) h
    at_move (Some full) e h = record {
      ms = [];
      t = s;
      end = AtFull full;
      bounded = record { moves = refl; within = omega arith; whole = record { m = m; u = a.0; goes = a.1.0; room = omega arith; refused = e } };
    }

  pub has_bounded : WeightsFall → (s : State) (k : ℕ) → HasBounded sizes s k
  has_bounded falls s k = let h : HasRun s k = has_run falls k s in cut s k h.ms h.t h.trace.moves h.trace.within h.trace.whole

  -- A FRONT OF THE MACHINE'S RUN

  module _ (s : State) (k : ℕ) (ms : List Move) (t : State) where
    all_of : (end : End) → Bounded sizes s k ms t end → (next t ≡ Ends) ⊎ ((steps ms ≡ k) × NeedsStep t) → Beyond end [] → IsFront s k ms end
    all_of end h w b = record { rest = []; last = t; run = rw append-nil (record { moves = moves_of sizes s ms t h.moves; within = h.within; whole = w }); beyond = b }

    pub front : WeightsFall → (end : End) → Bounded sizes s k ms t end → IsFront s k ms end
    front falls AtEnd h = all_of AtEnd h (inl h.whole) refl
    front falls AtSteps h = all_of AtSteps h (inr h.whole) refl
    front falls (AtFull full) h =
        let r : HasRun t (k - steps ms) = has_run falls (k - steps ms) t in
        record {
          rest = r.ms;
          last = r.t;
          run = record {
            moves = moves_join s t r.t ms r.ms (moves_of sizes s ms t h.moves) r.trace.moves;
            within = omega (arith, steps_join ms r.ms, r.trace.within, h.within);
            whole = whole_of r.t r.ms h.within r.trace.whole;
          };
          beyond = tt;
        } where
          whole_of : (t' : State) (ns : List Move) → steps ms ≤ k → (next t' ≡ Ends) ⊎ ((steps ns ≡ k - steps ms) × NeedsStep t') → (next t' ≡ Ends) ⊎ ((steps (ms ++ ns) ≡ k) × NeedsStep t')
          whole_of t' ns le (inl e) = inl e
          whole_of t' ns le (inr n) = inr (omega (arith, steps_join ms ns, n.0), n.1)
