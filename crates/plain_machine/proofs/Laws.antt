-- Two runs of one state with one bound are equal, and what runs are made of.
use Rattle.std.proofs.Common.{◌≡◌, ◌⊎◌, ℕ, ◌+◌, ◌-◌, ◌≤◌, List, [], ◌∷◌, refl, sym, ap, subst, inl, inr, arith}
use Rattle.plain_machine.specs.States.{State, Move}
use Rattle.plain_machine.specs.Plan.{Ends, Goes, next}
use Rattle.plain_machine.specs.Runs.{step_of, steps, Moves, NeedsStep, Same}

pub record SameMove (m n : Move) (t u : State) : Type 0 where
  pub move : m ≡ n
  pub state : t ≡ u

pub goes_one_way : (s t u : State) (m n : Move) → next s ≡ Goes m t → next s ≡ Goes n u → SameMove m n t u
goes_one_way s t u m n e f = record { move = cc; state = cc }

-- where the first run has ended the second has too
pub none_left : (s : State) (k : ℕ) (m : Move) (ms : List Move) (u t' : State) →
    (next s ≡ Ends) ⊎ ((0 ≡ k) × NeedsStep s) → next s ≡ Goes m u → Moves u ms t' → step_of m + steps ms ≤ k → ⊥
none_left s k m ms u t' (inl e) f g le = cc
none_left s k m ms u t' (inr p) f g le =
    let same : SameMove (p.1.0) m (p.1.1.0) u = goes_one_way s _ _ _ _ p.1.1.1.0 f in
    let one : step_of m ≡ 1 = subst (λ (n : Move). step_of n ≡ 1) same.move p.1.1.1.1 in
    omega (arith, p.0)

less : (n j k : ℕ) (t : State) → (next t ≡ Ends) ⊎ ((n + j ≡ k) × NeedsStep t) → (next t ≡ Ends) ⊎ ((j ≡ k - n) × NeedsStep t)
less n j k t (inl e) = inl e
less n j k t (inr p) = inr (omega (arith, p.0), p.1)

pub one_run : (s : State) (k : ℕ) (ms ms' : List Move) (t t' : State) →
    Moves s ms t → steps ms ≤ k → (next t ≡ Ends) ⊎ ((steps ms ≡ k) × NeedsStep t) →
    Moves s ms' t' → steps ms' ≤ k → (next t' ≡ Ends) ⊎ ((steps ms' ≡ k) × NeedsStep t') → Same ms ms' t t'
one_run s k [] [] t t' a la wa b lb wb = record { moves = refl; state = cc }
one_run s k [] (m' ∷ ms') t t' a la wa b lb wb =
    let w : (next s ≡ Ends) ⊎ ((0 ≡ k) × NeedsStep s) = subst (λ (x : State). (next x ≡ Ends) ⊎ ((0 ≡ k) × NeedsStep x)) (sym a) wa in
    absurd (none_left s k m' ms' b.0 t' w b.1.0 b.1.1 lb)
one_run s k (m ∷ ms) [] t t' a la wa b lb wb =
    let w : (next s ≡ Ends) ⊎ ((0 ≡ k) × NeedsStep s) = subst (λ (x : State). (next x ≡ Ends) ⊎ ((0 ≡ k) × NeedsStep x)) (sym b) wb in
    absurd (none_left s k m ms a.0 t w a.1.0 a.1.1 la)
one_run s k (m ∷ ms) (m' ∷ ms') t t' a la wa b lb wb =
    let first : SameMove m m' a.0 b.0 = goes_one_way s _ _ _ _ a.1.0 b.1.0 in
    let b' : Moves a.0 ms' t' = subst (λ (x : State). Moves x ms' t') (sym first.state) b.1.1 in
    let same_step : step_of m' ≡ step_of m = ap step_of (sym first.move) in
    let rest : Same ms ms' t t' =
    one_run a.0 (k - step_of m) ms ms' t t' a.1.1 (omega arith) (less _ _ _ _ wa) b' (omega (arith, same_step)) (less _ _ _ _ (subst (λ (x : ℕ). (next t' ≡ Ends) ⊎ ((x + steps ms' ≡ k) × NeedsStep t')) same_step wb)) in
    record { moves = cc (first.move, rest.moves); state = rest.state }
