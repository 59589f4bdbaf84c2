-- Runs within the tables' sizes, beside the machine, which knows no sizes.
use Rattle.std.specs.Prelude.{◌≡◌, ◌≤◌, ℕ, ◌+◌, List, [], ◌∷◌, ◌++◌, Some, None}
use Rattle.tex_defs.specs.declared.Full.{Full}
use Rattle.tex_defs.specs.declared.Sizes.{Sizes}
use Rattle.plain_machine.specs.States.{State, Move, made}
use Rattle.plain_machine.specs.Demands.{refusal}
use Rattle.plain_machine.specs.Plan.{Ends, Goes, next}
use Rattle.plain_machine.specs.Runs.{step_of, steps, NeedsStep, Trace}

-- each of these moves, made one after another, fits
abbrev pub AllFit : Sizes → List Move → State → Type 0
AllFit sizes [] s = Unit {0}
AllFit sizes (m ∷ ms) s = (refusal sizes m s ≡ None) × AllFit sizes ms (made m s)

-- the machine makes these moves, each of which fits
abbrev pub FitMoves : Sizes → State → List Move → State → Type 0
FitMoves sizes s [] t = s ≡ t
FitMoves sizes s (m ∷ ms) t = (u : State) × ((next s ≡ Goes m u) × ((refusal sizes m s ≡ None) × FitMoves sizes u ms t))

-- The next move, for which there is a step if it is one, doesn't fit: this is refused.
pub record IsFull (sizes : Sizes) (taken k : ℕ) (t : State) (full : Full) : Type 0 where
  pub m : Move
  pub u : State
  pub goes : next t ≡ Goes m u
  pub room : taken + step_of m ≤ k
  pub refused : refusal sizes m t ≡ Some full

-- how a run within steps and sizes comes to its end
pub data End : Type 0 where
  AtEnd : End
  AtSteps : End
  AtFull : Full → End

abbrev pub Comes : Sizes → (taken k : ℕ) → State → End → Type 0
Comes sizes taken k t AtEnd = next t ≡ Ends
Comes sizes taken k t AtSteps = (taken ≡ k) × NeedsStep t
Comes sizes taken k t (AtFull full) = IsFull sizes taken k t full

-- the machine's run of at most k steps within these sizes, and how it came to its end
pub record Bounded (sizes : Sizes) (s : State) (k : ℕ) (ms : List Move) (t : State) (end : End) : Type 0 where
  pub moves : FitMoves sizes s ms t
  pub within : steps ms ≤ k
  pub whole : Comes sizes (steps ms) k t end

pub record SameEnd (ms ms' : List Move) (t t' : State) (end end' : End) : Type 0 where
  pub moves : ms ≡ ms'
  pub state : t ≡ t'
  pub same_end : end ≡ end'

-- two runs of one state within one bound and the same sizes are equal, and come to the same end
abbrev pub BoundedRunsAreOne : Type 0
BoundedRunsAreOne = (sizes : Sizes) (s : State) (k : ℕ) (ms ms' : List Move) (t t' : State) (end end' : End) → Bounded sizes s k ms t end → Bounded sizes s k ms' t' end' → SameEnd ms ms' t t' end end'

pub record HasBounded (sizes : Sizes) (s : State) (k : ℕ) : Type 0 where
  pub ms : List Move
  pub t : State
  pub end : End
  pub bounded : Bounded sizes s k ms t end

abbrev pub EachHasBounded : Type 0
EachHasBounded = (sizes : Sizes) (s : State) (k : ℕ) → HasBounded sizes s k

-- what the machine does beyond a run that came to this end
abbrev pub Beyond : End → List Move → Type 0
Beyond AtEnd rest = rest ≡ []
Beyond AtSteps rest = rest ≡ []
Beyond (AtFull full) rest = Unit {0}

-- these are the first moves of the machine's run, and all of them where no table was full
pub record IsFront (s : State) (k : ℕ) (ms : List Move) (end : End) : Type 0 where
  pub rest : List Move
  pub last : State
  pub run : Trace s k (ms ++ rest) last
  pub beyond : Beyond end rest

abbrev pub BoundedIsFront : Type 0
BoundedIsFront = (sizes : Sizes) (s : State) (k : ℕ) (ms : List Move) (t : State) (end : End) → Bounded sizes s k ms t end → IsFront s k ms end
