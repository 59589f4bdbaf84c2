-- How long the texts are that conditionals skip: each token of one was a step, and so was the conditional itself.
use Rattle.std.specs.Prelude.{◌≡◌, ℕ, ◌+◌, ◌<◌, ◌^◌, Bool, List, [], ◌∷◌, length, map, Option}
use Rattle.tex_defs.specs.declared.Seen.{Seen}
use Rattle.equivalents.specs.Groups.{Groups}
use Rattle.conditionals.specs.Skipping.{greatest_count}
use Rattle.rows.specs.Readings.{Fed, Tok}
use Rattle.plain_readings.specs.Readings.{Kind, Skips, Reading}
use Rattle.plain_machine.specs.States.{State, Files, Move}
use Rattle.plain_machine.specs.Plan.{first_state}
use Rattle.plain_machine.specs.Runs.{steps, Moves, Begins}

-- fewer than n tokens, and nothing else
pub record IsText (n : ℕ) (fed : List Fed) : Type 0 where
  pub text : List Seen
  pub is : fed ≡ map Tok text
  pub short : length text < n

-- Of the innermost reading: text that is skipped has fewer tokens than n, and any other began behind a step.
abbrev pub IsShort : ℕ → Kind → List Fed → Type 0
IsShort n (Skips c aim line) fed = IsText n fed
IsShort n k fed = 0 < n

-- Of a reading beneath: it skips no text.
abbrev pub IsBeneath : ℕ → Kind → Type 0
IsBeneath n (Skips c aim line) = ⊥
IsBeneath n k = 0 < n

abbrev pub AreBeneath : ℕ → List Reading → Type 0
AreBeneath n [] = Unit {0}
AreBeneath n (r ∷ rs) = IsBeneath n r.kind × AreBeneath n rs

-- of all open readings
abbrev pub AreShort : ℕ → List Reading → Type 0
AreShort n [] = Unit {0}
AreShort n (r ∷ rs) = IsShort n r.kind r.fed × AreBeneath n rs

-- Text is skipped by the innermost reading alone, and is longer by no more than the steps: within fewer than 2^64 steps of a job no skipped text has
-- 2^64 - 1 tokens, so the count of the conditionals in it never stands still.
pub record SkippedTextsAreCounted : Type 0 where
  pub rises : (n : ℕ) (s t : State) (ms : List Move) → Begins s → AreShort n s.work → Moves s ms t → AreShort (n + steps ms) t.work
  pub counts :
      (groups : Groups) (quiet : Bool) (file : List ℕ) (job : Option (List ℕ)) (files : Files) (t : State) (ms : List Move) →
      Moves (first_state groups quiet file job files) ms t → steps ms < 2 ^ 64 → AreShort greatest_count t.work
