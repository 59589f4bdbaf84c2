-- How the runs of the plain machine feed its readings.
use Rattle.std.specs.Prelude.{◌≡◌, ℕ, Bool, true, List, [], ◌∷◌, ◌++◌, Option}
use Rattle.tex_defs.specs.declared.Seen.{Seen}
use Rattle.equivalents.specs.Groups.{Groups}
use Rattle.rows.specs.declared.command.Effect.TheVariants.{StartInput}
use Rattle.rows.specs.Readings.{Fed, Tok, Ask, Inner, Done, ActsOn, RunsAway, Tells, Inserts}
use Rattle.plain_readings.specs.Readings.{Reading, ask}
use Rattle.plain_readings.specs.Laws.{ComeInTurn}
use Rattle.plain_machine.specs.States.{State, Files, Move}
use Rattle.plain_machine.specs.Plan.{first_state}
use Rattle.plain_machine.specs.Runs.{Moves}

-- each open reading was fed in turn
abbrev pub AreInTurn : List Reading → Type 0
AreInTurn [] = Unit {0}
AreInTurn (r ∷ rs) = ComeInTurn (ask r.kind) r.fed × AreInTurn rs

-- the last of all that a reading was fed with is this token
abbrev pub FedLast : Seen → List Fed → Type 0
FedLast x fed = (before : List Fed) × (fed ≡ before ++ Tok x ∷ [])

-- What gives a token back or lends it was fed with it last, where this token goes: with a value, before a report, where a call runs away, behind a file's
-- name, and where a reading begins with it.
abbrev pub GivesOwn : (token : Seen) → List Fed → Ask → Type 0
GivesOwn x fed (Done v true) = FedLast x fed
GivesOwn x fed (Tells report true) = FedLast x fed
GivesOwn x fed (Inserts t report true) = FedLast x fed
GivesOwn x fed (RunsAway report) = FedLast x fed
GivesOwn x fed (ActsOn c (StartInput true) ts) = FedLast x fed
GivesOwn x fed (Inner k true) = FedLast x fed
GivesOwn x fed a = Unit {0}

-- At each moment of a job's run, within a rule too: all open readings were fed in turn, and what the innermost gives back or lends is the machine's last
-- token, with which this very reading was fed last.
pub record RunsFeedInTurn : Type 0 where
  pub in_turn :
      (groups : Groups) (quiet : Bool) (file : List ℕ) (job : Option (List ℕ)) (files : Files) (t : State) (ms : List Move) →
      Moves (first_state groups quiet file job files) ms t → AreInTurn t.work
  pub own :
      (groups : Groups) (quiet : Bool) (file : List ℕ) (job : Option (List ℕ)) (files : Files) (t : State) (ms : List Move) (r : Reading) (rs : List Reading) →
      Moves (first_state groups quiet file job files) ms t → t.work ≡ r ∷ rs → GivesOwn t.last r.fed (ask r.kind r.fed)
