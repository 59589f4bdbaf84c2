-- Moves made one after another: what stands of the open readings is kept at each moment.
use Rattle.std.proofs.Common.{Bool, true, false, List, [], ◌∷◌, ◌++◌, drop, ◌≡◌}
use Rattle.std.specs.Prelude.{if◌then◌else◌, nat_lt, ℕ}
use Rattle.tex_syntax.specs.declared.words.Report.{Report}
use Rattle.tex_syntax.specs.declared.words.Outcome.TheVariants.{AtFatal}
use Rattle.tex_defs.specs.declared.Seen.{Seen}
use Rattle.tex_defs.specs.declared.Fatal.TheVariants.{HundredErrors}
use Rattle.tex_defs.specs.Places.{Transcript}
use Rattle.plain_tokens.specs.Arguments.{has_parameters}
use Rattle.plain_tokens.specs.Printed.{Style}
use Rattle.plain_state.specs.Reports.{hundred_line}
use Rattle.rows.specs.declared.words.Phrase.TheVariants.{Command, Integer}
use Rattle.rows.specs.Readings.{Tok, Val}
use Rattle.plain_readings.specs.Readings.{Reads, Arguments, Reading, fed_with, opened, opened_with}
use Rattle.plain_machine.specs.States.{State, Move, Feeds, CalledWith, Defined, ListSet, Begun, BegunWith, Ended, Closed, Written, Stopped, last_with, made}
use Rattle.plain_machine.specs.Plan.{Page, style_of, reports_room, behind_report, reported}
use Rattle.run_laws.proofs.InTurn.{WaitsInTurn, Rested, begun_stand}

-- From these readings and this last token on it stands before each of the moves that touch them, and behind them all.
abbrev pub Keeps : List Move → List Reading → Seen → Type 0
Keeps [] work last = WaitsInTurn work last
Keeps (Feeds y ∷ ms) work last = WaitsInTurn work last × Keeps ms (fed_with y work) (last_with y last)
Keeps (CalledWith p ∷ ms) work last = WaitsInTurn work last × Keeps ms (drop 1 work) last
Keeps (Defined global name long outer ts ∷ ms) work last = WaitsInTurn work last × Keeps ms (drop 1 work) last
Keeps (ListSet global l ts ∷ ms) work last = WaitsInTurn work last × Keeps ms (drop 1 work) last
Keeps (Begun k ∷ ms) work last = WaitsInTurn work last × Keeps ms (opened k work) last
Keeps (BegunWith k ∷ ms) work last = WaitsInTurn work last × Keeps ms (opened_with k (Tok last) work) last
Keeps (Ended v ts ∷ ms) work last = WaitsInTurn work last × Keeps ms (fed_with (Val v ts) (drop 1 work)) last
Keeps (Closed ∷ ms) work last = WaitsInTurn work last × Keeps ms (drop 1 work) last
Keeps (m ∷ ms) work last = Keeps ms work last

pub stand_now : (ms : List Move) (work : List Reading) (last : Seen) → Keeps ms work last → WaitsInTurn work last
stand_now [] work last h = h
stand_now (Feeds y ∷ ms) work last h = h.0
stand_now (CalledWith p ∷ ms) work last h = h.0
stand_now (Defined global name long outer ts ∷ ms) work last h = h.0
stand_now (ListSet global l ts ∷ ms) work last h = h.0
stand_now (Begun k ∷ ms) work last h = h.0
stand_now (BegunWith k ∷ ms) work last h = h.0
stand_now (Ended v ts ∷ ms) work last h = h.0
stand_now (Closed ∷ ms) work last h = h.0
stand_now (m ∷ ms) work last h = stand_now ms work last h

-- once the first of them is made
pub keeps_made : (m : Move) (ms : List Move) (s : State) → Keeps (m ∷ ms) s.work s.last → Keeps ms (made m s).work (made m s).last
keeps_made (Feeds y) ms s h = h.1
keeps_made (CalledWith p) ms s h = h.1
keeps_made (Defined global name long outer ts) ms s h = h.1
keeps_made (ListSet global l ts) ms s h = h.1
keeps_made (Begun k) ms s h = h.1
keeps_made (BegunWith k) ms s h = h.1
keeps_made (Ended v ts) ms s h = h.1
keeps_made Closed ms s h = h.1
keeps_made m ms s h = h

-- what is true of moves with a choice among them
pub one_of : (P : List Move → Type 0) (b : Bool) (xs ys : List Move) → P xs → P ys → P (if b then xs else ys)
one_of P true xs ys h i = h
one_of P false xs ys h i = i

-- behind a report
pub behind_keeps : (style : Style) (reports : ℕ) (rest : List Move) (work : List Reading) (last : Seen) → WaitsInTurn work last → Keeps rest work last →
    Keeps (behind_report style reports rest) work last
behind_keeps style reports rest work last h i =
    one_of (λ (ms : List Move). Keeps ms work last) (nat_lt reports reports_room) rest (Written Transcript (hundred_line style) ∷ Stopped (AtFatal HundredErrors) ∷ []) i h

pub reported_keeps : (page : Page) (report : Report) (rest : List Move) (work : List Reading) (last : Seen) → WaitsInTurn work last → Keeps rest work last →
    Keeps (reported page report rest) work last
reported_keeps page report rest work last h i = behind_keeps (style_of page) page.reports rest work last h i

-- MOVES THAT LEAVE THE READINGS
abbrev pub Calm : List Move → Type 0
Calm [] = Unit {0}
Calm (Feeds y ∷ ms) = ⊥
Calm (CalledWith p ∷ ms) = ⊥
Calm (Defined global name long outer ts ∷ ms) = ⊥
Calm (ListSet global l ts ∷ ms) = ⊥
Calm (Begun k ∷ ms) = ⊥
Calm (BegunWith k ∷ ms) = ⊥
Calm (Ended v ts ∷ ms) = ⊥
Calm (Closed ∷ ms) = ⊥
Calm (m ∷ ms) = Calm ms

pub calm_join : (xs ys : List Move) → Calm xs → Calm ys → Calm (xs ++ ys)
calm_join [] ys h i = i
calm_join (Feeds y ∷ xs) ys h i = absurd h
calm_join (CalledWith p ∷ xs) ys h i = absurd h
calm_join (Defined global name long outer ts ∷ xs) ys h i = absurd h
calm_join (ListSet global l ts ∷ xs) ys h i = absurd h
calm_join (Begun k ∷ xs) ys h i = absurd h
calm_join (BegunWith k ∷ xs) ys h i = absurd h
calm_join (Ended v ts ∷ xs) ys h i = absurd h
calm_join (Closed ∷ xs) ys h i = absurd h
calm_join (m ∷ xs) ys h i = calm_join xs ys h i

-- what is kept behind them is kept by all
pub calm_keeps : (ms ns : List Move) (work : List Reading) (last : Seen) → Calm ms → Keeps ns work last → Keeps (ms ++ ns) work last
calm_keeps [] ns work last h i = i
calm_keeps (Feeds y ∷ ms) ns work last h i = absurd h
calm_keeps (CalledWith p ∷ ms) ns work last h i = absurd h
calm_keeps (Defined global name long outer ts ∷ ms) ns work last h i = absurd h
calm_keeps (ListSet global l ts ∷ ms) ns work last h i = absurd h
calm_keeps (Begun k ∷ ms) ns work last h i = absurd h
calm_keeps (BegunWith k ∷ ms) ns work last h i = absurd h
calm_keeps (Ended v ts ∷ ms) ns work last h i = absurd h
calm_keeps (Closed ∷ ms) ns work last h i = absurd h
calm_keeps (m ∷ ms) ns work last h i = calm_keeps ms ns work last h i

-- MOVES OF AN EXPANSION OR OF A COMMAND THAT BEGINS: at most one reading is open that they began, which has no value, and no other is touched.
abbrev pub Begins : (begun : Bool) → List Move → Type 0
Begins b [] = Unit {0}
Begins b (Feeds y ∷ ms) = ⊥
Begins b (CalledWith p ∷ ms) = ⊥
Begins b (Defined global name long outer ts ∷ ms) = ⊥
Begins b (ListSet global l ts ∷ ms) = ⊥
Begins true (Begun k ∷ ms) = ⊥
Begins false (Begun (Reads (Command c)) ∷ ms) = Begins true ms
Begins false (Begun (Reads k) ∷ ms) = ⊥
Begins false (Begun (Arguments name long number ts) ∷ ms) = (has_parameters ts ≡ true) × Begins true ms
Begins false (Begun k ∷ ms) = Begins true ms
Begins b (BegunWith k ∷ ms) = ⊥
Begins b (Ended v ts ∷ ms) = ⊥
Begins true (Closed ∷ ms) = Begins false ms
Begins false (Closed ∷ ms) = ⊥
Begins b (m ∷ ms) = Begins b ms

-- calm ones in front of them
pub calm_begins : (begun : Bool) (ms ns : List Move) → Calm ms → Begins begun ns → Begins begun (ms ++ ns)
calm_begins b [] ns h i = i
calm_begins b (Feeds y ∷ ms) ns h i = absurd h
calm_begins b (CalledWith p ∷ ms) ns h i = absurd h
calm_begins b (Defined global name long outer ts ∷ ms) ns h i = absurd h
calm_begins b (ListSet global l ts ∷ ms) ns h i = absurd h
calm_begins b (Begun k ∷ ms) ns h i = absurd h
calm_begins b (BegunWith k ∷ ms) ns h i = absurd h
calm_begins b (Ended v ts ∷ ms) ns h i = absurd h
calm_begins b (Closed ∷ ms) ns h i = absurd h
calm_begins b (m ∷ ms) ns h i = calm_begins b ms ns h i

-- the readings, with one that was begun or without it
abbrev with_begun : (begun : Bool) → Reading → List Reading → List Reading
with_begun true r work = r ∷ work
with_begun false r work = work

module _ (work : List Reading) (last : Seen) (h : WaitsInTurn work last) (rest : Rested work) where
  kept : (begun : Bool) (r : Reading) (ms : List Move) → Begins begun ms → WaitsInTurn (with_begun begun r work) last → Keeps ms (with_begun begun r work) last
  kept b r [] g i = i
  kept b r (Feeds y ∷ ms) g i = absurd g
  kept b r (CalledWith p ∷ ms) g i = absurd g
  kept b r (Defined global name long outer ts ∷ ms) g i = absurd g
  kept b r (ListSet global l ts ∷ ms) g i = absurd g
  kept true r (Begun k ∷ ms) g i = absurd g
  kept false r (Begun (Reads (Command c)) ∷ ms) g i =
      let more : WaitsInTurn (opened (Reads (Command c)) work) last = begun_stand (Reads (Command c)) work last tt tt h rest in
      (i, kept true (record { kind = Reads (Command c); fed = [] }) ms g more)
  kept false r (Begun (Reads k) ∷ ms) g i = absurd g
  kept false r (Begun (Arguments name long number ts) ∷ ms) g i =
      let more : WaitsInTurn (opened (Arguments name long number ts) work) last = begun_stand (Arguments name long number ts) work last tt g.0 h rest in
      (i, kept true (record { kind = Arguments name long number ts; fed = [] }) ms g.1 more)
  kept false r (Begun k ∷ ms) g i =
      let more : WaitsInTurn (opened k work) last = begun_stand k work last tt tt h rest in
      (i, kept true (record { kind = k; fed = [] }) ms g more)
  kept b r (BegunWith k ∷ ms) g i = absurd g
  kept b r (Ended v ts ∷ ms) g i = absurd g
  kept true r (Closed ∷ ms) g i = (i, kept false r ms g h)
  kept false r (Closed ∷ ms) g i = absurd g
  kept b r (m ∷ ms) g i = kept b r ms g i

  -- where the innermost reading rests, they keep what stands
  pub begins_keeps : (ms : List Move) → Begins false ms → Keeps ms work last
  begins_keeps ms g = kept false (record { kind = Reads Integer; fed = [] }) ms g h
