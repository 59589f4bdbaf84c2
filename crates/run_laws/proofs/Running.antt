-- What stands of the open readings stands at each moment of a run.
use Rattle.std.proofs.Common.{◌≡◌, ℕ, Bool, true, false, List, [], ◌∷◌, refl, sym, subst}
use Rattle.std.specs.Prelude.{Option, Some, None}
use Rattle.tex_syntax.specs.declared.words.Outcome.{Outcome}
use Rattle.tex_defs.specs.declared.Name.{Name}
use Rattle.tex_defs.specs.declared.Token.{Token}
use Rattle.tex_defs.specs.declared.Seen.{Seen}
use Rattle.plain_tokens.specs.Arguments as call
use Rattle.plain_tokens.specs.Pending.{pulled}
use Rattle.plain_tokens.specs.Printed.{Style}
use Rattle.prim_table.specs.Primitives.{primitive_names}
use Rattle.equivalents.specs.Groups.{Groups}
use Rattle.equivalents.specs.Parameters.{style_in}
use Rattle.rows.specs.Readings.{Fed, Ask, More}
use Rattle.plain_readings.specs.Calls.{call_ask, gathered, arguments}
use Rattle.plain_readings.specs.Readings.{Kind, Arguments, Reading, ask}
use Rattle.plain_machine.specs.States.{State, Files, Move, made}
use Rattle.plain_machine.specs.Plan.{page_of, stomach, answered, planned, ruled, plan, Ends, Goes, next, job_due, first_state}
use Rattle.plain_machine.specs.Runs.{Moves}
use Rattle.plain_machine.proofs.Joins.{next_due, next_plan, due_kept}
use Rattle.plain_machine.proofs.Laws.{SameMove, goes_one_way}
use Rattle.run_laws.specs.Laws.{AreInTurn, GivesOwn}
use Rattle.run_laws.proofs.InTurn.{IsNoCall, AreBeneath, WaitsInTurn}
use Rattle.run_laws.proofs.Keeping.{Keeps, stand_now, keeps_made, begins_keeps}
use Rattle.run_laws.proofs.Expanding.{stomach_begins}
use Rattle.run_laws.proofs.Feeding.{plainly_handed_keeps, more_keeps, call_more_keeps}
use Rattle.run_laws.proofs.Answering.{answered_keeps}

-- THE RULE

-- by the innermost reading, which is no call
module _ (s : State) (r : Reading) (rs : List Reading) (h : WaitsInTurn (r ∷ rs) s.last) (n : IsNoCall r.kind) where
  asked_keeps : (a : Ask) → ask r.kind r.fed ≡ a → Keeps (answered s (r ∷ rs) r a) (r ∷ rs) s.last
  asked_keeps (More want) e = more_keeps s r rs want h n e
  asked_keeps a e = answered_keeps s r rs h a tt e

-- by a call
module _ (s : State) (name : Name) (long : Bool) (number : ℕ) (ts : List Token) (fed : List Fed) (rs : List Reading) where
  abbrev called : Reading
  called = record { kind = Arguments name long number ts; fed = fed }

  module _ (h : WaitsInTurn (called ∷ rs) s.last) where
    abbrev Kept : Ask → Type 0
    Kept a = ask (Arguments name long number ts) fed ≡ a → Keeps (answered s (called ∷ rs) called a) (called ∷ rs) s.last

    call_keeps : (a : call.Answer) → Kept (call_ask name a)
    call_keeps (call.More args work) = λ e. call_more_keeps s name long number ts fed rs h e
    call_keeps (call.ExtraBraceFound args work) = λ e. answered_keeps s called rs h _ tt e
    call_keeps (call.Called args) = λ e. answered_keeps s called rs h _ tt e
    call_keeps call.Mismatch = λ e. answered_keeps s called rs h _ tt e
    call_keeps (call.Ended true args work) = λ e. answered_keeps s called rs h _ tt e
    call_keeps (call.Ended false args work) = λ e. answered_keeps s called rs h _ tt e

    arguments_keep : (more : List Fed) → Kept (arguments name long ts more)
    arguments_keep [] = λ e. call_more_keeps s name long number ts fed rs h e
    arguments_keep (y ∷ more) = call_keeps (gathered long ts (y ∷ more))

module _ (s : State) where
  kind_keeps : (k : Kind) (fed : List Fed) (rs : List Reading) → WaitsInTurn (record { kind = k; fed = fed } ∷ rs) s.last →
      Keeps (answered s (record { kind = k; fed = fed } ∷ rs) (record { kind = k; fed = fed }) (ask k fed)) (record { kind = k; fed = fed } ∷ rs) s.last
  kind_keeps (Arguments name long number ts) fed rs h = arguments_keep s name long number ts fed rs h fed refl
  kind_keeps k fed rs h = asked_keeps s (record { kind = k; fed = fed }) rs h tt (ask k fed) refl

  work_keeps : (work : List Reading) → WaitsInTurn work s.last → Keeps (planned s work) work s.last
  work_keeps [] h =
      plainly_handed_keeps [] s.last tt (page_of s) false None (stomach (page_of s)) tt (λ x. begins_keeps [] s.last tt tt (stomach (page_of s) x) (stomach_begins (page_of s) x))
      (pulled s.groups.now.categories s.pending)
  work_keeps (r ∷ rs) h = kind_keeps r.kind r.fed rs h

  ruled_keeps : (o : Option (List ℕ)) → WaitsInTurn s.work s.last → Keeps (ruled s o) s.work s.last
  ruled_keeps None h = work_keeps s.work h
  ruled_keeps (Some bytes) h = h

  plan_keeps : (o : Option Outcome) → WaitsInTurn s.work s.last → Keeps (plan s o) s.work s.last
  plan_keeps None h = ruled_keeps s.pending.next h
  plan_keeps (Some o) h = h

-- RUNS

-- the moves that are due keep what stands
abbrev Going : State → Type 0
Going s = Keeps s.due s.work s.last

ends : (s : State) → s.due ≡ [] → plan s s.stopped ≡ [] → next s ≡ Ends
unfolding next
ends s e f = rw e (rw f refl)

module _ (s u : State) (m : Move) (goes : next s ≡ Goes m u) where
  went_by : (d : Move) (ds : List Move) → next s ≡ Goes d (made d (record s { due = ds })) → Keeps (d ∷ ds) s.work s.last → Going u
  went_by d ds e h =
      let t : State = made d (record s { due = ds }) in
      let same : SameMove d m t u = goes_one_way s t u d m e goes in
      let there : Going t = subst (λ (ms : List Move). Keeps ms t.work t.last) (sym (due_kept d (record s { due = ds }))) (keeps_made d ds (record s { due = ds }) h) in
      subst Going same.state there

  went_plan : (ms : List Move) → s.due ≡ [] → plan s s.stopped ≡ ms → Keeps ms s.work s.last → Going u
  went_plan [] e f h = let none : next s ≡ Ends = ends s e f in absurd (cc (none, goes))
  went_plan (d ∷ ds) e f h = went_by d ds (next_plan s d ds e f) h

  went_due : (ms : List Move) → s.due ≡ ms → Keeps ms s.work s.last → Going u
  went_due [] e h = went_plan (plan s s.stopped) e refl (plan_keeps s s.stopped h)
  went_due (d ∷ ds) e h = went_by d ds (next_due s d ds e) h

ran : (s t : State) (ms : List Move) → Going s → Moves s ms t → Going t
ran s t [] h moves = subst Going moves h
ran s t (m ∷ ms) h moves = ran moves.0 t ms (went_due s moves.0 m moves.1.0 s.due refl h) moves.1.1

job_keeps : (style : Style) (file : List ℕ) (job : Option (List ℕ)) (last : Seen) → Keeps (job_due style file job) [] last
job_keeps style file None last = tt
job_keeps style file (Some bytes) last = tt

module _ (groups : Groups) (quiet : Bool) (file : List ℕ) (job : Option (List ℕ)) (files : Files) (t : State) (ms : List Move) where
  stands : Moves (first_state groups quiet file job files) ms t → WaitsInTurn t.work t.last
  stands moves =
      let first : State = first_state groups quiet file job files in
      let begins : Going first = job_keeps (style_in groups.now primitive_names) file job first.last in
      stand_now t.due t.work t.last (ran first t ms begins moves)

  beneath_in_turn : (k : Kind) (rs : List Reading) → AreBeneath k rs → AreInTurn rs
  beneath_in_turn k [] h = tt
  beneath_in_turn k (q ∷ qs) h = (h.0.in_turn, beneath_in_turn q.kind qs h.1)

  all_in_turn : (work : List Reading) (last : Seen) → WaitsInTurn work last → AreInTurn work
  all_in_turn [] last h = tt
  all_in_turn (r ∷ rs) last h = (h.0.in_turn, beneath_in_turn r.kind rs h.1)

  pub in_turn : Moves (first_state groups quiet file job files) ms t → AreInTurn t.work
  in_turn moves = all_in_turn t.work t.last (stands moves)

  pub own_last : (r : Reading) (rs : List Reading) → Moves (first_state groups quiet file job files) ms t → t.work ≡ r ∷ rs → GivesOwn t.last r.fed (ask r.kind r.fed)
  own_last r rs moves e = let h : WaitsInTurn (r ∷ rs) t.last = subst (λ (work : List Reading). WaitsInTurn work t.last) e (stands moves) in h.0.own
