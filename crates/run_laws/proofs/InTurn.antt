-- The open readings of a run: what stands of the innermost and of those beneath it, and what feeding, beginning and ending keep of that.
use Rattle.std.proofs.Common.{◌≡◌, ℕ, Bool, true, false, List, [], ◌∷◌, ◌++◌, refl}
use Rattle.tex_defs.specs.declared.Token.{Token}
use Rattle.tex_defs.specs.declared.Seen.{Seen}
use Rattle.plain_tokens.specs.Arguments.{has_parameters}
use Rattle.rows.specs.declared.command.Effect.TheVariants.{StartInput}
use Rattle.rows.specs.declared.words.Value.{Value}
use Rattle.rows.specs.declared.words.Phrase.{Phrase}
use Rattle.rows.specs.declared.words.Phrase.TheVariants.{Command}
use Rattle.rows.specs.Readings.{Fed, Tok, Val, Ask, More, Inner, Done, Acts, ActsOn, RunsAway, Tells, Inserts}
use Rattle.plain_readings.specs.Readings.{Kind, Reads, Arguments, Reading, ask, fed_with, opened, opened_with}
use Rattle.plain_readings.specs.Laws.{is_met, GivesBack, Lends, Comes, ComeInTurn, Starts, rank}
use Rattle.plain_readings.proofs.GivenBack.{directly, in_turn}
use Rattle.plain_readings.proofs.Lending.{lends}
use Rattle.plain_readings.proofs.Starting.{starts}
use Rattle.plain_machine.specs.States.{last_with}
use Rattle.run_laws.specs.Laws.{FedLast, GivesOwn}

-- KINDS

-- one whose readings have a value, and one whose have none
abbrev pub HasValue : Kind → Type 0
HasValue (Reads (Command c)) = ⊥
HasValue (Reads k) = Unit {0}
HasValue k = ⊥

abbrev pub HasNone : Kind → Type 0
HasNone (Reads (Command c)) = Unit {0}
HasNone (Reads k) = ⊥
HasNone k = Unit {0}

abbrev pub IsNoCall : Kind → Type 0
IsNoCall (Arguments name long number ts) = ⊥
IsNoCall k = Unit {0}

-- a call is one of a macro with a parameter text
abbrev pub HasPlaces : Kind → Type 0
HasPlaces (Arguments name long number ts) = has_parameters ts ≡ true
HasPlaces k = Unit {0}

no_call_places : (k : Kind) → IsNoCall k → HasPlaces k
no_call_places (Arguments name long number ts) h = absurd h
no_call_places k h = tt

-- READINGS BENEATH OTHERS

-- an answer by which no token is given back or lent, whichever was the last
abbrev pub Rests : Ask → Type 0
Rests (More want) = Unit {0}
Rests (Acts c e) = Unit {0}
Rests a = ⊥

abbrev pub AsksInner : Ask → Type 0
AsksInner (Inner k begins) = Unit {0}
AsksInner a = ⊥

-- What is asked for beneath a reading of this kind: beneath one with a value an inner reading.
abbrev pub Waits : Kind → Ask → Type 0
Waits (Reads (Command c)) a = Rests a
Waits (Reads k) a = AsksInner a
Waits k a = Rests a

rest_waits : (k : Kind) (a : Ask) → HasNone k → Rests a → Waits k a
rest_waits (Reads (Command c)) a n h = h
rest_waits (Reads k) a n h = absurd n
rest_waits k a n h = h

waits_rest : (k : Kind) (a : Ask) → HasNone k → Waits k a → Rests a
waits_rest (Reads (Command c)) a n h = h
waits_rest (Reads k) a n h = absurd n
waits_rest k a n h = h

waits_inner : (k : Kind) (a : Ask) → HasValue k → Waits k a → AsksInner a
waits_inner (Reads (Command c)) a n h = absurd n
waits_inner (Reads k) a n h = h
waits_inner k a n h = absurd n

inner_waits : (k : Kind) (a : Ask) → HasValue k → AsksInner a → Waits k a
inner_waits (Reads (Command c)) a n h = absurd n
inner_waits (Reads k) a n h = h
inner_waits k a n h = absurd n

-- where an inner reading is asked for, anything may come
inner_comes : (a : Ask) (y : Fed) → AsksInner a → Comes a y
inner_comes (Inner k begins) y h = tt
inner_comes a y h = absurd h

pub record IsBeneath (k : Kind) (q : Reading) : Type 0 where
  pub in_turn : ComeInTurn (ask q.kind) q.fed
  pub waits : Waits k (ask q.kind q.fed)
  pub no_call : IsNoCall q.kind

abbrev pub AreBeneath : Kind → List Reading → Type 0
AreBeneath k [] = Unit {0}
AreBeneath k (q ∷ qs) = IsBeneath k q × AreBeneath q.kind qs

-- the innermost, where this is the machine's last token
pub record IsInnermost (r : Reading) (last : Seen) : Type 0 where
  pub in_turn : ComeInTurn (ask r.kind) r.fed
  pub own : GivesOwn last r.fed (ask r.kind r.fed)
  pub places : HasPlaces r.kind

abbrev pub WaitsInTurn : List Reading → Seen → Type 0
WaitsInTurn [] last = Unit {0}
WaitsInTurn (r ∷ rs) last = IsInnermost r last × AreBeneath r.kind rs

-- and the innermost neither gives a token back nor lends one, and is no call
abbrev pub Rested : List Reading → Type 0
Rested [] = Unit {0}
Rested (q ∷ qs) = Rests (ask q.kind q.fed) × IsNoCall q.kind

-- TOKENS OF ITS OWN

own_by : (last : Seen) (fed : List Fed) (b : Bool) (a : Ask) → (b ≡ true → FedLast last fed) → GivesBack b a → Lends b a → GivesOwn last fed a
own_by last fed b (Done v true) h g l = h g
own_by last fed b (Tells report true) h g l = h g
own_by last fed b (Inserts t report true) h g l = h g
own_by last fed b (RunsAway report) h g l = h g
own_by last fed b (ActsOn c (StartInput true) ts) h g l = h g
own_by last fed b (Inner k true) h g l = h l
own_by last fed b a h g l = tt

own : (k : Kind) (fed : List Fed) (last : Seen) → ComeInTurn (ask k) fed → (is_met false fed ≡ true → FedLast last fed) → GivesOwn last fed (ask k fed)
own k fed last t h = own_by last fed (is_met false fed) (ask k fed) h (directly k fed t) (lends k fed)

rest_own : (last : Seen) (fed : List Fed) (a : Ask) → Rests a → GivesOwn last fed a
rest_own last fed (More want) h = tt
rest_own last fed (Acts c e) h = tt
rest_own last fed a h = absurd h

-- behind what is no token none was met
abbrev IsNoToken : Fed → Type 0
IsNoToken (Tok x) = ⊥
IsNoToken y = Unit {0}

not_met : (y : Fed) (b : Bool) (fed : List Fed) → IsNoToken y → is_met b (fed ++ y ∷ []) ≡ false
not_met (Tok x) b fed h = absurd h
not_met y b [] h = refl
not_met y b (Tok z ∷ fed) h = not_met y true fed h
not_met y b (z ∷ fed) h = not_met y false fed h

no_true : (b : Bool) → b ≡ false → b ≡ true → ⊥
no_true b e f = cc

-- what it is fed with is the last then
met_last : (y : Fed) (fed : List Fed) (last : Seen) → is_met false (fed ++ y ∷ []) ≡ true → FedLast (last_with y last) (fed ++ y ∷ [])
met_last (Tok x) fed last e = (fed, refl)
met_last y fed last e = absurd (no_true (is_met false (fed ++ y ∷ [])) (not_met y false fed tt) e)

-- FEEDING

fed_innermost : (y : Fed) (r : Reading) (last : Seen) → ComeInTurn (ask r.kind) r.fed → Comes (ask r.kind r.fed) y → HasPlaces r.kind →
    IsInnermost (record { kind = r.kind; fed = r.fed ++ y ∷ [] }) (last_with y last)
fed_innermost y r last t c p =
    let more : ComeInTurn (ask r.kind) (r.fed ++ y ∷ []) = in_turn r.kind r.fed y t c in
    record { in_turn = more; own = own r.kind (r.fed ++ y ∷ []) (last_with y last) more (met_last y r.fed last); places = p }

pub fed_stand : (y : Fed) (r : Reading) (rs : List Reading) (last : Seen) → Comes (ask r.kind r.fed) y → WaitsInTurn (r ∷ rs) last → WaitsInTurn (fed_with y (r ∷ rs)) (last_with y last)
fed_stand y r rs last c h = (fed_innermost y r last h.0.in_turn c h.0.places, h.1)

-- BEGINNING

none_met : (fed : List Fed) (last : Seen) → false ≡ true → FedLast last fed
none_met fed last e = absurd cc

rest_beneath : (k : Kind) (work : List Reading) (last : Seen) → HasNone k → WaitsInTurn work last → Rested work → AreBeneath k work
rest_beneath k [] last n h rest = tt
rest_beneath k (q ∷ qs) last n h rest = (record { in_turn = h.0.in_turn; waits = rest_waits k (ask q.kind q.fed) n rest.0; no_call = rest.1 }, h.1)

begun_innermost : (k : Kind) (last : Seen) → HasPlaces k → IsInnermost (record { kind = k; fed = [] }) last
begun_innermost k last p = record { in_turn = tt; own = own k [] last tt (none_met [] last); places = p }

-- above one that rests
pub begun_stand : (k : Kind) (work : List Reading) (last : Seen) → HasNone k → HasPlaces k → WaitsInTurn work last → Rested work → WaitsInTurn (opened k work) last
begun_stand k work last n p h rest = (begun_innermost k last p, rest_beneath k work last n h rest)

-- above one that asks for it
pub inner_beneath : (k : Kind) (r : Reading) (rs : List Reading) (last : Seen) → HasValue k → AsksInner (ask r.kind r.fed) → IsNoCall r.kind → WaitsInTurn (r ∷ rs) last → AreBeneath k (r ∷ rs)
inner_beneath k r rs last v a n h = (record { in_turn = h.0.in_turn; waits = inner_waits k (ask r.kind r.fed) v a; no_call = n }, h.1)

pub inner_stand : (k : Kind) (r : Reading) (rs : List Reading) (last : Seen) → HasValue k → HasPlaces k → AsksInner (ask r.kind r.fed) → IsNoCall r.kind → WaitsInTurn (r ∷ rs) last →
    WaitsInTurn (opened k (r ∷ rs)) last
inner_stand k r rs last v p a n h = (begun_innermost k last p, inner_beneath k r rs last v a n h)

-- what was fed with nothing takes a token
starts_comes : (n : ℕ) (a : Ask) (x : Seen) → Starts n a → Comes a (Tok x)
starts_comes n (More want) x h = tt
starts_comes n (Inner k begins) x h = tt
starts_comes n a x h = absurd h

lent_innermost : (k : Phrase) (last : Seen) → IsInnermost (record { kind = Reads k; fed = Tok last ∷ [] }) last
lent_innermost k last =
    let turn : ComeInTurn (ask (Reads k)) (Tok last ∷ []) = (starts_comes (rank (Reads k)) (ask (Reads k) []) last (starts (Reads k) tt), tt) in
    record { in_turn = turn; own = own (Reads k) (Tok last ∷ []) last turn (λ e. ([], refl)); places = tt }

-- with the last token
pub lent_stand : (k : Phrase) (r : Reading) (rs : List Reading) (last : Seen) → HasValue (Reads k) → AsksInner (ask r.kind r.fed) → IsNoCall r.kind → WaitsInTurn (r ∷ rs) last →
    WaitsInTurn (opened_with (Reads k) (Tok last) (r ∷ rs)) last
lent_stand k r rs last v a n h = (lent_innermost k last, inner_beneath (Reads k) r rs last v a n h)

-- ENDING

-- those beneath one without a value, once that has ended
pub record Ended (rs : List Reading) (last : Seen) : Type 0 where
  pub stand : WaitsInTurn rs last
  pub rested : Rested rs

pub ended_stand : (k : Kind) (rs : List Reading) (last : Seen) → HasNone k → AreBeneath k rs → Ended rs last
ended_stand k [] last n h = record { stand = tt; rested = tt }
ended_stand k (q ∷ qs) last n h =
    let rest : Rests (ask q.kind q.fed) = waits_rest k (ask q.kind q.fed) n h.0.waits in
    record {
      stand = (record { in_turn = h.0.in_turn; own = rest_own last q.fed (ask q.kind q.fed) rest; places = no_call_places q.kind h.0.no_call }, h.1);
      rested = (rest, h.0.no_call);
    }

-- those beneath one with a value, of which the innermost is fed with that
pub valued_stand : (k : Kind) (v : Value) (ts : List Token) (rs : List Reading) (last : Seen) → HasValue k → AreBeneath k rs → WaitsInTurn (fed_with (Val v ts) rs) last
valued_stand k v ts [] last n h = tt
valued_stand k v ts (q ∷ qs) last n h =
    (fed_innermost (Val v ts) q last h.0.in_turn (inner_comes (ask q.kind q.fed) (Val v ts) (waits_inner k (ask q.kind q.fed) n h.0.waits)) (no_call_places q.kind h.0.no_call), h.1)
