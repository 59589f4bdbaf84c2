-- What the engine does, one thing after another.
use Rattle.std.proofs.Common.{◌≡◌, ℕ, ◌+◌, ◌≤◌, List, [], ◌∷◌, ◌++◌, refl, sym, ◌∙◌, subst, Bool, arith}
use Rattle.std.specs.Prelude.{Result, Ok, Err, IfOk, IfErr, OnOk, OnErr, IsErrAnd, MatchBool, true, false}
use Rattle.tex_syntax.specs.declared.words.Outcome.{Outcome}
use Rattle.tex_defs.specs.declared.Sizes.{Sizes}
use Rattle.tex_defs.specs.Places.{World}
use Rattle.plain_machine.specs.States.{State, Move, Handed, Written}
use Rattle.plain_machine.specs.Plan.{reports_room}
use Rattle.plain_machine.specs.Runs.{Wrote, steps}
use Rattle.plain_machine.specs.Does.{Did}
use Rattle.plain_machine.proofs.Doing.{did_join, did_none, same_later}
use Rattle.plain_machine.proofs.Joins.{steps_join}
use Rattle.world_io.specs.Contents.{FilesTold, SinkTold, world}
use Rattle.engine_state.specs.declared.engine.Engine.{Engine}
use Rattle.engine_state.specs.declared.outcome.Ruled.{Ruled}
use Rattle.engine_state.specs.declared.outcome.Ruled.TheVariants.{Step, Free, Halted}
use Rattle.engine_state.specs.Book.{Book}
use Rattle.engine_state.specs.Calls.{AllStand}
use Rattle.engine_state.specs.Stands.{state_of}
use Rattle.engine_state.specs.Rules.{world_of, Went, Halts, DoesOnward}

-- a move that writes nothing
abbrev pub IsQuiet : Move → Type 0
IsQuiet (Written p bs) = ⊥
IsQuiet m = Unit {0}

-- the world is the same, but for the name of the engine that keeps its column
pub same_world : (f : FilesTold) (s : SinkTold) (b b' : Bool) → b' ≡ b → Wrote (world f s b) (world f s b') []
same_world f s b b' e = record { told = λ p. refl; column = e; later = record { read_faults = omega arith; file_faults = omega arith; sink_faults = omega arith; file_wants = omega arith; sink_wants = omega arith } }

pub quiet_wrote : (m : Move) (f : FilesTold) (s : SinkTold) (b b' : Bool) → IsQuiet m → b' ≡ b → Wrote (world f s b) (world f s b') (m ∷ [])
quiet_wrote (Written p bs) f s b b' h e = absurd h
quiet_wrote (Handed t) f s b b' h e = record { told = λ p. refl; column = e; later = (same_world f s b b' e).later }
quiet_wrote m f s b b' h e = record { told = λ p. refl; column = e; later = (same_world f s b b' e).later }

pub quiet_here : (m : Move) (w : World) → IsQuiet m → Wrote w w (m ∷ [])
quiet_here (Written p bs) w h = absurd h
quiet_here (Handed t) w h = record { told = λ p. refl; column = refl; later = same_later w }
quiet_here m w h = record { told = λ p. refl; column = refl; later = same_later w }

-- other moves, the same
pub went_by : (sizes : Sizes) (s : State) (e' : Engine) (w w' : World) (ms ns : List Move) (k : ℕ) → ns ≡ ms → Went sizes s e' w w' ms k → Went sizes s e' w w' ns k
went_by sizes s e' w w' ms ns k e h = subst (λ (x : List Move). Went sizes s e' w w' x k) (sym e) h

-- nothing is done
pub skip_onward : (sizes : Sizes) (e : Engine) (book : Book) (w : World) → AllStand sizes e book → Went sizes (state_of e book) e w w [] 0
skip_onward sizes e book w stands = record { book' = book; stands = stands; did = did_none sizes (state_of e book) w; count = refl }

-- the world that is told when the column stays
pub column_went : (sizes : Sizes) (st : State) (e' : Engine) (f : FilesTold) (s : SinkTold) (b : Bool) (ms : List Move) (k : ℕ) → e'.in_line ≡ b → Went sizes st e' (world f s b) (world f s b) ms k → Went sizes st e' (world f s b) (world_of f s e') ms k
column_went sizes st e' f s b ms k is h = subst (λ (x : Bool). Went sizes st e' (world f s b) (world f s x) ms k) (sym is) h

-- of two facts that which holds
pub when_true : (P Q : Type 0) → (b : Bool) → b ≡ true → MatchBool b P Q → P
when_true P Q true is h = h
when_true P Q false is h = cc

pub when_false : (P Q : Type 0) → (b : Bool) → b ≡ false → MatchBool b P Q → Q
when_false P Q true is h = cc
when_false P Q false is h = h

-- an error that `?` hands on
pub same_err : {T E : Type 0} → (r : Result T E) (x : E) (P : E → Type 0) → IsErrAnd r (λ e. e ≡ x) → P x → IfErr r P
same_err (Ok y) x P h p = tt
same_err (Err e) x P h p = subst P (sym h) p

pub ok_to : {T E : Type 0} {P Q : T → Type 0} → (r : Result T E) → ((x : T) → P x → Q x) → IfOk r P → IfOk r Q
ok_to (Ok x) f h = f x h
ok_to (Err e) f h = tt

pub ok_both : {T E : Type 0} {P Q R : T → Type 0} → (r : Result T E) → ((x : T) → P x → Q x → R x) → IfOk r P → IfOk r Q → IfOk r R
ok_both (Ok x) f h k = f x h k
ok_both (Err e) f h k = tt

pub err_to : {T E : Type 0} {P Q : E → Type 0} → (r : Result T E) → ((x : E) → P x → Q x) → IfErr r P → IfErr r Q
err_to (Ok x) f h = tt
err_to (Err e) f h = f e h

pub err_both : {T E R : Type 0} {P Q : E → Type 0} → (r : Result T E) → ((x : E) → P x → R → Q x) → IfErr r P → OnErr r R → IfErr r Q
err_both (Ok x) f h k = tt
err_both (Err e) f h k = f e h k

pub on_ok : {T E : Type 0} {P Q : Type 0} → (r : Result T E) → (P → Q) → OnOk r P → OnOk r Q
on_ok (Ok x) f h = f h
on_ok (Err x) f h = tt

pub on_both : {T E : Type 0} {P Q R : Type 0} → (r : Result T E) → (P → Q → R) → OnOk r P → OnOk r Q → OnOk r R
on_both (Ok x) f h k = f h k
on_both (Err x) f h k = tt

-- MOVES ONE AFTER ANOTHER

pub onward_by : (sizes : Sizes) (s : State) (e' : Engine) (book : Book) (w w' : World) (ms ns : List Move) (ruled : Ruled) → ns ≡ ms → DoesOnward sizes s e' book w w' ms ruled → DoesOnward sizes s e' book w w' ns ruled
onward_by sizes s e' book w w' ms ns ruled e h = subst (λ (x : List Move). DoesOnward sizes s e' book w w' x ruled) (sym e) h

pub halts_few : (sizes : Sizes) (s u : State) (e' : Engine) (book : Book) (w v w' : World) (ms ns : List Move) (o : Outcome) (k j : ℕ) → (s.reports ≤ reports_room → u.reports ≤ reports_room) → Did sizes s u w v ms → steps ms ≡ k →
    Halts sizes u e' book v w' ns o j → Halts sizes s e' book w w' (ms ++ ns) o (k + j)
halts_few sizes s u e' book w v w' ms ns o k j few d n h = record {
  t = h.t;
  did = did_join sizes s u h.t w v w' ms ns d h.did;
  stopped = h.stopped;
  due = h.due;
  reports = h.reports;
  same = λ room. h.same (few room);
  count = omega (arith, steps_join ms ns, n, h.count);
}

pub halts_on : (sizes : Sizes) (s u : State) (e' : Engine) (book : Book) (w v w' : World) (ms ns : List Move) (o : Outcome) (k j : ℕ) → u.reports ≡ s.reports → Did sizes s u w v ms → steps ms ≡ k →
    Halts sizes u e' book v w' ns o j → Halts sizes s e' book w w' (ms ++ ns) o (k + j)
halts_on sizes s u e' book w v w' ms ns o k j same d n h = halts_few sizes s u e' book w v w' ms ns o k j (λ room. omega (arith, room, same)) d n h

pub went_on : (sizes : Sizes) (s u : State) (e' : Engine) (w v w' : World) (ms ns : List Move) (k j : ℕ) → Did sizes s u w v ms → steps ms ≡ k → Went sizes u e' v w' ns j → Went sizes s e' w w' (ms ++ ns) (k + j)
went_on sizes s u e' w v w' ms ns k j d n h = record {
  book' = h.book';
  stands = h.stands;
  did = did_join sizes s u (state_of e' h.book') w v w' ms ns d h.did;
  count = steps_join ms ns ∙ omega (arith, n, h.count);
}

pub halts_least : (sizes : Sizes) (s : State) (e' : Engine) (book : Book) (w w' : World) (ms : List Move) (o : Outcome) (k j : ℕ) → k ≤ j → Halts sizes s e' book w w' ms o k → Halts sizes s e' book w w' ms o j
halts_least sizes s e' book w w' ms o k j le h = record { t = h.t; did = h.did; stopped = h.stopped; due = h.due; reports = h.reports; same = h.same; count = omega (arith, le, h.count) }

-- moves without a step, and then others
pub onward_join : (sizes : Sizes) (s u : State) (e' : Engine) (book : Book) (w v w' : World) (ms ns : List Move) (ruled : Ruled) → u.reports ≡ s.reports → Did sizes s u w v ms → steps ms ≡ 0 → DoesOnward sizes u e' book v w' ns ruled → DoesOnward sizes s e' book w w' (ms ++ ns) ruled
onward_join sizes s u e' book w v w' ms ns Step l d n h = went_on sizes s u e' w v w' ms ns 0 0 d n h
onward_join sizes s u e' book w v w' ms ns Free l d n h = h
onward_join sizes s u e' book w v w' ms ns (Halted o) l d n h = halts_on sizes s u e' book w v w' ms ns o 0 0 l d n h
