-- Moves done one after another, and where the last of them are cut off.
use Rattle.std.proofs.Common.{inl, inr, arith, ◌≤◌, ◌≡◌, ℕ, ◌+◌, List, [], ◌∷◌, ◌++◌, refl, sym, ap, ◌∙◌, subst, append_assoc}
use Rattle.std.specs.Prelude.{Bool, true, false, Some, None, if◌then◌else◌}
use Rattle.std.proofs.lemmas.List.{append-nil}
use Rattle.tex_defs.specs.Places.{Place, Transcript, OfFile, File, World, Later, Rose, Untold, NotHeld, Holds, grown, is_at}
use Rattle.tex_defs.specs.declared.Full.{Full}
use Rattle.tex_defs.specs.declared.Sizes.{Sizes}
use Rattle.plain_machine.specs.declared.broken.Broken.{Broken}
use Rattle.plain_machine.specs.declared.broken.Broken.TheVariants as broken
use Rattle.plain_machine.specs.States.{State, Move, Handed, ListsEnded, Written, made, column_after}
use Rattle.plain_machine.specs.Demands.{refusal}
use Rattle.plain_machine.specs.Plan.{plan}
use Rattle.plain_machine.specs.Runs.{Wrote, made_all, after, columns_after, steps}
use Rattle.plain_machine.specs.Bounded.{AllFit, FitMoves, AtFull, AtSteps, Bounded}
use Rattle.plain_machine.specs.Does.{Did, Cut, CutAt, Refuses, IsCause, front_of, but_due}
use Rattle.plain_machine.proofs.Joins.{after_join, columns_join, made_all_join, steps_join, fits_join, all_fit_join, refuses_due, plan_made, due_made, StepComes, Moment, plan_moment, due_moment}

pub same_later : (w : World) → Later w w
same_later w = record { read_faults = omega arith; file_faults = omega arith; sink_faults = omega arith; file_wants = omega arith; sink_wants = omega arith }

pub later_on : (w w' w'' : World) → Later w w' → Later w' w'' → Later w w''
later_on w w' w'' a b = record { read_faults = omega (arith, a.read_faults, b.read_faults); file_faults = omega (arith, a.file_faults, b.file_faults); sink_faults = omega (arith, a.sink_faults, b.sink_faults); file_wants = omega (arith, a.file_wants, b.file_wants); sink_wants = omega (arith, a.sink_wants, b.sink_wants) }

pub rose_on : (a b c : ℕ) → a ≤ b → Rose b c → Rose a c
rose_on a b c le h = omega (arith, le, h)

pub rose_to : (a b c : ℕ) → Rose a b → b ≤ c → Rose a c
rose_to a b c h le = omega (arith, le, h)

pub cause_on : (why : Broken) (w w' w'' : World) → Later w w' → IsCause why w' w'' → IsCause why w w''
cause_on (broken.Full full) w w' w'' l h = tt
cause_on broken.WriteFault w w' w'' l (inl h) = inl (rose_on _ _ _ l.file_faults h)
cause_on broken.WriteFault w w' w'' l (inr h) = inr (rose_on _ _ _ l.sink_faults h)
cause_on broken.Want w w' w'' l (inl h) = inl (rose_on _ _ _ l.file_wants h)
cause_on broken.Want w w' w'' l (inr h) = inr (rose_on _ _ _ l.sink_wants h)

pub wrote_none : (w : World) → Wrote w w []
wrote_none w = record { told = λ p. refl; column = refl; later = same_later w }

pub wrote_join : (w w' w'' : World) (ms ns : List Move) → Wrote w w' ms → Wrote w' w'' ns → Wrote w w'' (ms ++ ns)
wrote_join w w' w'' ms ns a b = record {
  told = λ p. b.told p ∙ ap (after ns p) (a.told p) ∙ sym (after_join ms ns p (w.at p));
  column = b.column ∙ ap (columns_after ns) a.column ∙ sym (columns_join ms ns w.in_line);
  later = later_on w w' w'' a.later b.later;
}

-- MOVES DONE

pub did_none : (sizes : Sizes) (s : State) (w : World) → Did sizes s s w w []
did_none sizes s w = record { state = refl; fits = tt; written = wrote_none w }

pub did_join : (sizes : Sizes) (s s' s'' : State) (w w' w'' : World) (ms ns : List Move) → Did sizes s s' w w' ms → Did sizes s' s'' w' w'' ns → Did sizes s s'' w w'' (ms ++ ns)
did_join sizes s s' s'' w w' w'' ms ns a b = record {
  state = made_all_join ms ns s ∙ ap (made_all ns) a.state ∙ b.state;
  fits = all_fit_join sizes ms ns s a.fits (subst (AllFit sizes ns) (sym a.state) b.fits);
  written = wrote_join w w' w'' ms ns a.written b.written;
}

pub did_one : (sizes : Sizes) (m : Move) (s s' : State) (w w' : World) → refusal sizes m s ≡ None → made m s ≡ s' → Wrote w w' (m ∷ []) → Did sizes s s' w w' (m ∷ [])
did_one sizes m s s' w w' f e h = record { state = e; fits = (f, tt); written = h }

-- a move that writes nothing
pub did_silent : (sizes : Sizes) (m : Move) (s s' : State) (w : World) → refusal sizes m s ≡ None → made m s ≡ s' → Wrote w w (m ∷ []) → Did sizes s s' w w (m ∷ [])
did_silent sizes m s s' w f e h = record { state = e; fits = (f, tt); written = h }

-- moves that write nothing
abbrev pub AreSilent : List Move → Type 0
AreSilent [] = Unit {0}
AreSilent (Written p bs ∷ ms) = ⊥
AreSilent (m ∷ ms) = AreSilent ms

silent_one : (w : World) (m : Move) → AreSilent (m ∷ []) → Wrote w w (m ∷ [])
silent_one w (Written p bs) h = absurd h
silent_one w (Handed t) h = record { told = λ p. refl; column = refl; later = same_later w }
silent_one w m h = record { told = λ p. refl; column = refl; later = same_later w }

pub wrote_silent : (w : World) (ms : List Move) → AreSilent ms → Wrote w w ms
wrote_silent w [] h = wrote_none w
wrote_silent w (Written p bs ∷ ms) h = absurd h
wrote_silent w (Handed t ∷ ms) h = wrote_join w w w (Handed t ∷ []) ms (silent_one w (Handed t) tt) (wrote_silent w ms h)
wrote_silent w (m ∷ ms) h = wrote_join w w w (m ∷ []) ms (silent_one w m tt) (wrote_silent w ms h)

-- all moves of a rule, done, are a run
pub plan_did : (sizes : Sizes) (s s' : State) (w w' : World) (ms : List Move) → s.due ≡ [] → plan s s.stopped ≡ ms → Did sizes s s' w w' ms → FitMoves sizes s ms s'
plan_did sizes s s' w w' ms e f d = subst (FitMoves sizes s ms) d.state (plan_made sizes s ms e f d.fits)

-- and all moves that are due
pub due_did : (sizes : Sizes) (s s' : State) (w w' : World) (ms : List Move) → s.due ≡ ms → Did sizes s s' w w' ms → FitMoves sizes s ms (but_due s')
due_did sizes s s' w w' ms e d = subst (FitMoves sizes s ms) (ap but_due d.state) (due_made sizes s ms e d.fits)

-- behind k steps a rule that begins with a step ends the run within k
pub steps_end : (sizes : Sizes) (s t : State) (k : ℕ) (ms : List Move) → FitMoves sizes s ms t → steps ms ≡ k → (c : StepComes sizes t) → Bounded sizes s k (ms ++ ListsEnded ∷ []) c.t AtSteps
steps_end sizes s t k ms h e c = record {
  moves = fits_join sizes s t c.t ms (ListsEnded ∷ []) h c.moves;
  within = omega (arith, e, steps_join ms (ListsEnded ∷ []));
  whole = (omega (arith, e, steps_join ms (ListsEnded ∷ [])), c.needs);
}

pub steps_wrote : (w w' : World) (ms : List Move) → Wrote w w' ms → Wrote w w' (ms ++ ListsEnded ∷ [])
steps_wrote w w' ms h = wrote_join w w' w' ms (ListsEnded ∷ []) h (wrote_silent w' (ListsEnded ∷ []) tt)

-- MOVES CUT OFF

-- cut off already in the first of two
pub cut_first : (sizes : Sizes) (s s' : State) (w w' : World) (ms ns : List Move) (why : Broken) → Cut sizes s s' w w' ms why → Cut sizes s s' w w' (ms ++ ns) why
cut_first sizes s s' w w' ms ns why c = record {
  done = c.done;
  m = c.m;
  rest = c.rest ++ ns;
  count = c.count;
  all = ap (λ (x : List Move). x ++ ns) c.all ∙ append_assoc c.done (c.m ∷ c.rest) ns;
  state = c.state;
  fits = c.fits;
  refuses = c.refuses;
  cause = c.cause;
  written = c.written;
}

-- cut off behind moves that were done
pub cut_later : (sizes : Sizes) (s s' s'' : State) (w w' w'' : World) (ms ns : List Move) (why : Broken) → Did sizes s s' w w' ms → Cut sizes s' s'' w' w'' ns why → Cut sizes s s'' w w'' (ms ++ ns) why
cut_later sizes s s' s'' w w' w'' ms ns why d c = record {
  done = ms ++ c.done;
  m = c.m;
  rest = c.rest;
  count = c.count;
  all = ap (λ (x : List Move). ms ++ x) c.all ∙ sym (append_assoc ms c.done (c.m ∷ c.rest));
  state = made_all_join ms c.done s ∙ ap (made_all c.done) d.state ∙ c.state;
  fits = all_fit_join sizes ms c.done s d.fits (subst (AllFit sizes c.done) (sym d.state) c.fits);
  refuses = c.refuses;
  cause = cause_on why w w' w'' d.written.later c.cause;
  written = rw append_assoc (wrote_join w w' w'' ms (c.done ++ front_of c.count c.m) d.written c.written);
}

grown_nothing : (b : Bool) (f : File) → f ≡ (if b then grown f [] else f)
grown_nothing true Untold = refl
grown_nothing true NotHeld = refl
grown_nothing true (Holds x) = ap Holds (sym (append-nil x))
grown_nothing false f = refl

column_none : (q : Place) (b : Bool) → b ≡ column_after q b []
column_none Transcript b = refl
column_none (OfFile n) b = refl

front_none : (m : Move) (w : World) → Wrote w w (front_of 0 m)
front_none (Written q bs) w = record { told = λ p. grown_nothing (is_at p q) (w.at p); column = column_none q w.in_line; later = same_later w }
front_none m w = record { told = λ p. refl; column = refl; later = same_later w }

-- cut off before the first, of which nothing is written
pub cut_here : (sizes : Sizes) (m : Move) (rest : List Move) (s : State) (w : World) (why : Broken) → Refuses sizes why m s → IsCause why w w → Cut sizes s s w w (m ∷ rest) why
cut_here sizes m rest s w why r cause = record { done = []; m = m; rest = rest; count = 0; all = refl; state = refl; fits = tt; refuses = r; cause = cause; written = front_none m w }

-- cut off in the first, of which this much is written
pub cut_in : (sizes : Sizes) (m : Move) (rest : List Move) (count : ℕ) (s : State) (w w' : World) (why : Broken) →
    Refuses sizes why m s → IsCause why w w' → Wrote w w' (front_of count m) → Cut sizes s s w w' (m ∷ rest) why
cut_in sizes m rest count s w w' why r cause h = record { done = []; m = m; rest = rest; count = count; all = refl; state = refl; fits = tt; refuses = r; cause = cause; written = h }

-- cut off before the first, for which a table has no room
pub cut_full : (sizes : Sizes) (m : Move) (rest : List Move) (s : State) (w : World) (full : Full) → refusal sizes m s ≡ Some full → Cut sizes s s w w (m ∷ rest) (broken.Full full)
cut_full sizes m rest s w full r = cut_here sizes m rest s w (broken.Full full) r tt

-- A move that a table has no room for writes nothing.
pub full_writes_nothing : (sizes : Sizes) (m : Move) (s : State) (full : Full) (count : ℕ) → refusal sizes m s ≡ Some full → front_of count m ≡ []
full_writes_nothing sizes (Written p bs) s full count h = cc
full_writes_nothing sizes (Handed t) s full count h = refl
full_writes_nothing sizes m s full count h = refl

-- A CUT AS A MOMENT OF THE RUN

-- The moment at which the run from s is cut off, where the moves done have led to s' but for what is due.
pub record CutOff (sizes : Sizes) (s s' : State) (k : ℕ) (w w' : World) (why : Broken) : Type 0 where
  pub t : State
  pub cut : CutAt sizes s k t w w' why
  pub same : but_due t ≡ but_due s'

module _ (sizes : Sizes) (s s' : State) (k : ℕ) (w w' : World) (ms : List Move) (why : Broken) (c : Cut sizes s s' w w' ms why) (le : steps ms ≤ k) where
  at_moment : Moment sizes s c.done c.m → CutOff sizes s s' k w w' why
  at_moment here =
      let same : but_due here.t ≡ but_due s' = here.same ∙ ap but_due c.state in
      record {
        t = here.t;
        cut = record {
          ms = c.done;
          m = c.m;
          u = here.u;
          count = c.count;
          moves = here.moves;
          goes = here.goes;
          room = omega (arith, le, ap steps c.all, steps_join c.done (c.m ∷ c.rest));
          refuses = refuses_due sizes why c.m s' here.t same c.refuses;
          cause = c.cause;
          written = c.written;
        };
        same = same;
      }

  -- the moves of a rule that are cut off
  pub plan_cut : s.due ≡ [] → plan s s.stopped ≡ ms → CutOff sizes s s' k w w' why
  plan_cut e f = at_moment (plan_moment sizes s c.done c.m c.rest e (f ∙ c.all) c.fits)

  -- and those that are due
  pub due_cut : s.due ≡ ms → CutOff sizes s s' k w w' why
  due_cut e = at_moment (due_moment sizes s c.done c.m c.rest (e ∙ c.all) c.fits)

-- cut off behind a run
pub cut_behind : (sizes : Sizes) (s s' t : State) (j k : ℕ) (w w' w'' : World) (ms : List Move) (why : Broken) →
    FitMoves sizes s ms s' → steps ms ≤ j → Wrote w w' ms → CutAt sizes s' k t w' w'' why → CutAt sizes s (j + k) t w w'' why
cut_behind sizes s s' t j k w w' w'' ms why h le d c = record {
  ms = ms ++ c.ms;
  m = c.m;
  u = c.u;
  count = c.count;
  moves = fits_join sizes s s' t ms c.ms h c.moves;
  goes = c.goes;
  room = omega (arith, le, steps_join ms c.ms, c.room);
  refuses = c.refuses;
  cause = cause_on why w w' w'' d.later c.cause;
  written = rw append_assoc (wrote_join w w' w'' ms (c.ms ++ front_of c.count c.m) d c.written);
}

-- a cut within fewer steps
pub cut_within : (sizes : Sizes) (s t : State) (j k : ℕ) (w w' : World) (why : Broken) → j ≤ k → CutAt sizes s j t w w' why → CutAt sizes s k t w w' why
cut_within sizes s t j k w w' why le c = record {
  ms = c.ms;
  m = c.m;
  u = c.u;
  count = c.count;
  moves = c.moves;
  goes = c.goes;
  room = omega (arith, le, c.room);
  refuses = c.refuses;
  cause = c.cause;
  written = c.written;
}

-- A cut at a table that is full is the end of the run within the sizes.
pub full_end : (sizes : Sizes) (s t : State) (k : ℕ) (w w' : World) (full : Full) → (c : CutAt sizes s k t w w' (broken.Full full)) → Bounded sizes s k c.ms t (AtFull full)
full_end sizes s t k w w' full c = record {
  moves = c.moves;
  within = omega (arith, c.room);
  whole = record { m = c.m; u = c.u; goes = c.goes; room = c.room; refused = c.refuses };
}

-- and all before it is written
pub full_wrote : (sizes : Sizes) (s t : State) (k : ℕ) (w w' : World) (full : Full) → (c : CutAt sizes s k t w w' (broken.Full full)) → Wrote w w' c.ms
full_wrote sizes s t k w w' full c =
    subst (Wrote w w') (ap (λ (x : List Move). c.ms ++ x) (full_writes_nothing sizes c.m t full c.count c.refuses) ∙ append-nil c.ms) c.written
