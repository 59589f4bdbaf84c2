-- Tokens that are handed on, behind moves that were done.
use Rattle.std.proofs.Common.{◌≡◌, ℕ, ◌+◌, List, ◌++◌, sym, ap, append_assoc, subst, ◌∙◌, arith}
use Rattle.std.specs.Prelude.{Option, Some, None}
use Rattle.tex_syntax.specs.declared.words.Outcome.TheVariants.{AtFatal}
use Rattle.tex_syntax.specs.declared.words.Outcome.{Outcome}
use Rattle.tex_syntax.specs.declared.words.Want.{Want}
use Rattle.tex_defs.specs.declared.Fatal.TheVariants.{HundredErrors}
use Rattle.tex_defs.specs.declared.Seen.{Seen}
use Rattle.tex_defs.specs.declared.Sizes.{Sizes}
use Rattle.tex_defs.specs.Places.{World}
use Rattle.plain_machine.specs.declared.broken.Broken.{Broken}
use Rattle.plain_machine.specs.States.{State, Move}
use Rattle.plain_machine.specs.Does.{Did}
use Rattle.plain_machine.specs.Runs.{steps}
use Rattle.plain_machine.proofs.Doing.{did_join}
use Rattle.plain_machine.proofs.Joins.{steps_join}
use Rattle.input_state.specs.Callings.{NotCalling}
use Rattle.engine_state.specs.declared.engine.Engine.{Engine}
use Rattle.engine_state.specs.declared.outcome.Next.{Next}
use Rattle.engine_state.specs.declared.outcome.Ruled.{Ruled}
use Rattle.engine_state.specs.declared.outcome.Ruled.TheVariants.{Step, Free, Halted}
use Rattle.engine_state.specs.Book.{Book}
use Rattle.engine_state.specs.Stands.{state_of, page_of}
use Rattle.engine_state.specs.Steps.{next_met, next_free}
use Rattle.engine_state.specs.CutReadings.{CutsIn}
use Rattle.engine_state.specs.Rules.{onward_of, Comes, Meets, Nexts, Halts, Went, DoesOnward}
use Rattle.engine_state.proofs.Joining.{halts_few, halts_on, halts_least, went_by, went_on}
use Rattle.engine_state.proofs.CuttingReadings.{in_by, later_in}

-- the same moves
pub meets_by : (sizes : Sizes) (want : Option Want) (s : State) (e' : Engine) (book : Book) (w w' : World) (ms ns : List Move) (met : Option Seen) → ns ≡ ms → Meets sizes want s e' book w w' ms met → Meets sizes want s e' book w w' ns met
meets_by sizes want s e' book w w' ms ns met is h = subst (λ (x : List Move). Meets sizes want s e' book w w' x met) (sym is) h

-- behind moves that were done
comes_later : (sizes : Sizes) (want : Option Want) (s u : State) (e' : Engine) (book : Book) (w v w' : World) (ms ns : List Move) (x : Seen) (k j : ℕ) → Did sizes s u w v ms → steps ms ≡ k → Comes sizes want u e' book v w' ns x j → Comes sizes want s e' book w w' (ms ++ ns) x (k + j)
comes_later sizes want s u e' book w v w' ms ns x k j d n h = record {
  book' = h.book';
  still = h.still;
  takes = h.takes;
  front = ms ++ h.front;
  did = did_join sizes s u (state_of e' h.book') w v w' ms h.front d h.did;
  whole = ap (λ (l : List Move). ms ++ l) h.whole ∙ sym (append_assoc ms h.front (onward_of (page_of e' h.book') want h.book'.work x));
  count = steps_join ms h.front ∙ omega (arith, n, h.count);
}

pub meets_later : (sizes : Sizes) (want : Option Want) (s u : State) (e' : Engine) (book : Book) (w v w' : World) (ms ns : List Move) (met : Option Seen) → u.reports ≡ s.reports → Did sizes s u w v ms → steps ms ≡ 0 →
    Meets sizes want u e' book v w' ns met → Meets sizes want s e' book w w' (ms ++ ns) met
meets_later sizes want s u e' book w v w' ms ns (Some x) l d n h = comes_later sizes want s u e' book w v w' ms ns x 0 0 d n h
meets_later sizes want s u e' book w v w' ms ns None l d n h = halts_on sizes s u e' book w v w' ms ns (AtFatal HundredErrors) 0 0 l d n h

-- behind a step
pub next_later : (sizes : Sizes) (want : Option Want) (s u : State) (e' : Engine) (book : Book) (w v w' : World) (ms ns : List Move) (met : Option Seen) → u.reports ≡ s.reports → Did sizes s u w v ms → steps ms ≡ 1 →
    Meets sizes want u e' book v w' ns met → Nexts sizes want s e' book w w' (ms ++ ns) (next_met met)
next_later sizes want s u e' book w v w' ms ns (Some x) l d n h = comes_later sizes want s u e' book w v w' ms ns x 1 0 d n h
next_later sizes want s u e' book w v w' ms ns None l d n h = halts_on sizes s u e' book w v w' ms ns (AtFatal HundredErrors) 1 0 l d n h

-- a rule without a step
pub next_freely : (sizes : Sizes) (want : Option Want) (s : State) (e' : Engine) (book : Book) (w w' : World) (ms : List Move) (ruled : Ruled) → DoesOnward sizes s e' book w w' ms ruled → Nexts sizes want s e' book w w' ms (next_free ruled)
next_freely sizes want s e' book w w' ms Step h = h
next_freely sizes want s e' book w w' ms Free h = absurd h
next_freely sizes want s e' book w w' ms (Halted o) h = halts_least sizes s e' book w w' ms o 0 1 (omega arith) h

pub next_by : (sizes : Sizes) (want : Option Want) (s : State) (e' : Engine) (book : Book) (w w' : World) (ms ns : List Move) (n : Next) → ns ≡ ms → Nexts sizes want s e' book w w' ms n → Nexts sizes want s e' book w w' ns n
next_by sizes want s e' book w w' ms ns n is h = subst (λ (x : List Move). Nexts sizes want s e' book w w' x n) (sym is) h

pub next_as : (sizes : Sizes) (want : Option Want) (s : State) (e' : Engine) (book : Book) (w w' : World) (ms : List Move) (n m : Next) → m ≡ n → Nexts sizes want s e' book w w' ms n → Nexts sizes want s e' book w w' ms m
next_as sizes want s e' book w w' ms n m is h = subst (λ (x : Next). Nexts sizes want s e' book w w' ms x) (sym is) h

-- WHAT BECOMES OF A TOKEN THAT WAS HANDED ON

module _ (sizes : Sizes) (want : Option Want) (s : State) (e1 e2 : Engine) (book : Book) (w v w' : World) (moves : List Move) (x : Seen) (k : ℕ) (c : Comes sizes want s e1 book w v moves x k) where
  abbrev pub onward : List Move
  onward = onward_of (page_of e1 c.book') want c.book'.work x

  pub comes_went : (j : ℕ) → Went sizes (state_of e1 c.book') e2 v w' onward j → Went sizes s e2 w w' moves (k + j)
  comes_went j h = went_by sizes s e2 w w' (c.front ++ onward) moves (k + j) c.whole (went_on sizes s (state_of e1 c.book') e2 w v w' c.front onward k j c.did c.count h)

  pub comes_cuts : (b : Broken) → CutsIn sizes (state_of e1 c.book') e2 v w' onward b → CutsIn sizes s e2 w w' moves b
  comes_cuts b h = in_by sizes s e2 w w' (c.front ++ onward) moves b c.whole (later_in sizes s (state_of e1 c.book') e2 w v w' c.front onward b c.did h)

  -- the run ends: no call gathers its arguments
  pub comes_halts : (o : Outcome) (j : ℕ) → e1.input.call ≡ NotCalling → Halts sizes (state_of e1 c.book') e2 c.book' v w' onward o j → Halts sizes s e2 book w w' moves o (k + j)
  comes_halts o j none h =
      subst (λ (b : Book). Halts sizes s e2 b w w' moves o (k + j)) (c.still none)
      (subst (λ (ms : List Move). Halts sizes s e2 c.book' w w' ms o (k + j)) (sym c.whole)
      (halts_few sizes s (state_of e1 c.book') e2 c.book' w v w' c.front onward o k j (λ room. c.takes.1.sound.sized.few_reports) c.did c.count h))
