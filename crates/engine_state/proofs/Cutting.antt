-- Moves that are cut off, and what is written.
use Rattle.std.proofs.Common.{◌≡◌, inr, ℕ, List, [], ◌∷◌, ◌++◌, refl, sym, ap, ◌∙◌, subst, arith, take}
use Rattle.std.specs.Prelude.{Bool, Some}
use Rattle.tex_defs.specs.declared.Sizes.{Sizes}
use Rattle.tex_defs.specs.declared.Full.{Full}
use Rattle.tex_defs.specs.Places.{World, Place, Transcript, OfFile, grown}
use Rattle.plain_machine.specs.declared.broken.Broken.{Broken}
use Rattle.plain_machine.specs.declared.broken.Broken.TheVariants as broken
use Rattle.plain_machine.specs.States.{State, Move, Written}
use Rattle.plain_machine.specs.Demands.{refusal}
use Rattle.plain_machine.specs.Runs.{Wrote, after}
use Rattle.plain_machine.specs.Does.{Did}
use Rattle.plain_machine.specs.Faults.{broken_by}
use Rattle.plain_machine.proofs.Doing.{did_one, cut_first, cut_later, cut_in, cut_full}
use Rattle.world_io.specs.Contents.{FilesTold, SinkTold, world}
use Rattle.world_io.specs.declared.traits.Fault.{Fault}
use Rattle.world_io.specs.declared.traits.Fault.TheVariants.{Failed, NoMemory}
use Rattle.transcript.specs.Taken.{Took, TookFront}
use Rattle.engine_state.specs.declared.engine.Engine.{Engine}
use Rattle.engine_state.specs.Book.{Book}
use Rattle.engine_state.specs.Stands.{OnlyColumn, state_of}
use Rattle.engine_state.specs.Rules.{world_of, Cuts}

-- the same moves
pub cuts_by : (sizes : Sizes) (s : State) (e' : Engine) (book : Book) (w w' : World) (ms ns : List Move) (b : Broken) → ns ≡ ms → Cuts sizes s e' book w w' ms b → Cuts sizes s e' book w w' ns b
cuts_by sizes s e' book w w' ms ns b e h = subst (λ (x : List Move). Cuts sizes s e' book w w' x b) (sym e) h

-- cut off already in the first of two
pub first_cuts : (sizes : Sizes) (s : State) (e' : Engine) (book : Book) (w w' : World) (ms ns : List Move) (b : Broken) → Cuts sizes s e' book w w' ms b → Cuts sizes s e' book w w' (ms ++ ns) b
first_cuts sizes s e' book w w' ms ns b h = record { at = h.at; cut = cut_first sizes s h.at w w' ms ns b h.cut; same = h.same }

-- cut off behind moves that were done
pub later_cuts : (sizes : Sizes) (s s1 : State) (e' : Engine) (book : Book) (w w1 w' : World) (ms ns : List Move) (b : Broken) → Did sizes s s1 w w1 ms → Cuts sizes s1 e' book w1 w' ns b → Cuts sizes s e' book w w' (ms ++ ns) b
later_cuts sizes s s1 e' book w w1 w' ms ns b d h = record { at = h.at; cut = cut_later sizes s s1 h.at w w1 w' ms ns b d h.cut; same = h.same }

-- cut off before the first move, for which a table has no room
pub full_cuts : (sizes : Sizes) (s : State) (e' : Engine) (book : Book) (w : World) (m : Move) (rest : List Move) (full : Full) (b : Broken) →
    b ≡ broken.Full full → refusal sizes m s ≡ Some full → s ≡ state_of e' book → Cuts sizes s e' book w w (m ∷ rest) b
full_cuts sizes s e' book w m rest full b is r same =
    subst (λ (x : Broken). Cuts sizes s e' book w w (m ∷ rest) x) (sym is) (record { at = s; cut = cut_full sizes m rest s w full r; same = same })

-- WRITING

out_told : (f : FilesTold) (s s' : SinkTold) (b b' : Bool) (bs : List ℕ) → s'.bytes ≡ grown s.bytes bs → (p : Place) → (world f s' b').at p ≡ after (Written Transcript bs ∷ []) p ((world f s b).at p)
out_told f s s' b b' bs h Transcript = h
out_told f s s' b b' bs h (OfFile n) = refl

pub wrote_out : (f : FilesTold) (s s' : SinkTold) (b b' : Bool) (bs : List ℕ) → Took s s' b b' bs → Wrote (world f s b) (world f s' b') (Written Transcript bs ∷ [])
wrote_out f s s' b b' bs h = record {
  told = out_told f s s' b b' bs h.bytes;
  column = h.column;
  later = record { read_faults = omega arith; file_faults = omega arith; sink_faults = h.later; file_wants = omega arith; sink_wants = h.later_wants };
}

-- the engine's state behind a text, and behind a front of it
column_state : (e e' : Engine) (book : Book) → OnlyColumn e e' → record (state_of e book) { in_line = e'.in_line } ≡ state_of e' book
column_state e e' book only = ap (λ (x : Engine). state_of x book) (sym only.same)

module _ (sizes : Sizes) (f : FilesTold) (s s' : SinkTold) (e e' : Engine) (book : Book) (only : OnlyColumn e e') where
  pub did_out : (text : List ℕ) → Took s s' e.in_line e'.in_line text → Did sizes (state_of e book) (state_of e' book) (world_of f s e) (world_of f s' e') (Written Transcript text ∷ [])
  did_out text h = did_one sizes (Written Transcript text) (state_of e book) (state_of e' book) _ _ refl (ap (λ (b : Bool). record (state_of e book) { in_line = b }) (sym h.column) ∙ column_state e e' book only) (wrote_out f s s' e.in_line e'.in_line text h)

  cut_by : (fault : Fault) (text : List ℕ) (more : List Move) → TookFront s s' e.in_line e'.in_line text fault → Cuts sizes (state_of e book) e' book (world_of f s e) (world_of f s' e') (Written Transcript text ∷ more) (broken_by fault)
  cut_by Failed text more h = record {
    at = state_of e book;
    cut = cut_in sizes (Written Transcript text) more h.count (state_of e book) _ _ broken.WriteFault tt (inr (h.failed refl)) (wrote_out f s s' e.in_line e'.in_line (take h.count text) h.took);
    same = column_state e e' book only;
  }
  cut_by NoMemory text more h = record {
    at = state_of e book;
    cut = cut_in sizes (Written Transcript text) more h.count (state_of e book) _ _ broken.Want tt (inr (h.wanted refl)) (wrote_out f s s' e.in_line e'.in_line (take h.count text) h.took);
    same = column_state e e' book only;
  }

  -- a write that was cut off
  pub cut_out : (b : Broken) (fault : Fault) (text : List ℕ) (more : List Move) → b ≡ broken_by fault → TookFront s s' e.in_line e'.in_line text fault →
      Cuts sizes (state_of e book) e' book (world_of f s e) (world_of f s' e') (Written Transcript text ∷ more) b
  cut_out b fault text more is h = subst (λ (x : Broken). Cuts sizes (state_of e book) e' book (world_of f s e) (world_of f s' e') (Written Transcript text ∷ more) x) (sym is) (cut_by fault text more h)
