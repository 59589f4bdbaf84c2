-- A stop line, whole or cut off.
use Rattle.std.proofs.Common.{◌≡◌, inl, inr, ℕ, List, ◌++◌, refl, sym, subst, arith, take, length}
use Rattle.std.specs.Prelude.{Bool, Result, Ok, Err, OnOk, IfErr}
use Rattle.std.proofs.lemmas.List.{take_all}
use Rattle.plain_state.specs.Reports.{fresh_line}
use Rattle.plain_machine.specs.Meaning.{Line}
use Rattle.world_io.specs.Contents.{FilesTold, SinkTold, world}
use Rattle.world_io.specs.declared.traits.Fault.{Fault}
use Rattle.world_io.specs.declared.traits.Fault.TheVariants.{Failed, NoMemory}
use Rattle.transcript.specs.Taken.{Took, TookFront}
use Rattle.engine_state.proofs.Cutting.{wrote_out}

module _ (f : FilesTold) (s s' : SinkTold) (b b' : Bool) (line : List ℕ) where
  line_whole : Took s s' b b' (fresh_line b ++ line) → Line (world f s b) (world f s' b') line
  line_whole h =
      let all : take (length (fresh_line b ++ line)) (fresh_line b ++ line) ≡ fresh_line b ++ line = take_all (length (fresh_line b ++ line)) (fresh_line b ++ line) (omega arith) in
      record {
        count = length (fresh_line b ++ line);
        written = wrote_out f s s' b b' (take (length (fresh_line b ++ line)) (fresh_line b ++ line)) (subst (λ (bs : List ℕ). Took s s' b b' bs) (sym all) h);
        whole = inl (omega arith);
      }

  line_cut : (fault : Fault) → TookFront s s' b b' (fresh_line b ++ line) fault → Line (world f s b) (world f s' b') line
  line_cut Failed h = record { count = h.count; written = wrote_out f s s' b b' (take h.count (fresh_line b ++ line)) h.took; whole = inr (inl (h.failed refl)) }
  line_cut NoMemory h = record { count = h.count; written = wrote_out f s s' b b' (take h.count (fresh_line b ++ line)) h.took; whole = inr (inr (h.wanted refl)) }

  -- what a sink took of it
  pub line_told : (r : Result Unit Fault) (text : List ℕ) → text ≡ fresh_line b ++ line → OnOk r (Took s s' b b' text) → IfErr r (λ fault. TookFront s s' b b' text fault) → Line (world f s b) (world f s' b') line
  line_told (Ok x) text is ok err = line_whole (subst (λ (bs : List ℕ). Took s s' b b' bs) is ok)
  line_told (Err fault) text is ok err = line_cut fault (subst (λ (bs : List ℕ). TookFront s s' b b' bs fault) is err)
