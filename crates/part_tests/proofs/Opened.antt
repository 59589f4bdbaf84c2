-- Readers that have just been opened, for the tests.
use Rattle.std.proofs.Common.{◌≡◌, ◌≤◌, ℕ, Bool, true, false, List, [], ◌∷◌, ◌++◌, length, arith, ap, ◌∙◌, subst, sym}
use Rattle.std.specs.Prelude.{nat_eq, if◌then◌else◌, MatchBool}
use Rattle.std.proofs.lemmas.Grind.{common_steps}
use Rattle.world_io.specs.Contents.{FilesTold, OpensReader}
use Rattle.line_reader.specs.Ahead.{with_ahead}
use Rattle.plain_tokens.specs.Lines.{first_line, behind_feed}
use Rattle.line_reader.specs.OpenLines.{OpenLines, no_lines, most_readers, held, line_dropped}
use Rattle.line_reader.specs.Reading.{TakesLine}
use Rattle.line_reader.proofs.AheadOf.{with-with}

same_id : (id : ℕ) {T : Type 0} (a b : T) → (if nat_eq id id then a else b) ≡ a
same_id id a b = grind (arith, common_steps)

pub still_open : (id : ℕ) (name : List ℕ) (f f' : FilesTold) → OpensReader id name f f' → f'.reading id ≡ true
still_open id name f f' o = o.reading id ∙ same_id id _ _

pub one_reader : (id size levels : ℕ) (b : OpenLines) → b ≡ no_lines size levels → length (with_ahead id [] b.ahead) ≤ most_readers b
one_reader id size levels b e = subst (λ (x : OpenLines). length (with_ahead id [] x.ahead) ≤ most_readers x) (sym e) (omega arith)

module _ (id : ℕ) (f : FilesTold) (b : OpenLines) (f' : FilesTold) (b' : OpenLines) (t : TakesLine id f b f' b') where
  pub reads_on : f.reading id ≡ true → f'.reading id ≡ true
  reads_on h = t.came.only.reading id ∙ h

  pub line_there : b'.lines ≡ [] → ⊥
  line_there e = let h : first_line (held b id ++ t.got) ∷ b.lines ≡ [] = sym (ap (λ (x : OpenLines). x.lines) t.after) ∙ e in absurd (cc)

  pub tail_gone : b'.tail ≡ []
  tail_gone = ap (λ (x : OpenLines). x.tail) t.after

  pub readers_on : length (with_ahead id [] b.ahead) ≤ most_readers b → length (with_ahead id [] b'.ahead) ≤ most_readers b'
  readers_on h =
      let bytes : List ℕ = behind_feed (held b id ++ t.got) in
      let n : length (with_ahead id [] (with_ahead id bytes b.ahead)) ≡ length (with_ahead id [] b.ahead) = ap length (with-with id bytes [] b.ahead) in
      subst (λ (x : OpenLines). length (with_ahead id [] x.ahead) ≤ most_readers x) (sym t.after) (omega (arith, n, h))

pub so : (x : Bool) (A B : Type 0) → x ≡ true → MatchBool x A B → A
so true A B e h = h
so false A B e h = absurd (cc)

pub readers_after : (id : ℕ) (f : FilesTold) (b : OpenLines) (f' : FilesTold) (b' b'' : OpenLines) → TakesLine id f b f' b' → b'' ≡ line_dropped b' → length (with_ahead id [] b.ahead) ≤ most_readers b → length (with_ahead id [] b''.ahead) ≤ most_readers b''
readers_after id f b f' b' b'' t e h = subst (λ (x : OpenLines). length (with_ahead id [] x.ahead) ≤ most_readers x) (sym e) (readers_on id f b f' b' t h)
