-- Meanings that are alike to `\ifx`.
use Rattle.std.proofs.Common.{◌≡◌, ℕ, Bool, true, false, refl, sym, ap, ◌∙◌, arith}
use Rattle.std.specs.Prelude.{◌==◌, ◌&&◌}
use Rattle.std.proofs.lemmas.Bool.{true≢false, and_parts, and_from}
use Rattle.std.proofs.lemmas.Bool.Decides.{nat_tests}
use Rattle.tex_defs.specs.declared.Meaning.{Meaning}
use Rattle.tex_defs.specs.declared.Meaning.TheVariants.{Undefined, RelaxMarked, Char, CharGiven, MathGiven, Register, Prim, Macro}
use Rattle.tex_defs.specs.declared.RegisterKind.{RegisterKind}
use Rattle.tex_defs.specs.declared.RegisterKind.TheVariants.{Count, Dimen, Skip, Muskip, Toks}
use Rattle.conditionals.specs.Same.{same_kind, same_flag, same_meaning}
use Rattle.conditionals.specs.Laws.{AreAlike, MeaningsAreCompared}

number : (m n : ℕ) → (m == n) ≡ true → m ≡ n
number m n h = grind (arith, nat_tests)

same_number : (n : ℕ) → (n == n) ≡ true
same_number n = grind (arith, nat_tests)

kind : (j k : RegisterKind) → same_kind j k ≡ true → j ≡ k
kind Count Count h = refl
kind Dimen Dimen h = refl
kind Skip Skip h = refl
kind Muskip Muskip h = refl
kind Toks Toks h = refl
kind j k h = absurd (true≢false (sym h))

kind_itself : (k : RegisterKind) → same_kind k k ≡ true
kind_itself Count = refl
kind_itself Dimen = refl
kind_itself Skip = refl
kind_itself Muskip = refl
kind_itself Toks = refl

flag : (a b : Bool) → same_flag a b ≡ true → a ≡ b
flag true b h = sym h
flag false true h = h
flag false false h = refl

flag_itself : (b : Bool) → same_flag b b ≡ true
flag_itself true = refl
flag_itself false = refl

only : (u v : Unit {0}) → u ≡ v
only u v = refl

alike : (a b : Meaning Unit) (same : Bool) → same_meaning a b same ≡ true → AreAlike a b same
alike Undefined Undefined same h = record { equal = refl; list = tt }
alike RelaxMarked RelaxMarked same h = record { equal = refl; list = tt }
alike (Char c k) (Char d l) same h =
    let p : (c ≡ d) × (k ≡ l) = (number c d (and_parts _ _ h).0, number k l (and_parts _ _ h).1) in
    record { equal = ap (λ (n : ℕ). Char n k) p.0 ∙ ap (λ (n : ℕ). Char d n) p.1; list = tt }
alike (CharGiven m) (CharGiven n) same h = record { equal = ap (λ (i : ℕ). CharGiven i) (number m n h); list = tt }
alike (MathGiven m) (MathGiven n) same h = record { equal = ap (λ (i : ℕ). MathGiven i) (number m n h); list = tt }
alike (Register j m) (Register k n) same h =
    let p : (j ≡ k) × (m ≡ n) = (kind j k (and_parts _ _ h).0, number m n (and_parts _ _ h).1) in
    record { equal = ap (λ (i : RegisterKind). Register i m) p.0 ∙ ap (λ (i : ℕ). Register k i) p.1; list = tt }
alike (Prim m) (Prim n) same h = record { equal = ap (λ (i : ℕ). Prim i) (number m n h); list = tt }
alike (Macro l o u) (Macro m p v) same h =
    let rest : (same_flag o p && same) ≡ true = (and_parts _ _ h).1 in
    record {
      equal =
          ap (λ (b : Bool). Macro b o u) (flag l m (and_parts _ _ h).0) ∙ ap (λ (b : Bool). Macro m b u) (flag o p (and_parts _ _ rest).0) ∙ ap (λ (w : Unit {0}). Macro m p w) (only u v);
      list = (and_parts _ _ rest).1;
    }
alike a b same h = absurd (true≢false (sym h))

itself : (a : Meaning Unit) (same : Bool) → AreAlike a a same → same_meaning a a same ≡ true
itself Undefined same h = refl
itself RelaxMarked same h = refl
itself (Char c k) same h = and_from _ _ (same_number c) (same_number k)
itself (CharGiven n) same h = same_number n
itself (MathGiven n) same h = same_number n
itself (Register k n) same h = and_from _ _ (kind_itself k) (same_number n)
itself (Prim n) same h = same_number n
itself (Macro l o list) same h = and_from _ _ (flag_itself l) (and_from _ _ (flag_itself o) h.list)

alike_same : (a b : Meaning Unit) (same : Bool) → AreAlike a b same → same_meaning a b same ≡ true
alike_same a b same h =
    ap (λ (m : Meaning Unit). same_meaning a m same) (sym h.equal) ∙ itself a same (record { equal = refl; list = h.list })

pub meanings_are_compared : MeaningsAreCompared
meanings_are_compared = record { alike = alike; same = alike_same }
