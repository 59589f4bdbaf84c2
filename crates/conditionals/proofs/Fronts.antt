-- Fronts of a text, and a token more.
use Rattle.std.proofs.Common.{◌≡◌, ℕ, zero, suc, ◌+◌, ◌<◌, ◌≤◌, Bool, true, false, List, [], ◌∷◌, ◌++◌, length, take, Option, Some, None, refl, ap, ◌∙◌, arith, inl, inr, length-append}
use Rattle.std.specs.Prelude.{◌==◌, if◌then◌else◌, slice_get, cond}
use Rattle.std.proofs.lemmas.Bool.{cases_order}
use Rattle.std.proofs.lemmas.Bool.Decides.{nat_tests}
use Rattle.std.proofs.lemmas.List.{take-append-le}
use Rattle.std.proofs.lemmas.List.Sums.{sum_by_push, count_by-le-length}
use Rattle.std.proofs.lemmas.Option.{slice_get_past}
use Rattle.std.proofs.Math.Seq.{take-append_seam}
use Rattle.tex_defs.specs.declared.Seen.{Seen}
use Rattle.conditionals.specs.declared.skip.Ender.{Ender}
use Rattle.conditionals.specs.declared.skip.Ender.TheVariants.{Fi, Else, Or}
use Rattle.conditionals.specs.declared.skip.Part.{Part}
use Rattle.conditionals.specs.declared.skip.Part.TheVariants.{Conditional, Ends, Plain}
use Rattle.conditionals.specs.Skipping.{part, is_conditional, is_fi, ender, conditionals, fis, ender_behind, ender_at, IsSkipped, GoesOn, depth_behind}

pub slice_front : (xs ys : List Seen) (k : ℕ) → k < length xs → slice_get (xs ++ ys) k ≡ slice_get xs k
slice_front [] ys k h = absurd (omega arith)
slice_front (x ∷ xs) ys zero h = refl
slice_front (x ∷ xs) ys (suc k) h = slice_front xs ys k (omega arith)

zero_plus : (k : ℕ) → 0 + k ≡ k
zero_plus k = omega arith

suc_plus : (n k : ℕ) → suc n + k ≡ suc (n + k)
suc_plus n k = omega arith

pub slice_behind : (xs ys : List Seen) (k : ℕ) → slice_get (xs ++ ys) (length xs + k) ≡ slice_get ys k
slice_behind [] ys k = ap (λ (n : ℕ). slice_get ys n) (zero_plus k)
slice_behind (x ∷ xs) ys k = ap (λ (n : ℕ). slice_get (x ∷ xs ++ ys) n) (suc_plus (length xs) k) ∙ slice_behind xs ys k

pub slice_seam : (xs : List Seen) (x : Seen) (ys : List Seen) → slice_get (xs ++ x ∷ ys) (length xs) ≡ Some x
slice_seam [] x ys = refl
slice_seam (y ∷ xs) x ys = slice_seam xs x ys

-- how many conditionals and `\fi`s it is
abbrev pub if_count : Part → ℕ
if_count p = cond (is_conditional p) 1 0

abbrev pub fi_count : Part → ℕ
fi_count p = cond (is_fi p) 1 0

-- as what this token ends a text behind these
abbrev pub at : List Seen → Option Seen → Option Ender
at before x = ender_behind (conditionals before) (fis before) x

pub front : (xs ys : List Seen) (k : ℕ) → k < length xs → ender_at (xs ++ ys) k ≡ ender_at xs k
front xs ys k h =
    ap (λ (us : List Seen). at us (slice_get (xs ++ ys) k)) (take-append-le k xs ys (omega arith)) ∙ ap (λ (o : Option Seen). at (take k xs) o) (slice_front xs ys k h)

pub seam : (xs : List Seen) (x : Seen) (ys : List Seen) → ender_at (xs ++ x ∷ ys) (length xs) ≡ at xs (Some x)
seam xs x ys =
    ap (λ (us : List Seen). at us (slice_get (xs ++ x ∷ ys) (length xs))) (take-append_seam xs (x ∷ ys)) ∙ ap (λ (o : Option Seen). at xs o) (slice_seam xs x ys)

pub past : (xs : List Seen) (k : ℕ) → length xs ≤ k → ender_at xs k ≡ None
past xs k h = ap (λ (o : Option Seen). at (take k xs) o) (slice_get_past xs k h)

length_one : (xs : List Seen) (x : Seen) → length (xs ++ x ∷ []) ≡ length xs + 1
length_one xs x = length-append xs (x ∷ [])

none_more : (xs : List Seen) (x : Seen) → ((k : ℕ) → ender_at xs k ≡ None) → at xs (Some x) ≡ None → (k : ℕ) → ender_at (xs ++ x ∷ []) k ≡ None
none_more xs x h e k = elim (cases_order k (length xs)) [
  | inl is ↦ ap (λ (j : ℕ). ender_at (xs ++ x ∷ []) j) is ∙ seam xs x [] ∙ e
  | inr (inl below) ↦ front xs (x ∷ []) k below ∙ h k
  | inr (inr above) ↦ past (xs ++ x ∷ []) k (omega (arith, length_one xs x))
]

more : (d n : ℕ) (xs : List Seen) (x : Seen) → GoesOn d xs → at xs (Some x) ≡ None → if_count (part x.meaning) + d ≡ fi_count (part x.meaning) + n → GoesOn n (xs ++ x ∷ [])
more d n xs x g e level = record {
  level =
      let c : conditionals (xs ++ x ∷ []) ≡ conditionals xs + if_count (part x.meaning) = sum_by_push (λ (y : Seen). if_count (part y.meaning)) xs x in
      let f : fis (xs ++ x ∷ []) ≡ fis xs + fi_count (part x.meaning) = sum_by_push (λ (y : Seen). fi_count (part y.meaning)) xs x in
      omega (arith, g.level, c, f, level);
  none = none_more xs x g.none e;
}

pub either : (b : Bool) (o : Option Ender) → o ≡ None → (if b then o else None) ≡ None
either true o h = h
either false o h = refl

no_ender : (xs : List Seen) (x : Seen) → ender (part x.meaning) ≡ None → at xs (Some x) ≡ None
no_ender xs x e = either (conditionals xs == fis xs) (ender (part x.meaning)) e

pub unequal : (c f : ℕ) → f < c → (c == f) ≡ false
unequal c f h = grind (arith, nat_tests)

equal : (c f : ℕ) → c ≡ f → (c == f) ≡ true
equal c f h = grind (arith, nat_tests)

pub inside : (xs : List Seen) (x : Seen) → fis xs < conditionals xs → at xs (Some x) ≡ None
inside xs x h = ap (λ (b : Bool). if b then ender (part x.meaning) else None) (unequal (conditionals xs) (fis xs) h)

-- A CONDITIONAL, another token and an ender within a conditional go on; an ender outside of them ends the text.
pub conditional_met : (d : ℕ) (xs : List Seen) (x : Seen) → part x.meaning ≡ Conditional → GoesOn d xs → GoesOn (d + 1) (xs ++ x ∷ [])
conditional_met d xs x p g =
    more d (d + 1) xs x g (no_ender xs x (ap (λ (q : Part). ender q) p))
    (omega (arith, ap if_count p, ap fi_count p))

pub plain_met : (d : ℕ) (xs : List Seen) (x : Seen) → part x.meaning ≡ Plain → GoesOn d xs → GoesOn d (xs ++ x ∷ [])
plain_met d xs x p g =
    more d d xs x g (no_ender xs x (ap (λ (q : Part). ender q) p))
    (omega (arith, ap if_count p, ap fi_count p))

pub ender_met : (d : ℕ) (xs : List Seen) (x : Seen) (e : Ender) → part x.meaning ≡ Ends e → 0 < d → GoesOn d xs → GoesOn (depth_behind e d) (xs ++ x ∷ [])
ender_met d xs x Fi p h g =
    more d (depth_behind Fi d) xs x g (inside xs x (omega (arith, g.level)))
    (omega (arith, ap if_count p, ap fi_count p))
ender_met d xs x Else p h g =
    more d d xs x g (inside xs x (omega (arith, g.level)))
    (omega (arith, ap if_count p, ap fi_count p))
ender_met d xs x Or p h g =
    more d d xs x g (inside xs x (omega (arith, g.level)))
    (omega (arith, ap if_count p, ap fi_count p))

pub ended : (xs : List Seen) (x : Seen) (e : Ender) (ys : List Seen) → ender (part x.meaning) ≡ Some e → GoesOn 0 xs → IsSkipped (xs ++ x ∷ ys) (length xs) e
ended xs x e ys p g = record {
  ends =
      seam xs x ys ∙ ap (λ (b : Bool). if b then ender (part x.meaning) else None) (equal (conditionals xs) (fis xs) (omega (arith, g.level))) ∙ p;
  least = λ j h. front xs (x ∷ ys) j h ∙ g.none j;
}

-- a text has no more conditionals open than tokens
pub few : (d : ℕ) (xs : List Seen) → GoesOn d xs → d ≤ length xs
few d xs g = omega (arith, g.level, count_by-le-length (λ (y : Seen). is_conditional (part y.meaning)) xs)

pub begun : GoesOn 0 []
begun = record { level = refl; none = λ k. refl }
