-- Enders of the conditionals above, and an `\or`.
use Rattle.std.proofs.Common.{◌≡◌, ℕ, zero, suc, ◌-◌, ◌<◌, List, [], ◌∷◌, None, refl, sym, ap, arith}
use Rattle.conditionals.specs.declared.skip.Ender.{Ender}
use Rattle.conditionals.specs.declared.skip.Ender.TheVariants.{Fi, Else, Or}
use Rattle.conditionals.specs.declared.choice.Aim.{Aim}
use Rattle.conditionals.specs.declared.choice.Aim.TheVariants as aims
use Rattle.conditionals.specs.declared.choice.Aim.TheVariants.{Branch, Case, Other}
use Rattle.conditionals.specs.Choices.{own, other, case, closing, end, start}

one_less : (n : ℕ) → n ≡ suc n - 1
one_less n = omega arith

own_fi : (n : ℕ) (es : List Ender) → 0 < n → own n (Fi ∷ es) ≡ own (n - 1) es
own_fi zero es h = absurd (omega arith)
own_fi (suc n) es h = ap (λ (k : ℕ). own k es) (one_less n)

own_else : (n : ℕ) (es : List Ender) → 0 < n → own n (Else ∷ es) ≡ own n es
own_else zero es h = absurd (omega arith)
own_else (suc n) es h = refl

own_or : (n : ℕ) (es : List Ender) → 0 < n → own n (Or ∷ es) ≡ own n es
own_or zero es h = absurd (omega arith)
own_or (suc n) es h = refl

pub fi_above : (a : Aim) (n : ℕ) (es : List Ender) → 0 < n → end a n (Fi ∷ es) ≡ end a (n - 1) es
fi_above Branch n es h = refl
fi_above (Case zero) n es h = refl
fi_above (Case (suc m)) n es h = ap (λ (us : List Ender). case (suc m) us) (own_fi n es h)
fi_above (Other reports) n es h = ap (λ (us : List Ender). other us) (own_fi n es h)
fi_above aims.Fi n es h = ap (λ (us : List Ender). closing us) (own_fi n es h)

pub else_above : (a : Aim) (n : ℕ) (es : List Ender) → 0 < n → end a n (Else ∷ es) ≡ end a n es
else_above Branch n es h = refl
else_above (Case zero) n es h = refl
else_above (Case (suc m)) n es h = ap (λ (us : List Ender). case (suc m) us) (own_else n es h)
else_above (Other reports) n es h = ap (λ (us : List Ender). other us) (own_else n es h)
else_above aims.Fi n es h = ap (λ (us : List Ender). closing us) (own_else n es h)

pub or_above : (a : Aim) (n : ℕ) (es : List Ender) → 0 < n → end a n (Or ∷ es) ≡ end a n es
or_above Branch n es h = refl
or_above (Case zero) n es h = refl
or_above (Case (suc m)) n es h = ap (λ (us : List Ender). case (suc m) us) (own_or n es h)
or_above (Other reports) n es h = ap (λ (us : List Ender). other us) (own_or n es h)
or_above aims.Fi n es h = ap (λ (us : List Ender). closing us) (own_or n es h)

pub or_own : (n : ℕ) (es : List Ender) → 1 < n → end (Case n) 0 (Or ∷ es) ≡ end (Case (n - 1)) 0 es
or_own zero es h = absurd (omega arith)
or_own (suc zero) es h = absurd (omega arith)
or_own (suc (suc m)) es h = ap (λ (k : ℕ). end (Case k) 0 es) (one_less (suc m))

own_none : (n : ℕ) → own n [] ≡ []
own_none zero = refl
own_none (suc n) = refl

-- where text is skipped, the first ender is awaited
pub none_yet : (a : Aim) (n : ℕ) → start a ≡ None → end a n [] ≡ None
none_yet Branch n h = absurd (cc)
none_yet (Case zero) n h = absurd (cc)
none_yet (Case (suc m)) n h = ap (λ (us : List Ender). case (suc m) us) (own_none n)
none_yet (Other reports) n h = ap (λ (us : List Ender). other us) (own_none n)
none_yet aims.Fi n h = ap (λ (us : List Ender). closing us) (own_none n)

start_suc : (n : ℕ) → 1 < n → start (Case (n - 1)) ≡ None
start_suc zero h = absurd (omega arith)
start_suc (suc zero) h = absurd (omega arith)
start_suc (suc (suc m)) h = ap (λ (k : ℕ). start (Case k)) (sym (one_less (suc m)))

pub case_left : (n above : ℕ) → 1 < n → end (Case (n - 1)) above [] ≡ None
case_left n above h = none_yet (Case (n - 1)) above (start_suc n h)
