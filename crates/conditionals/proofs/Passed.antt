-- Conditionals within skipped text.
use Rattle.std.proofs.Common.{◌≡◌, ℕ, zero, suc, ◌+◌, ◌-◌, ◌<◌, ◌≤◌, List, [], ◌∷◌, ◌++◌, length, take, Option, Some, None, refl, sym, ap, ◌∙◌, arith, inl, inr}
use Rattle.std.specs.Prelude.{◌==◌, slice_get}
use Rattle.std.proofs.lemmas.Bool.{cases_lt, cases_order}
use Rattle.std.proofs.lemmas.List.{take-append-le}
use Rattle.std.proofs.lemmas.List.Sums.{sum_by-append, sum_by-cons}
use Rattle.std.proofs.lemmas.Option.{slice_get_within}
use Rattle.std.proofs.Math.Seq.{take-append_seam, take-append-add}
use Rattle.tex_defs.specs.declared.Seen.{Seen}
use Rattle.conditionals.specs.declared.skip.Ender.{Ender}
use Rattle.conditionals.specs.declared.skip.Ender.TheVariants.{Fi}
use Rattle.conditionals.specs.declared.skip.Part.{Part}
use Rattle.conditionals.specs.declared.skip.Part.TheVariants.{Conditional, Ends, Plain}
use Rattle.conditionals.specs.Skipping.{part, ender, conditionals, fis, ender_at, IsSkipped, GoesOn}
use Rattle.conditionals.specs.Laws.{IsWhole, IsBranches, TextsEndOnce, ConditionalsArePassed}
use Rattle.conditionals.proofs.Fronts.{at, if_count, fi_count, front, past, slice_front, slice_behind, inside, ended, either}

conditionals_both : (xs ys : List Seen) → conditionals (xs ++ ys) ≡ conditionals xs + conditionals ys
conditionals_both = sum_by-append (λ (y : Seen). if_count (part y.meaning))

fis_both : (xs ys : List Seen) → fis (xs ++ ys) ≡ fis xs + fis ys
fis_both = sum_by-append (λ (y : Seen). fi_count (part y.meaning))

conditionals_first : (x : Seen) (xs : List Seen) → conditionals (x ∷ xs) ≡ if_count (part x.meaning) + conditionals xs
conditionals_first = sum_by-cons (λ (y : Seen). if_count (part y.meaning))

fis_first : (x : Seen) (xs : List Seen) → fis (x ∷ xs) ≡ fi_count (part x.meaning) + fis xs
fis_first = sum_by-cons (λ (y : Seen). fi_count (part y.meaning))

-- a text that ends somewhere is as long
ends_within : (text : List Seen) (k : ℕ) (e : Ender) → ender_at text k ≡ Some e → k < length text
ends_within text k e h = elim (cases_lt k (length text)) [
  | inl below ↦ below
  | inr above ↦ absurd (let n : ender_at text k ≡ None = past text k above in (cc))
]

followed : (text more : List Seen) (k : ℕ) (e : Ender) → IsSkipped text k e → IsSkipped (text ++ more) k e
followed text more k e s =
    let within : k < length text = ends_within text k e s.ends in
    record {
      ends = front text more k within ∙ s.ends;
      least = λ j h. front text more j (omega (arith, h, within)) ∙ s.least j h;
    }

one : (text : List Seen) (j k : ℕ) (d e : Ender) → IsSkipped text j d → IsSkipped text k e → (j ≡ k) × (d ≡ e)
one text j k d e s t = elim (cases_order j k) [
  | inl is ↦ (is, (let p : ender_at text j ≡ ender_at text k = ap (λ (n : ℕ). ender_at text n) is in let q : ender_at text j ≡ Some d = s.ends in let r : ender_at text k ≡ Some e = t.ends in (cc)))
  | inr (inl below) ↦ absurd (let q : ender_at text j ≡ Some d = s.ends in let n : ender_at text j ≡ None = t.least j below in (cc))
  | inr (inr above) ↦ absurd (let q : ender_at text k ≡ Some e = t.ends in let n : ender_at text k ≡ None = s.least k above in (cc))
]

pub texts_end_once : TextsEndOnce
texts_end_once = record { one = one; followed = followed }

by_ender : (before : List Seen) (x : Seen) (o : Option Ender) → ender (part x.meaning) ≡ o → ((e : Ender) → ender (part x.meaning) ≡ Some e → fis before < conditionals before) →
    at before (Some x) ≡ None
by_ender before x None p h = either (conditionals before == fis before) (ender (part x.meaning)) p
by_ender before x (Some e) p h = inside before x (h e p)

-- an ender behind these tokens stands within a conditional of them
at_none : (before : List Seen) (o : Option Seen) → ((x : Seen) (e : Ender) → o ≡ Some x → ender (part x.meaning) ≡ Some e → fis before < conditionals before) → at before o ≡ None
at_none before None h = refl
at_none before (Some x) h = by_ender before x (ender (part x.meaning)) refl (λ e p. h x e refl p)

whole_goes_on : (text : List Seen) → IsWhole text → GoesOn 0 text
whole_goes_on text w = record {
  level = omega (arith, w.level);
  none = λ k. at_none (take k text) (slice_get text k) (λ x e o p. w.within k x e o p);
}

passed : (text more : List Seen) (x : Seen) (e : Ender) → IsWhole text → ender (part x.meaning) ≡ Some e → IsSkipped (text ++ x ∷ more) (length text) e
passed text more x e w p = ended text x e more p (whole_goes_on text w)

within : (before text after : List Seen) (k : ℕ) → fis before ≤ conditionals before → IsWhole text → k < length text → ender_at (before ++ (text ++ after)) (length before + k) ≡ None
within before text after k b w h =
    let rest : List Seen = text ++ after in
    let o : slice_get (before ++ rest) (length before + k) ≡ slice_get text k = slice_behind before rest k ∙ slice_front text after k h in
    let t : take (length before + k) (before ++ rest) ≡ before ++ take k text =
    take-append-add before rest k ∙ ap (λ (us : List Seen). before ++ us) (take-append-le k text after (omega (arith, h))) in
    ap (λ (us : List Seen). at us (slice_get (before ++ rest) (length before + k))) t
    ∙ ap (λ (x : Option Seen). at (before ++ take k text) x) o
    ∙ at_none (before ++ take k text) (slice_get text k) (λ x e is p. omega (arith, b, w.within k x e is p, conditionals_both before (take k text), fis_both before (take k text)))

nothing_in : (x : Seen) → part x.meaning ≡ Plain → (k : ℕ) (y : Seen) (e : Ender) → slice_get (x ∷ []) k ≡ Some y → ender (part y.meaning) ≡ Some e → ⊥
nothing_in x p zero y e is en =
    let same : x ≡ y = cc in
    let none : ender (part y.meaning) ≡ None = ap (λ (z : Seen). ender (part z.meaning)) (sym same) ∙ ap (λ (q : Part). ender q) p in
    cc
nothing_in x p (suc k) y e is en = omega (arith, slice_get_within (x ∷ []) (suc k) y is)

plain : (x : Seen) → part x.meaning ≡ Plain → IsWhole (x ∷ [])
plain x p = record {
  level = omega (arith, conditionals_first x [], fis_first x [], ap if_count p, ap fi_count p);
  within = λ k y e is en. absurd (nothing_in x p k y e is en);
}

second : (xs ys : List Seen) → IsWhole xs → IsWhole ys → (m k : ℕ) (x : Seen) (e : Ender) → k ≡ length xs + m → slice_get (xs ++ ys) k ≡ Some x → ender (part x.meaning) ≡ Some e →
    fis (take k (xs ++ ys)) < conditionals (take k (xs ++ ys))
second xs ys v w m k x e there is en =
    let t : take k (xs ++ ys) ≡ xs ++ take m ys = ap (λ (n : ℕ). take n (xs ++ ys)) there ∙ take-append-add xs ys m in
    let o : slice_get ys m ≡ Some x = sym (ap (λ (n : ℕ). slice_get (xs ++ ys) n) there ∙ slice_behind xs ys m) ∙ is in
    let h : fis (take m ys) < conditionals (take m ys) = w.within m x e o en in
    omega (arith, h, v.level, ap (λ (us : List Seen). fis us) t, ap (λ (us : List Seen). conditionals us) t, conditionals_both xs (take m ys), fis_both xs (take m ys))

joined : (xs ys : List Seen) → IsWhole xs → IsWhole ys → IsWhole (xs ++ ys)
joined xs ys v w = record {
  level = omega (arith, conditionals_both xs ys, fis_both xs ys, v.level, w.level);
  within = λ k x e is en. elim (cases_lt k (length xs)) [
    | inl below ↦
        let t : take k (xs ++ ys) ≡ take k xs = take-append-le k xs ys (omega (arith, below)) in
        let h : fis (take k xs) < conditionals (take k xs) = v.within k x e (sym (slice_front xs ys k below) ∙ is) en in
        omega (arith, h, ap (λ (us : List Seen). fis us) t, ap (λ (us : List Seen). conditionals us) t)
    | inr above ↦
        second xs ys v w (k - length xs) k x e (omega (arith, above)) is en
  ];
}

at_end : (f : Seen) (text : List Seen) (m k : ℕ) (x : Seen) → IsBranches text → k ≡ length text + m → slice_get (text ++ f ∷ []) k ≡ Some x →
    fis (take k (text ++ f ∷ [])) ≤ conditionals (take k (text ++ f ∷ []))
at_end f text m k x b there is =
    let o : slice_get (f ∷ []) m ≡ Some x = sym (ap (λ (n : ℕ). slice_get (text ++ f ∷ []) n) there ∙ slice_behind text (f ∷ []) m) ∙ is in
    let last : m < 1 = slice_get_within (f ∷ []) m x o in
    let same : k ≡ length text = omega (arith, there, last) in
    let t : take k (text ++ f ∷ []) ≡ text = ap (λ (n : ℕ). take n (text ++ f ∷ [])) same ∙ take-append_seam text (f ∷ []) in
    omega (arith, b.level, ap (λ (us : List Seen). fis us) t, ap (λ (us : List Seen). conditionals us) t)

-- behind the conditional: its branches, and its `\fi`
behind : (f : Seen) (text : List Seen) (k : ℕ) (x : Seen) → IsBranches text → slice_get (text ++ f ∷ []) k ≡ Some x → fis (take k (text ++ f ∷ [])) ≤ conditionals (take k (text ++ f ∷ []))
behind f text k x b is = elim (cases_lt k (length text)) [
  | inl below ↦
      let t : take k (text ++ f ∷ []) ≡ take k text = take-append-le k text (f ∷ []) (omega (arith, below)) in
      omega (arith, b.fronts k, ap (λ (us : List Seen). fis us) t, ap (λ (us : List Seen). conditionals us) t)
  | inr above ↦ at_end f text (k - length text) k x b (omega (arith, above)) is
]

stands : (c f : Seen) (text : List Seen) → part c.meaning ≡ Conditional → part f.meaning ≡ Ends Fi → IsBranches text → (k : ℕ) (x : Seen) (e : Ender) →
    slice_get (c ∷ text ++ f ∷ []) k ≡ Some x → ender (part x.meaning) ≡ Some e → fis (take k (c ∷ text ++ f ∷ [])) < conditionals (take k (c ∷ text ++ f ∷ []))
stands c f text p q b zero x e is en =
    let same : c ≡ x = cc in
    let none : ender (part x.meaning) ≡ None = ap (λ (z : Seen). ender (part z.meaning)) (sym same) ∙ ap (λ (r : Part). ender r) p in
    absurd (cc)
stands c f text p q b (suc k) x e is en =
    let one_more : if_count (part c.meaning) ≡ 1 = ap if_count p in
    let none_more : fi_count (part c.meaning) ≡ 0 = ap fi_count p in
    omega (arith, behind f text k x b is, one_more, none_more, conditionals_first c (take k (text ++ f ∷ [])), fis_first c (take k (text ++ f ∷ [])))

conditional : (c f : Seen) (text : List Seen) → part c.meaning ≡ Conditional → part f.meaning ≡ Ends Fi → IsBranches text → IsWhole (c ∷ text ++ f ∷ [])
conditional c f text p q b =
    let one_more : if_count (part c.meaning) ≡ 1 = ap if_count p in
    let none_more : fi_count (part c.meaning) ≡ 0 = ap fi_count p in
    let no_if : conditionals (f ∷ []) ≡ 0 = omega (arith, conditionals_first f [], ap if_count q) in
    let one_fi : fis (f ∷ []) ≡ 1 = omega (arith, fis_first f [], ap fi_count q) in
    record {
      level =
          omega
          (arith, b.level, one_more, none_more, no_if, one_fi, conditionals_both text (f ∷ []), fis_both text (f ∷ []), conditionals_first c (text ++ f ∷ []), fis_first c (text ++ f ∷ []));
      within = λ k x e is en. stands c f text p q b k x e is en;
    }

pub conditionals_are_passed : ConditionalsArePassed
conditionals_are_passed = record { conditional = conditional; joined = joined; plain = plain; within = within; passed = passed }
