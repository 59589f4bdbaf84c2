-- The stack of open conditionals, the innermost first, and the list that keeps it, the outermost first.
use Rattle.std.proofs.Common.{◌≡◌, ℕ, suc, ◌+◌, ◌-◌, ◌<◌, ◌≤◌, Bool, true, false, ltb, List, [], ◌∷◌, length, reverse, get_or, Option, Some, None, refl, sym, ap, ◌∙◌, arith, inl, inr}
use Rattle.std.specs.Prelude.{if◌then◌else◌, not, cond, unwrap_or}
use Rattle.std.specs.List.{position_or_len}
use Rattle.std.proofs.Math.ListN.{set}
use Rattle.std.proofs.lemmas.Bool.{cases_order}
use Rattle.std.proofs.lemmas.Bool.Decides.{nat_tests}
use Rattle.std.proofs.lemmas.List.{ext_get_or, length-set, length-reverse, get_or-reverse, get_or-set_same, get_or-set_other}
use Rattle.conditionals.specs.declared.limits.Limit.{Limit}
use Rattle.conditionals.specs.declared.open.Conditional.{Conditional}
use Rattle.conditionals.specs.Open.{is_test, above, with_limit}

abbrev pub tests : Conditional → Bool
tests c = is_test c.limit

abbrev pub come_to : Limit → Conditional → Conditional
come_to l c = record c { limit = l }

abbrev pub changed_at : Limit → List Conditional → ℕ → (d : Conditional) → List Conditional
changed_at l cs k d = set cs k (come_to l (get_or cs k d))

-- the first of which the test is under way stands behind those above it
one_more : (b : Bool) (m n : ℕ) → m ≡ n → (if not b then 1 + m else 0) ≡ (if b then 0 else suc n)
one_more true m n h = refl
one_more false m n h = omega (arith, h)

pub first_test : (cs : List Conditional) → position_or_len tests cs ≡ above cs
first_test [] = refl
first_test (c ∷ cs) = one_more (tests c) (position_or_len tests cs) (above cs) (first_test cs)

-- all are counted where no test is under way
no_more : (b : Bool) (m n : ℕ) → m ≤ n → (if b then 0 else suc m) ≤ suc n
no_more true m n h = omega arith
no_more false m n h = omega (arith, h)

pub few : (cs : List Conditional) → above cs ≤ length cs
few [] = omega arith
few (c ∷ cs) = no_more (tests c) (above cs) (length cs) (few cs)

-- its place, or how many there are
either : (b : Bool) (p m n : ℕ) → p ≡ n → (b ≡ false → m ≡ n) → unwrap_or (cond b (Some p) None) m ≡ n
either true p m n h none = h
either false p m n h none = none refl

past : (cs : List Conditional) → ltb (above cs) (length cs) ≡ false → length cs ≡ above cs
past cs h = grind (arith, nat_tests, few cs)

pub first_found : (cs : List Conditional) (o : Option ℕ) (m r : ℕ) → o ≡ cond (ltb (position_or_len tests cs) (length cs)) (Some (position_or_len tests cs)) None → m ≡ length cs →
    r ≡ unwrap_or o m → r ≡ above cs
first_found cs o m r e count is =
    is ∙ ap (λ (x : Option ℕ). unwrap_or x m) e
    ∙ either (ltb (position_or_len tests cs) (length cs)) (position_or_len tests cs) m (above cs) (first_test cs)
    (λ none. count ∙ past cs (ap (λ (n : ℕ). ltb n (length cs)) (sym (first_test cs)) ∙ none))

-- THE LIMIT of that one changes, and of none where no test is under way
changed_here : (l : Limit) (c : Conditional) (cs : List Conditional) (d : Conditional) (b : Bool) → (above cs < length cs → with_limit l cs ≡ changed_at l cs (above cs) d) →
    (if b then 0 else suc (above cs)) < suc (length cs) → (if b then come_to l c ∷ cs else c ∷ with_limit l cs) ≡ changed_at l (c ∷ cs) (if b then 0 else suc (above cs)) d
changed_here l c cs d true more h = refl
changed_here l c cs d false more h = ap (λ (us : List Conditional). c ∷ us) (more (omega (arith, h)))

pub changed : (l : Limit) (cs : List Conditional) (d : Conditional) → above cs < length cs → with_limit l cs ≡ changed_at l cs (above cs) d
changed l [] d h = refl
changed l (c ∷ cs) d h = changed_here l c cs d (tests c) (λ within. changed l cs d within) h

unchanged_here : (l : Limit) (c : Conditional) (cs : List Conditional) (b : Bool) → (length cs ≤ above cs → with_limit l cs ≡ cs) → suc (length cs) ≤ (if b then 0 else suc (above cs)) →
    (if b then come_to l c ∷ cs else c ∷ with_limit l cs) ≡ c ∷ cs
unchanged_here l c cs true more h = absurd (omega (arith, h))
unchanged_here l c cs false more h = ap (λ (us : List Conditional). c ∷ us) (more (omega (arith, h)))

pub unchanged : (l : Limit) (cs : List Conditional) → length cs ≤ above cs → with_limit l cs ≡ cs
unchanged l [] h = refl
unchanged l (c ∷ cs) h = unchanged_here l c cs (tests c) (λ past. unchanged l cs past) h

-- an item counted from the end
pub set_reversed : (cs : List Conditional) (j k : ℕ) (c : Conditional) → k < length cs → j ≡ length cs - 1 - k → reverse (set cs j c) ≡ set (reverse cs) k c
set_reversed cs j k c h e =
    let m : length (set cs j c) ≡ length cs = length-set cs j c in
    let n : length (reverse cs) ≡ length cs = length-reverse cs in
    ext_get_or c (reverse (set cs j c)) (set (reverse cs) k c) (length-reverse (set cs j c) ∙ m ∙ sym (length-set (reverse cs) k c ∙ n))
    (λ i within.
    let in_set : i < length (set cs j c) = omega (arith, within, length-reverse (set cs j c)) in
    get_or-reverse (set cs j c) i c in_set ∙ ap (λ (q : ℕ). get_or (set cs j c) (q - 1 - i) c) m ∙
    elim (cases_order i k) [
      | inl same ↦
          ap (λ (q : ℕ). get_or (set cs j c) q c) (omega (arith, e, same)) ∙ get_or-set_same cs j c c (omega (arith, h, e))
          ∙ sym (ap (λ (q : ℕ). get_or (set (reverse cs) k c) q c) same ∙ get_or-set_same (reverse cs) k c c (omega (arith, h, n)))
      | inr apart ↦
          get_or-set_other cs j (length cs - 1 - i) c c (λ same. absurd (omega (arith, h, e, same, in_set, m)))
          ∙ sym (get_or-set_other (reverse cs) k i c c (λ same. absurd (omega (arith, apart, same))) ∙ get_or-reverse cs i c (omega (arith, in_set, m)))
    ])

pub item_reversed : (cs : List Conditional) (j k : ℕ) (d : Conditional) → k < length cs → j ≡ length cs - 1 - k → get_or (reverse cs) k d ≡ get_or cs j d
item_reversed cs j k d h e = get_or-reverse cs k d h ∙ ap (λ (q : ℕ). get_or cs q d) (sym e)

-- what is kept behind the change, where this item stood before
pub limit_kept : (l : Limit) (kept : List Conditional) (j : ℕ) (c : Conditional) → above (reverse kept) < length kept → j ≡ length kept - 1 - above (reverse kept) → c ≡ get_or kept j c →
    reverse (set kept j (come_to l c)) ≡ with_limit l (reverse kept)
limit_kept l kept j c h e is =
    let n : length (reverse kept) ≡ length kept = length-reverse kept in
    let k : ℕ = above (reverse kept) in
    set_reversed kept j k (come_to l c) h e
    ∙ ap (λ (x : Conditional). set (reverse kept) k (come_to l x)) (is ∙ sym (item_reversed kept j k c h e))
    ∙ sym (changed l (reverse kept) c (omega (arith, h, n)))
