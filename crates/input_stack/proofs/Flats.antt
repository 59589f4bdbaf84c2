-- The counts over the flat list are those over the Puts.
use Rattle.std.proofs.Common.{suc, ◌≡◌, ℕ, ◌+◌, ◌<◌, ◌≤◌, List, [], ◌∷◌, ◌++◌, map, length, Option, None, Some, true, false, refl, sym, ◌∙◌, arith}
use Rattle.std.specs.Prelude.{◌==◌}
use Rattle.std.proofs.lemmas.Bool.Decides.{nat_tests}
use Rattle.std.proofs.lemmas.List.Sums.{sum_by-cons}
use Rattle.input_stack.specs.Puts.{Item, Put, later_of, count_of, used_of, used, when_some, used_arguments}
use Rattle.input_stack.specs.Flat.{Placed, place, placed, is_same, used_after, used_arguments_after}

same_itself : (n : ℕ) → (n == n) ≡ true
same_itself n = grind (arith, nat_tests)

not_same : (m n : ℕ) → n < m → (m == n) ≡ false
not_same m n h = grind (arith, nat_tests)

-- the last number is none that comes
abbrev pub IsAbove : Option ℕ → ℕ → Type 0
IsAbove None n = Unit {0}
IsAbove (Some m) n = n ≤ m

above_not_same : (o : Option ℕ) (n k : ℕ) → IsAbove o k → n < k → is_same o n ≡ false
above_not_same None n k h b = refl
above_not_same (Some m) n k h b = not_same m n (omega arith)

run_goes : (n a : ℕ) (xs : List Item) (rest : List Placed) → used_after (Some n) (map (place n a) xs ++ rest) ≡ used_after (Some n) rest
run_goes n a [] rest = refl
run_goes n a (x ∷ xs) rest =
    let e = same_itself n in
    rw e (omega (arith, run_goes n a xs rest))

arguments_go : (n a : ℕ) (xs : List Item) (rest : List Placed) → used_arguments_after (Some n) (map (place n a) xs ++ rest) ≡ used_arguments_after (Some n) rest
arguments_go n a [] rest = refl
arguments_go n a (x ∷ xs) rest =
    let e = same_itself n in
    rw e (omega (arith, arguments_go n a xs rest))

head_used : (x : Item) (xs : List Item) → 1 + count_of (later_of x) ≡ used_of (x ∷ xs)
head_used x xs = refl

run_used : (o : Option ℕ) (n a : ℕ) (xs : List Item) (rest : List Placed) (u : ℕ) → is_same o n ≡ false → used_after o rest ≡ u → used_after (Some n) rest ≡ u → used_after o (map (place n a) xs ++ rest) ≡ used_of xs + u
run_used o n a [] rest u not e f = omega (arith, e)
run_used o n a (x ∷ xs) rest u not e f = rw not (omega (arith, run_goes n a xs rest, f, head_used x xs))

run_arguments : (o : Option ℕ) (n a : ℕ) (xs : List Item) (rest : List Placed) (u : ℕ) → is_same o n ≡ false → used_arguments_after o rest ≡ u → used_arguments_after (Some n) rest ≡ u → used_arguments_after o (map (place n a) xs ++ rest) ≡ when_some xs a + u
run_arguments o n a [] rest u not e f = omega (arith, e)
run_arguments o n a (x ∷ xs) rest u not e f = rw not (omega (arith, arguments_go n a xs rest, f))

above_less : (o : Option ℕ) (n : ℕ) → IsAbove o (suc n) → IsAbove o n
above_less None n h = tt
above_less (Some m) n h = omega arith

pub flat_used : (o : Option ℕ) (ps : List Put) → IsAbove o (length ps) → used_after o (placed ps) ≡ used ps
flat_used o [] h = refl
flat_used o (p ∷ ps) h =
    let u = used ps in
    let low : length ps ≤ length ps = omega arith in
    run_used o (length ps) (length p.arguments) p.items (placed ps) u (above_not_same o (length ps) (suc (length ps)) h (omega arith)) (flat_used o ps (above_less o (length ps) h)) (flat_used (Some (length ps)) ps low)
    ∙ sym (sum_by-cons (λ (q : Put). used_of q.items) p ps)

pub flat_arguments : (o : Option ℕ) (ps : List Put) → IsAbove o (length ps) → used_arguments_after o (placed ps) ≡ used_arguments ps
flat_arguments o [] h = refl
flat_arguments o (p ∷ ps) h =
    let low : length ps ≤ length ps = omega arith in
    run_arguments o (length ps) (length p.arguments) p.items (placed ps) (used_arguments ps) (above_not_same o (length ps) (suc (length ps)) h (omega arith)) (flat_arguments o ps (above_less o (length ps) h)) (flat_arguments (Some (length ps)) ps low)
    ∙ sym (sum_by-cons (λ (q : Put). when_some q.items (length q.arguments)) p ps)

pub law_used : (ps : List Put) → used_after None (placed ps) ≡ used ps
law_used ps = flat_used None ps tt

pub law_arguments : (ps : List Put) → used_arguments_after None (placed ps) ≡ used_arguments ps
law_arguments ps = flat_arguments None ps tt
