-- A text by the count of the conditionals that are open in it.
use Rattle.std.proofs.Common.{◌≡◌, ℕ, suc, ◌+◌, ◌<◌, Bool, true, false, List, [], ◌∷◌, ◌++◌, length, Option, Some, None, refl, sym, ap, ◌∙◌, subst, append_assoc, arith}
use Rattle.std.specs.Prelude.{◌==◌, if◌then◌else◌}
use Rattle.std.proofs.lemmas.Bool.Decides.{nat_tests}
use Rattle.std.proofs.lemmas.List.{append-nil, length_push}
use Rattle.tex_defs.specs.declared.Seen.{Seen}
use Rattle.plain_tokens.specs.Pending.{next_number}
use Rattle.conditionals.specs.declared.skip.Ender.{Ender}
use Rattle.conditionals.specs.declared.skip.Part.{Part}
use Rattle.conditionals.specs.declared.skip.Part.TheVariants.{Conditional, Ends, Plain}
use Rattle.conditionals.specs.Skipping.{part, ender, ender_at, IsSkipped, GoesOn, greatest_count, ends_at, open_behind, counted_from, counted}
use Rattle.conditionals.specs.Laws.{TextsEndOnce, TextsAreCounted}
use Rattle.conditionals.proofs.Fronts.{conditional_met, plain_met, ender_met, ended, few, begun}
use Rattle.conditionals.proofs.Passed.{texts_end_once}

next_below : (n : ℕ) → n < greatest_count → next_number n ≡ n + 1
next_below n h = grind (arith, nat_tests)

some_open : (n : ℕ) (e : Ender) → ends_at n (Ends e) ≡ None → 0 < n
some_open n e h = by_test (n == 0) refl h
  where
    by_test : (b : Bool) → (n == 0) ≡ b → (if b then Some e else None) ≡ None → 0 < n
    by_test true is none = absurd (cc)
    by_test false is none = grind (arith, nat_tests)

none_open : (n : ℕ) (d e : Ender) → ends_at n (Ends d) ≡ Some e → (n ≡ 0) × (d ≡ e)
none_open n d e h = by_test (n == 0) refl h
  where
    by_test : (b : Bool) → (n == 0) ≡ b → (if b then Some d else None) ≡ Some e → (n ≡ 0) × (d ≡ e)
    by_test true is some = (grind (arith, nat_tests), cc)
    by_test false is some = absurd (cc)

-- A TOKEN that doesn't end the text, and one that does
goes_on : (n : ℕ) (read : List Seen) (x : Seen) (p : Part) → part x.meaning ≡ p → n < greatest_count → GoesOn n read → ends_at n p ≡ None → GoesOn (open_behind n p) (read ++ x ∷ [])
goes_on n read x Conditional is small g none =
    subst (λ (d : ℕ). GoesOn d (read ++ x ∷ [])) (sym (next_below n small)) (conditional_met n read x is g)
goes_on n read x (Ends e) is small g none = ender_met n read x e is (some_open n e none) g
goes_on n read x Plain is small g none = plain_met n read x is g

ends : (n : ℕ) (p : Part) (e : Ender) → ends_at n p ≡ Some e → (n ≡ 0) × (ender p ≡ Some e)
ends n Conditional e h = absurd (cc)
ends n (Ends d) e h = let parts : (n ≡ 0) × (d ≡ e) = none_open n d e h in (parts.0, ap (λ (x : Ender). ender (Ends x)) parts.1)
ends n Plain e h = absurd (cc)

-- THE REST of a text that goes on so far
small_more : (read : List Seen) (x : Seen) (text : List Seen) → length read + length (x ∷ text) < greatest_count → length (read ++ x ∷ []) + length text < greatest_count
small_more read x text h = omega (arith, h, length_push read x)

joined : (read : List Seen) (x : Seen) (text : List Seen) → (read ++ x ∷ []) ++ text ≡ read ++ x ∷ text
joined read x text = append_assoc read (x ∷ []) text

found_at : (read : List Seen) (x : Seen) (text : List Seen) (n k : ℕ) (e : Ender) (o : Option Ender) (behind : Option (ℕ × Ender)) → ends_at n (part x.meaning) ≡ o → GoesOn n read →
    ((j : ℕ) (d : Ender) → o ≡ None → behind ≡ Some (j, d) → IsSkipped (read ++ x ∷ text) (length read + suc j) d) → counted_from o behind ≡ Some (k, e) →
    IsSkipped (read ++ x ∷ text) (length read + k) e
found_at read x text n k e (Some d) behind is g later h =
    let parts : (n ≡ 0) × (ender (part x.meaning) ≡ Some d) = ends n (part x.meaning) d is in
    let pair : ◌≡◌ {A = ℕ × Ender} (0, d) (k, e) = cc in
    let none : 0 ≡ k = ap (λ (p : ℕ × Ender). p.0) pair in
    let same : d ≡ e = ap (λ (p : ℕ × Ender). p.1) pair in
    let at : length read ≡ length read + k = omega (arith, none) in
    subst (λ (j : ℕ). IsSkipped (read ++ x ∷ text) j e) at
    (subst (λ (c : Ender). IsSkipped (read ++ x ∷ text) (length read) c) same (ended read x d text parts.1 (subst (λ (m : ℕ). GoesOn m read) parts.0 g)))
found_at read x text n k e None None is g later h = absurd (cc)
found_at read x text n k e None (Some (j, d)) is g later h =
    let pair : ◌≡◌ {A = ℕ × Ender} (suc j, d) (k, e) = cc in
    let count : suc j ≡ k = ap (λ (p : ℕ × Ender). p.0) pair in
    let same : d ≡ e = ap (λ (p : ℕ × Ender). p.1) pair in
    subst (λ (i : ℕ). IsSkipped (read ++ x ∷ text) (length read + i) e) count (subst (λ (c : Ender). IsSkipped (read ++ x ∷ text) (length read + suc j) c) same (later j d refl refl))

found : (read text : List Seen) (n k : ℕ) (e : Ender) → GoesOn n read → length read + length text < greatest_count → counted n text ≡ Some (k, e) → IsSkipped (read ++ text) (length read + k) e
found read [] n k e g small h = absurd (cc)
found read (x ∷ text) n k e g small h =
    found_at read x text n k e (ends_at n (part x.meaning)) (counted (open_behind n (part x.meaning)) text) refl g
    (λ j d none rest.
    let next : GoesOn (open_behind n (part x.meaning)) (read ++ x ∷ []) =
    goes_on n read x (part x.meaning) refl (omega (arith, small, few n read g)) g none in
    let there : IsSkipped ((read ++ x ∷ []) ++ text) (length (read ++ x ∷ []) + j) d =
    found (read ++ x ∷ []) text (open_behind n (part x.meaning)) j d next (small_more read x text small) rest in
    let at : length (read ++ x ∷ []) + j ≡ length read + suc j = omega (arith, length_push read x) in
    subst (λ (i : ℕ). IsSkipped (read ++ x ∷ text) i d) at (subst (λ (us : List Seen). IsSkipped us (length (read ++ x ∷ []) + j) d) (joined read x text) there))
    h

-- where the count doesn't end it, nothing does
unfound_at : (read : List Seen) (x : Seen) (text : List Seen) (o : Option Ender) (behind : Option (ℕ × Ender)) →
    (o ≡ None → behind ≡ None → (k : ℕ) → ender_at (read ++ x ∷ text) k ≡ None) → counted_from o behind ≡ None → (k : ℕ) → ender_at (read ++ x ∷ text) k ≡ None
unfound_at read x text (Some d) behind later h = absurd (cc)
unfound_at read x text None None later h = later refl refl
unfound_at read x text None (Some (j, d)) later h = absurd (cc)

unfound : (read text : List Seen) (n : ℕ) → GoesOn n read → length read + length text < greatest_count → counted n text ≡ None → (k : ℕ) → ender_at (read ++ text) k ≡ None
unfound read [] n g small h = λ k. ap (λ (us : List Seen). ender_at us k) (append-nil read) ∙ g.none k
unfound read (x ∷ text) n g small h =
    unfound_at read x text (ends_at n (part x.meaning)) (counted (open_behind n (part x.meaning)) text)
    (λ none rest k.
    let next : GoesOn (open_behind n (part x.meaning)) (read ++ x ∷ []) =
    goes_on n read x (part x.meaning) refl (omega (arith, small, few n read g)) g none in
    ap (λ (us : List Seen). ender_at us k) (sym (joined read x text))
    ∙ unfound (read ++ x ∷ []) text (open_behind n (part x.meaning)) next (small_more read x text small) rest k)
    h

-- FROM THE FIRST TOKEN ON
whole : (text : List Seen) (k : ℕ) (e : Ender) → length text < greatest_count → counted 0 text ≡ Some (k, e) → IsSkipped text k e
whole text k e small h = subst (λ (i : ℕ). IsSkipped text i e) (omega arith) (found [] text 0 k e begun (omega (arith, small)) h)

all : (text : List Seen) (k : ℕ) (e : Ender) (o : Option (ℕ × Ender)) → length text < greatest_count → counted 0 text ≡ o → IsSkipped text k e → o ≡ Some (k, e)
all text k e None small is s = absurd (let none : ender_at text k ≡ None = unfound [] text 0 begun (omega (arith, small)) is k in let some : ender_at text k ≡ Some e = s.ends in (cc))
all text k e (Some (j, d)) small is s =
    let once : TextsEndOnce = texts_end_once in
    let same : (j ≡ k) × (d ≡ e) = once.one text j k d e (whole text j d small is) s in
    let first : j ≡ k = same.0 in
    let second : d ≡ e = same.1 in
    cc

pub texts_are_counted : TextsAreCounted
texts_are_counted = record { ends = whole; all = λ text k e small s. all text k e (counted 0 text) small refl s }
