-- The lists that are held take as many words under other numbers.
use Rattle.std.proofs.Common.{◌≡◌, ℕ, zero, suc, ◌+◌, ◌<◌, ◌≤◌, Bool, true, false, ◌||◌, ◌⊎◌, List, [], ◌∷◌, length, map, Option, refl, ap, ◌∙◌, ⊎_elim, inl, inr, arith}
use Rattle.std.specs.Prelude.{◌==◌, if◌then◌else◌, slice_index_or}
use Rattle.std.proofs.lemmas.Bool.{eqb-true, eq-eqb, ne_eqb, or_cases, or_left, or_right, cases_Bool, false_from_ne_true}
use Rattle.tex_defs.specs.declared.Token.{Token}
use Rattle.plain_tokens.specs.Puts.{Put, Whole, Own, Macro}
use Rattle.plain_tokens.specs.Meanings.{is_listed}
use Rattle.plain_tokens.specs.Tables.{list_words, is_whole, is_put, held_words}
use Rattle.equivalents.specs.Groups.{Groups}
use Rattle.equivalents.specs.Holding.{lists_held, shared_words}
use Rattle.plain_machine.specs.Numbers.{whole_of, puts_of, groups_of, Tied}
use Rattle.plain_machine.proofs.Renumbering.{held_words_of}
use Rattle.plain_machine.proofs.Holders.{held_as}

abbrev is_held : List ℕ → List Put → ℕ → Bool
is_held held puts n = is_listed held n || is_put n puts

-- the words of the lists whose numbers pass, the first of which has the number n
abbrev tally : (ℕ → Bool) → ℕ → List (List Token) → ℕ
tally p n [] = 0
tally p n (ts ∷ lists) = (if p n then list_words ts else 0) + tally p (suc n) lists

tally_is : (held : List ℕ) (puts : List Put) (n : ℕ) (lists : List (List Token)) → shared_words n held puts lists ≡ tally (is_held held puts) n lists
tally_is held puts n [] = refl
tally_is held puts n (ts ∷ lists) = ap (λ (k : ℕ). (if is_held held puts n then list_words ts else 0) + k) (tally_is held puts (suc n) lists)

tally_same : (p q : ℕ → Bool) (n : ℕ) (lists : List (List Token)) → ((k : ℕ) → n ≤ k → p k ≡ q k) → tally p n lists ≡ tally q n lists
tally_same p q n [] h = refl
tally_same p q n (ts ∷ lists) h =
    let here : p n ≡ q n = h n (omega arith) in
    ap (λ (b : Bool). (if b then list_words ts else 0) + tally p (suc n) lists) here
    ∙ ap (λ (k : ℕ). (if q n then list_words ts else 0) + k) (tally_same p q (suc n) lists (λ k l. h k (omega arith)))

tally_none : (p : ℕ → Bool) (n : ℕ) (lists : List (List Token)) → ((k : ℕ) → p k ≡ false) → tally p n lists ≡ 0
tally_none p n [] h = refl
tally_none p n (ts ∷ lists) h = ap (λ (b : Bool). (if b then list_words ts else 0) + tally p (suc n) lists) (h n) ∙ omega (arith, tally_none p (suc n) lists h)

-- all that pass but one
abbrev without : ℕ → (ℕ → Bool) → ℕ → Bool
without m p k = if k == m then false else p k

without_other : (m k : ℕ) (p : ℕ → Bool) → (k ≡ m → ⊥) → without m p k ≡ p k
without_other m k p h = ap (λ (b : Bool). if b then false else p k) (ne_eqb k m h)

without_itself : (m k : ℕ) (p : ℕ → Bool) → k ≡ m → without m p k ≡ false
without_itself m k p h = ap (λ (b : Bool). if b then false else p k) (eq-eqb k m h)

apart_from : (m k : ℕ) (p : ℕ → Bool) → without m p k ≡ true → k ≡ m → ⊥
apart_from m k p h e = let f : without m p k ≡ false = without_itself m k p e in cc

passes : (m k : ℕ) (p : ℕ → Bool) → without m p k ≡ true → p k ≡ true
passes m k p h = let e : without m p k ≡ p k = without_other m k p (apart_from m k p h) in cc

tally_out : (p : ℕ → Bool) (i j m : ℕ) (lists : List (List Token)) → m ≡ i + j → p m ≡ true → j < length lists → tally p i lists ≡ list_words (slice_index_or lists j []) + tally (without m p) i lists
tally_out p i j m [] e h l = absurd (omega arith)
tally_out p i zero m (ts ∷ lists) e h l =
    let same : i ≡ m = omega arith in
    let here : p i ≡ true = ap p same ∙ h in
    let gone : without m p i ≡ false = without_itself m i p same in
    let rest : tally p (suc i) lists ≡ tally (without m p) (suc i) lists = tally_same p (without m p) (suc i) lists (λ k b. let e : without m p k ≡ p k = without_other m k p (λ a. omega arith) in cc) in
    let left : tally p i (ts ∷ lists) ≡ list_words ts + tally p (suc i) lists = ap (λ (b : Bool). (if b then list_words ts else 0) + tally p (suc i) lists) here in
    let right : tally (without m p) i (ts ∷ lists) ≡ 0 + tally (without m p) (suc i) lists = ap (λ (b : Bool). (if b then list_words ts else 0) + tally (without m p) (suc i) lists) gone in
    omega arith
tally_out p i (suc j) m (ts ∷ lists) e h l =
    let other : without m p i ≡ p i = without_other m i p (λ a. omega arith) in
    let rest : tally p (suc i) lists ≡ list_words (slice_index_or lists j []) + tally (without m p) (suc i) lists = tally_out p (suc i) j m lists (omega arith) h (omega arith) in
    let right : tally (without m p) i (ts ∷ lists) ≡ (if p i then list_words ts else 0) + tally (without m p) (suc i) lists = ap (λ (b : Bool). (if b then list_words ts else 0) + tally (without m p) (suc i) lists) other in
    omega arith

-- Those that pass have their lists under their other numbers, where no others pass.
record Renumbers (number : ℕ → ℕ) (all_lists lists : List (List Token)) (p q : ℕ → Bool) : Type 0 where
  inside : (n : ℕ) → p n ≡ true → n < length lists
  within : (n : ℕ) → p n ≡ true → number n < length all_lists
  tokens : (n : ℕ) → p n ≡ true → slice_index_or all_lists (number n) [] ≡ slice_index_or lists n []
  apart : (n m : ℕ) → p n ≡ true → p m ≡ true → number n ≡ number m → n ≡ m
  forth : (n : ℕ) → p n ≡ true → q (number n) ≡ true
  back : (m : ℕ) → q m ≡ true → (n : ℕ) × (p n ≡ true) × (number n ≡ m)

module _ (number : ℕ → ℕ) (all_lists lists : List (List Token)) where
  one_less : (p q : ℕ → Bool) (k : ℕ) → p k ≡ true → Renumbers number all_lists lists p q → Renumbers number all_lists lists (without k p) (without (number k) q)
  one_less p q k h r = record {
    inside = λ n a. r.inside n (passes k n p a);
    within = λ n a. r.within n (passes k n p a);
    tokens = λ n a. r.tokens n (passes k n p a);
    apart = λ n m a b. r.apart n m (passes k n p a) (passes k m p b);
    forth = λ n a. without_other (number k) (number n) q (λ e. apart_from k n p a (r.apart n k (passes k n p a) h e)) ∙ r.forth n (passes k n p a);
    back = λ m a.
        let b : (n : ℕ) × (p n ≡ true) × (number n ≡ m) = r.back m (passes (number k) m q a) in
        (b.0, without_other k b.0 p (λ e. apart_from (number k) m q a (let s : number b.0 ≡ number k = ap number e in let t : number b.0 ≡ m = b.2 in cc)) ∙ b.1, b.2);
  }

  -- by taking out one at a time
  step : (bound : ℕ) (p q : ℕ → Bool) → Renumbers number all_lists lists p q → ((n : ℕ) → p n ≡ true → n < suc bound)
      → ((p' q' : ℕ → Bool) → Renumbers number all_lists lists p' q' → ((n : ℕ) → p' n ≡ true → n < bound) → tally q' 0 all_lists ≡ tally p' 0 lists)
      → (p bound ≡ true) ⊎ (p bound ≡ false) → tally q 0 all_lists ≡ tally p 0 lists
  step bound p q r below fewer (inl h) =
      let k : ℕ = number bound in
      let out : tally q 0 all_lists ≡ list_words (slice_index_or all_lists k []) + tally (without k q) 0 all_lists = tally_out q 0 k k all_lists (omega arith) (r.forth bound h) (r.within bound h) in
      let same : list_words (slice_index_or all_lists k []) ≡ list_words (slice_index_or lists bound []) = ap list_words (r.tokens bound h) in
      let gone : tally p 0 lists ≡ list_words (slice_index_or lists bound []) + tally (without bound p) 0 lists = tally_out p 0 bound bound lists (omega arith) h (r.inside bound h) in
      let rest : tally (without k q) 0 all_lists ≡ tally (without bound p) 0 lists = fewer (without bound p) (without k q) (one_less p q bound h r) (λ n a. let l : n < suc bound = below n (passes bound n p a) in let d : n ≡ bound → ⊥ = apart_from bound n p a in omega arith) in
      omega arith
  step bound p q r below fewer (inr h) = fewer p q r (λ n a. let l : n < suc bound = below n a in let d : n ≡ bound → ⊥ = λ e. (let s : p n ≡ p bound = ap p e in cc) in omega arith)

  tally_renumbered : (bound : ℕ) (p q : ℕ → Bool) → Renumbers number all_lists lists p q → ((n : ℕ) → p n ≡ true → n < bound) → tally q 0 all_lists ≡ tally p 0 lists
  tally_renumbered zero p q r below =
      let none : (n : ℕ) → p n ≡ false = λ n. false_from_ne_true (p n) (λ h. let l : n < 0 = below n h in omega arith) in
      let nor : (m : ℕ) → q m ≡ false = λ m. false_from_ne_true (q m) (λ h. let b : (n : ℕ) × (p n ≡ true) × (number n ≡ m) = r.back m h in let l : b.0 < 0 = below b.0 b.1 in omega arith) in
      tally_none q 0 all_lists nor ∙ (let e : tally p 0 lists ≡ 0 = tally_none p 0 lists none in cc)
  tally_renumbered (suc bound) p q r below = step bound p q r below (tally_renumbered bound) (cases_Bool (p bound))

-- WHAT IS HELD UNDER THE OTHER NUMBERS

pub either : (a b c d : Bool) → (a ≡ true → c ≡ true) → (b ≡ true → d ≡ true) → (a || b) ≡ true → (c || d) ≡ true
either a b c d f g h = ⊎_elim (λ e. or_left c d (f e)) (λ e. or_right c d (g e)) (or_cases a b h)

module _ (number : ℕ → ℕ) where
  listed_forth : (n : ℕ) (ns : List ℕ) → is_listed ns n ≡ true → is_listed (map number ns) (number n) ≡ true
  listed_forth n [] h = cc
  listed_forth n (k ∷ ns) h = either (k == n) (is_listed ns n) (number k == number n) (is_listed (map number ns) (number n)) (λ e. eq-eqb (number k) (number n) (ap number (eqb-true k n e))) (listed_forth n ns) h

  whole_forth : (n : ℕ) (w : Whole) → is_whole n w ≡ true → is_whole (number n) (whole_of number w) ≡ true
  whole_forth n (Own ts) h = cc
  whole_forth n (Macro k) h = eq-eqb (number k) (number n) (ap number (eqb-true k n h))

  put_forth : (n : ℕ) (puts : List Put) → is_put n puts ≡ true → is_put (number n) (puts_of number puts) ≡ true
  put_forth n [] h = cc
  put_forth n (p ∷ ps) h = either (is_whole n p.list) (is_put n ps) (is_whole (number n) (whole_of number p.list)) (is_put (number n) (puts_of number ps)) (whole_forth n p.list) (put_forth n ps) h

  -- one that passes has this other number
  abbrev Renumbered : (ℕ → Bool) → ℕ → Type 0
  Renumbered p k = (n : ℕ) × (p n ≡ true) × (number n ≡ k)

  one_of : (p q : ℕ → Bool) (a b : Bool) (k : ℕ) → (a ≡ true → Renumbered p k) → (b ≡ true → Renumbered q k) → (a || b) ≡ true → Renumbered (λ n. p n || q n) k
  one_of p q a b k f g h =
      ⊎_elim (λ e. (let x : Renumbered p k = f e in (x.0, or_left (p x.0) (q x.0) x.1, x.2)))
      (λ e. (let x : Renumbered q k = g e in (x.0, or_right (p x.0) (q x.0) x.1, x.2))) (or_cases a b h)

  number_back : (k n : ℕ) → (number n == k) ≡ true → Renumbered (λ m. n == m) k
  number_back k n h = (n, eq-eqb n n refl, eqb-true (number n) k h)

  listed_back : (k : ℕ) (ns : List ℕ) → is_listed (map number ns) k ≡ true → Renumbered (is_listed ns) k
  listed_back k [] h = cc
  listed_back k (n ∷ ns) h = one_of (λ m. n == m) (is_listed ns) (number n == k) (is_listed (map number ns) k) k (number_back k n) (listed_back k ns) h

  whole_back : (k : ℕ) (w : Whole) → is_whole k (whole_of number w) ≡ true → Renumbered (λ n. is_whole n w) k
  whole_back k (Own ts) h = cc
  whole_back k (Macro n) h = (n, eq-eqb n n refl, eqb-true (number n) k h)

  put_back : (k : ℕ) (puts : List Put) → is_put k (puts_of number puts) ≡ true → Renumbered (λ n. is_put n puts) k
  put_back k [] h = cc
  put_back k (p ∷ ps) h = one_of (λ n. is_whole n p.list) (λ n. is_put n ps) (is_whole k (whole_of number p.list)) (is_put k (puts_of number ps)) k (whole_back k p.list) (put_back k ps) h

  module _ (held : List ℕ) (puts : List Put) where
    held_forth : (n : ℕ) → is_held held puts n ≡ true → is_held (map number held) (puts_of number puts) (number n) ≡ true
    held_forth n h = either (is_listed held n) (is_put n puts) (is_listed (map number held) (number n)) (is_put (number n) (puts_of number puts)) (listed_forth n held) (put_forth n puts) h

    held_back : (k : ℕ) → is_held (map number held) (puts_of number puts) k ≡ true → Renumbered (is_held held puts) k
    held_back k h = one_of (is_listed held) (λ n. is_put n puts) (is_listed (map number held) k) (is_put k (puts_of number puts)) k (listed_back k held) (put_back k puts) h

-- THE WORDS ARE THE SAME

shared_tied : (number : ℕ → ℕ) (all_lists : List (List Token)) (held : List ℕ) (puts : List Put) (lists : List (List Token)) → Tied number all_lists held puts lists → shared_words 0 (map number held) (puts_of number puts) all_lists ≡ shared_words 0 held puts lists
shared_tied number all_lists held puts lists t =
    let r : Renumbers number all_lists lists (is_held held puts) (is_held (map number held) (puts_of number puts)) = record {
      inside = t.inside;
      within = t.within;
      tokens = t.tokens;
      apart = t.apart;
      forth = held_forth number held puts;
      back = held_back number held puts;
    } in
    let left : shared_words 0 (map number held) (puts_of number puts) all_lists ≡ tally (is_held (map number held) (puts_of number puts)) 0 all_lists = tally_is (map number held) (puts_of number puts) 0 all_lists in
    let right : shared_words 0 held puts lists ≡ tally (is_held held puts) 0 lists = tally_is held puts 0 lists in
    let between : tally (is_held (map number held) (puts_of number puts)) 0 all_lists ≡ tally (is_held held puts) 0 lists = tally_renumbered number all_lists lists (length lists) (is_held held puts) (is_held (map number held) (puts_of number puts)) r t.inside in
    cc

pub words_tied : (number : ℕ → ℕ) (all_lists : List (List Token)) (g : Groups) (puts : List Put) (lists : List (List Token)) → Tied number all_lists (lists_held g) puts lists → shared_words 0 (lists_held (groups_of number g)) (puts_of number puts) all_lists ≡ shared_words 0 (lists_held g) puts lists
words_tied number all_lists g puts lists t = ap (λ (held : List ℕ). shared_words 0 held (puts_of number puts) all_lists) (held_as number g) ∙ shared_tied number all_lists (lists_held g) puts lists t

-- all words of main memory
pub all_words_tied : (number : ℕ → ℕ) (all_lists : List (List Token)) (g : Groups) (puts : List Put) (lists : List (List Token)) (making : Option (List Token)) (gathered : List (List Token)) → Tied number all_lists (lists_held g) puts lists →
    shared_words 0 (lists_held (groups_of number g)) (puts_of number puts) all_lists + held_words (puts_of number puts) making gathered ≡ shared_words 0 (lists_held g) puts lists + held_words puts making gathered
all_words_tied number all_lists g puts lists making gathered t = rw (words_tied number all_lists g puts lists t, held_words_of number puts making gathered)
