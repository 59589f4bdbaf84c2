-- The way of a search, before and after a number was put into a vacant slot; numbers and names.
use Rattle.std.proofs.Common.{◌≡◌, ◌≢◌, ℕ, zero, suc, ◌+◌, ◌-◌, ◌*◌, ◌<◌, ◌≤◌, true, false, List, [], ◌∷◌, length, get_or, set, Some, None, bytes_eq, refl, ap, sym, ◌∙◌, subst, arith, ◌⊎◌, inl, inr}
use Rattle.std.proofs.lemmas.List.{get_or-set_other, get_or-set_same, get_or-map, length-map}
use Rattle.std.proofs.lemmas.Slice.Eq.{bytes_eq-Decides}
use Rattle.std.proofs.lemmas.Bool.{cases_lt, false≢true}
use Rattle.cs_hash.specs.Names.{Names, string_at, entered, number_from, name_number, Knows}
use Rattle.cs_hash.specs.Entry.{IsVacant, IsEntered}
use Rattle.cs_hash.specs.Index.{slot_at, turn_of, Leads}

-- a write into a vacant slot changes no way that passes no vacant slot
pub slot_at-set : (size : ℕ) (index name : List ℕ) (s v depth : ℕ) → get_or index s 0 ≡ 0 → ((i : ℕ) → i < depth → get_or index (slot_at size index name i) 0 ≢ 0) → slot_at size (set index s v) name depth ≡ slot_at size index name depth
unfolding slot_at
slot_at-set size index name s v zero vacant passed = refl
slot_at-set size index name s v (suc d) vacant passed =
    let before : slot_at size (set index s v) name d ≡ slot_at size index name d = slot_at-set size index name s v d vacant (λ i below. passed i (omega arith)) in
    let other : slot_at size index name d ≢ s = λ same. passed d (omega arith) (ap (λ (k : ℕ). get_or index k 0) same ∙ vacant) in
    let read : get_or (set index s v) (slot_at size (set index s v) name d) 0 ≡ get_or index (slot_at size index name d) 0 =
    ap (λ (k : ℕ). get_or (set index s v) k 0) before ∙ get_or-set_other index s (slot_at size index name d) v 0 other in
    ap (λ (k : ℕ). size + 2 * k + turn_of name d) read

-- what stands in a slot that isn't vacant stays
read-set : (size : ℕ) (index name : List ℕ) (s v depth : ℕ) → get_or index s 0 ≡ 0 → ((i : ℕ) → i < depth → get_or index (slot_at size index name i) 0 ≢ 0) → get_or index (slot_at size index name depth) 0 ≢ 0 → get_or (set index s v) (slot_at size (set index s v) name depth) 0 ≡ get_or index (slot_at size index name depth) 0
read-set size index name s v d vacant passed there =
    let before : slot_at size (set index s v) name d ≡ slot_at size index name d = slot_at-set size index name s v d vacant passed in
    let other : slot_at size index name d ≢ s = λ same. there (ap (λ (k : ℕ). get_or index k 0) same ∙ vacant) in
    ap (λ (k : ℕ). get_or (set index s v) k 0) before ∙ get_or-set_other index s (slot_at size index name d) v 0 other

passed-set : (size : ℕ) (index name : List ℕ) (s v depth : ℕ) → get_or index s 0 ≡ 0 → ((i : ℕ) → i < depth → get_or index (slot_at size index name i) 0 ≢ 0) → (i : ℕ) → i < depth → get_or (set index s v) (slot_at size (set index s v) name i) 0 ≢ 0
passed-set size index name s v depth vacant passed i below nothing =
    passed i below (sym (read-set size index name s v i vacant (λ k lower. passed k (omega arith)) (passed i below)) ∙ nothing)

-- a name that is found is found afterwards too
pub Leads-set : (size : ℕ) (index name : List ℕ) (number s v : ℕ) → get_or index s 0 ≡ 0 → number ≢ 0 → Leads size index name number → Leads size (set index s v) name number
Leads-set size index name number s v vacant some leads =
    let there : get_or index (slot_at size index name leads.depth) 0 ≢ 0 = λ nothing. some (sym leads.found ∙ nothing) in
    record {
      depth = leads.depth;
      found = read-set size index name s v leads.depth vacant leads.passed there ∙ leads.found;
      passed = passed-set size index name s v leads.depth vacant leads.passed;
    }

-- a name whose search came to the slot is found there
pub Leads-new : (size : ℕ) (index name : List ℕ) (s v depth : ℕ) → s ≡ slot_at size index name depth → s < length index → get_or index s 0 ≡ 0 → ((i : ℕ) → i < depth → get_or index (slot_at size index name i) 0 ≢ 0) → Leads size (set index s v) name v
Leads-new size index name s v depth at inside vacant passed =
    let same : slot_at size (set index s v) name depth ≡ s = slot_at-set size index name s v depth vacant passed ∙ sym at in
    record {
      depth = depth;
      found = ap (λ (k : ℕ). get_or (set index s v) k 0) same ∙ get_or-set_same index s v 0 inside;
      passed = passed-set size index name s v depth vacant passed;
    }

-- two searches for one name meet: one that is led to a number passed no vacant slot
pub met : (size : ℕ) (index name : List ℕ) (number depth : ℕ) → Leads size index name number → number ≢ 0 → get_or index (slot_at size index name depth) 0 ≡ 0 → ((i : ℕ) → i < depth → get_or index (slot_at size index name i) 0 ≢ number) → ⊥
met size index name number depth leads some vacant others = by_cases (cases_lt leads.depth depth)
  where
    last : (a b : ℕ) → a ≡ b → get_or index (slot_at size index name a) 0 ≡ number → get_or index (slot_at size index name b) 0 ≡ 0 → ⊥
    last a b same found nothing = some (sym found ∙ ap (λ (k : ℕ). get_or index (slot_at size index name k) 0) same ∙ nothing)

    further : (depth ≤ leads.depth) → ⊥
    further above = later (cases_lt depth leads.depth)
      where
        later : (depth < leads.depth) ⊎ (leads.depth ≤ depth) → ⊥
        later (inl h) = leads.passed depth h vacant
        later (inr h) = last leads.depth depth (omega arith) leads.found vacant

    by_cases : (leads.depth < depth) ⊎ (depth ≤ leads.depth) → ⊥
    by_cases (inl h) = others leads.depth h leads.found
    by_cases (inr h) = further h

-- names and their numbers

same_bytes : (a b : List ℕ) → a ≡ b → bytes_eq a b ≡ true
same_bytes a b e = grind (arith, bytes_eq-Decides a b)

other_bytes : (a b : List ℕ) → a ≢ b → bytes_eq a b ≡ false
other_bytes a b e = grind (arith, bytes_eq-Decides a b)

pub number_from-found : (k : ℕ) (names : List (List ℕ)) (name : List ℕ) (i : ℕ) → i < length names → get_or names i [] ≡ name → ((j : ℕ) → j < i → get_or names j [] ≢ name) → number_from k names name ≡ Some (k + i)
unfolding number_from
number_from-found k [] name i below is before = absurd (omega arith)
number_from-found k (first ∷ names) name zero below is before = rw (same_bytes first name is) (ap (λ (n : ℕ). Some n) (omega arith))
number_from-found k (first ∷ names) name (suc i) below is before =
    let rest : number_from (suc k) names name ≡ Some (suc k + i) = number_from-found (suc k) names name i (omega arith) is (λ j lower. before (suc j) (omega arith)) in
    let first_other : first ≢ name = before zero (omega arith) in
    rw (other_bytes first name first_other) (rest ∙ ap (λ (n : ℕ). Some n) (omega arith))

pub number_from-absent : (k : ℕ) (names : List (List ℕ)) (name : List ℕ) → ((j : ℕ) → j < length names → get_or names j [] ≢ name) → number_from k names name ≡ None
unfolding number_from
number_from-absent k [] name others = refl
number_from-absent k (first ∷ names) name others =
    rw (other_bytes first name (others zero (omega arith))) (number_from-absent (suc k) names name (λ j below. others (suc j) (omega arith)))

pub bytes_from : (a b : List ℕ) → bytes_eq a b ≡ true → a ≡ b
bytes_from a b e = grind (arith, bytes_eq-Decides a b)

pub bytes_apart : (a b : List ℕ) → bytes_eq a b ≡ false → a ≢ b
bytes_apart a b e same = false≢true (sym e ∙ same_bytes a b same)

-- what a search says of all names: at a vacant slot the name is none of them

pub not_there : (hash : Names) (kept : List (List ℕ)) (name : List ℕ) (slot : ℕ) → Knows hash kept → IsVacant hash kept name slot → (j : ℕ) → j < length hash.strings → string_at kept (get_or hash.strings j 0) ≢ name
not_there hash kept name slot knows free j inside named =
    let leads : Leads hash.hash_size hash.index (string_at kept (get_or hash.strings j 0)) (suc j) = knows.led j inside in
    let Led : List ℕ → Type 0 = λ bytes. Leads hash.hash_size hash.index bytes (suc j) in
    let same : suc j - 1 ≡ j = omega arith in
    met hash.hash_size hash.index name (suc j) free.depth (subst Led named leads) (λ nothing. absurd (omega (arith, nothing))) (ap (λ (k : ℕ). get_or hash.index k 0) (sym free.at.slot_is) ∙ free.vacant)
    (λ i lower is_j. free.at.others i lower (ap (λ (k : ℕ). string_at kept (get_or hash.strings (k - 1) 0)) is_j ∙ ap (λ (k : ℕ). string_at kept (get_or hash.strings k 0)) same ∙ named))

pub absent : (hash : Names) (kept : List (List ℕ)) (name : List ℕ) (slot : ℕ) → Knows hash kept → IsVacant hash kept name slot → name_number (entered hash kept) name ≡ None
absent hash kept name slot knows free =
    number_from-absent 1 (entered hash kept) name (λ j below is.
    let inside : j < length hash.strings = omega (arith, below, length-map hash.strings (string_at kept)) in
    not_there hash kept name slot knows free j inside (sym (get_or-map (string_at kept) hash.strings j 0 [] inside) ∙ is))

-- and a name that was found has this number, and no other
pub present : (hash : Names) (kept : List (List ℕ)) (name : List ℕ) (number : ℕ) → Knows hash kept → IsEntered hash kept name number → name_number (entered hash kept) name ≡ Some number
present hash kept name number knows found =
    let below : number - 1 < length hash.strings = omega (arith, found.first, found.last) in
    let inside : number - 1 < length (entered hash kept) = omega (arith, below, length-map hash.strings (string_at kept)) in
    let at : get_or (entered hash kept) (number - 1) [] ≡ name = get_or-map (string_at kept) hash.strings (number - 1) 0 [] below ∙ found.named in
    number_from-found 1 (entered hash kept) name (number - 1) inside at (λ j lower is.
    let j_below : j < length hash.strings = omega (arith, lower, below) in
    let same : j ≡ number - 1 = knows.distinct j (number - 1) j_below below (sym (get_or-map (string_at kept) hash.strings j 0 [] j_below) ∙ is ∙ sym found.named) in
    omega (arith, same, lower))
    ∙ ap (λ (k : ℕ). Some k) (omega (arith, found.first))
