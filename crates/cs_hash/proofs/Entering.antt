-- What entering a name keeps and changes.
use Rattle.std.proofs.Common.{◌≡◌, ◌≢◌, ℕ, zero, suc, ◌+◌, ◌<◌, ◌≤◌, ◌==◌, nat_lt, map, Bool, true, false, List, [], ◌∷◌, ◌++◌, length, get_or, set, Option, Some, None, Ok, Err, Result, ◌⊎◌, refl, ap, sym, ◌∙◌, subst, eq-eqb, arith, inl, inr, if◌then◌else◌}
use Rattle.std.proofs.lemmas.Bool.{cases_lt}
use Rattle.std.proofs.lemmas.List.{length-append, get_or_append_left, get_or_push, length_push, map_push}
use Rattle.tex_defs.specs.declared.Full.{Full}
use Rattle.tex_defs.specs.declared.Table.TheVariants.{PoolSize, NumberOfStrings, HashSize}
use Rattle.string_pool.specs.Pool.{Pool, kept_bytes}
use Rattle.cs_hash.specs.Names.{Names, string_at, entered, name_number, Knows}
use Rattle.cs_hash.specs.Index.{Leads}
use Rattle.cs_hash.specs.Entry.{IsEntered, IsVacant, Enters, hash_refusal, entry_refusal, with_string}
use Rattle.cs_hash.proofs.Paths.{Leads-set, Leads-new, not_there, absent, present}

abbrev as_ok : ℕ → Result ℕ Full
as_ok n = Ok n

abbrev as_err : Full → Result ℕ Full
as_err full = Err full

some_none : (a : ℕ) → Some a ≡ None → ⊥
some_none a e = cc

full_none : (f : Full) → Some f ≡ None → ⊥
full_none f e = cc

same_some : (a b : ℕ) → Some a ≡ Some b → a ≡ b
same_some a b e = cc

same_full : (f g : Full) → Some f ≡ Some g → f ≡ g
same_full f g e = cc

pub enters_there : (hash : Names) (pool : Pool) (name : List ℕ) (number : ℕ) → Knows hash pool.kept → IsEntered hash pool.kept name number → Enters hash hash pool pool name (Ok number)
enters_there hash pool name number knows found =
    let is : name_number (entered hash pool.kept) name ≡ Some number = present hash pool.kept name number knows found in
    record {
      there = λ k at. (ap (λ (n : ℕ). as_ok n) (same_some number k (sym is ∙ at)), record { hash_same = refl; pool_same = refl });
      refused = λ full none why. absurd (some_none number (sym is ∙ none));
      fresh = λ none room. absurd (some_none number (sym is ∙ none));
    }

pub enters_refused : (hash : Names) (pool pool' : Pool) (name : List ℕ) (slot : ℕ) (full : Full) → Knows hash pool.kept → IsVacant hash pool.kept name slot → pool' ≡ pool → entry_refusal hash pool name ≡ Some full → Enters hash hash pool pool' name (Err full)
enters_refused hash pool pool' name slot full knows free same why =
    let is : name_number (entered hash pool.kept) name ≡ None = absent hash pool.kept name slot knows free in
    record {
      there = λ k at. absurd (some_none k (sym at ∙ is));
      refused = λ other none cause. (ap (λ (f : Full). as_err f) (same_full full other (sym why ∙ cause)), record { hash_same = refl; pool_same = same });
      fresh = λ none room. absurd (full_none full (sym why ∙ room));
    }

-- strings that are kept behind the others change no name
pub names_more : (strings : List ℕ) (kept more : List (List ℕ)) → ((i : ℕ) → i < length strings → get_or strings i 0 < length kept) → map (string_at (kept ++ more)) strings ≡ map (string_at kept) strings
names_more [] kept more within = refl
names_more (first ∷ strings) kept more within =
    let head : string_at (kept ++ more) first ≡ string_at kept first = get_or_append_left kept more [] first (within zero (omega arith)) in
    let rest : map (string_at (kept ++ more)) strings ≡ map (string_at kept) strings = names_more strings kept more (λ i below. within (suc i) (omega arith)) in
    rw (head, rest) refl

pub entered_more : (hash : Names) (kept more : List (List ℕ)) → Knows hash kept → entered hash (kept ++ more) ≡ entered hash kept
entered_more hash kept more knows = names_more hash.strings kept more knows.within

pub knows_longer : (hash : Names) (kept more : List (List ℕ)) → Knows hash kept → Knows hash (kept ++ more)
knows_longer hash kept more knows =
    let same : (i : ℕ) → i < length hash.strings → string_at (kept ++ more) (get_or hash.strings i 0) ≡ string_at kept (get_or hash.strings i 0) =
    λ i below. get_or_append_left kept more [] (get_or hash.strings i 0) (knows.within i below) in
    record {
      within = λ i below. omega (arith, knows.within i below, length-append kept more);
      distinct = λ i j i_below j_below alike. knows.distinct i j i_below j_below (sym (same i i_below) ∙ alike ∙ same j j_below);
      led = λ i below.
          let Led : List ℕ → Type 0 = λ bytes. Leads hash.hash_size hash.index bytes (suc i) in
          subst Led (sym (same i below)) (knows.led i below);
    }

entered_gains : (hash : Names) (strings' : List ℕ) (kept kept' : List (List ℕ)) (name : List ℕ) (string : ℕ) → Knows hash kept → string ≡ length kept → strings' ≡ hash.strings ++ string ∷ [] → kept' ≡ kept ++ name ∷ [] → map (string_at kept') strings' ≡ map (string_at kept) hash.strings ++ name ∷ []
entered_gains hash strings' kept kept' name string knows last gained more =
    let new : string_at (kept ++ name ∷ []) (length kept) ≡ name = get_or_push kept name [] (length kept) refl in
    rw (gained, last, more, map_push (string_at (kept ++ name ∷ [])) hash.strings (length kept), names_more hash.strings kept (name ∷ []) knows.within, new) refl

pub enters_fresh : (hash hash' : Names) (pool pool' : Pool) (name : List ℕ) (slot number string : ℕ) → Knows hash pool.kept → IsVacant hash pool.kept name slot → pool' ≡ with_string pool name → entry_refusal hash pool name ≡ None → number ≡ length hash.strings + 1 → string ≡ length pool.kept → hash'.strings ≡ hash.strings ++ string ∷ [] → hash'.hash_size ≡ hash.hash_size → Enters hash hash' pool pool' name (Ok number)
enters_fresh hash hash' pool pool' name slot number string knows free kept room next last strings size =
    let is : name_number (entered hash pool.kept) name ≡ None = absent hash pool.kept name slot knows free in
    record {
      there = λ k at. absurd (some_none k (sym at ∙ is));
      refused = λ other none cause. absurd (full_none other (sym cause ∙ room));
      fresh = λ none free. (
        ap (λ (n : ℕ). as_ok n) next,
        record {
          names = entered_gains hash hash'.strings pool.kept pool'.kept name string knows last strings (ap (λ (p : Pool). p.kept) kept);
          string = strings ∙ ap (λ (k : ℕ). hash.strings ++ k ∷ []) last;
          size_same = size;
          kept = kept;
        },
      );
    }

other_none : (a b : Bool) (f g : Full) (other : Option Full) → (if a then Some f else (if b then Some g else other)) ≡ None → other ≡ None
other_none true b f g other e = absurd (full_none f e)
other_none false true f g other e = absurd (full_none g e)
other_none false false f g other e = e

refused_hash : (hash : Names) → (length hash.strings == hash.hash_size) ≡ true → hash_refusal hash ≡ Some (record { table = HashSize; used = length hash.strings; size = hash.hash_size })
refused_hash hash test = rw test refl

pub hash_room : (hash : Names) (pool : Pool) (name : List ℕ) → length hash.strings ≤ hash.hash_size → entry_refusal hash pool name ≡ None → length hash.strings < hash.hash_size
hash_room hash pool name fits room =
    let free : hash_refusal hash ≡ None = other_none (nat_lt pool.pool_size (kept_bytes pool + length name)) (length pool.kept == pool.number_of_strings) (record { table = PoolSize; used = kept_bytes pool; size = pool.pool_size }) (record { table = NumberOfStrings; used = length pool.kept; size = pool.number_of_strings }) (hash_refusal hash) room in
    let differ : length hash.strings ≢ hash.hash_size = λ same. full_none _ (sym (refused_hash hash (eq-eqb _ _ same)) ∙ free) in
    omega arith

-- the bytes of a name that was there
old_name : (strings : List ℕ) (kept : List (List ℕ)) (string : ℕ) (name : List ℕ) (i : ℕ) → i < length strings → get_or strings i 0 < length kept → string_at (kept ++ name ∷ []) (get_or (strings ++ string ∷ []) i 0) ≡ string_at kept (get_or strings i 0)
old_name strings kept string name i inside held =
    ap (string_at (kept ++ name ∷ [])) (get_or_append_left strings (string ∷ []) 0 i inside) ∙ get_or_append_left kept (name ∷ []) [] (get_or strings i 0) held

new_name : (strings : List ℕ) (kept : List (List ℕ)) (name : List ℕ) (i : ℕ) → length strings ≡ i → string_at (kept ++ name ∷ []) (get_or (strings ++ length kept ∷ []) i 0) ≡ name
new_name strings kept name i last =
    ap (string_at (kept ++ name ∷ [])) (get_or_push strings (length kept) 0 i last) ∙ get_or_push kept name [] (length kept) refl

knows_base : (hash : Names) (kept : List (List ℕ)) (name : List ℕ) (slot : ℕ) → Knows hash kept → IsVacant hash kept name slot → slot < length hash.index → Knows (record { strings = hash.strings ++ length kept ∷ []; hash_size = hash.hash_size; index = set hash.index slot (suc (length hash.strings)) }) (kept ++ name ∷ [])
knows_base hash kept name slot knows free inside = record {
  within = λ i below. elim (cases_lt i (length hash.strings)) [
    | inl old ↦ (let held : get_or hash.strings i 0 < length kept = knows.within i old in
        let same : get_or (hash.strings ++ length kept ∷ []) i 0 ≡ get_or hash.strings i 0 = get_or_append_left hash.strings (length kept ∷ []) 0 i old in
        omega (arith, same, held, length_push kept name))
    | inr late ↦ (let last : length hash.strings ≡ i = omega (arith, late, below, length_push hash.strings (length kept)) in
        omega (arith, get_or_push hash.strings (length kept) 0 i last, length_push kept name))
  ];
  distinct = λ i j i_below j_below same. apart i j (cases_lt i (length hash.strings)) (cases_lt j (length hash.strings)) i_below j_below same;
  led = λ i below. elim (cases_lt i (length hash.strings)) [
    | inl old ↦ (let Led : List ℕ → Type 0 = λ bytes. Leads hash.hash_size (set hash.index slot (suc (length hash.strings))) bytes (suc i) in
        subst Led (sym (old_name hash.strings kept (length kept) name i old (knows.within i old)))
        (Leads-set hash.hash_size hash.index (string_at kept (get_or hash.strings i 0)) (suc i) slot (suc (length hash.strings)) free.vacant (λ nothing. absurd (omega (arith, nothing))) (knows.led i old)))
    | inr late ↦ (let last : length hash.strings ≡ i = omega (arith, late, below, length_push hash.strings (length kept)) in
        let Led : List ℕ → ℕ → Type 0 = λ bytes k. Leads hash.hash_size (set hash.index slot (suc (length hash.strings))) bytes (suc k) in
        let Named : List ℕ → Type 0 = λ bytes. Led bytes i in
        let Numbered : ℕ → Type 0 = λ k. Led name k in
        subst Named (sym (new_name hash.strings kept name i last))
        (subst Numbered last (Leads-new hash.hash_size hash.index name slot (suc (length hash.strings)) free.depth free.at.slot_is inside free.vacant free.at.passed)))
  ];
}
  where
    apart : (i j : ℕ) → (i < length hash.strings) ⊎ (length hash.strings ≤ i) → (j < length hash.strings) ⊎ (length hash.strings ≤ j) → i < length (hash.strings ++ length kept ∷ []) → j < length (hash.strings ++ length kept ∷ []) → string_at (kept ++ name ∷ []) (get_or (hash.strings ++ length kept ∷ []) i 0) ≡ string_at (kept ++ name ∷ []) (get_or (hash.strings ++ length kept ∷ []) j 0) → i ≡ j
    apart i j (inl a) (inl b) i_below j_below same =
        knows.distinct i j a b (sym (old_name hash.strings kept (length kept) name i a (knows.within i a)) ∙ same ∙ old_name hash.strings kept (length kept) name j b (knows.within j b))
    apart i j (inl a) (inr b) i_below j_below same =
        let last : length hash.strings ≡ j = omega (arith, b, j_below, length_push hash.strings (length kept)) in
        absurd (not_there hash kept name slot knows free i a (sym (old_name hash.strings kept (length kept) name i a (knows.within i a)) ∙ same ∙ new_name hash.strings kept name j last))
    apart i j (inr a) (inl b) i_below j_below same =
        let last : length hash.strings ≡ i = omega (arith, a, i_below, length_push hash.strings (length kept)) in
        absurd (not_there hash kept name slot knows free j b (sym (old_name hash.strings kept (length kept) name j b (knows.within j b)) ∙ sym same ∙ new_name hash.strings kept name i last))
    apart i j (inr a) (inr b) i_below j_below same = omega (arith, a, b, i_below, j_below, length_push hash.strings (length kept))

pub knows_more : (hash hash' : Names) (kept kept' : List (List ℕ)) (name : List ℕ) (slot string : ℕ) → Knows hash kept → IsVacant hash kept name slot → slot < length hash.index → string ≡ length kept → hash'.strings ≡ hash.strings ++ string ∷ [] → hash'.hash_size ≡ hash.hash_size → hash'.index ≡ set hash.index slot (length hash.strings + 1) → kept' ≡ kept ++ name ∷ [] → Knows hash' kept'
knows_more hash hash' kept kept' name slot string knows free inside last strings size index more =
    let P : List ℕ → Type 0 = λ ss. Knows (record { strings = ss; hash_size = hash'.hash_size; index = hash'.index }) kept' in
    let Q : ℕ → Type 0 = λ k. Knows (record { strings = hash.strings ++ length kept ∷ []; hash_size = k; index = hash'.index }) kept' in
    let R : List ℕ → Type 0 = λ slots. Knows (record { strings = hash.strings ++ length kept ∷ []; hash_size = hash.hash_size; index = slots }) kept' in
    let S : List (List ℕ) → Type 0 = λ strs. Knows (record { strings = hash.strings ++ length kept ∷ []; hash_size = hash.hash_size; index = set hash.index slot (suc (length hash.strings)) }) strs in
    let e1 : hash'.strings ≡ hash.strings ++ length kept ∷ [] = strings ∙ ap (λ (k : ℕ). hash.strings ++ k ∷ []) last in
    let next : length hash.strings + 1 ≡ suc (length hash.strings) = omega arith in
    let e3 : hash'.index ≡ set hash.index slot (suc (length hash.strings)) = index ∙ ap (λ (k : ℕ). set hash.index slot k) next in
    subst P (sym e1) (subst Q (sym size) (subst R (sym e3) (subst S (sym more) (knows_base hash kept name slot knows free inside))))
