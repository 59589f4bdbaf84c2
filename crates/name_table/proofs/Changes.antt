-- What entering a name, and keeping another string, change.
use Rattle.std.proofs.Common.{◌≡◌, ℕ, ◌+◌, ◌<◌, ◌≤◌, List, [], ◌∷◌, ◌++◌, length, map, get_or, Option, Some, None, Result, Ok, Err, MatchResult, IfOk, is_ok, inl, inr, refl, ap, sym, ◌∙◌, subst, arith, if◌then◌else◌}
use Rattle.std.proofs.lemmas.Bool.{cases_lt}
use Rattle.std.proofs.lemmas.List.{length_push, map_push, get_or_push, get_or_append_left}
use Rattle.std.proofs.lemmas.List.Sums.{sum_by_push}
use Rattle.tex_defs.specs.declared.Full.{Full}
use Rattle.tex_defs.specs.declared.Sizes.{Sizes}
use Rattle.string_pool.specs.Pool.{Pool, kept_bytes}
use Rattle.cs_hash.specs.Names.{Names, string_at, entered, name_number as hash_number_of, Knows}
use Rattle.cs_hash.specs.Entry.{Enters, Gains, Stays, entry_refusal, with_string}
use Rattle.cs_hash.proofs.Entering.{names_more, knows_longer, entered_more}
use Rattle.plain_tokens.specs.Lookup.{name_number}
use Rattle.plain_tokens.specs.Tables.{hash, bytes_of}
use Rattle.name_table.specs.Strings.{Strings, name_refusal, other_refusal, with_name, with_other}
use Rattle.name_table.specs.Layout.{IsSound, strings_of, strings_at}
use Rattle.name_table.proofs.Numbers.{same_number}
use Rattle.name_table.proofs.Refusals.{string_room, name_room, count_is, names_are, names_agree}

same_strings : (names names' others others' : List (List ℕ)) (sizes : Sizes) → names ≡ names' → others ≡ others' → ◌≡◌ {A = Strings} (record { names = names; others = others; sizes = sizes }) (record { names = names'; others = others'; sizes = sizes })
same_strings names names' others others' sizes e f = rw (e, f) refl

-- what a call to enter a name answers, and leaves
pub record Entering (old new : Strings) (name : List ℕ) (result : Result ℕ Full) : Type 0 where
  pub answer : MatchResult result (λ no. name_refusal old name ≡ None) (λ why. name_refusal old name ≡ Some why)
  pub number : IfOk result (λ no. no ≡ length old.names + 1)
  pub after : new ≡ (if is_ok result then with_name old name else old)

module _ (names : Names) (pool : Pool) (others : List ℕ) (sizes : Sizes) (room : ℕ) (sound : IsSound names pool others sizes room) where
  -- the other strings stay where one more is kept
  others_stay : (pool' : Pool) (bytes : List ℕ) → pool'.kept ≡ pool.kept ++ bytes ∷ [] → strings_at pool' others ≡ strings_at pool others
  others_stay pool' bytes more =
      ap (λ (kept : List (List ℕ)). map (string_at kept) others) more ∙ names_more others pool.kept (bytes ∷ []) sound.within

  entered_fresh : (names' : Names) (pool' : Pool) (name : List ℕ) → Gains names names' pool pool' name → entry_refusal names pool name ≡ None → Entering (strings_of names pool others sizes) (strings_of names' pool' others sizes) name (Ok (length names.strings + 1))
  entered_fresh names' pool' name gains free = record {
    answer = sym (names_agree names pool others sizes room sound name) ∙ free;
    number = ap (λ (n : ℕ). n + 1) (names_are names pool others sizes room sound);
    after = same_strings _ _ _ _ sizes gains.names (others_stay pool' name (ap (λ (p : Pool). p.kept) gains.kept));
  }

  entered_refused : (names' : Names) (pool' : Pool) (name : List ℕ) (why : Full) → Stays names names' pool pool' → entry_refusal names pool name ≡ Some why → Entering (strings_of names pool others sizes) (strings_of names' pool' others sizes) name (Err why)
  entered_refused names' pool' name why stays is = record {
    answer = sym (names_agree names pool others sizes room sound name) ∙ is;
    number = tt;
    after = rw (stays.hash_same, stays.pool_same) refl;
  }

  sound_gains : (names' : Names) (pool' : Pool) (name : List ℕ) → Gains names names' pool pool' name → entry_refusal names pool name ≡ None → Knows names' pool'.kept → pool'.opened ≡ None → IsSound names' pool' others sizes room
  sound_gains names' pool' name gains free knows closed =
      let not_full : name_refusal (strings_of names pool others sizes) name ≡ None = sym (names_agree names pool others sizes room sound name) ∙ free in
      let second = string_room (strings_of names pool others sizes) name (hash (entered names pool.kept) ∷ []) not_full in
      let third = name_room (strings_of names pool others sizes) name not_full in
      let kept : pool'.kept ≡ pool.kept ++ name ∷ [] = ap (λ (p : Pool). p.kept) gains.kept in
      let longer : length pool'.kept ≡ length pool.kept + 1 = ap length kept ∙ length_push pool.kept name in
      let one_more : length names'.strings ≡ length names.strings + 1 = ap length gains.string ∙ length_push names.strings (length pool.kept) in
      let all_bytes : kept_bytes pool' ≡ kept_bytes pool + length name = ap bytes_of kept ∙ sum_by_push length pool.kept name in
      let name_bytes : bytes_of (entered names' pool'.kept) ≡ bytes_of (entered names pool.kept) + length name = ap bytes_of gains.names ∙ sum_by_push length (entered names pool.kept) name in
      let other_bytes : bytes_of (strings_at pool' others) ≡ bytes_of (strings_at pool others) = ap bytes_of (others_stay pool' name kept) in
      let count : length pool.kept ≡ length (entered names pool.kept) + length (strings_at pool others) = count_is names pool others sizes room sound in
      let same : length names.strings ≡ length (entered names pool.kept) = names_are names pool others sizes room sound in
      record {
        knows = knows;
        closed = closed;
        within = λ i below. omega (arith, sound.within i below, longer);
        count = omega (arith, sound.count, longer, one_more);
        bytes = omega (arith, sound.bytes, all_bytes, name_bytes, other_bytes);
        strings_fit = omega (arith, second.here, count, longer);
        names_fit = omega (arith, third.here, same, one_more);
        pool_size_is = ap (λ (p : Pool). p.pool_size) gains.kept ∙ sound.pool_size_is;
        number_of_strings_is = ap (λ (p : Pool). p.number_of_strings) gains.kept ∙ sound.number_of_strings_is;
        hash_size_is = gains.size_same ∙ sound.hash_size_is;
        reserved = sound.reserved;
      }

  sound_stays : (names' : Names) (pool' : Pool) → Stays names names' pool pool' → IsSound names' pool' others sizes room
  sound_stays names' pool' stays =
      let P : Names → Type 0 = λ n. IsSound n pool' others sizes room in
      let Q : Pool → Type 0 = λ p. IsSound names p others sizes room in
      subst P (sym stays.hash_same) (subst Q (sym stays.pool_same) sound)

  module _ (names' : Names) (pool' : Pool) (name : List ℕ) (result : Result ℕ Full) (absent : name_number (entered names pool.kept) name ≡ None) (enters : Enters names names' pool pool' name result) where
    is_new : hash_number_of (entered names pool.kept) name ≡ None
    is_new = same_number (entered names pool.kept) name ∙ absent

    entering_by : (refusal : Option Full) → entry_refusal names pool name ≡ refusal → Entering (strings_of names pool others sizes) (strings_of names' pool' others sizes) name result
    entering_by None free =
        let P : Result ℕ Full → Type 0 = λ r. Entering (strings_of names pool others sizes) (strings_of names' pool' others sizes) name r in
        let new = enters.fresh is_new free in
        subst P (sym new.0) (entered_fresh names' pool' name new.1 free)
    entering_by (Some why) is =
        let P : Result ℕ Full → Type 0 = λ r. Entering (strings_of names pool others sizes) (strings_of names' pool' others sizes) name r in
        let same = enters.refused why is_new is in
        subst P (sym same.0) (entered_refused names' pool' name why same.1 is)

    sound_by : (refusal : Option Full) → entry_refusal names pool name ≡ refusal → Knows names' pool'.kept → pool'.opened ≡ None → IsSound names' pool' others sizes room
    sound_by None free knows closed = sound_gains names' pool' name (enters.fresh is_new free).1 free knows closed
    sound_by (Some why) is knows closed = sound_stays names' pool' (enters.refused why is_new is).1

    pub entering : (old : Strings) → strings_of names pool others sizes ≡ old → Entering old (strings_of names' pool' others sizes) name result
    entering old view =
        let P : Strings → Type 0 = λ s. Entering s (strings_of names' pool' others sizes) name result in
        subst P view (entering_by (entry_refusal names pool name) refl)

    pub entering_sound : Knows names' pool'.kept → pool'.opened ≡ None → IsSound names' pool' others sizes room
    entering_sound knows closed = sound_by (entry_refusal names pool name) refl knows closed

  module _ (pool' : Pool) (others' : List ℕ) (bytes : List ℕ) (no : ℕ) (kept_more : pool' ≡ with_string pool bytes) (last : no ≡ length pool.kept) (gained : others' ≡ others ++ no ∷ []) where
    kept : pool'.kept ≡ pool.kept ++ bytes ∷ []
    kept = ap (λ (p : Pool). p.kept) kept_more

    -- the new string is the last of the others
    others_gain : strings_at pool' others' ≡ strings_at pool others ++ bytes ∷ []
    others_gain =
        let new : string_at (pool.kept ++ bytes ∷ []) (length pool.kept) ≡ bytes = get_or_push pool.kept bytes [] (length pool.kept) refl in
        rw (gained, last, kept, map_push (string_at (pool.kept ++ bytes ∷ [])) others (length pool.kept), names_more others pool.kept (bytes ∷ []) sound.within, new) refl

    pub keeping : (old : Strings) → strings_of names pool others sizes ≡ old → strings_of names pool' others' sizes ≡ with_other old bytes
    keeping old view =
        let P : Strings → Type 0 = λ s. strings_of names pool' others' sizes ≡ with_other s bytes in
        let stays : entered names pool'.kept ≡ entered names pool.kept = ap (entered names) kept ∙ entered_more names pool.kept (bytes ∷ []) sound.knows in
        subst P view (same_strings _ _ _ _ sizes stays others_gain)

    within_more : (i : ℕ) → i < length (others ++ no ∷ []) → get_or (others ++ no ∷ []) i 0 < length pool.kept + 1
    within_more i below = elim (cases_lt i (length others)) [
      | inl old ↦ omega (arith, sound.within i old, get_or_append_left others (no ∷ []) 0 i old)
      | inr late ↦ (let at : length others ≡ i = omega (arith, late, below, length_push others no) in
          omega (arith, get_or_push others no 0 i at, last))
    ]

    pub keeping_sound : (room' : ℕ) → other_refusal (strings_of names pool others sizes) bytes ≡ None → room ≤ room' → IsSound names pool' others' sizes room'
    keeping_sound room' free wider =
        let second = string_room (strings_of names pool others sizes) bytes [] free in
        let longer : length pool'.kept ≡ length pool.kept + 1 = ap length kept ∙ length_push pool.kept bytes in
        let one_more : length others' ≡ length others + 1 = ap length gained ∙ length_push others no in
        let all_bytes : kept_bytes pool' ≡ kept_bytes pool + length bytes = ap bytes_of kept ∙ sum_by_push length pool.kept bytes in
        let name_bytes : bytes_of (entered names pool'.kept) ≡ bytes_of (entered names pool.kept) = ap bytes_of (ap (entered names) kept ∙ entered_more names pool.kept (bytes ∷ []) sound.knows) in
        let other_bytes : bytes_of (strings_at pool' others') ≡ bytes_of (strings_at pool others) + length bytes = ap bytes_of others_gain ∙ sum_by_push length (strings_at pool others) bytes in
        let count : length pool.kept ≡ length (entered names pool.kept) + length (strings_at pool others) = count_is names pool others sizes room sound in
        let P : List (List ℕ) → Type 0 = λ strings. Knows names strings in
        let Q : List ℕ → Type 0 = λ numbers. (i : ℕ) → i < length numbers → get_or numbers i 0 < length pool.kept + 1 in
        let inside : (i : ℕ) → i < length others' → get_or others' i 0 < length pool.kept + 1 = subst Q (sym gained) within_more in
        record {
          knows = subst P (sym kept) (knows_longer names pool.kept (bytes ∷ []) sound.knows);
          closed = ap (λ (p : Pool). p.opened) kept_more ∙ sound.closed;
          within = λ i below. omega (arith, inside i below, longer);
          count = omega (arith, sound.count, longer, one_more);
          bytes = omega (arith, sound.bytes, all_bytes, name_bytes, other_bytes);
          strings_fit = omega (arith, second.here, count, longer);
          names_fit = sound.names_fit;
          pool_size_is = ap (λ (p : Pool). p.pool_size) kept_more ∙ sound.pool_size_is;
          number_of_strings_is = ap (λ (p : Pool). p.number_of_strings) kept_more ∙ sound.number_of_strings_is;
          hash_size_is = sound.hash_size_is;
          reserved = omega (arith, sound.reserved, wider);
        }
