-- The steps of a search.
use Rattle.std.proofs.Common.{◌≡◌, ◌≢◌, ℕ, suc, ◌+◌, ◌-◌, ◌*◌, ◌<◌, ◌≤◌, List, [], subst, length, get_or, slice_index, Some, slice_get, refl, ap, sym, ◌∙◌, arith, add-one, inl, inr}
use Rattle.std.proofs.lemmas.Bool.{cases_eq}
use Rattle.std.proofs.lemmas.List.{get_or_read}
use Rattle.std.proofs.lemmas.Option.{get_or_from_slice_get}
use Rattle.cs_hash.specs.Names.{Names, string_at}
use Rattle.cs_hash.specs.Index.{slot_at, bucket_of, turn_of, IsTable}
use Rattle.cs_hash.specs.Entry.{IsAt}

pub at_start : (hash : Names) (kept : List (List ℕ)) (name : List ℕ) (slot : ℕ) → slot ≡ bucket_of name hash.hash_size → slot < hash.hash_size → IsAt hash kept name slot 0
unfolding slot_at
at_start hash kept name slot at below = record {
  slot_is = at;
  passed = λ i lower. absurd (omega arith);
  others = λ i lower. absurd (omega arith);
  within = omega arith;
  turns = omega arith;
}

next_slot : (hash : Names) (name : List ℕ) (slot depth number turn : ℕ) → slot ≡ slot_at hash.hash_size hash.index name depth → number ≡ slice_index hash.index slot → turn ≡ turn_of name depth → hash.hash_size + 2 * number + turn ≡ slot_at hash.hash_size hash.index name (suc depth)
unfolding slot_at
next_slot hash name slot depth number turn at read turned =
    let e : number ≡ slice_index hash.index (slot_at hash.hash_size hash.index name depth) = read ∙ ap (λ (k : ℕ). slice_index hash.index k) at in
    rw (e, turned) refl

pub at_next : (hash : Names) (kept : List (List ℕ)) (name : List ℕ) (slot depth number turn room : ℕ) → IsTable hash.strings hash.index hash.hash_size room → IsAt hash kept name slot depth → number ≡ slice_index hash.index slot → number ≢ 0 → string_at kept (slice_index hash.strings (number - 1)) ≢ name → turn ≡ turn_of name depth → turn ≤ 1 → IsAt hash kept name (hash.hash_size + 2 * number + turn) (depth + 1)
at_next hash kept name slot depth number turn room table at read some other turned small =
    let count : number ≤ length hash.strings = omega (arith, table.numbers slot, read) in
    let ahead : slot < hash.hash_size + 2 * number = omega (arith, table.forward slot (λ nothing. some (read ∙ nothing)), read) in
    rw add-one (record {
      slot_is = next_slot hash name slot depth number turn at.slot_is read turned;
      passed = λ i lower. elim (cases_eq i depth) [ inl same ↦ (λ nothing. some (read ∙ ap (λ (k : ℕ). slice_index hash.index k) (at.slot_is ∙ ap (λ (k : ℕ). slot_at hash.hash_size hash.index name k) (sym same)) ∙ nothing)) | inr differ ↦ at.passed i (omega arith) ];
      others = λ i lower. elim (cases_eq i depth) [ inl same ↦ (λ found. other (ap (λ (k : ℕ). string_at kept (slice_index hash.strings (k - 1))) (read ∙ ap (λ (k : ℕ). slice_index hash.index k) (at.slot_is ∙ ap (λ (k : ℕ). slot_at hash.hash_size hash.index name k) (sym same))) ∙ found)) | inr differ ↦ at.others i (omega arith) ];
      within = omega arith;
      turns = omega (arith, at.turns);
    })

-- what a search reads at its slot
pub record IsRead (hash : Names) (kept : List (List ℕ)) (slot number : ℕ) (bytes : List ℕ) : Type 0 where
  pub read : number ≡ slice_index hash.index slot
  pub last : number ≤ length hash.strings
  pub named : string_at kept (slice_index hash.strings (number - 1)) ≡ bytes

pub table_seen : (hash : Names) (strings index : List ℕ) (size room : ℕ) → record { strings = strings; hash_size = size; index = index } ≡ hash → IsTable strings index size room → IsTable hash.strings hash.index hash.hash_size room
table_seen hash strings index size room view table =
    let P : Names → Type 0 = λ n. IsTable n.strings n.index n.hash_size room in
    subst P view table

pub is_read : (hash : Names) (strings index : List ℕ) (size room slot depth number string : ℕ) (kept : List (List ℕ)) (name bytes : List ℕ) → record { strings = strings; hash_size = size; index = index } ≡ hash → IsTable strings index size room → IsAt hash kept name slot depth → number ≡ get_or index slot number → number ≢ 0 → string ≡ get_or strings (number - 1) string → slice_get kept string ≡ Some bytes → IsRead hash kept slot number bytes
is_read hash strings index size room slot depth number string kept name bytes view inner at got some stood shown =
    let table : IsTable hash.strings hash.index hash.hash_size room = table_seen hash strings index size room view inner in
    let ix : index ≡ hash.index = ap (λ (n : Names). n.index) view in
    let st : strings ≡ hash.strings = ap (λ (n : Names). n.strings) view in
    let within : slot < length hash.index = omega (arith, at.within, table.slots, table.count_fits) in
    let read : number ≡ slice_index hash.index slot = get_or_read hash.index slot number within (got ∙ ap (λ (xs : List ℕ). get_or xs slot number) ix) 0 in
    let last : number ≤ length hash.strings = omega (arith, table.numbers slot, read) in
    let place : number - 1 < length hash.strings = omega arith in
    let stands : string ≡ slice_index hash.strings (number - 1) = get_or_read hash.strings (number - 1) string place (stood ∙ ap (λ (xs : List ℕ). get_or xs (number - 1) string) st) 0 in
    record {
      read = read;
      last = last;
      named = ap (string_at kept) (sym stands) ∙ get_or_from_slice_get kept string bytes [] shown;
    }
