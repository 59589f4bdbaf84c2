-- Lists that change, and those that don't.
use Rattle.std.proofs.Common.{zero, suc, inl, inr, ◌≡◌, ◌≢◌, ℕ, ◌+◌, ◌-◌, ◌<◌, ◌≤◌, List, [], ◌∷◌, ◌++◌, length, take, drop, Option, None, Some, refl, sym, ap, subst, ◌∙◌, arith, append_assoc, length-append, length-drop}
use Rattle.std.specs.Prelude.{slice_set, slice_get, IsSome, ◌↔◌}
use Rattle.std.proofs.lemmas.List.{get_or-set_same, get_or-set_other, get_or_past, take-append-drop, take-append-le, length-take-le, drop_at}
use Rattle.std.proofs.lemmas.List.Sums.{get_or-le-sum_by}
use Rattle.std.proofs.lemmas.Bool.{cases_lt}
use Rattle.tex_defs.specs.declared.Token.{Token}
use Rattle.token_lists.specs.declared.Build.{Build}
use Rattle.token_lists.specs.Table.{Entry, entry_at, words, words_of, tokens_of, tokens_at, places_at, places_of, holders_at, holders_of, grown, without_first, without_last}
use Rattle.token_lists.specs.Ids.{build_id, IsBuilding}
use Rattle.token_lists.specs.Accounts.{Moves, none}
use Rattle.token_lists.proofs.Builds.{sole_known}
use Rattle.macro_call.specs.declared.cursor.Cursor.{Cursor}
use Rattle.macro_call.specs.Cursors.{IsOn, IsAhead, rest_at}
use Rattle.macro_call.specs.Tables.{IsOnly, IsGrownByPart}

pub only_set : (old new : List (Option Entry)) (id : ℕ) (e : Option Entry) → new ≡ slice_set old id e → IsOnly old new id
only_set old new id e after = record { apart = λ h ne. ap (λ (t : List (Option Entry)). entry_at t h) after ∙ get_or-set_other old id h e None ne }

pub only_none : (old new : List (Option Entry)) (id : ℕ) → new ≡ old → IsOnly old new id
only_none old new id e = record { apart = λ h ne. ap (λ (t : List (Option Entry)). entry_at t h) e }

pub only_join : (a b c : List (Option Entry)) (id : ℕ) → IsOnly a b id → IsOnly b c id → IsOnly a c id
only_join a b c id p q = record { apart = λ h ne. q.apart h ne ∙ p.apart h ne }

pub moves_none : (a b : List (Option Entry)) → a ≡ b → Moves b a none none
moves_none a b e = λ h. ap (λ (t : List (Option Entry)). holders_at t h + 0) e

pub moves_join : (a b c : List (Option Entry)) → Moves a b none none → Moves b c none none → Moves a c none none
moves_join a b c p q = λ h. omega (arith, p h, q h)

-- the entry that was set
pub set_at : (old new : List (Option Entry)) (b : Build) (e : Option Entry) → IsBuilding old b → new ≡ slice_set old (build_id b) e → entry_at new (build_id b) ≡ e
set_at old new b e building after = ap (λ (t : List (Option Entry)). entry_at t (build_id b)) after ∙ get_or-set_same old (build_id b) e None (sole_known old b building).below

pub tokens_grown : (old new : List (Option Entry)) (b : Build) (place : ℕ) (token : Token) → IsBuilding old b → new ≡ slice_set old (build_id b) (grown place token (entry_at old (build_id b))) →
    tokens_at new (build_id b) ≡ tokens_at old (build_id b) ++ token ∷ []
tokens_grown old new b place token building after =
    let s = sole_known old b building in
    let e : tokens_of (grown place token (entry_at old (build_id b))) ≡ tokens_of (entry_at old (build_id b)) ++ token ∷ [] =
    ap (λ (o : Option Entry). tokens_of (grown place token o)) s.there ∙ sym (ap (λ (o : Option Entry). tokens_of o ++ token ∷ []) s.there) in
    ap tokens_of (set_at old new b _ building after) ∙ e

module _ (old new : List (Option Entry)) (changed id : ℕ) (only : IsOnly old new changed) (ne : id ≢ changed) where
  pub tokens_kept : tokens_at new id ≡ tokens_at old id
  tokens_kept = ap tokens_of (only.apart id ne)

  pub on_kept : (cursor : Cursor) → IsOn old id cursor → IsOn new id cursor
  on_kept cursor on =
      let h : holders_at new id ≡ holders_at old id = ap holders_of (only.apart id ne) in
      let p : places_at new id ≡ places_at old id = ap places_of (only.apart id ne) in
      record {
        held = omega (arith, h, on.held);
        place = on.place ∙ ap (λ (ps : List ℕ). slice_get ps cursor.index) (sym p);
        ends = subst (λ (ts : List Token). IsSome cursor.at ↔ (cursor.index < length ts)) (sym tokens_kept) on.ends;
      }

  pub ahead_kept : (from : Cursor) (count n : ℕ) (next : Cursor) → n ≡ count → IsAhead old id from count next → IsAhead new id from n next
  ahead_kept from count n next e ahead = (on_kept next ahead.0, omega (arith, ahead.1, e))

  pub rest_kept : (cursor : Cursor) → rest_at new id cursor ≡ rest_at old id cursor
  rest_kept cursor = ap (drop cursor.index) tokens_kept

pub tokens_first : (old new : List (Option Entry)) (b : Build) → IsBuilding old b → new ≡ slice_set old (build_id b) (without_first (entry_at old (build_id b))) →
    tokens_at new (build_id b) ≡ drop 1 (tokens_at old (build_id b))
tokens_first old new b building after =
    let s = sole_known old b building in
    ap tokens_of (set_at old new b _ building after) ∙ ap (λ (o : Option Entry). tokens_of (without_first o)) s.there ∙ sym (ap (λ (o : Option Entry). drop 1 (tokens_of o)) s.there)

pub tokens_last : (old new : List (Option Entry)) (b : Build) → IsBuilding old b → new ≡ slice_set old (build_id b) (without_last (entry_at old (build_id b))) →
    tokens_at new (build_id b) ≡ take (length (tokens_at old (build_id b)) - 1) (tokens_at old (build_id b))
tokens_last old new b building after =
    let s = sole_known old b building in
    ap tokens_of (set_at old new b _ building after) ∙ ap (λ (o : Option Entry). tokens_of (without_last o)) s.there ∙ sym (ap (λ (o : Option Entry). take (length (tokens_of o) - 1) (tokens_of o)) s.there)

take_take : (i n : ℕ) (w : List Token) → i ≤ n → take i (take n w) ≡ take i w
take_take zero n w h = refl
take_take (suc i) zero w h = absurd (omega arith)
take_take (suc i) (suc n) [] h = refl
take_take (suc i) (suc n) (x ∷ xs) h = ap (λ (l : List Token). x ∷ l) (take_take i n xs (omega arith))

pub part_of : (old now w : List Token) (i count : ℕ) → i < count → count ≤ length w → now ≡ old ++ take i w → IsGrownByPart old now (take count w)
part_of old now w i count h l e = record {
  front = take i w;
  behind = drop i (take count w);
  whole = sym (take-append-drop i (take count w)) ∙ ap (λ (ts : List Token). ts ++ drop i (take count w)) (take_take i count w (omega arith));
  grown = e;
  some = omega (arith, length-drop i (take count w), length-take-le count w l);
}

-- the same of more tokens
pub part_more : (old now tokens more : List Token) → IsGrownByPart old now tokens → IsGrownByPart old now (tokens ++ more)
part_more old now tokens more part = record {
  front = part.front;
  behind = part.behind ++ more;
  whole = ap (λ (l : List Token). l ++ more) part.whole ∙ append_assoc part.front part.behind more;
  grown = part.grown;
  some = omega (arith, part.some, length-append part.behind more);
}

-- only the last is left
pub part_last : (old now tokens : List Token) (x : Token) → now ≡ old ++ tokens → IsGrownByPart old now (tokens ++ x ∷ [])
part_last old now tokens x e = record { front = tokens; behind = x ∷ []; whole = refl; grown = e; some = omega arith }

-- what goes into a list, by what it becomes
pub part_to : (old now tokens whole : List Token) → whole ≡ old ++ tokens → IsGrownByPart old now tokens → IsGrownByPart old now (drop (length old) whole)
part_to old now tokens whole e part = subst (IsGrownByPart old now) (sym (ap (drop (length old)) e ∙ drop_at old tokens (length old) refl)) part

pub take_front : (i m : ℕ) (ds more : List Token) → i ≤ m → m ≤ length ds → take i (take m ds ++ more) ≡ take i ds
take_front i m ds more h l = take-append-le i (take m ds) more (omega (arith, length-take-le m ds l)) ∙ take_take i m ds h

-- a list takes a word for each token
pub length_within : (table : List (Option Entry)) (id : ℕ) → length (tokens_at table id) ≤ words table
length_within table id = elim (cases_lt id (length table)) [
  | inl below ↦ by (entry_at table id) (get_or-le-sum_by words_of table id None below)
  | inr past ↦ let e : length (tokens_at table id) ≡ 0 = ap (λ (o : Option Entry). length (tokens_of o)) (get_or_past table id None past) in omega arith
]
  where
    by : (o : Option Entry) → words_of o ≤ words table → length (tokens_of o) ≤ words table
    by None h = omega arith
    by (Some e) h = omega arith
