-- Tokens of one list go to the end of another, that is being built.
use Rattle.std.proofs.Common.{◌≡◌, ◌≢◌, ℕ, ◌+◌, ◌<◌, ◌≤◌, List, [], ◌∷◌, ◌++◌, map, length, drop, Option, None, Some, inl, inr, refl, sym, ap, ◌∙◌, arith, append_assoc, length-drop}
use Rattle.std.specs.Prelude.{slice_set}
use Rattle.std.proofs.lemmas.Bool.{cases_lt}
use Rattle.std.proofs.lemmas.List.{append-nil, map-id, get_or_past}
use Rattle.std.proofs.lemmas.List.Sums.{sum_by-set, get_or-le-sum_by}
use Rattle.tex_defs.specs.declared.Token.{Token}
use Rattle.token_lists.specs.declared.Build.{Build}
use Rattle.token_lists.specs.Table.{Entry, entry_at, tokens_at, tokens_of, holders_of, words, words_of, grown}
use Rattle.token_lists.specs.Ids.{build_id, IsBuilding}
use Rattle.token_lists.proofs.Builds.{sole_known}
use Rattle.macro_call.specs.declared.cursor.Cursor.{Cursor}
use Rattle.macro_call.specs.Cursors.{IsOn, Steps, rest_at}
use Rattle.macro_call.proofs.Tables as calls
use Rattle.macro_call.proofs.Tables.{set_at}
use Rattle.equivalents.specs.Tables.{Tables}
use Rattle.input_state.specs.declared.appending.Change.TheVariants as change
use Rattle.input_state.specs.Appends.{changed, IsAppendedInPart}
use Rattle.input_state.specs.Changes.{IsOnly}

-- WORDS

held_words : (o : Option Entry) → 0 < holders_of o → words_of o ≡ 1 + length (tokens_of o)
held_words None held = absurd (omega (arith, held))
held_words (Some e) held = refl

grown_holders : (place : ℕ) (token : Token) (o : Option Entry) → holders_of (grown place token o) ≡ holders_of o
grown_holders place token None = refl
grown_holders place token (Some e) = refl

-- a token takes a word
pub grown_words : (old new : List (Option Entry)) (b : Build) (place : ℕ) (token : Token) → IsBuilding old b → new ≡ slice_set old (build_id b) (grown place token (entry_at old (build_id b))) →
    words new + length (tokens_at old (build_id b)) ≡ words old + length (tokens_at new (build_id b))
grown_words old new b place token building after =
    let was = entry_at old (build_id b) in
    let sum = sum_by-set words_of old (build_id b) (grown place token was) None (sole_known old b building).below in
    let before = held_words was (omega (arith, building.sole)) in
    let behind = held_words (grown place token was) (omega (arith, building.sole, grown_holders place token was)) in
    omega (arith, sum, before, behind, ap words after, ap (λ (o : Option Entry). length (tokens_of o)) (set_at old new b _ building after))

-- where nothing changes, no word is used
pub same_words : (old new : List (Option Entry)) (id : ℕ) → new ≡ old → words new + length (tokens_at old id) ≡ words old + length (tokens_at new id)
same_words old new id same = omega (arith, ap words same, ap (λ (t : List (Option Entry)). length (tokens_at t id)) same)

-- ANOTHER LIST

pub only_join : (a b c : List (Option Entry)) (id : ℕ) → IsOnly a b id → IsOnly b c id → IsOnly a c id
only_join a b c id p q = record { apart = λ h ne. q.apart h ne ∙ p.apart h ne }

module _ (old new : List (Option Entry)) (built id : ℕ) (only : IsOnly old new built) (ne : id ≢ built) where
  pub on_kept : (cursor : Cursor) → IsOn old id cursor → IsOn new id cursor
  on_kept cursor on = calls.on_kept old new built id (record { apart = only.apart }) ne cursor on

  pub rest_kept : (cursor : Cursor) → rest_at new id cursor ≡ rest_at old id cursor
  rest_kept cursor = calls.rest_kept old new built id (record { apart = only.apart }) ne cursor

-- The tokens between two places are there, changed.
pub record Copied (f : Token → Token) (old now : List (Option Entry)) (built id : ℕ) (from at : Cursor) : Type 0 where
  pub front : List Token
  pub split : map f (rest_at old id from) ≡ front ++ map f (rest_at now id at)
  pub after : tokens_at now built ≡ tokens_at old built ++ front

module _ (f : Token → Token) (old : List (Option Entry)) (built id : ℕ) (from : Cursor) where
  pub copied_none : Copied f old old built id from from
  copied_none = record { front = []; split = refl; after = sym (append-nil (tokens_at old built)) }

  module _ (mid : List (Option Entry)) (at : Cursor) (c : Copied f old mid built id from at) where
    pub copied_all : rest_at mid id at ≡ [] → tokens_at mid built ≡ tokens_at old built ++ map f (rest_at old id from)
    copied_all none = c.after ∙ ap (λ (ts : List Token). tokens_at old built ++ ts) (sym (c.split ∙ ap (λ (ts : List Token). c.front ++ map f ts) none ∙ append-nil c.front))

    module _ (token : Token) (next : Cursor) (steps : Steps mid id at (Some (token, next))) where
      pub copied_more : (new : List (Option Entry)) → tokens_at new built ≡ tokens_at mid built ++ f token ∷ [] → rest_at new id next ≡ rest_at mid id next → Copied f old new built id from next
      copied_more new more rest = record {
        front = c.front ++ f token ∷ [];
        split = c.split ∙ ap (λ (ts : List Token). c.front ++ map f ts) steps.0 ∙ sym (append_assoc c.front (f token ∷ []) (map f (rest_at mid id next))) ∙ ap (λ (ts : List Token). (c.front ++ f token ∷ []) ++ map f ts) (sym rest);
        after = more ∙ ap (λ (ts : List Token). ts ++ f token ∷ []) c.after ∙ append_assoc (tokens_at old built) c.front (f token ∷ []);
      }

      pub copied_part : (new : List (Option Entry)) → new ≡ mid → IsAppendedInPart (map f (rest_at old id from)) (tokens_at old built) (tokens_at new built)
      copied_part new same = record {
        front = c.front;
        next = f token;
        rest = map f (rest_at mid id next);
        split = c.split ∙ ap (λ (ts : List Token). c.front ++ map f ts) steps.0;
        after = ap (λ (t : List (Option Entry)). tokens_at t built) same ∙ c.after;
      }

-- the words of a list
few_tokens : (o : Option Entry) → length (tokens_of o) ≤ words_of o
few_tokens None = omega arith
few_tokens (Some e) = omega arith

no_tokens : (table : List (Option Entry)) (id : ℕ) → length table ≤ id → tokens_at table id ≡ []
no_tokens table id past = ap tokens_of (get_or_past table id None past)

-- a place is one of the words
pub index_below : (table : List (Option Entry)) (id index : ℕ) (t : Token) (ts : List Token) → drop index (tokens_at table id) ≡ t ∷ ts → words table ≤ length table → index < length table
index_below table id index t ts is within =
    let some : index < length (tokens_at table id) = omega (arith, length-drop index (tokens_at table id), ap length is) in
    elim (cases_lt id (length table)) [
      | inl below ↦ omega (arith, some, few_tokens (entry_at table id), get_or-le-sum_by words_of table id None below, within)
      | inr past ↦ absurd (omega (arith, some, ap length (no_tokens table id past)))
    ]

-- nothing changes
pub change_nothing : (m : Tables) (ts : List Token) → map (changed change.Nothing m) ts ≡ ts
change_nothing m ts = map-id ts
