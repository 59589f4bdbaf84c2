-- Steps along a list.
use Rattle.std.proofs.Common.{zero, suc, ◌≡◌, ℕ, ◌+◌, List, [], ◌∷◌, length, drop, length-drop, ◌≤◌, Option, Some, refl, sym, ap, subst, ◌∙◌, arith, Bool, true, false}
use Rattle.std.specs.Prelude.{slice_get, if◌then◌else◌}
use Rattle.std.proofs.lemmas.Bool.{true≢false}
use Rattle.std.proofs.lemmas.List.{drop-drop}
use Rattle.std.proofs.lemmas.Option.{same_Some, none-some}
use Rattle.tex_defs.specs.declared.Token.{Token}
use Rattle.tex_defs.specs.declared.Token.TheVariants.{Char, Named, Marked, Place, Number, EndPlaces}
use Rattle.token_lists.specs.Table.{Entry, tokens_at}
use Rattle.plain_tokens.specs.Arguments.{start_of, delimiters_of}
use Rattle.macro_call.specs.declared.cursor.Cursor.{Cursor}
use Rattle.macro_call.specs.Cursors.{IsAhead, delimiter_at, is_mark}

-- the token at an index and what is behind it
pub drop_get : {A : Type 0} → (xs : List A) (i : ℕ) (x : A) → slice_get xs i ≡ Some x → drop i xs ≡ x ∷ drop (i + 1) xs
drop_get [] i x is = absurd (none-some x is)
drop_get (y ∷ ys) zero x is = ap (λ z. z ∷ ys) (same_Some y x is)
drop_get (y ∷ ys) (suc i) x is =
    let e : suc (i + 1) ≡ suc i + 1 = omega arith in
    subst (λ (n : ℕ). drop (suc i) (y ∷ ys) ≡ x ∷ drop n (y ∷ ys)) e (drop_get ys i x is)

pub start_by : (x : Token) (xs : List Token) → start_of (x ∷ xs) ≡ (if is_mark x then [] else x ∷ start_of xs)
start_by (Place c) xs = refl
start_by EndPlaces xs = refl
start_by (Char a b) xs = refl
start_by (Named n) xs = refl
start_by (Marked n) xs = refl
start_by (Number n) xs = refl

start_length_by : (x : Token) (xs : List Token) (b : Bool) → start_of (x ∷ xs) ≡ (if b then [] else x ∷ start_of xs) → length (start_of xs) ≤ length xs → length (start_of (x ∷ xs)) ≤ length (x ∷ xs)
start_length_by x xs true e h = omega (arith, ap length e)
start_length_by x xs false e h = omega (arith, ap length e)

start_length : (xs : List Token) → length (start_of xs) ≤ length xs
start_length [] = omega arith
start_length (x ∷ xs) = start_length_by x xs (is_mark x) (start_by x xs) (start_length xs)

-- a delimiter is no longer than its list
pub delimiter_within : (i : ℕ) (xs : List Token) → length (start_of (drop i xs)) ≤ length xs
delimiter_within i xs = omega (arith, start_length (drop i xs), length-drop i xs)

pub delimiters_by : (x : Token) (xs : List Token) → is_mark x ≡ false → delimiters_of (x ∷ xs) ≡ delimiters_of xs
delimiters_by (Place c) xs h = absurd (true≢false h)
delimiters_by EndPlaces xs h = absurd (true≢false h)
delimiters_by (Char a b) xs h = refl
delimiters_by (Named n) xs h = refl
delimiters_by (Marked n) xs h = refl
delimiters_by (Number n) xs h = refl

start_drop_by : (i : ℕ) (x : Token) (xs : List Token) (b : Bool) → start_of (x ∷ xs) ≡ (if b then [] else x ∷ start_of xs) → (i ≤ length (start_of xs) → start_of (drop i xs) ≡ drop i (start_of xs)) → suc i ≤ length (start_of (x ∷ xs)) →
    start_of (drop i xs) ≡ drop (suc i) (start_of (x ∷ xs))
start_drop_by i x xs true e ih h = absurd (omega (arith, ap length e))
start_drop_by i x xs false e ih h = ih (omega (arith, ap length e)) ∙ sym (ap (drop (suc i)) e)

-- what stands before the next place, from some token of it on
pub start_drop : (i : ℕ) (xs : List Token) → i ≤ length (start_of xs) → start_of (drop i xs) ≡ drop i (start_of xs)
start_drop zero xs h = refl
start_drop (suc i) [] h = refl
start_drop (suc i) (x ∷ xs) h = start_drop_by i x xs (is_mark x) (start_by x xs) (start_drop i xs) h

-- the delimiter from some token of it on
pub delimiter_ahead : (table : List (Option Entry)) (id : ℕ) (from : Cursor) (count : ℕ) (next : Cursor) → IsAhead table id from count next → count ≤ length (delimiter_at table id from) → delimiter_at table id next ≡ drop count (delimiter_at table id from)
delimiter_ahead table id from count next ahead h =
    ap (λ (n : ℕ). start_of (drop n (tokens_at table id))) ahead.1
    ∙ ap start_of (sym (drop-drop count from.index (tokens_at table id)))
    ∙ start_drop count (drop from.index (tokens_at table id)) h
