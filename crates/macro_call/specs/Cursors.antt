-- Places in a list of tokens.
use Rattle.std.specs.Prelude.{◌≡◌, ℕ, ◌+◌, Bool, true, false, List, [], ◌∷◌, drop, Option, None, Some}
use Rattle.tex_defs.specs.declared.Token.{Token}
use Rattle.tex_defs.specs.declared.Token.TheVariants.{Place, EndPlaces}
use Rattle.token_lists.specs.Table.{Entry, tokens_at}
use Rattle.token_lists.specs.Accounts.{IsReading}
use Rattle.plain_tokens.specs.Arguments.{start_of, delimiters_of, begins_with_place, is_prefix}
use Rattle.macro_call.specs.declared.cursor.Cursor.{Cursor}

-- the cursor is at a token of the list, or behind the last
abbrev pub IsOn : List (Option Entry) → ℕ → Cursor → Type 0
IsOn table id cursor = IsReading table id cursor.at cursor.index

-- the same, of some list
pub record IsSomewhere (table : List (Option Entry)) (cursor : Cursor) : Type 0 where
  pub id : ℕ
  pub on : IsOn table id cursor

-- the tokens from here on
abbrev pub rest_at : List (Option Entry) → ℕ → Cursor → List Token
rest_at table id cursor = drop cursor.index (tokens_at table id)

-- the tokens from here on that stand before the next place
abbrev pub delimiter_at : List (Option Entry) → ℕ → Cursor → List Token
delimiter_at table id cursor = start_of (rest_at table id cursor)

-- what a step of the cursor gives: nothing at the end; else the token, and the cursor behind it
abbrev pub Steps : List (Option Entry) → ℕ → Cursor → Option (Token × Cursor) → Type 0
Steps table id cursor None = rest_at table id cursor ≡ []
Steps table id cursor (Some (token, next)) = (rest_at table id cursor ≡ token ∷ rest_at table id next) × IsOn table id next × (next.index ≡ cursor.index + 1)

-- the place that stands here, and the cursor behind it
abbrev pub StepsPlace : List (Option Entry) → ℕ → Cursor → Option Cursor → Type 0
StepsPlace table id cursor None = begins_with_place (rest_at table id cursor) ≡ false
StepsPlace table id cursor (Some next) = ((c : ℕ) × (rest_at table id cursor ≡ Place c ∷ rest_at table id next)) × IsOn table id next × (next.index ≡ cursor.index + 1)

-- a token that ends a delimiter: a place, or the end mark
abbrev pub is_mark : Token → Bool
is_mark (Place c) = true
is_mark EndPlaces = true
is_mark x = false

-- the same along a delimiter
abbrev pub StepsAlong : List (Option Entry) → ℕ → Cursor → Option (Token × Cursor) → Type 0
StepsAlong table id cursor None = delimiter_at table id cursor ≡ []
StepsAlong table id cursor (Some (token, next)) = (delimiter_at table id cursor ≡ token ∷ delimiter_at table id next) × IsOn table id next × (next.index ≡ cursor.index + 1) × (delimiters_of (rest_at table id cursor) ≡ delimiters_of (rest_at table id next))

-- the cursor so many tokens further on
abbrev pub IsAhead : List (Option Entry) → ℕ → (from : Cursor) → (count : ℕ) → Cursor → Type 0
IsAhead table id from count next = IsOn table id next × (next.index ≡ from.index + count)

-- the cursor behind these tokens, of which there are so many, where they begin the delimiter; none where they don't
abbrev pub IsBehindFront : List (Option Entry) → ℕ → (delimiter : Cursor) → (tokens : List Token) → (count : ℕ) → Option Cursor → Type 0
IsBehindFront table id delimiter tokens count None = is_prefix tokens (delimiter_at table id delimiter) ≡ false
IsBehindFront table id delimiter tokens count (Some next) = (is_prefix tokens (delimiter_at table id delimiter) ≡ true) × IsAhead table id delimiter count next
