-- What the lists are, said without the reading of them.
use Rattle.std.specs.Prelude.{◌≡◌, ◌≤◌, ℕ, ◌+◌, ◌-◌, ◌==◌, Bool, true, false, not, ◌&&◌, if◌then◌else◌, List, [], ◌∷◌, ◌++◌, Option, Some, None}
use Rattle.tex_syntax.specs.declared.words.Manner.{Manner}
use Rattle.tex_defs.specs.declared.Token.{Token}
use Rattle.tex_defs.specs.declared.Token.TheVariants.{Char, Named, Marked, Place, Number, EndPlaces}
use Rattle.tex_defs.specs.declared.Meaning.{Meaning}
use Rattle.tex_defs.specs.declared.Meaning.TheVariants as means
use Rattle.tex_defs.specs.declared.Seen.{Seen}
use Rattle.plain_tokens.specs.Categories.{begin_group, end_group, is_between}
use Rattle.plain_tokens.specs.Tokens.{has_category, means_category}
use Rattle.plain_state.specs.Definitions.{Fed, Tok, Noted, Given, Done, is_parameter, with_cell, definition, text}

-- GROUPS

-- the groups that are open behind a list, where n were open in front of it; none where a `}` closes no group
abbrev pub closes : ℕ → List Token → Option ℕ
closes n [] = Some n
closes n (x ∷ xs) =
    if has_category begin_group x then closes (n + 1) xs
    else if has_category end_group x then (if n == 0 then None else closes (n - 1) xs)
    else closes n xs

-- each `{` has its `}`
abbrev pub IsBalanced : List Token → Type 0
IsBalanced ts = closes 0 ts ≡ Some 0

abbrev pub is_brace : Token → Bool
is_brace x = if has_category begin_group x then true else has_category end_group x

-- PARTS OF A MACRO'S LIST

-- a character or a name, as the input and token lists have them
abbrev pub is_plain : Token → Bool
is_plain (Place c) = false
is_plain (Number n) = false
is_plain EndPlaces = false
is_plain x = true

abbrev pub are_plain : List Token → Bool
are_plain [] = true
are_plain (x ∷ xs) = is_plain x && are_plain xs

-- a place, or a token that is no brace
abbrev pub is_in_front : Token → Bool
is_in_front (Place c) = true
is_in_front (Number n) = false
is_in_front EndPlaces = false
is_in_front x = not (is_brace x)

abbrev pub are_in_front : List Token → Bool
are_in_front [] = true
are_in_front (x ∷ xs) = is_in_front x && are_in_front xs

abbrev pub is_place : Token → Bool
is_place (Place c) = true
is_place x = false

abbrev pub places : List Token → ℕ
places [] = 0
places (x ∷ xs) = if is_place x then places xs + 1 else places xs

-- a number from 1 to `count`, or a character or a name
abbrev pub is_in_body : ℕ → Token → Bool
is_in_body count (Place c) = false
is_in_body count (Number n) = is_between 1 count n
is_in_body count EndPlaces = false
is_in_body count x = true

abbrev pub are_in_body : ℕ → List Token → Bool
are_in_body count [] = true
are_in_body count (x ∷ xs) = is_in_body count x && are_in_body count xs

abbrev pub IsBegin : Option Token → Type 0
IsBegin None = Unit {0}
IsBegin (Some t) = has_category begin_group t ≡ true

-- A macro's list: a parameter text without braces, in which at most nine places stand; the end mark; and a balanced body,
-- whose numbers are those of places. Where `#{` ended the parameter text, its brace ends both.
pub record IsMacro (ts : List Token) : Type 0 where
  pub front : List Token
  pub inside : List Token
  pub brace : Option Token
  pub whole : ts ≡ with_cell (with_cell front brace ++ EndPlaces ∷ inside) brace
  pub in_front : are_in_front front ≡ true
  pub few : places front ≤ 9
  pub in_body : are_in_body (places front) inside ≡ true
  pub balanced : IsBalanced inside
  pub begins : IsBegin brace

-- the list of a balanced text
pub record IsText (ts : List Token) : Type 0 where
  pub plain : are_plain ts ≡ true
  pub balanced : IsBalanced ts

-- a character, which means itself, or a name
abbrev pub IsSeen : Token → Meaning Unit → Type 0
IsSeen (Char category code) m = m ≡ means.Char category code
IsSeen (Named name) m = Unit {0}
IsSeen (Marked name) m = Unit {0}
IsSeen x m = ⊥

-- what a scanner may be fed with: characters and names, and token lists
abbrev pub IsClean : List Fed → Type 0
IsClean [] = Unit {0}
IsClean (Tok x ∷ fed) = IsSeen x.token x.meaning × IsClean fed
IsClean (Noted ∷ fed) = IsClean fed
IsClean (Given ts ∷ fed) = IsText ts × IsClean fed

-- THE LAWS

-- What completes a list is decided by the fewest tokens: nothing that follows changes it.
pub record EndAtOnce : Type 0 where
  pub definitions : (m : Manner) (fed more : List Fed) (ts : List Token) → definition m fed ≡ Done ts → definition m (fed ++ more) ≡ Done ts
  pub texts : (m : Manner) (fed more : List Fed) (ts : List Token) → text m fed ≡ Done ts → text m (fed ++ more) ≡ Done ts

-- Definitions give macros' lists, and texts balanced ones.
pub record AreFormed : Type 0 where
  pub definitions : (m : Manner) (fed : List Fed) (ts : List Token) → IsClean fed → definition m fed ≡ Done ts → IsMacro ts
  pub texts : (m : Manner) (fed : List Fed) (ts : List Token) → IsClean fed → text m fed ≡ Done ts → IsText ts

abbrev pub fed_with : List Seen → List Fed
fed_with [] = []
fed_with (x ∷ xs) = Tok x ∷ fed_with xs

abbrev pub tokens_of : List Seen → List Token
tokens_of [] = []
tokens_of (x ∷ xs) = x.token ∷ tokens_of xs

-- no parameter character is among them
abbrev pub no_parameters : List Seen → Bool
no_parameters [] = true
no_parameters (x ∷ xs) = not (is_parameter x) && no_parameters xs

abbrev pub no_braces : List Seen → Bool
no_braces [] = true
no_braces (x ∷ xs) = not (is_brace x.token) && no_braces xs

-- what stands between braces, and the braces
pub record IsBraced (b e : Seen) (xs : List Seen) : Type 0 where
  pub begins : has_category begin_group b.token ≡ true
  pub means : means_category begin_group b.meaning ≡ true
  pub ends : has_category end_group e.token ≡ true
  pub balanced : IsBalanced (tokens_of xs)

-- What is balanced between two braces is the text; without parameter characters it is a macro's body, and what
-- stands in front of it is the parameter text.
pub record AreThemselves : Type 0 where
  pub texts : (m : Manner) (b e : Seen) (xs : List Seen) (more : List Fed) → IsBraced b e xs →
      text m (Tok b ∷ fed_with xs ++ Tok e ∷ more) ≡ Done (tokens_of xs)
  pub definitions : (m : Manner) (b e : Seen) (us xs : List Seen) (more : List Fed) → IsBraced b e xs → no_braces us ≡ true → no_parameters us ≡ true → no_parameters xs ≡ true →
      definition m (fed_with us ++ Tok b ∷ fed_with xs ++ Tok e ∷ more) ≡ Done (tokens_of us ++ EndPlaces ∷ tokens_of xs)
