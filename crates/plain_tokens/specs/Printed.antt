-- How characters, names, lists and meanings are printed (The TeXbook, chapters 7, 8 and 20; TeX: The Program, parts 5, 17 to 20).
-- A text is a list of characters; what is shown of it is each of its characters printed.
use Rattle.std.specs.Prelude.{ℕ, zero, suc, ◌+◌, ◌-◌, ◌/◌, ◌%◌, ◌==◌, nat_lt, min, Bool, true, false, ℤ, pos, negsuc, List, [], ◌∷◌, ◌++◌, length, codes, slice_index, slice_index_or, if◌then◌else◌}
use Rattle.std.specs.List.{flat_map}
use Rattle.std.specs.Fmt.{decimal}
use Rattle.tex_defs.specs.declared.Token.{Token}
use Rattle.tex_defs.specs.declared.Token.TheVariants.{Char, Named, Marked, Place, Number, EndPlaces}
use Rattle.tex_defs.specs.declared.Name.{Name}
use Rattle.tex_defs.specs.declared.Name.TheVariants.{Active, Single, Empty, Word}
use Rattle.tex_defs.specs.declared.Name.TheVariants as name
use Rattle.tex_defs.specs.declared.Frozen.{Frozen}
use Rattle.tex_defs.specs.declared.Frozen.TheVariants.{Relax, Fi, EndGroup, EndWrite, Inaccessible, Unknown}
use Rattle.tex_defs.specs.declared.RegisterKind.{RegisterKind}
use Rattle.tex_defs.specs.declared.RegisterKind.TheVariants.{Count, Dimen, Skip, Muskip, Toks}
use Rattle.tex_defs.specs.declared.Meaning.{Meaning}
use Rattle.tex_defs.specs.declared.Meaning.TheVariants as means
use Rattle.prim_table.specs.Primitives.{primitive_name}
use Rattle.plain_tokens.specs.Meanings.{primitive_count}
use Rattle.plain_tokens.specs.Categories.{begin_group, end_group, parameter, space, letter, is_between}
use Rattle.plain_tokens.specs.Numerals.{hexadecimal}

-- What printed text depends on: the values of `\escapechar` and `\newlinechar`, the category codes of the characters 0 to 255,
-- and the names of two or more characters in the order in which they were entered, number 1 first.
pub record Style : Type 0 where
  pub escape : ℤ
  pub newline : ℤ
  pub categories : List ℕ
  pub names : List (List ℕ)

-- whether a parameter's value is the code of this character
abbrev pub is_code : ℤ → ℕ → Bool
is_code (pos n) c = n == c
is_code (negsuc n) c = false

-- 0 to 9 and a to f
abbrev pub small_hex_digit : ℕ → ℕ
small_hex_digit d = if nat_lt d 10 then 48 + d else 87 + d

-- A character that doesn't print as itself: ^^ and the character 64 away, from 128 on ^^ and two hexadecimal digits.
abbrev pub double_hat : ℕ → List ℕ
double_hat c =
    if nat_lt c 64 then 94 ∷ 94 ∷ (c + 64) ∷ []
    else if nat_lt c 128 then 94 ∷ 94 ∷ (c - 64) ∷ []
    else 94 ∷ 94 ∷ small_hex_digit (c / 16) ∷ small_hex_digit (c % 16) ∷ []

-- One character printed: a line feed where it is `\newlinechar`, itself from 32 to 126. The characters of a ^^ form aren't
-- compared with `\newlinechar`.
abbrev pub printed_by : ℤ → ℕ → List ℕ
printed_by newline c =
    if is_code newline c then 10 ∷ []
    else if is_between 32 126 c then c ∷ []
    else double_hat c

abbrev pub printed : Style → ℕ → List ℕ
printed style c = printed_by style.newline c

abbrev pub printed_all : Style → List ℕ → List ℕ
printed_all style text = flat_map (printed_by style.newline) text

-- the character of a parameter's value from 0 to 255; nothing else stands for it
abbrev pub character_of : ℤ → List ℕ
character_of (pos n) = if nat_lt n 256 then n ∷ [] else []
character_of (negsuc n) = []

-- A word behind the escape character. In fixed texts too the `\` before a word stands for `\escapechar`.
abbrev pub escaped : Style → List ℕ → List ℕ
escaped style word = character_of style.escape ++ word

-- the characters of the name with this number, if there is one
abbrev pub name_at : List (List ℕ) → ℕ → List ℕ
name_at names zero = []
name_at names (suc before) = slice_index_or names before []

-- the word of a frozen name; one that wasn't entered has none
abbrev pub frozen_word : Frozen → List ℕ
frozen_word Relax = codes "relax"
frozen_word Fi = codes "fi"
frozen_word EndGroup = codes "endgroup"
frozen_word EndWrite = codes "endwrite"
frozen_word Inaccessible = codes "inaccessible"
frozen_word Unknown = []

-- A name as `\string` gives it and as reports have it: behind the escape character, an active character alone.
abbrev pub name_text : Style → Name → List ℕ
name_text style (Active c) = c ∷ []
name_text style (Single c) = escaped style (c ∷ [])
name_text style Empty = escaped style (codes "csname") ++ escaped style (codes "endcsname")
name_text style (Word number) = escaped style (name_at style.names number)
name_text style (name.Frozen f) = escaped style (frozen_word f)

-- What stands behind a name in a list: a space, but none behind an active character, nor behind a name of one character that
-- isn't a letter now.
abbrev pub space_behind : Style → Name → List ℕ
space_behind style (Active c) = []
space_behind style (Single c) = if slice_index style.categories c == letter then 32 ∷ [] else []
space_behind style Empty = 32 ∷ []
space_behind style (Word number) = 32 ∷ []
space_behind style (name.Frozen f) = 32 ∷ []

-- a name in a list
abbrev pub name_in_list : Style → Name → List ℕ
name_in_list style n = name_text style n ++ space_behind style n

-- the number of the place behind this many parameter places: there are at most nine
abbrev pub next_place : ℕ → ℕ
next_place places = min (places + 1) 9

-- A token in a list, behind `places` parameter places, the last of which has the character `last`. A character of category 6
-- stands twice; a place is its character and its number, a parameter's number in a body the character of the last place and a digit.
abbrev pub token_text : Style → (places last : ℕ) → Token → List ℕ
token_text style places last (Char category c) = if category == parameter then c ∷ c ∷ [] else c ∷ []
token_text style places last (Named n) = name_in_list style n
token_text style places last (Marked n) = name_in_list style n
token_text style places last (Place c) = c ∷ (48 + next_place places) ∷ []
token_text style places last (Number n) = last ∷ (48 + min n 9) ∷ []
token_text style places last EndPlaces = codes "->"

-- how many places there are behind a token
abbrev pub places_after : ℕ → Token → ℕ
places_after places (Char category c) = places
places_after places (Named n) = places
places_after places (Marked n) = places
places_after places (Place c) = next_place places
places_after places (Number n) = places
places_after places EndPlaces = places

-- the character of the last place behind a token
abbrev pub last_after : ℕ → Token → ℕ
last_after last (Char category c) = last
last_after last (Named n) = last
last_after last (Marked n) = last
last_after last (Place c) = c
last_after last (Number n) = last
last_after last EndPlaces = last

-- the rest of a list, behind these places
abbrev pub list_from : Style → (places last : ℕ) → List Token → List ℕ
list_from style places last [] = []
list_from style places last (t ∷ ts) = token_text style places last t ++ list_from style (places_after places t) (last_after last t) ts

-- the character that stands for that of the last place where there is none: #
abbrev pub no_place : ℕ
no_place = 35

-- A list of tokens, as `\meaning` and `\detokenize` have it.
abbrev pub list_text : Style → List Token → List ℕ
list_text style ts = list_from style 0 no_place ts

-- The rest of a list of which `room` bytes more are printed: a token wherever there is room for a byte, and `\ETC.` in place of the others.
abbrev pub runaway_from : Style → (room places last : ℕ) → List Token → List ℕ
runaway_from style room places last [] = []
runaway_from style room places last (t ∷ ts) =
    if room == 0 then escaped style (codes "ETC.")
    else token_text style places last t
    ++ runaway_from style (room - length (printed_all style (token_text style places last t))) (places_after places t) (last_after last t) ts

-- The list of a runaway text: token by token while fewer than 62 bytes were printed, then `\ETC.` if tokens remain.
abbrev pub runaway_text : Style → List Token → List ℕ
runaway_text style ts = runaway_from style 62 0 no_place ts

-- what a character of a category is called
abbrev pub character_word : ℕ → List ℕ
character_word category =
    if category == begin_group then codes "begin-group character "
    else if category == end_group then codes "end-group character "
    else if category == 3 then codes "math shift character "
    else if category == 4 then codes "alignment tab character "
    else if category == parameter then codes "macro parameter character "
    else if category == 7 then codes "superscript character "
    else if category == 8 then codes "subscript character "
    else if category == space then codes "blank space "
    else if category == letter then codes "the letter "
    else codes "the character "

abbrev pub register_word : RegisterKind → List ℕ
register_word Count = codes "count"
register_word Dimen = codes "dimen"
register_word Skip = codes "skip"
register_word Muskip = codes "muskip"
register_word Toks = codes "toks"

-- the name of the primitive with this number, if there is one
abbrev pub primitive_word : ℕ → List ℕ
primitive_word number = if is_between 1 primitive_count number then primitive_name number else []

-- what stands before a macro's list
abbrev pub macro_text : Style → (long outer : Bool) → List ℕ
macro_text style false false = codes "macro:"
macro_text style true false = escaped style (codes "long macro:")
macro_text style false true = escaped style (codes "outer macro:")
macro_text style true true = escaped style (codes "long") ++ escaped style (codes "outer macro:")

-- a meaning without a macro's list
abbrev pub meaning_head : {L : Type 0} → Style → Meaning L → List ℕ
meaning_head style means.Undefined = codes "undefined"
meaning_head style means.RelaxMarked = escaped style (codes "relax")
meaning_head style (means.Char category c) = character_word category ++ c ∷ []
meaning_head style (means.CharGiven c) = escaped style (codes "char\"") ++ hexadecimal c
meaning_head style (means.MathGiven c) = escaped style (codes "mathchar\"") ++ hexadecimal c
meaning_head style (means.Register kind number) = escaped style (register_word kind) ++ decimal number
meaning_head style (means.Prim number) = escaped style (primitive_word number)
meaning_head style (means.Macro long outer list) = macro_text style long outer

-- the tokens of a macro's list, which `tokens_of` gives, and of another meaning none
abbrev pub meaning_tokens : {L : Type 0} → (L → List Token) → Meaning L → List Token
meaning_tokens tokens_of means.Undefined = []
meaning_tokens tokens_of means.RelaxMarked = []
meaning_tokens tokens_of (means.Char category c) = []
meaning_tokens tokens_of (means.CharGiven c) = []
meaning_tokens tokens_of (means.MathGiven c) = []
meaning_tokens tokens_of (means.Register kind number) = []
meaning_tokens tokens_of (means.Prim number) = []
meaning_tokens tokens_of (means.Macro long outer list) = tokens_of list

-- A meaning, as `\meaning` has it: of a macro the list behind its `macro:`.
abbrev pub meaning_text : {L : Type 0} → Style → (L → List Token) → Meaning L → List ℕ
meaning_text style tokens_of m = meaning_head style m ++ list_text style (meaning_tokens tokens_of m)

-- What the transcript and the files that are written have of these texts.
abbrev pub shown_all : Style → List Token → List ℕ
shown_all style ts = printed_all style (list_text style ts)

abbrev pub runaway_list : Style → List Token → List ℕ
runaway_list style ts = printed_all style (runaway_text style ts)

abbrev pub meaning_shown : {L : Type 0} → Style → (L → List Token) → Meaning L → List ℕ
meaning_shown style tokens_of m = printed_all style (meaning_text style tokens_of m)
