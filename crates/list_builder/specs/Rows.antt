-- Worked rows: what some definitions and texts come to.
use Rattle.std.specs.Prelude.{◌≡◌, ℕ, ◌+◌, true, false, List, [], ◌∷◌, ◌++◌}
use Rattle.tex_syntax.specs.declared.words.Want.TheVariants.{Raw, Expanded, Copied, Command}
use Rattle.tex_syntax.specs.declared.words.Report.TheVariants.{NotConsecutive, AlreadyNine, IllegalNumber, MissingBrace}
use Rattle.tex_syntax.specs.declared.words.Manner.{Manner}
use Rattle.tex_defs.specs.declared.Token.{Token}
use Rattle.tex_defs.specs.declared.Token.TheVariants.{Char, Named, Place, Number, EndPlaces}
use Rattle.tex_defs.specs.declared.Name.TheVariants.{Single}
use Rattle.tex_defs.specs.declared.Meaning.TheVariants as means
use Rattle.plain_state.specs.Definitions.{Fed, Tok, Noted, Given, More, Tells, Done, definition, text}

-- a character that is read with this category
abbrev pub read : (category code : ℕ) → Fed
read category code = Tok (record { token = Char category code; meaning = means.Char category code })

abbrev pub letter : ℕ → Fed
letter code = read 11 code

abbrev pub digit : ℕ → Fed
digit n = read 12 (48 + n)

-- `#`, `{` and `}`
abbrev pub mark : Fed
mark = read 6 35

abbrev pub left : Fed
left = read 1 123

abbrev pub right : Fed
right = read 2 125

-- \def\a, and \edef\a
abbrev pub raw : Manner
raw = record { name = Single 97; expanded = false }

abbrev pub expanded : Manner
expanded = record { name = Single 97; expanded = true }

-- a name that means `#`, one that means `{`, and \relax
abbrev pub implicit : ℕ → Fed
implicit category = Tok (record { token = Named (Single 98); meaning = means.Char category 35 })

abbrev pub relax : Fed
relax = Tok (record { token = Named (Single 99); meaning = means.Prim 1 })

-- nine places, as they are read and as they stand in a list
abbrev pub nine : List Fed
nine = mark ∷ digit 1 ∷ mark ∷ digit 2 ∷ mark ∷ digit 3 ∷ mark ∷ digit 4 ∷ mark ∷ digit 5 ∷ mark ∷ digit 6 ∷ mark ∷ digit 7 ∷ mark ∷ digit 8 ∷ mark ∷ digit 9 ∷ []

abbrev pub nine_places : List Token
nine_places = Place 35 ∷ Place 35 ∷ Place 35 ∷ Place 35 ∷ Place 35 ∷ Place 35 ∷ Place 35 ∷ Place 35 ∷ Place 35 ∷ []

pub record WorkedDefinitions : Type 0 where
  -- \def\a#1#2{#2#1}
  pub turned : definition raw (mark ∷ digit 1 ∷ mark ∷ digit 2 ∷ left ∷ mark ∷ digit 2 ∷ mark ∷ digit 1 ∷ right ∷ []) ≡ Done (Place 35 ∷ Place 35 ∷ EndPlaces ∷ Number 2 ∷ Number 1 ∷ [])
  -- \def\a{}
  pub none : definition raw (left ∷ right ∷ []) ≡ Done (EndPlaces ∷ [])
  -- \def\a#1.{x}: the delimiter stands behind the place
  pub delimited : definition raw (mark ∷ digit 1 ∷ read 12 46 ∷ left ∷ letter 120 ∷ right ∷ []) ≡ Done (Place 35 ∷ Char 12 46 ∷ EndPlaces ∷ Char 11 120 ∷ [])
  -- \def\a#1#{x#1}: the brace stands in front of the end mark and at the end
  pub braced : definition raw (mark ∷ digit 1 ∷ mark ∷ left ∷ letter 120 ∷ mark ∷ digit 1 ∷ right ∷ []) ≡ Done (Place 35 ∷ Char 1 123 ∷ EndPlaces ∷ Char 11 120 ∷ Number 1 ∷ Char 1 123 ∷ [])
  -- \def\a{##}
  pub doubled : definition raw (left ∷ mark ∷ mark ∷ right ∷ []) ≡ Done (EndPlaces ∷ Char 6 35 ∷ [])
  -- of two different parameter characters the second enters
  pub second : definition raw (left ∷ mark ∷ read 6 33 ∷ right ∷ []) ≡ Done (EndPlaces ∷ Char 6 33 ∷ [])
  -- \def\a{x{y}}
  pub nested : definition raw (left ∷ letter 120 ∷ left ∷ letter 121 ∷ right ∷ right ∷ []) ≡ Done (EndPlaces ∷ Char 11 120 ∷ Char 1 123 ∷ Char 11 121 ∷ Char 2 125 ∷ [])
  -- a name that means `#` makes a place of the character that it means
  pub by_name : definition raw (implicit 6 ∷ digit 1 ∷ left ∷ implicit 6 ∷ digit 1 ∷ right ∷ []) ≡ Done (Place 35 ∷ EndPlaces ∷ Number 1 ∷ [])
  -- \edef\a{#..: behind the parameter character \the is expanded as ever
  pub wanted : definition expanded (left ∷ []) ≡ More Copied (EndPlaces ∷ [])
  pub wanted_behind : definition expanded (left ∷ mark ∷ []) ≡ More Expanded (EndPlaces ∷ [])
  -- the `#` of a token list is no parameter
  pub copied : definition expanded (left ∷ Given (Char 6 35 ∷ Char 12 49 ∷ []) ∷ right ∷ []) ≡ Done (EndPlaces ∷ Char 6 35 ∷ Char 12 49 ∷ [])

pub record WorkedReports : Type 0 where
  -- \def\a#2.. : the place counts, and the 2 is read again
  pub number : definition raw (mark ∷ digit 2 ∷ []) ≡ Tells NotConsecutive true []
  pub behind_number : definition raw (mark ∷ digit 2 ∷ Noted ∷ digit 2 ∷ left ∷ right ∷ []) ≡ Done (Place 35 ∷ Char 12 50 ∷ EndPlaces ∷ [])
  -- `#` and an implicit brace
  pub brace : definition raw (mark ∷ implicit 1 ∷ []) ≡ Tells NotConsecutive true []
  -- a tenth place
  pub tenth : definition raw (nine ++ mark ∷ digit 1 ∷ []) ≡ Tells AlreadyNine false nine_places
  pub behind_tenth : definition raw (nine ++ mark ∷ digit 1 ∷ Noted ∷ left ∷ right ∷ []) ≡ Done (nine_places ++ EndPlaces ∷ [])
  -- behind nine places `#{` is none
  pub no_tenth : definition raw (nine ++ mark ∷ left ∷ right ∷ []) ≡ Done (nine_places ++ Char 1 123 ∷ EndPlaces ∷ Char 1 123 ∷ [])
  -- \def\a x}: the body is empty
  pub missing : definition raw (letter 120 ∷ right ∷ []) ≡ Tells MissingBrace false (Char 11 120 ∷ EndPlaces ∷ [])
  pub behind_missing : definition raw (letter 120 ∷ right ∷ Noted ∷ []) ≡ Done (Char 11 120 ∷ EndPlaces ∷ [])
  -- \def\a{#1}: the 1 is read again, and the `#` is kept
  pub illegal : definition raw (left ∷ mark ∷ digit 1 ∷ []) ≡ Tells (IllegalNumber (Single 97)) true (EndPlaces ∷ [])
  pub behind_illegal : definition raw (left ∷ mark ∷ digit 1 ∷ Noted ∷ digit 1 ∷ right ∷ []) ≡ Done (EndPlaces ∷ Char 6 35 ∷ Char 12 49 ∷ [])
  -- \def\a{#}: the brace is read again
  pub alone : definition raw (left ∷ mark ∷ right ∷ Noted ∷ right ∷ []) ≡ Done (EndPlaces ∷ Char 6 35 ∷ [])
  -- 0 is no parameter's number
  pub zeroth : definition raw (mark ∷ digit 1 ∷ left ∷ mark ∷ digit 0 ∷ []) ≡ Tells (IllegalNumber (Single 97)) true (Place 35 ∷ EndPlaces ∷ [])

pub record WorkedTexts : Type 0 where
  -- {a#1}: `#` stands for itself
  pub plain : text raw (left ∷ letter 97 ∷ mark ∷ digit 1 ∷ right ∷ []) ≡ Done (Char 11 97 ∷ Char 6 35 ∷ Char 12 49 ∷ [])
  pub none : text raw (left ∷ right ∷ []) ≡ Done []
  pub nested : text raw (left ∷ left ∷ right ∷ right ∷ []) ≡ Done (Char 1 123 ∷ Char 2 125 ∷ [])
  -- the first brace may be a name's; but a name closes nothing
  pub by_name : text raw (implicit 1 ∷ implicit 2 ∷ right ∷ []) ≡ Done (Named (Single 98) ∷ [])
  pub first : text raw [] ≡ More Command []
  pub wanted : text raw (left ∷ []) ≡ More Raw []
  pub wanted_expanded : text expanded (left ∷ []) ≡ More Copied []
  -- where it is missing
  pub missing : text raw (letter 97 ∷ []) ≡ Tells MissingBrace true []
  -- what is skipped before it is fed is no brace either
  pub relax_missing : text raw (relax ∷ []) ≡ Tells MissingBrace true []
  pub space_missing : text raw (read 10 32 ∷ []) ≡ Tells MissingBrace true []
  pub behind_missing : text raw (letter 97 ∷ Noted ∷ letter 97 ∷ right ∷ []) ≡ Done (Char 11 97 ∷ [])
