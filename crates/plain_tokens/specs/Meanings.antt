-- What the names mean (TeX: The Program, part 17): a list with a meaning for each location. A macro has the number of its list,
-- but for the meaning of the frozen `\endwrite`, which has none.
use Rattle.std.specs.Prelude.{ℕ, ◌+◌, ◌==◌, ◌||◌, Bool, true, false, Option, None, Some, List, [], ◌∷◌, ◌++◌, map, replicate, slice_index_or, if◌then◌else◌}
use Rattle.std.specs.List.{range_with_len}
use Rattle.tex_defs.specs.declared.Frozen.{Frozen}
use Rattle.tex_defs.specs.declared.Frozen.TheVariants as frozen
use Rattle.tex_defs.specs.declared.Name.{Name}
use Rattle.tex_defs.specs.declared.Name.TheVariants as name
use Rattle.tex_defs.specs.declared.Token.{Token}
use Rattle.tex_defs.specs.declared.Token.TheVariants as token
use Rattle.tex_defs.specs.declared.Meaning.{Meaning}
use Rattle.tex_defs.specs.declared.Meaning.TheVariants as means
use Rattle.tex_defs.specs.declared.Seen.{Seen}
use Rattle.prim_table.specs.declared.Class.TheVariants.{TokenParameter}
use Rattle.prim_table.specs.Primitives.{last_number, is_expanded}
use Rattle.plain_tokens.specs.Names.{relax_primitive}

-- how many locations stand before those of the names of two or more characters
abbrev pub fixed_locations : ℕ
fixed_locations = 514

-- The location of a name: the active characters come first, then the names of one character, the empty name, the
-- frozen `\inaccessible`, and the names of two or more characters by their numbers, which begin with 1. No other
-- frozen name has a location.
abbrev pub location : Name → Option ℕ
location (name.Active c) = Some c
location (name.Single c) = Some (256 + c)
location name.Empty = Some 512
location (name.Frozen frozen.Inaccessible) = Some 513
location (name.Frozen f) = None
location (name.Word n) = if n == 0 then None else Some (513 + n)

-- the numbers of the primitives `\endgroup` and `\fi`
abbrev pub end_group_primitive : ℕ
end_group_primitive = 3

abbrev pub fi_primitive : ℕ
fi_primitive = 82

-- What the frozen names mean that have no location: three are primitives, `\endwrite` is an `\outer` macro that has no
-- list, and a name that wasn't entered is undefined.
abbrev pub frozen_meaning : Frozen → Meaning (Option ℕ)
frozen_meaning frozen.Relax = means.Prim relax_primitive
frozen_meaning frozen.Fi = means.Prim fi_primitive
frozen_meaning frozen.EndGroup = means.Prim end_group_primitive
frozen_meaning frozen.EndWrite = means.Macro false true None
frozen_meaning f = means.Undefined

-- what a name means that has no location
abbrev pub fixed_meaning : Name → Meaning (Option ℕ)
fixed_meaning (name.Frozen f) = frozen_meaning f
fixed_meaning n = means.Undefined

-- what stands at a location, if the name has one
abbrev pub looked_up : List (Meaning (Option ℕ)) → Option ℕ → Meaning (Option ℕ) → Meaning (Option ℕ)
looked_up cells None fixed = fixed
looked_up cells (Some k) fixed = slice_index_or cells k means.Undefined

-- what a name means: a name that wasn't entered is undefined
abbrev pub name_meaning : List (Meaning (Option ℕ)) → Name → Meaning (Option ℕ)
name_meaning cells n = looked_up cells (location n) (fixed_meaning n)

-- a meaning as readings see it, where a macro has no list
abbrev pub seen_as : {L : Type 0} → Meaning L → Meaning Unit
seen_as means.Undefined = means.Undefined
seen_as means.RelaxMarked = means.RelaxMarked
seen_as (means.Char category code) = means.Char category code
seen_as (means.CharGiven code) = means.CharGiven code
seen_as (means.MathGiven code) = means.MathGiven code
seen_as (means.Register kind n) = means.Register kind n
seen_as (means.Prim number) = means.Prim number
seen_as (means.Macro long outer list) = means.Macro long outer tt

abbrev pub token_meaning : List (Meaning (Option ℕ)) → Token → Meaning Unit
token_meaning cells (token.Char category c) = means.Char category c
token_meaning cells (token.Named n) = seen_as (name_meaning cells n)
token_meaning cells (token.Marked n) = seen_as (name_meaning cells n)
token_meaning cells t = means.Undefined

-- a token with what it means now
abbrev pub seen : List (Meaning (Option ℕ)) → Token → Seen
seen cells t = record { token = t; meaning = token_meaning cells t }

-- INITEX's meanings, where these primitives mean something: each other name is undefined
abbrev pub first_meaning : (ℕ → Bool) → ℕ → Meaning (Option ℕ)
first_meaning is_known number = if is_known number then means.Prim number else means.Undefined

-- how many primitives there are
abbrev pub primitive_count : ℕ
primitive_count = last_number TokenParameter

abbrev pub first_meanings : (ℕ → Bool) → List (Meaning (Option ℕ))
first_meanings is_known = replicate fixed_locations means.Undefined ++ map (first_meaning is_known) (range_with_len 1 primitive_count)

-- whether a number is one of these
abbrev pub is_listed : List ℕ → ℕ → Bool
is_listed [] number = false
is_listed (n ∷ ns) number = (n == number) || is_listed ns number

-- WHAT IS HANDED ON

-- What is expanded: the undefined, the macros, the expandable primitives and the conditionals (TeX: The Program, part 15, above `max_command`).
abbrev pub is_expandable : Meaning Unit → Bool
is_expandable means.Undefined = true
is_expandable (means.Macro long outer list) = true
is_expandable (means.Prim number) = is_expanded number
is_expandable m = false

-- what a name means behind `\noexpand`: this once `\relax`, where it would be expanded
abbrev pub marked_meaning : Meaning Unit → Meaning Unit
marked_meaning m = if is_expandable m then means.RelaxMarked else m

-- A token as it is handed on: a name that `\noexpand` marked is the plain name.
abbrev pub met : List (Meaning (Option ℕ)) → Token → Seen
met cells (token.Marked n) = record { token = token.Named n; meaning = marked_meaning (token_meaning cells (token.Named n)) }
met cells t = seen cells t

-- WHAT `\let` GIVES (The TeXbook, chapter 20)

-- what a token means: a macro with its list, which is shared
abbrev pub whole_meaning : List (Meaning (Option ℕ)) → Token → Meaning (Option ℕ)
whole_meaning cells (token.Char category c) = means.Char category c
whole_meaning cells (token.Named n) = name_meaning cells n
whole_meaning cells (token.Marked n) = name_meaning cells n
whole_meaning cells t = means.Undefined

-- a token with this meaning: what `\noexpand` made of it stays
abbrev pub let_meaning : List (Meaning (Option ℕ)) → Token → Meaning Unit → Meaning (Option ℕ)
let_meaning cells t means.RelaxMarked = means.RelaxMarked
let_meaning cells t m = whole_meaning cells t

-- what `\let` gives a name from this token
abbrev pub meaning_to_let : List (Meaning (Option ℕ)) → Seen → Meaning (Option ℕ)
meaning_to_let cells x = let_meaning cells x.token x.meaning
