-- What tokens are to a reading.
use Rattle.std.specs.Prelude.{ℕ, ◌==◌, ◌&&◌, Bool, true, false, List, [], ◌∷◌, ◌++◌, map, if◌then◌else◌}
use Rattle.tex_defs.specs.declared.Token.{Token}
use Rattle.tex_defs.specs.declared.Token.TheVariants as token
use Rattle.tex_defs.specs.declared.Meaning.{Meaning}
use Rattle.tex_defs.specs.declared.Meaning.TheVariants as means
use Rattle.tex_defs.specs.declared.Seen.{Seen}
use Rattle.plain_tokens.specs.Categories.{space, other}

-- an explicit character of this category
abbrev pub has_category : ℕ → Token → Bool
has_category n (token.Char category code) = category == n
has_category n t = false

-- an explicit character of category 12
abbrev pub is_other : ℕ → Token → Bool
is_other n (token.Char category code) = (category == other) && (code == n)
is_other n t = false

-- a space token: category 10, character 32
abbrev pub is_space_token : Token → Bool
is_space_token (token.Char category code) = (category == space) && (code == 32)
is_space_token t = false

abbrev pub space_token : Token
space_token = token.Char space 32

-- A made text: a space token for each space, and a character of category 12 for each other character.
abbrev pub made_token : ℕ → Token
made_token c = if c == 32 then space_token else token.Char other c

abbrev pub made_text : List ℕ → List Token
made_text = map made_token

-- The codes of a list's characters: its other tokens have none.
abbrev pub code_of : Token → List ℕ
code_of (token.Char category code) = code ∷ []
code_of t = []

abbrev pub character_codes : List Token → List ℕ
character_codes [] = []
character_codes (t ∷ ts) = code_of t ++ character_codes ts

-- the meaning is a character of this category
abbrev pub means_category : ℕ → Meaning Unit → Bool
means_category n (means.Char category code) = category == n
means_category n m = false

abbrev pub is_undefined : Meaning Unit → Bool
is_undefined means.Undefined = true
is_undefined m = false

-- the name of an \outer macro
abbrev pub is_outer : Meaning Unit → Bool
is_outer (means.Macro long outer list) = outer
is_outer m = false

abbrev pub is_space : Seen → Bool
is_space x = means_category space x.meaning
