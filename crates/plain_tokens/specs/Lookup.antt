-- Names by their numbers, and the token that a character or a name of a line is.
use Rattle.std.specs.Prelude.{ℕ, suc, ◌+◌, Bool, true, false, List, [], ◌∷◌, length, Option, Some, None, bytes_eq, codes, if◌then◌else◌}
use Rattle.tex_defs.specs.declared.Token.{Token}
use Rattle.tex_defs.specs.declared.Token.TheVariants.{Char, Named}
use Rattle.tex_defs.specs.declared.Name.{Name}
use Rattle.tex_defs.specs.declared.Name.TheVariants.{Active, Single, Empty, Word, Frozen}
use Rattle.tex_defs.specs.declared.Frozen.TheVariants.{Unknown}
use Rattle.plain_tokens.specs.Lex.{Lexeme, Character, ActiveName, SingleName, WordName, EmptyName, ParName}

-- the number of a name, where the first of these has the number k
unfoldable pub number_from : ℕ → List (List ℕ) → List ℕ → Option ℕ
number_from k [] name = None
number_from k (first ∷ names) name = if bytes_eq first name then Some k else number_from (suc k) names name

-- the number of a name among these, from 1, if it is one of them
abbrev pub name_number : List (List ℕ) → List ℕ → Option ℕ
name_number names name = number_from 1 names name

-- A name that isn't entered: a reading that enters names gives it the next number, another meets it as an unknown name.
abbrev pub unknown : Bool → ℕ → Name
unknown true count = Word (count + 1)
unknown false count = Frozen Unknown

abbrev pub numbered_name : Bool → ℕ → Option ℕ → Name
numbered_name enters count (Some number) = Word number
numbered_name enters count None = unknown enters count

-- a name of two or more characters, where these are entered
abbrev pub name_among : Bool → List (List ℕ) → List ℕ → Name
name_among enters names bytes = numbered_name enters (length names) (name_number names bytes)

-- The token, where these names are entered. `\par` at an empty line is the name `par`, whatever it means now.
abbrev pub token_of : Bool → List (List ℕ) → Lexeme → Token
token_of enters names (Character category code) = Char category code
token_of enters names (ActiveName code) = Named (Active code)
token_of enters names (SingleName code) = Named (Single code)
token_of enters names (WordName bytes) = Named (name_among enters names bytes)
token_of enters names EmptyName = Named Empty
token_of enters names ParName = Named (name_among enters names (codes "par"))

-- a name joins those that are entered where it isn't among them
abbrev pub joins : List ℕ → Option ℕ → List (List ℕ)
joins bytes (Some number) = []
joins bytes None = bytes ∷ []

abbrev pub new_among : Bool → List (List ℕ) → List ℕ → List (List ℕ)
new_among true names bytes = joins bytes (name_number names bytes)
new_among false names bytes = []

-- the name that joins them, if one does
abbrev pub new_name : Bool → List (List ℕ) → Lexeme → List (List ℕ)
new_name enters names (WordName bytes) = new_among enters names bytes
new_name enters names ParName = new_among enters names (codes "par")
new_name enters names x = []
