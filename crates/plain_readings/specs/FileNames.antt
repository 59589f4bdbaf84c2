-- `\input`: the characters of a file's name are gathered by expansion, up to a space, which goes, or to what means no character, which is
-- given back. The TeXbook, chapter 20; TeX: The Program, part 29 (`scan_file_name`).
use Rattle.std.specs.Prelude.{◌==◌, Bool, true, false, nat_le, List, [], ◌∷◌, ◌++◌, Option, Some, None, if◌then◌else◌}
use Rattle.tex_defs.specs.declared.Token.{Token}
use Rattle.tex_defs.specs.declared.Token.TheVariants as token
use Rattle.tex_defs.specs.declared.Meaning.{Meaning}
use Rattle.tex_defs.specs.declared.Meaning.TheVariants as means
use Rattle.tex_syntax.specs.declared.words.Want.{Want}
use Rattle.tex_syntax.specs.declared.words.Want.TheVariants.{Expanded}
use Rattle.plain_tokens.specs.Categories.{other}
use Rattle.rows.specs.declared.command.Call.{Call}
use Rattle.rows.specs.declared.command.Effect.TheVariants.{StartInput}
use Rattle.rows.specs.Readings.{Fed, Tok}
use Rattle.rows.specs.Commands.{CommandAsk, More, ActsOn, Ends}

-- the character that a token means, explicit or implicit, of a category up to 12
abbrev pub character_meant : Meaning Unit → Option Token
character_meant (means.Char category code) = if nat_le category other then Some (token.Char category code) else None
character_meant m = None

-- a character of code 32, of whatever category
abbrev pub is_blank : Token → Bool
is_blank (token.Char category code) = code == 32
is_blank t = false

-- the file of this name is opened, and the reading ends
abbrev pub opens : Call → (give_back : Bool) → List Token → CommandAsk
opens c back ts = ActsOn c (StartInput back) ts

-- behind a token that means this; `longer` is what comes behind a name that has got a character
abbrev pub named_on : Call → List Token → (meant : Option Token) → (longer : List Token → CommandAsk) → CommandAsk
named_on c ts None longer = opens c true ts
named_on c ts (Some t) longer = if is_blank t then opens c false ts else longer (ts ++ t ∷ [])

-- behind these characters, where it wants its next token so
abbrev pub file_naming : Call → Want → List Token → List Fed → CommandAsk
file_naming c want ts [] = More want
file_naming c want ts (Tok x ∷ fed) = named_on c ts (character_meant x.meaning) (λ us. file_naming c Expanded us fed)
file_naming c want ts (y ∷ fed) = Ends

-- the characters before the token that ends the name
abbrev pub character_before : (meant : Option Token) → (more : List Token) → List Token
character_before None ts = []
character_before (Some t) ts = if is_blank t then [] else t ∷ ts

abbrev pub file_characters : List Fed → List Token
file_characters [] = []
file_characters (Tok x ∷ fed) = character_before (character_meant x.meaning) (file_characters fed)
file_characters (y ∷ fed) = []
