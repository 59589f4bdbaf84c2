-- What tokens are to a row.
use Rattle.std.specs.Prelude.{ℕ, ℤ, pos, negsuc, Bool, true, false, nat_le, Option, Some, None}
use Rattle.tex_defs.specs.declared.Token.{Token}
use Rattle.tex_defs.specs.declared.Token.TheVariants as token
use Rattle.tex_defs.specs.declared.Name.{Name}
use Rattle.tex_defs.specs.declared.Name.TheVariants as name
use Rattle.tex_defs.specs.declared.Frozen.TheVariants as frozen
use Rattle.tex_defs.specs.declared.Seen.{Seen}
use Rattle.plain_tokens.specs.Tokens.{is_other}

-- `=`
abbrev pub is_equals : Seen → Bool
is_equals x = is_other 61 x.token

abbrev pub is_character : Token → Bool
is_character (token.Char category code) = true
is_character t = false

-- the name that may be assigned: no frozen one, but for `\inaccessible`
abbrev pub name_to_assign : Token → Option Name
name_to_assign (token.Named (name.Frozen frozen.Inaccessible)) = Some (name.Frozen frozen.Inaccessible)
name_to_assign (token.Named (name.Frozen f)) = None
name_to_assign (token.Named n) = Some n
name_to_assign t = None

-- what is inserted where it is missing
abbrev pub inaccessible : Token
inaccessible = token.Named (name.Frozen frozen.Inaccessible)

-- a number from 0 to n
abbrev pub is_at_most : ℕ → ℤ → Bool
is_at_most n (pos m) = nat_le m n
is_at_most n (negsuc m) = false

-- a number that isn't more than n
abbrev pub is_up_to : ℕ → ℤ → Bool
is_up_to n (pos m) = nat_le m n
is_up_to n (negsuc m) = true
