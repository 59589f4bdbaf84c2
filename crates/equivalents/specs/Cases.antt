-- Characters as `\uppercase` and `\lowercase` change them (The TeXbook, chapter 7; TeX: The Program, part 49, `shift_case`).
use Rattle.std.specs.Prelude.{ℕ, ◌==◌, ℤ, pos, negsuc, Bool, true, false, nat_lt, if◌then◌else◌, List, slice_index_or}
use Rattle.tex_defs.specs.declared.Token.{Token}
use Rattle.tex_defs.specs.declared.Token.TheVariants as token
use Rattle.tex_defs.specs.declared.Name.TheVariants as name
use Rattle.equivalents.specs.Tables.{Tables}

-- the capital letters of all characters, or their small ones
abbrev pub case_codes : (upper : Bool) → Tables → List ℤ
case_codes true m = m.uppercase
case_codes false m = m.lowercase

-- a character's code; another number counts as 0
abbrev pub as_code : ℤ → ℕ
as_code (pos n) = if nat_lt n 256 then n else 0
as_code (negsuc n) = 0

-- a code of 0 changes nothing
abbrev pub unless_zero : ℕ → (code : ℕ) → ℕ
unless_zero c code = if code == 0 then c else code

abbrev pub changed_code : List ℤ → ℕ → ℕ
changed_code codes c = unless_zero c (as_code (slice_index_or codes c (pos 0)))

-- characters change, explicit or active, and other tokens stay
abbrev pub case_changed : List ℤ → Token → Token
case_changed codes (token.Char category c) = token.Char category (changed_code codes c)
case_changed codes (token.Named (name.Active c)) = token.Named (name.Active (changed_code codes c))
case_changed codes t = t
