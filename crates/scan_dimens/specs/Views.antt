-- Where a scanner may stand, and what it keeps.
use Rattle.std.specs.Prelude.{ℕ, ◌-◌, List, drop}
use Rattle.tex_defs.specs.declared.Token.{Token}
use Rattle.scan_dimens.specs.declared.keyword.KeywordPlace.{KeywordPlace}
use Rattle.scan_dimens.specs.declared.keyword.KeywordPlace.TheVariants.{Letters, PutsBack, Ended}

-- behind how many letters it stands, and how many tokens are to be put back; elsewhere a number that counts nothing
abbrev pub letters_at : KeywordPlace → ℕ
letters_at (Letters n) = n
letters_at p = 0

abbrev pub back_at : KeywordPlace → ℕ
back_at (PutsBack n) = n
back_at p = 1

-- the last of the tokens, so many, the last one first
abbrev pub kept : ℕ → List Token → List Token
kept n ts = drop (5 - n) ts

-- how many are kept
abbrev pub kept_at : KeywordPlace → ℕ
kept_at (Letters n) = n
kept_at (PutsBack n) = n
kept_at (Ended found) = 0
