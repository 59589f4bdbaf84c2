-- What a call changes in the lists.
use Rattle.std.specs.Prelude.{◌≡◌, ◌≢◌, ◌<◌, ℕ, List, ◌++◌, length, Option}
use Rattle.tex_defs.specs.declared.Token.{Token}
use Rattle.token_lists.specs.Table.{Entry, entry_at}

-- all lists but one are as they were
pub record IsOnly (old new : List (Option Entry)) (id : ℕ) : Type 0 where
  pub apart : (h : ℕ) → h ≢ id → entry_at new h ≡ entry_at old h

-- some of these tokens were appended, from the first on, and not all
pub record IsGrownByPart (old new tokens : List Token) : Type 0 where
  pub front : List Token
  pub behind : List Token
  pub whole : tokens ≡ front ++ behind
  pub grown : new ≡ old ++ front
  pub some : 0 < length behind
