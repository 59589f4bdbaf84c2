-- What a reader of a list still reads.
use Rattle.std.specs.Prelude.{ℕ, List, drop, Option}
use Rattle.tex_defs.specs.declared.Token.{Token}
use Rattle.token_lists.specs.Ids.{id_of}
use Rattle.token_lists.specs.Table.{Entry, tokens_at}
use Rattle.token_lists.specs.Accounts.{IsReading}
use Rattle.input_stack.specs.declared.reader.Reader.{Reader}

abbrev pub number : Reader → ℕ
number r = id_of r.list

-- the tokens that are left
abbrev pub rest : List (Option Entry) → Reader → List Token
rest table r = drop r.read (tokens_at table (number r))

-- the reader is at the place of its next token
abbrev pub IsAt : List (Option Entry) → Reader → Type 0
IsAt table r = IsReading table (number r) r.at r.read
