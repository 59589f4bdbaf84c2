-- The arguments of a call.
use Rattle.std.specs.Prelude.{◌≡◌, ℕ, ◌≤◌, List, [], Option, None, Some, map, take, slice_index_or}
use Rattle.tex_defs.specs.declared.Token.{Token}
use Rattle.token_lists.specs.declared.ListRef.{ListRef}
use Rattle.token_lists.specs.Ids.{id_of}
use Rattle.token_lists.specs.Table.{Entry, tokens_at}
use Rattle.token_lists.specs.Accounts.{cells_hold}
use Rattle.macro_args.specs.declared.args.Args.{Args}

-- the tokens of an argument
abbrev pub cell_tokens : List (Option Entry) → Option ListRef → List Token
cell_tokens table None = []
cell_tokens table (Some r) = tokens_at table (id_of r)

abbrev pub args_in : List (Option Entry) → Args → List (List Token)
args_in table args = map (λ cell. cell_tokens table cell) (take args.count args.lists)

-- what the arguments hold
abbrev pub args_hold : Args → ℕ → ℕ
args_hold args h = cells_hold args.lists h

-- there are nine at most, and behind the last there is no list
pub record IsFilled (args : Args) : Type 0 where
  pub few : args.count ≤ 9
  pub free : (i : ℕ) → args.count ≤ i → slice_index_or args.lists i None ≡ None

-- no cell has a list
abbrev pub AreNone : List (Option ListRef) → Type 0
AreNone cells = (i : ℕ) → slice_index_or cells i None ≡ None
