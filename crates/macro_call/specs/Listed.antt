-- Which arguments have lists.
use Rattle.std.specs.Prelude.{◌≡◌, ℕ, ◌<◌, List, length, Option, None, Some, slice_index_or}
use Rattle.token_lists.specs.declared.ListRef.{ListRef}
use Rattle.token_lists.specs.Ids.{id_of}
use Rattle.token_lists.specs.Table.{Entry, tokens_at}
use Rattle.macro_args.specs.declared.args.Args.{Args}

-- each list of an argument has a token, so an argument without tokens has no list
pub record AreListed (table : List (Option Entry)) (args : Args) : Type 0 where
  pub tokens : (i : ℕ) (r : ListRef) → slice_index_or args.lists i None ≡ Some r → 0 < length (tokens_at table (id_of r))
