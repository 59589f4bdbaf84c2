-- A walk along the tokens of a list, or of one that is being built.
use Rattle.std.specs.Prelude.{◌≡◌, ℕ, List, [], drop, Option, None}
use Rattle.tex_defs.specs.declared.Token.{Token}
use Rattle.token_lists.specs.Table.{Entry, tokens_at}
use Rattle.token_lists.specs.Ids.{id_of, build_id}
use Rattle.token_lists.specs.Accounts.{IsReading}
use Rattle.token_show.specs.declared.walk.Source.{Source}
use Rattle.token_show.specs.declared.walk.Source.TheVariants.{Nothing, Finished, Built}
use Rattle.token_show.specs.declared.walk.Walk.TheInside.{Inside}

-- the tokens of a source from this index on
abbrev pub tokens_from : List (Option Entry) → ℕ → Source → List Token
tokens_from table index Nothing = []
tokens_from table index (Finished list) = drop index (tokens_at table (id_of list.now))
tokens_from table index (Built build) = drop index (tokens_at table (build_id build.now))

-- the list is held, and `at` is the place of the token with this index
abbrev pub IsAt : List (Option Entry) → Option ℕ → ℕ → Source → Type 0
IsAt table at index Nothing = at ≡ None
IsAt table at index (Finished list) = IsReading table (id_of list.now) at index
IsAt table at index (Built build) = IsReading table (build_id build.now) at index

-- what a `Walk` stands for
abbrev pub walk_view : Inside → List Token
walk_view a = tokens_from a.lists.now a.index a.source

abbrev pub IsWalk : Inside → Type 0
IsWalk a = IsAt a.lists.now a.at a.index a.source
