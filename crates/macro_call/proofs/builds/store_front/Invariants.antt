use Rattle.std.proofs.Common.{◌≡◌, ◌≤◌, ◌-◌, ◌++◌, length, take, drop}
use Rattle.token_lists.specs.Table.{tokens_at}
use Rattle.token_lists.specs.Accounts.{Moves, none}
use Rattle.token_lists.specs.Ids.{id_of, build_id, IsBuilding}
use Rattle.macro_call.specs.Cursors.{IsOn, delimiter_at}
use Rattle.macro_call.specs.Tables.{IsOnly}
use Rattle.macro_call.proofs.builds.store_front.Given as goal

abbrev pub invariant-loop-i : goal.invariant-loop-i
invariant-loop-i l =
    IsBuilding l.lists l.build
    × (build_id l.build ≡ build_id l.initial.build)
    × IsOn l.lists (id_of l.list) l.from
    × (l.count - l._i ≤ length (delimiter_at l.lists (id_of l.list) l.from))
    × IsOnly l.initial.lists l.lists (build_id l.initial.build)
    × Moves l.initial.lists l.lists none none
    × (tokens_at l.lists (build_id l.initial.build) ≡ tokens_at l.initial.lists (build_id l.initial.build) ++ take l._i (delimiter_at l.initial.lists (id_of l.list) l.fn.delimiter))
    × (drop l._i (delimiter_at l.initial.lists (id_of l.list) l.fn.delimiter) ≡ delimiter_at l.lists (id_of l.list) l.from)
    × (length l.lists ≡ length l.initial.lists)
