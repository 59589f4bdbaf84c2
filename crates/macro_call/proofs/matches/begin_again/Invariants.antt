use Rattle.std.proofs.Common.{◌≡◌, ◌≤◌, ◌-◌, ◌+◌, ◌++◌, ◌∷◌, [], length, take, false, ◌&&◌}
use Rattle.std.specs.Prelude.{◌==◌}
use Rattle.token_lists.specs.Ids.{id_of}
use Rattle.plain_tokens.specs.Arguments.{is_prefix}
use Rattle.macro_call.specs.Cursors.{IsOn, delimiter_at}
use Rattle.macro_call.proofs.Fronts.{IsPast}
use Rattle.macro_call.proofs.matches.begin_again.Given as goal

abbrev pub invariant-loop-i : goal.invariant-loop-i
invariant-loop-i l =
    IsOn l.lists (id_of l.list) l.from
    × (l.matched - l.i ≤ length (delimiter_at l.lists (id_of l.list) l.from))
    × (l.groups ≤ l.depth + l.i)
    × IsPast (delimiter_at l.lists (id_of l.list) l.delimiter) (take l.matched (delimiter_at l.lists (id_of l.list) l.delimiter) ++ l.x ∷ []) l.depth l.i l.groups (take (l.matched - l.i) (delimiter_at l.lists (id_of l.list) l.from) ++ l.x ∷ [])
    × (((l.groups == 0) && is_prefix (take (l.matched - l.i) (delimiter_at l.lists (id_of l.list) l.from) ++ l.x ∷ []) (delimiter_at l.lists (id_of l.list) l.delimiter)) ≡ false)
