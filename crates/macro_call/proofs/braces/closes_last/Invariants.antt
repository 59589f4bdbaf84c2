use Rattle.std.proofs.Common.{◌≡◌, ◌<◌, ◌≤◌, length}
use Rattle.token_lists.specs.Ids.{build_id}
use Rattle.macro_call.specs.Braces.{closes_last}
use Rattle.macro_call.specs.Cursors.{IsOn, rest_at}
use Rattle.macro_call.proofs.braces.closes_last.Given as goal

abbrev pub invariant-loop-token : goal.invariant-loop-token
invariant-loop-token l =
    IsOn l.lists (build_id l.build) l.from
    × (0 < l.groups)
    × (l.groups ≤ l.from.index)
    × (closes_last l.groups (rest_at l.lists (build_id l.build) l.from) ≡ closes_last 1 (rest_at l.lists (build_id l.build) l.fn.begin))

abbrev pub decreases-loop-token : goal.decreases-loop-token
decreases-loop-token l = length (rest_at l.lists (build_id l.build) l.from)
