use Rattle.std.proofs.Common.{◌≡◌, ◌+◌, length}
use Rattle.token_lists.specs.Table.{tokens_at}
use Rattle.token_lists.specs.Ids.{build_id}
use Rattle.macro_call.specs.Cursors.{IsOn, rest_at}
use Rattle.macro_call.proofs.present.built_len.Given as goal

abbrev pub invariant-loop-next : goal.invariant-loop-next
invariant-loop-next l =
    IsOn l.lists (build_id l.build) l.from
    × (l.from.index + length (rest_at l.lists (build_id l.build) l.from) ≡ length (tokens_at l.lists (build_id l.build)))

abbrev pub decreases-loop-next : goal.decreases-loop-next
decreases-loop-next l = length (rest_at l.lists (build_id l.build) l.from)
