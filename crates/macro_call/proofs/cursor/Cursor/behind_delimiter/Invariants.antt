use Rattle.std.proofs.Common.{◌≡◌, length}
use Rattle.token_lists.specs.Ids.{id_of}
use Rattle.plain_tokens.specs.Arguments.{delimiters_of}
use Rattle.macro_call.specs.Cursors.{IsOn, rest_at, delimiter_at}
use Rattle.macro_call.proofs.cursor.Cursor.behind_delimiter.Given as goal

abbrev pub invariant-loop-next : goal.invariant-loop-next
invariant-loop-next l =
    IsOn l.lists (id_of l.list) l.from
    × (delimiters_of (rest_at l.lists (id_of l.list) l.from) ≡ delimiters_of (rest_at l.lists (id_of l.list) l.initial.from))

abbrev pub decreases-loop-next : goal.decreases-loop-next
decreases-loop-next l = length (delimiter_at l.lists (id_of l.list) l.from)
