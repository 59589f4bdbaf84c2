use Rattle.std.proofs.Common.{◌≡◌, ◌<◌, ◌≤◌, ◌+◌, ◌-◌, ◌++◌, ◌∷◌, [], length, take}
use Rattle.token_lists.specs.Ids.{id_of}
use Rattle.plain_tokens.specs.Arguments.{is_prefix}
use Rattle.macro_call.specs.Cursors.{IsOn, delimiter_at}
use Rattle.macro_call.proofs.matches.behind_front.Given as goal

abbrev pub invariant-loop-k : goal.invariant-loop-k
invariant-loop-k l =
    IsOn l.lists (id_of l.list) l.wanted
    × IsOn l.lists (id_of l.list) l.met
    × (l.count - l._k < length (delimiter_at l.lists (id_of l.list) l.wanted))
    × (l.count - l._k ≤ length (delimiter_at l.lists (id_of l.list) l.met))
    × (is_prefix (take (l.count - l._k) (delimiter_at l.lists (id_of l.list) l.met) ++ l.x ∷ []) (delimiter_at l.lists (id_of l.list) l.wanted) ≡ is_prefix (take l.count (delimiter_at l.lists (id_of l.list) l.fn.from) ++ l.x ∷ []) (delimiter_at l.lists (id_of l.list) l.fn.delimiter))
    × (l.wanted.index ≡ l.fn.delimiter.index + l._k)
