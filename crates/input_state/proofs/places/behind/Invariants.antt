use Rattle.std.proofs.Common.{◌≡◌}
use Rattle.token_lists.specs.Ids.{id_of}
use Rattle.macro_call.specs.Cursors.{IsOn}
use Rattle.input_state.proofs.places.behind.Given as goal

abbrev pub invariant-loop-k : goal.invariant-loop-k
invariant-loop-k l = IsOn l.lists (id_of l.list) l.from × (l.from.index ≡ l._k)
