use Rattle.std.proofs.Common.{◌≡◌, ◌≤◌, ◌<◌, take, length}
use Rattle.std.specs.Prelude.{slice_get, IsSome, ◌↔◌}
use Rattle.token_lists.specs.Ids.{id_of}
use Rattle.token_lists.specs.Table.{words, tokens_at, places_at}
use Rattle.token_lists.proofs.Lists.same.Given as goal

abbrev pub invariant-loop-i : goal.invariant-loop-i
invariant-loop-i l =
    let one = id_of l.a in
    let other = id_of l.b in
    record {
      left : l.left ≡ slice_get (places_at l.self one) l._i;
      left_ends : IsSome l.left ↔ (l._i < length (tokens_at l.self one));
      right : l.right ≡ slice_get (places_at l.self other) l._i;
      right_ends : IsSome l.right ↔ (l._i < length (tokens_at l.self other));
      same : take l._i (tokens_at l.self one) ≡ take l._i (tokens_at l.self other);
      within : l._i ≤ length (tokens_at l.self one);
      all : l._i-end ≡ words l.self;
    }
