use Rattle.std.proofs.Common.{◌≡◌, length, vec_capacity}
use Rattle.save_stack.specs.Groups.{top}
use Rattle.eqtb_save.proofs.Closes.{IsGoing}
use Rattle.eqtb_save.proofs.Eqtb.close_group.Given as goal

abbrev pub invariant-loop-at : goal.invariant-loop-at
invariant-loop-at l = record {
  going : IsGoing l.fn.lists l.initial.self-inside.groups l.lists l.self-inside.groups l.self-inside.categories;
  sizes : l.self-inside.sizes ≡ l.initial.self-inside.sizes;
  room : vec_capacity l.self-inside.closing ≡ vec_capacity l.initial.self-inside.closing;
}

abbrev pub decreases-loop-at : goal.decreases-loop-at
decreases-loop-at l = length (top l.self-inside.groups.entries)
