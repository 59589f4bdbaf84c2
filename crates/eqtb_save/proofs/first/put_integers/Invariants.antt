use Rattle.std.proofs.Common.{◌≡◌, ◌+◌, length, map}
use Rattle.std.specs.List.{range_with_len}
use Rattle.equivalents.specs.First.{first_integer}
use Rattle.equivalents.specs.declared.values.Val.TheVariants as val
use Rattle.eqtb_save.specs.First.{Adds}
use Rattle.eqtb_save.proofs.first.put_integers.Given as goal

abbrev pub invariant-loop-i : goal.invariant-loop-i
invariant-loop-i l = record {
  after : Adds l.initial.groups l.groups (map (λ i. val.Number (first_integer i)) (range_with_len 0 l.i));
  count : length l.groups.levels ≡ length l.initial.groups.levels + l.i;
  most : l.groups.most ≡ l.initial.groups.most;
}
