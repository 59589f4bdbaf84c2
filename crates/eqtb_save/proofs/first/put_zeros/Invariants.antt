use Rattle.std.proofs.Common.{◌≡◌, ◌+◌, length, replicate, pos}
use Rattle.equivalents.specs.declared.values.Val.TheVariants as val
use Rattle.eqtb_save.specs.First.{Adds}
use Rattle.eqtb_save.proofs.first.put_zeros.Given as goal

abbrev pub invariant-loop-i : goal.invariant-loop-i
invariant-loop-i l = record {
  after : Adds l.initial.groups l.groups (replicate l._i (val.Number (pos 0)));
  count : length l.groups.levels ≡ length l.initial.groups.levels + l._i;
  most : l.groups.most ≡ l.initial.groups.most;
}
