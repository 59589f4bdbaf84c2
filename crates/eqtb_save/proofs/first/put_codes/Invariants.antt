use Rattle.std.proofs.Common.{◌≡◌, ◌+◌, length, map}
use Rattle.std.specs.List.{range_with_len}
use Rattle.equivalents.specs.declared.values.Val.TheVariants as val
use Rattle.eqtb_save.specs.First.{Adds, first_code}
use Rattle.eqtb_save.proofs.first.put_codes.Given as goal

abbrev pub invariant-loop-c : goal.invariant-loop-c
invariant-loop-c l = record {
  after : Adds l.initial.groups l.groups (map (λ c. val.Number (first_code l.kind c)) (range_with_len 0 l.c));
  count : length l.groups.levels ≡ length l.initial.groups.levels + l.c;
  most : l.groups.most ≡ l.initial.groups.most;
}
