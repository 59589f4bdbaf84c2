use Rattle.std.proofs.Common.{◌≡◌, ◌+◌, length, map}
use Rattle.std.specs.List.{range_with_len}
use Rattle.plain_tokens.specs.Meanings.{first_meaning, is_listed}
use Rattle.equivalents.specs.declared.values.Val.TheVariants as val
use Rattle.eqtb_save.specs.First.{Adds}
use Rattle.eqtb_save.proofs.first.put_known.Given as goal

abbrev pub invariant-loop-k : goal.invariant-loop-k
invariant-loop-k l = record {
  after : Adds l.initial.groups l.groups (map (λ n. val.Meant (first_meaning (is_listed l.numbers) n)) (range_with_len 1 l.k));
  count : length l.groups.levels ≡ length l.initial.groups.levels + l.k;
  most : l.groups.most ≡ l.initial.groups.most;
}
