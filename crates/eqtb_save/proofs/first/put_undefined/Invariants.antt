use Rattle.std.proofs.Common.{◌≡◌, ◌+◌, length, replicate}
use Rattle.tex_defs.specs.declared.Meaning.TheVariants as means
use Rattle.equivalents.specs.declared.values.Val.TheVariants as val
use Rattle.eqtb_save.specs.First.{Adds}
use Rattle.eqtb_save.proofs.first.put_undefined.Given as goal

abbrev pub invariant-loop-k : goal.invariant-loop-k
invariant-loop-k l = record {
  after : Adds l.initial.groups l.groups (replicate l._k (val.Meant means.Undefined));
  count : length l.groups.levels ≡ length l.initial.groups.levels + l._k;
  most : l.groups.most ≡ l.initial.groups.most;
}
