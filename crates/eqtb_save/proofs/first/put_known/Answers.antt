use Rattle.std.proofs.Common.{ℕ, ◌+◌, ap, ◌∙◌, arith}
use Rattle.save_stack.specs.Groups.{Stack}
use Rattle.plain_tokens.specs.Meanings.{first_meaning, is_listed, primitive_count}
use Rattle.equivalents.specs.declared.values.Val.TheVariants as val
use Rattle.eqtb_save.proofs.Held.{K}
use Rattle.eqtb_save.proofs.Adding.{next_of, longer_by, whole_row}
use Rattle.eqtb_save.proofs.first.put_known.Goals as goal

pub loop-k-preserved : goal.loop-k-preserved
loop-k-preserved c = record {
  after = next_of _ (λ (n : ℕ). val.Meant (first_meaning (is_listed c.args.numbers.now) n)) 1 c.loop-k.k (c.loop-k.k + 1) (omega arith) c.loop-k.invariant.after c.add.ensures.after (ap val.Meant c.known.ensures);
  count = omega (arith, c.loop-k.invariant.count, longer_by _ _ _ c.add.ensures.after);
  most = ap (λ (s : Stack K). s.most) c.add.ensures.after ∙ c.loop-k.invariant.most;
}

pub returns-clause-after : goal.returns-clause-after
returns-clause-after c = whole_row (λ (n : ℕ). val.Meant (first_meaning (is_listed c.args.numbers.now) n)) 1 c.loop-k.k primitive_count (omega arith) c.loop-k.invariant.after
