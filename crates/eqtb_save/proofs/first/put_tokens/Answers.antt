use Rattle.std.proofs.Common.{ap, refl, ◌∙◌, arith}
use Rattle.save_stack.specs.Groups.{Stack}
use Rattle.std.specs.Prelude.{None}
use Rattle.equivalents.specs.declared.values.Val.TheVariants as val
use Rattle.eqtb_save.proofs.Held.{K}
use Rattle.eqtb_save.proofs.Adding.{next_copy, longer_by}
use Rattle.eqtb_save.proofs.first.put_tokens.Goals as goal

pub loop-i-preserved : goal.loop-i-preserved
loop-i-preserved c = record {
  after = next_copy _ (val.Tokens None) c.loop-i._i c.loop-i.invariant.after c.add.ensures.after refl;
  count = omega (arith, c.loop-i.invariant.count, longer_by _ _ _ c.add.ensures.after);
  most = ap (λ (s : Stack K). s.most) c.add.ensures.after ∙ c.loop-i.invariant.most;
}
