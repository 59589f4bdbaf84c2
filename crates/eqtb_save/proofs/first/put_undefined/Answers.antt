use Rattle.std.proofs.Common.{ap, refl, ◌∙◌, arith}
use Rattle.save_stack.specs.Groups.{Stack}
use Rattle.tex_defs.specs.declared.Meaning.TheVariants as means
use Rattle.equivalents.specs.declared.values.Val.TheVariants as val
use Rattle.eqtb_save.proofs.Held.{K}
use Rattle.eqtb_save.proofs.Adding.{next_copy, longer_by}
use Rattle.eqtb_save.proofs.first.put_undefined.Goals as goal

pub loop-k-preserved : goal.loop-k-preserved
loop-k-preserved c = record {
  after = next_copy _ (val.Meant means.Undefined) c.loop-k._k c.loop-k.invariant.after c.add.ensures.after refl;
  count = omega (arith, c.loop-k.invariant.count, longer_by _ _ _ c.add.ensures.after);
  most = ap (λ (s : Stack K). s.most) c.add.ensures.after ∙ c.loop-k.invariant.most;
}
