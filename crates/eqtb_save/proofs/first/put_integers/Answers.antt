use Rattle.std.proofs.Common.{ℕ, ap, ◌∙◌, arith, rules}
use Rattle.std.proofs.lemmas.Int.{to_z-of_z}
use mir.Syntax.{w32}
use Rattle.save_stack.specs.Groups.{Stack}
use Rattle.equivalents.specs.declared.values.Val.TheVariants as val
use Rattle.equivalents.specs.First.{first_integer}
use Rattle.eqtb_save.proofs.Held.{K}
use Rattle.eqtb_save.proofs.Adding.{next_of, longer_by, whole_row}
use Rattle.eqtb_save.proofs.first.put_integers.Goals as goal

pub loop-i-preserved : goal.loop-i-preserved
loop-i-preserved c = record {
  after = next_of _ (λ (k : ℕ). val.Number (first_integer k)) 0 c.loop-i.i c.loop-i.i (omega arith) c.loop-i.invariant.after c.add.ensures.after (ap val.Number (to_z-of_z w32 c.integer.result (search rules) ∙ c.integer.ensures));
  count = omega (arith, c.loop-i.invariant.count, longer_by _ _ _ c.add.ensures.after);
  most = ap (λ (s : Stack K). s.most) c.add.ensures.after ∙ c.loop-i.invariant.most;
}

pub returns-clause-after : goal.returns-clause-after
returns-clause-after c = whole_row (λ (k : ℕ). val.Number (first_integer k)) 0 c.loop-i.i 55 (omega arith) c.loop-i.invariant.after
