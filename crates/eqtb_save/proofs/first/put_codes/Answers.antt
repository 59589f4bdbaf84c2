use Rattle.std.proofs.Common.{ℕ, ap, ◌∙◌, arith, rules}
use Rattle.std.proofs.lemmas.Int.{to_z-of_z}
use mir.Syntax.{w32}
use Rattle.save_stack.specs.Groups.{Stack}
use Rattle.equivalents.specs.declared.values.Val.TheVariants as val
use Rattle.eqtb_save.specs.First.{first_code}
use Rattle.eqtb_save.proofs.Held.{K}
use Rattle.eqtb_save.proofs.Adding.{next_of, longer_by, whole_row}
use Rattle.eqtb_save.proofs.first.put_codes.Goals as goal

pub loop-c-preserved : goal.loop-c-preserved
loop-c-preserved c = record {
  after = next_of _ (λ (k : ℕ). val.Number (first_code c.args.kind k)) 0 c.loop-c.c c.loop-c.c (omega arith) c.loop-c.invariant.after c.add.ensures.after (ap val.Number (to_z-of_z w32 c.code.result (search rules) ∙ c.code.ensures));
  count = omega (arith, c.loop-c.invariant.count, longer_by _ _ _ c.add.ensures.after);
  most = ap (λ (s : Stack K). s.most) c.add.ensures.after ∙ c.loop-c.invariant.most;
}

pub returns-clause-after : goal.returns-clause-after
returns-clause-after c = whole_row (λ (k : ℕ). val.Number (first_code c.args.kind k)) 0 c.loop-c.c 256 (omega arith) c.loop-c.invariant.after
