use Rattle.std.proofs.Common.{◌∙◌, sym, arith}
use Rattle.input_stack.specs.View.{pending, innermost}
use Rattle.input_stack.specs.Pending.{without_top}
use Rattle.input_stack.proofs.Gaps.{passed_some, passes_on}
use Rattle.input_stack.proofs.stack.InputStack.pass_gaps.Goals as goal

pub drop_top-requires-clause-in_front : goal.drop_top-requires-clause-in_front
drop_top-requires-clause-in_front c = (passed_some c.loop-self.lists (innermost c.loop-self.self) (sym c.is_passed.ensures ∙ c.loop-self-test.true)).0

pub loop-self-preserved : goal.loop-self-preserved
loop-self-preserved c =
    let i = c.loop-self.invariant in
    let d = c.drop_top.ensures in
    let p = pending c.loop-self.lists c.loop-self.self in
    record {
      stands = d.stands;
      unfinished = d.beneath;
      same = passes_on (pending c.args.lists.now c.args.self.now) p (without_top p) (pending c.drop_top.new.lists c.drop_top.new.self) i.same (passed_some c.loop-self.lists (innermost c.loop-self.self) (sym c.is_passed.ensures ∙ c.loop-self-test.true)).1 d.after;
      fewer = omega (arith, i.fewer, d.fewer);
      open_fewer = omega (arith, i.open_fewer, d.open_fewer);
      account = λ h. omega (arith, i.account h, d.account h);
      kept = record {
        tokens = λ h less. d.kept.tokens h (omega (arith, less, i.account h)) ∙ i.kept.tokens h less;
        places = λ h less. d.kept.places h (omega (arith, less, i.account h)) ∙ i.kept.places h less;
      };
      lasting = record {
        size = d.lasting.size ∙ i.lasting.size;
        fewer = λ h. omega (arith, d.lasting.fewer h, i.lasting.fewer h);
        tokens = λ h some. d.lasting.tokens h some ∙ i.lasting.tokens h (omega (arith, some, d.lasting.fewer h));
      };
      sizes = record {
        size = d.sizes.size ∙ i.sizes.size;
        parameter_size = d.sizes.parameter_size ∙ i.sizes.parameter_size;
        capacity = d.sizes.capacity ∙ i.sizes.capacity;
        parameter_capacity = d.sizes.parameter_capacity ∙ i.sizes.parameter_capacity;
      };
    }
