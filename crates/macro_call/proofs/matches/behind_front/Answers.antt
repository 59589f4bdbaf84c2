use Rattle.std.proofs.Common.{sym, ◌∙◌, ap, arith, length, ◌-◌, ◌+◌}
use Rattle.macro_call.proofs.Fronts.{prefix_fails, prefix_goes_on}
use Rattle.macro_call.proofs.matches.behind_front.Goals as goal

pub returns-then-not-same : goal.returns-then-not-same
returns-then-not-same c =
    sym (prefix_fails (c.args.count - c.loop-k._k) (c.args.count - (c.loop-k._k + 1)) _ _ _ _ c.delimiting-a.result.0 c.delimiting-b.result.0 c.args.x c.same.result (omega arith) c.delimiting-a.ensures.0 c.delimiting-b.ensures.0 c.same.ensures c.if-not-same.true
    ∙ c.loop-k.invariant.4)

pub loop-k-preserved : goal.loop-k-preserved
loop-k-preserved c = (
  c.delimiting-b.ensures.1,
  c.delimiting-a.ensures.1,
  omega (arith, ap length c.delimiting-b.ensures.0),
  omega (arith, ap length c.delimiting-a.ensures.0),
  prefix_goes_on (c.args.count - c.loop-k._k) (c.args.count - (c.loop-k._k + 1)) _ _ _ _ c.delimiting-a.result.0 c.delimiting-b.result.0 c.args.x c.same.result (omega arith) c.delimiting-a.ensures.0 c.delimiting-b.ensures.0 c.same.ensures c.if-not-same.false
      ∙ c.loop-k.invariant.4,
  omega (arith, c.loop-k.invariant.5, c.delimiting-b.ensures.2),
)
