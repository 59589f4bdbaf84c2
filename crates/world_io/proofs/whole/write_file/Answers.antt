use Rattle.std.proofs.Common.{arith, length-drop, ◌∙◌}
use Rattle.world_io.proofs.Fronts.{grew_on, grew_same, grew_whole, by_name}
use Rattle.world_io.proofs.whole.write_file.Goals as goal

pub loop-at-preserved : goal.loop-at-preserved
loop-at-preserved g c =
    let inv = c.loop-at.invariant in (
      omega (arith, c.in-Ok.ensures.count, length-drop c.loop-at.at c.args.bytes.now),
      (λ name is. grew_on name _ _ _ c.args.bytes.now c.loop-at.at _ (inv.1 name is) (c.in-Ok.ensures.written name (inv.5 ∙ is))),
      omega (arith, c.write.ensures.cause.later, inv.2),
      omega (arith, c.write.ensures.cause.later_wants, inv.3),
      c.write.ensures.reads ∙ inv.4,
      by_name _ _ c.requires (λ name is. (c.in-Ok.ensures.written name (inv.5 ∙ is)).writer _ ∙ inv.5),
    )

pub returns-in-Err-clause-front : goal.returns-in-Err-clause-front
returns-in-Err-clause-front g c =
    λ name is. grew_same name _ _ _ _ (c.loop-at.invariant.1 name is) c.in-Err.ensures.err

pub returns-clause-written : goal.returns-clause-written
returns-clause-written g c =
    let inv = c.loop-at.invariant in
    λ name is. grew_whole name _ _ c.loop-at.at c.args.bytes.now (omega (arith, c.loop-at-test.false)) (inv.1 name is)
