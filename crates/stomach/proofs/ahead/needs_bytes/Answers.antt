use Rattle.std.proofs.Common.{◌∙◌, sym, arith}
use Rattle.stomach.proofs.Known.{known_closed, known_ended, first_needs}
use Rattle.stomach.proofs.ahead.needs_bytes.Goals as goal

pub returns-then-count-eq0 : goal.returns-then-count-eq0
returns-then-count-eq0 c tied = elim c.then-count-eq0.branch [
  | goal.then-count-eq0-via-then-count-eq0 w ↦ known_closed c.args.readers.now c.args.engine.now (omega (arith, c.count.ensures.count, w.if-count-eq0.true)) tied
  | goal.then-count-eq0-via-else-count-eq0+then-is_ended w ↦ known_ended c.args.engine.now c.args.readers.now.readers (λ h. omega (arith, h, c.count.ensures.count, w.if-count-eq0.false)) (sym w.is_ended.ensures ∙ w.if-is_ended.true)
]

pub returns-then-has_next : goal.returns-then-has_next
returns-then-has_next c =
    first_needs c.needs_first_bytes.result c.args.engine.now c.args.readers.now c.needs_first_bytes.ensures c.if-has_next.ensures (λ h. omega (arith, h, c.count.ensures.count, c.if-count-eq0.false)) (sym c.if-is_ended.ensures)
