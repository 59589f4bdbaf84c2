-- The one at hand is the innermost of those that are left.
use Rattle.std.proofs.Common.{◌-◌, sym, ◌∙◌, arith}
use Rattle.reading_frames.proofs.Scanning.{finds}
use Rattle.reading_frames.proofs.readings.scanned_among.Goals as goal

pub returns-in-Some : goal.returns-in-Some
returns-in-Some c =
    sym
    (c.loop-i.invariant.0
    ∙ finds c.args.frames.now (c.loop-i.i - 1) c.loop-i.i c.loop-i.number c.index-frames-i.result c.in-Some.found (omega (arith, c.loop-i-test.true))
    (omega (arith, c.loop-i-test.true, c.loop-i.auto.i)) (sym c.index-frames-i.is) (sym c.in-Some.ensures))
