use Rattle.std.proofs.Common.{◌≡◌, ◌≤◌, ◌<◌, ◌-◌, length, take, get_or, arith}
use Rattle.scaled_arith.proofs.Fractions.{place_before, counted_digit}
use Rattle.scaled_arith.proofs.fraction.Goals as goal

pub loop-left-preserved : goal.loop-left-preserved
loop-left-preserved c =
    let l = c.loop-left in
    let counted = take c.min.result c.args.digits.now in
    let bound : l.left ≤ length counted = l.invariant.0 in
    let above : 0 < l.left = c.loop-left-test.true in
    let within : l.left - 1 < length counted = omega arith in
    let read : c.from.result ≡ get_or counted (l.left - 1) 0 = c.from.ensures in
    let digit : get_or counted (l.left - 1) 0 ≤ 9 = counted_digit c.args.digits.now c.min.result (l.left - 1) c.requires within in
    let small : l.doubled < 131072 = l.invariant.1 in
    (omega arith, omega arith, rw read (place_before counted l.left l.doubled above bound l.invariant.2))
