use Rattle.std.proofs.Common.{sym}
use Rattle.scan_dimens.proofs.Amounts.{computed, fits, exceeds}
use Rattle.scan_dimens.proofs.units.times.Goals as goal

pub returns-in-Some : goal.returns-in-Some
returns-in-Some c =
    let e = computed c.args.amount.whole c.args.amount.fraction c.args.value c.from-value.result c.from.result c.ranges.value c.requires.whole c.requires.fraction c.from-value.ensures c.from.ensures in
    fits _ _ c.in-Some.n c.from-2.result e c.from-2.ensures c.in-Some.ensures.0 (sym c.in-Some.ensures.1)

pub returns-in-None : goal.returns-in-None
returns-in-None c =
    let e = computed c.args.amount.whole c.args.amount.fraction c.args.value c.from-value.result c.from.result c.ranges.value c.requires.whole c.requires.fraction c.from-value.ensures c.from.ensures in
    exceeds _ _ c.from-2.result e c.from-2.ensures c.in-None.ensures
