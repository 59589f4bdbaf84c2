use Rattle.std.proofs.Common.{◌≡◌, ◌<◌, ◌≤◌, ◌++◌}
use Rattle.plain_tokens.specs.Numerals.{digits_until, fraction_digits}
use Rattle.char_text.specs.Readings.{characters}
use Rattle.char_text.proofs.text.Text.put_fraction.Given as goal

abbrev pub invariant-loop-more : goal.invariant-loop-more
invariant-loop-more l =
    (l.self ++ characters (digits_until l.more l.left l.unit) ≡ l.initial.self ++ characters (fraction_digits l.fraction))
    × (l.left ≤ 655355) × (l.unit ≤ 655350) × (65536 < l.unit → l.unit < l.left)

abbrev pub decreases-loop-more : goal.decreases-loop-more
decreases-loop-more l = l.more
