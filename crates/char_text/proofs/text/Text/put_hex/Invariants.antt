use Rattle.std.proofs.Common.{◌≡◌, ◌^◌, ◌<◌, ◌≤◌, length, drop}
use Rattle.char_text.proofs.Hexadecimal.{hex_onto}
use Rattle.plain_tokens.specs.Numerals.{hexadecimal}
use Rattle.char_text.proofs.text.Text.put_hex.Given as goal

abbrev pub invariant-loop-left : goal.invariant-loop-left
invariant-loop-left l =
    (0 < l.start) × (l.start ≤ 8) × (length l.digits ≡ 8) × (l.left < 16 ^ l.start)
    × (hex_onto l.start l.left (drop l.start l.digits) ≡ hexadecimal l.n)

abbrev pub decreases-loop-left : goal.decreases-loop-left
decreases-loop-left l = l.start
