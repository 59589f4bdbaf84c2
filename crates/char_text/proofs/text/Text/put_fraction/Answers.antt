use Rattle.std.proofs.Common.{◌≡◌, ◌+◌, ◌<◌, ◌++◌, length, length-append, refl, sym, ◌∙◌, arith}
use Rattle.std.proofs.lemmas.List.{length-map}
use Rattle.plain_tokens.specs.Numerals.{fraction_digits}
use Rattle.char_text.specs.Readings.{characters}
use Rattle.char_text.proofs.Printing.{kept_part, kept_large, kept_small, another_digit, room_for_digit}
use Rattle.char_text.proofs.text.Text.put_fraction.Goals as goal
use Rattle.char_text.proofs.text.Text.put_fraction.Goals.{then-unit-gt65536, else-unit-gt65536}

pub loop-more-init : goal.loop-more-init
unfolding fraction_digits
loop-more-init c = (refl, omega arith, omega arith, λ h. omega arith)

pub put_char-requires : goal.put_char-requires
put_char-requires c =
    let l = c.loop-more in
    let total = c.args.self.now ++ characters (fraction_digits c.args.fraction) in
    let room : length l.self < length total = room_for_digit l.self total l.more l.left l.unit c.loop-more-test.true l.invariant.0 in
    let whole : length total ≡ length c.args.self.now + length (fraction_digits c.args.fraction) = simp (length-append, length-map) in
    omega arith

pub loop-more-preserved : goal.loop-more-preserved
loop-more-preserved c =
    let l = c.loop-more in
    let total = c.args.self.now ++ characters (fraction_digits c.args.fraction) in
    let kept = c.if-unit-gt65536.left in
    let left_is : kept ≡ kept_part l.left l.unit =
    elim c.if-unit-gt65536.branch [
      | then-unit-gt65536 w ↦ w.left-is ∙ sym (kept_large l.left l.unit w.if-unit-gt65536.true)
      | else-unit-gt65536 w ↦ w.left-is ∙ sym (kept_small l.left l.unit w.if-unit-gt65536.false)
    ] in
    let more = another_digit l.self total l.more l.left l.unit kept c.loop-more-test.true left_is l.invariant.0 c.if-left-unit.false in
    (rw c.put_char.ensures more, omega arith, omega arith, λ h. c.if-left-unit.false)
