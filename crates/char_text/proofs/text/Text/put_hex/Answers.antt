use Rattle.std.proofs.Common.{◌≡◌, ◌-◌, ◌/◌, ◌%◌, ◌^◌, ◌<◌, true, ◌∷◌, ◌++◌, drop, slice_set, refl, ap, sym, ◌∙◌, arith, length-set}
use Rattle.std.specs.Fmt.{digit_glyph}
use Rattle.char_text.proofs.Hexadecimal.{hex_onto, drop_written, hex_begin, hex_step, hex_below, hex_some_place, written_digits}
use Rattle.char_text.proofs.text.Text.put_hex.Goals as goal

pub loop-left-init : goal.loop-left-init
loop-left-init c = (omega arith, omega arith, refl, omega arith, hex_begin c.args.n)

pub loop-left-preserved : goal.loop-left-preserved
loop-left-preserved c =
    let l = c.loop-left in
    let more : 0 < l.left / 16 = omega arith in
    let below : l.left / 16 < 16 ^ (l.start - 1) = hex_below l.start l.left l.invariant.0 l.invariant.3 in
    let some : 0 < l.start - 1 = hex_some_place (l.start - 1) (l.left / 16) below more in
    let written : drop (l.start - 1) (slice_set l.digits (l.start - 1) c.hex_digit.result) ≡ digit_glyph true (l.left % 16) ∷ drop l.start l.digits =
    drop_written l.digits l.start c.hex_digit.result l.invariant.0 (omega arith) ∙ ap (λ d. d ∷ drop l.start l.digits) c.hex_digit.ensures in (
      some,
      omega arith,
      length-set l.digits (l.start - 1) c.hex_digit.result ∙ l.invariant.2,
      below,
      ap (hex_onto (l.start - 1) (l.left / 16)) written ∙ sym (hex_step l.start l.left (drop l.start l.digits) l.invariant.0 more) ∙ l.invariant.4,
    )

pub put_bytes-requires : goal.put_bytes-requires
put_bytes-requires c =
    let l = c.loop-left in
    let i = l.invariant in
    let e = written_digits c.args.n l.left l.start c.hex_digit.result l.digits i.0 i.1 i.2 c.hex_digit.ensures c.if-left-eq0.true i.4 in
    rw e c.requires

pub returns : goal.returns
returns c =
    let l = c.loop-left in
    let i = l.invariant in
    let e = written_digits c.args.n l.left l.start c.hex_digit.result l.digits i.0 i.1 i.2 c.hex_digit.ensures c.if-left-eq0.true i.4 in
    c.put_bytes.ensures ∙ ap (λ digits. c.args.self.now ++ digits) e
