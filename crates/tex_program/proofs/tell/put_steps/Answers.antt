use Rattle.std.proofs.Common.{◌≡◌, ◌+◌, ◌∙◌, ap, length, arith, codes}
use Rattle.std.specs.Fmt.{decimal}
use Rattle.std.proofs.lemmas.List.{length-append}
use Rattle.tex_program.proofs.Texts.{short_number}
use Rattle.tex_program.proofs.tell.put_steps.Goals as goal

pub put_count-requires : goal.put_count-requires
put_count-requires c =
    let size : length c.put_bytes.new.self ≡ length c.args.text.now + 28 = ap length c.put_bytes.ensures ∙ length-append c.args.text.now (codes "! Step limit reached [steps=") in
    omega (arith, short_number c.args.n (omega (arith, c.ranges.n)), size, c.requires)

pub put_bytes-requires-2 : goal.put_bytes-requires-2
put_bytes-requires-2 c =
    let size : length c.put_bytes.new.self ≡ length c.args.text.now + 28 = ap length c.put_bytes.ensures ∙ length-append c.args.text.now (codes "! Step limit reached [steps=") in
    let more : length c.put_count.new.self ≡ length c.put_bytes.new.self + length (decimal c.args.n) = ap length c.put_count.ensures ∙ length-append c.put_bytes.new.self (decimal c.args.n) in
    omega (arith, short_number c.args.n (omega (arith, c.ranges.n)), size, more, c.requires)
