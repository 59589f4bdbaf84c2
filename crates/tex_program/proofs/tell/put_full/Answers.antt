use Rattle.std.proofs.Common.{◌≡◌, ◌≤◌, ◌+◌, ◌∙◌, ap, length, arith, codes, [], ◌∷◌}
use Rattle.std.specs.Fmt.{decimal}
use Rattle.std.proofs.lemmas.List.{length-append}
use Rattle.tex_defs.specs.Sizes.{table_name}
use Rattle.tex_program.proofs.Texts.{five, short_head, short_number}
use Rattle.tex_program.proofs.tell.put_full.Goals as goal

pub put_count-requires : goal.put_count-requires
put_count-requires c =
    let head : length c.put_bytes-3.new.self ≤ 54 = short_head c.args.text.now _ _ _ c.args.full.table c.requires c.put_bytes.ensures (rw (← c.name.ensures) c.put_bytes-2.ensures) c.put_bytes-3.ensures in
    omega (arith, head, short_number c.from.result c.from.type_inv)

pub put_bytes-requires-4 : goal.put_bytes-requires-4
put_bytes-requires-4 c =
    let head : length c.put_bytes-3.new.self ≤ 54 = short_head c.args.text.now _ _ _ c.args.full.table c.requires c.put_bytes.ensures (rw (← c.name.ensures) c.put_bytes-2.ensures) c.put_bytes-3.ensures in
    let more : length c.put_count.new.self ≡ length c.put_bytes-3.new.self + length (decimal c.from.result) = ap length c.put_count.ensures ∙ length-append c.put_bytes-3.new.self (decimal c.from.result) in
    omega (arith, head, more, short_number c.from.result c.from.type_inv)

pub returns : goal.returns
returns c = five c.args.text.now (codes "! TeX capacity exceeded, sorry [") (table_name c.args.full.table) (61 ∷ []) (decimal c.args.full.size) (codes "].\n") _ _ _ _ _
    c.put_bytes.ensures (rw (← c.name.ensures) c.put_bytes-2.ensures) c.put_bytes-3.ensures (rw (← c.from.ensures) c.put_count.ensures) c.put_bytes-4.ensures
