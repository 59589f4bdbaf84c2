use Rattle.std.proofs.Common.{arith, ◌<◌}
use Rattle.prim_table.specs.Primitives.{IsPlaced}
use Rattle.prim_table.proofs.Table.{placed}
use Rattle.prim_table.proofs.name_in_row.Goals as goal

pub returns : goal.returns
returns c =
    let some : 0 < c.number.result = omega (arith, c.number.ensures.place, c.requires.first) in
    let at : IsPlaced c.number.result = placed c.number.result some c.number.ensures.within in
    rw (← c.number.ensures.class, ← c.number.ensures.place, c.name.ensures) at.named
