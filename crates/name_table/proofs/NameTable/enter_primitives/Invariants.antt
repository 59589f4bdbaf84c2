use Rattle.std.proofs.Common.{◌≡◌, [], take}
use Rattle.prim_table.specs.Primitives.{primitive_names}
use Rattle.name_table.proofs.NameTable.enter_primitives.Given as goal

abbrev pub invariant-loop-k : goal.invariant-loop-k
invariant-loop-k l = l.self ≡ record { names = take l.k primitive_names; others = []; sizes = l.fn.self.sizes }
