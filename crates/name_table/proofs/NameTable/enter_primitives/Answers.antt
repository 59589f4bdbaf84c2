use Rattle.std.proofs.Common.{◌≡◌, ◌∙◌, Some, None, sym}
use Rattle.tex_defs.specs.declared.Full.{Full}
use Rattle.name_table.proofs.Firsts.{next_is_new, next_has_room, next_stands, all_stand}
use Rattle.name_table.proofs.NameTable.enter_primitives.Goals as goal

pub enter-requires : goal.enter-requires
enter-requires c = next_is_new _ _ _ _ c.loop-k.invariant c.name.ensures c.loop-k-test.true

some_none : (full : Full) → Some full ≡ None → ⊥
some_none full e = cc

pub unreachable-requires : goal.unreachable-requires
unreachable-requires c =
    some_none c.in_default.field-0 (sym c.in_default.ensures.answer ∙ next_has_room _ _ _ _ c.loop-k.invariant c.name.ensures c.loop-k-test.true c.requires.sizes)

pub loop-k-preserved : goal.loop-k-preserved
loop-k-preserved c = c.in-Ok.ensures.after ∙ next_stands _ _ _ _ c.loop-k.invariant c.name.ensures c.loop-k-test.true

pub returns : goal.returns
returns c = c.loop-k.invariant ∙ all_stand _ _ c.loop-k-test.false
