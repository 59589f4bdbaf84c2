use Rattle.std.proofs.Common.{◌≡◌, ◌∙◌, None, sym}
use Rattle.name_table.specs.Layout.{strings_of}
use Rattle.name_table.specs.Strings.{other_refusal}
use Rattle.name_table.proofs.Refusals.{others_agree}
use Rattle.name_table.proofs.Changes.{keeping, keeping_sound}
use Rattle.name_table.proofs.NameTable.keep.Goals as goal

pub invariant_of-self-2 : goal.invariant_of-self-2
invariant_of-self-2 c =
    let i = c.self.inside in
    let free : other_refusal (strings_of i.hash i.pool i.others.items i.sizes) c.args.bytes.now ≡ None =
    sym (others_agree i.hash i.pool i.others.items i.sizes _ c.self.invariant c.args.bytes.now) ∙ c.in-Ok.ensures.answer in
    keeping_sound _ _ _ _ _ c.self.invariant _ _ _ _ c.in-Ok.ensures.after c.in-Ok.ensures.number c.in-Ok-push.ensures.items _ free c.in-Ok-push.ensures.capacity

pub returns-clause-after : goal.returns-clause-after
returns-clause-after c =
    keeping _ _ _ _ _ c.self.invariant _ _ _ _ c.in-Ok.ensures.after c.in-Ok.ensures.number c.in-Ok-push.ensures.items _ c.self.view_is
