use Rattle.std.proofs.Common.{◌<◌, List, ℕ, length, ap, ap₂, ◌∙◌, arith}
use Rattle.save_stack.specs.Groups.{Stack, extended}
use Rattle.save_stack.specs.Table.{stack_of, split}
use Rattle.save_stack.proofs.Undo.{length_maps}
use Rattle.save_stack.proofs.Steps.{push_view, push_sound}
use Rattle.save_stack.proofs.Weights.{weigh_extended}
use Rattle.save_stack.proofs.Groups.add.Goals as goal

pub invariant_of-self : goal.invariant_of-self
invariant_of-self g c =
    let d = c.self.inside in
    let less : length d.levels.items < d.most = omega (arith, c.requires, ap (λ (s : Stack g.row.V.Denot). length s.levels) c.self.view_is, ap (λ (s : Stack g.row.V.Denot). s.most) c.self.view_is) in
    rw (c.push_reserved.ensures.items, c.push_reserved-2.ensures.items)
    (push_sound _ _ _ _ _ _ _ _ _ _ _ _ c.self.invariant c.args.value _ _ c.push_reserved.ensures.capacity c.push_reserved-2.ensures.capacity less)

pub returns-clause-after : goal.returns-clause-after
returns-clause-after g c =
    let d = c.self.inside in
    ap₂ (λ (vs : List g.row.V.Denot) (ls : List ℕ). stack_of vs ls d.saved.items d.after.items d.kinds.items d.size d.most) c.push_reserved.ensures.items c.push_reserved-2.ensures.items
    ∙ push_view _ _ _ _ _ _ _ _ _ _ _ _ c.self.invariant c.args.value
    ∙ ap (λ (s : Stack g.row.V.Denot). extended s c.args.value) c.self.view_is

pub returns-clause-account : goal.returns-clause-account
returns-clause-account g c =
    let some : 0 < length c.args.self.now.maps = omega (arith, ap (λ (s : Stack g.row.V.Denot). length s.maps) c.self.view_is, length_maps c.self.inside.values.items c.self.inside.levels.items (split c.self.inside.saved.items)) in
    λ w. weigh_extended w c.args.self.now _ c.args.value (returns-clause-after g c) some
