use Rattle.std.proofs.Common.{◌≡◌, ◌≢◌, ℕ, ◌<◌, List, [], ◌∷◌, ◌++◌, length, Option, Some, sym, ap, ◌∙◌, subst, arith, set, get_or}
use Rattle.std.proofs.lemmas.List.{get_or_default, length-set}
use Rattle.save_stack.specs.declared.Saved.{Saved}
use Rattle.save_stack.specs.Groups.{Stack, level_at, depth, top, below, took_back, gone, last_entry}
use Rattle.save_stack.specs.Table.{stack_of}
use Rattle.save_stack.proofs.Undo.{level_read, skip_values, skip_levels, put_values, put_levels, drop_saved, drop_present}
use Rattle.save_stack.proofs.Steps.{back_within, back_view, back_sound, back_gone, mark_same, mark_gone, mark_maps}
use Rattle.save_stack.proofs.Restoring.{restored_taken, ended}
use Rattle.save_stack.proofs.Weights.{weigh_taken}
use Rattle.save_stack.proofs.Groups.take_back.Goals as goal

pub index-requires : goal.index-requires
index-requires g c =
    let e = c.in-Some-Some.field-0-0 in
    let rest = c.pop.new.self.items in
    let some : 0 < length c.self.inside.kinds.items = omega (arith, c.requires, ap depth c.self.view_is) in
    let popped = c.in-Some-Some.ensures.items ∙ ap (λ (o : Option (Saved g.row.V.Denot)). rest ++ o ∷ []) c.in-Some-Some.field-0-is in
    let within = back_within _ _ _ _ _ _ _ _ _ _ _ _ c.self.invariant e rest popped some in
    omega (arith, within, c.self.inside.levels.ok.0)

pub invariant_of-self : goal.invariant_of-self
invariant_of-self g c =
    let e = c.in-Some-Some.field-0-0 in
    let rest = c.pop.new.self.items in
    let some : 0 < length c.self.inside.kinds.items = omega (arith, c.requires, ap depth c.self.view_is) in
    let popped = c.in-Some-Some.ensures.items ∙ ap (λ (o : Option (Saved g.row.V.Denot)). rest ++ o ∷ []) c.in-Some-Some.field-0-is in
    let within = back_within _ _ _ _ _ _ _ _ _ _ _ _ c.self.invariant e rest popped some in
    let z = level_read c.self.inside.levels.items e.loc _ within c.index.ensures ∙ c.if-index-eq0.true in
    back_sound _ _ _ _ _ _ _ _ _ _ _ _ c.self.invariant e rest popped some _ _ (skip_values e _ _ z) (skip_levels e _ z) _ c.in-Some-Some.ensures.capacity

pub returns-then-index-eq0-clause-after : goal.returns-then-index-eq0-clause-after
returns-then-index-eq0-clause-after g c =
    let e = c.in-Some-Some.field-0-0 in
    let rest = c.pop.new.self.items in
    let some : 0 < length c.self.inside.kinds.items = omega (arith, c.requires, ap depth c.self.view_is) in
    let popped = c.in-Some-Some.ensures.items ∙ ap (λ (o : Option (Saved g.row.V.Denot)). rest ++ o ∷ []) c.in-Some-Some.field-0-is in
    let within = back_within _ _ _ _ _ _ _ _ _ _ _ _ c.self.invariant e rest popped some in
    let z = level_read c.self.inside.levels.items e.loc _ within c.index.ensures ∙ c.if-index-eq0.true in
    back_view _ _ _ _ _ _ _ _ _ _ _ _ c.self.invariant e rest popped some _ _ (skip_values e _ _ z) (skip_levels e _ z)
    ∙ ap (λ (s : Stack g.row.V.Denot). took_back (last_entry s.entries) s) c.self.view_is

pub returns-then-index-eq0-clause-back : goal.returns-then-index-eq0-clause-back
returns-then-index-eq0-clause-back g c =
    let e = c.in-Some-Some.field-0-0 in
    let rest = c.pop.new.self.items in
    let some : 0 < length c.self.inside.kinds.items = omega (arith, c.requires, ap depth c.self.view_is) in
    let popped = c.in-Some-Some.ensures.items ∙ ap (λ (o : Option (Saved g.row.V.Denot)). rest ++ o ∷ []) c.in-Some-Some.field-0-is in
    let within = back_within _ _ _ _ _ _ _ _ _ _ _ _ c.self.invariant e rest popped some in
    let z = level_read c.self.inside.levels.items e.loc _ within c.index.ensures ∙ c.if-index-eq0.true in
    ap (λ (x : g.row.V.Denot). let o : Option (ℕ × g.row.V.Denot) = Some (e.loc, x) in o) (sym (drop_saved e c.self.inside.values.items c.self.inside.levels.items z))
    ∙ back_gone _ _ _ _ _ _ _ _ _ _ _ _ c.self.invariant e rest popped some
    ∙ ap (λ (s : Stack g.row.V.Denot). gone (last_entry s.entries) s) c.self.view_is

pub index_mut-requires : goal.index_mut-requires
index_mut-requires g c =
    let e = c.in-Some-Some.field-0-0 in
    let rest = c.pop.new.self.items in
    let some : 0 < length c.self.inside.kinds.items = omega (arith, c.requires, ap depth c.self.view_is) in
    let popped = c.in-Some-Some.ensures.items ∙ ap (λ (o : Option (Saved g.row.V.Denot)). rest ++ o ∷ []) c.in-Some-Some.field-0-is in
    let within = back_within _ _ _ _ _ _ _ _ _ _ _ _ c.self.invariant e rest popped some in
    omega (arith, within, c.self.inside.levels.ok.0)

pub index_mut-requires-in-Some-Some : goal.index_mut-requires-in-Some-Some
index_mut-requires-in-Some-Some g c =
    let e = c.in-Some-Some.field-0-0 in
    let rest = c.pop.new.self.items in
    let some : 0 < length c.self.inside.kinds.items = omega (arith, c.requires, ap depth c.self.view_is) in
    let popped = c.in-Some-Some.ensures.items ∙ ap (λ (o : Option (Saved g.row.V.Denot)). rest ++ o ∷ []) c.in-Some-Some.field-0-is in
    let within = back_within _ _ _ _ _ _ _ _ _ _ _ _ c.self.invariant e rest popped some in
    omega (arith, within, c.self.invariant.same, c.self.inside.values.ok.0)

pub invariant_of-self-in-Some-Some : goal.invariant_of-self-in-Some-Some
invariant_of-self-in-Some-Some g c =
    let e = c.in-Some-Some.field-0-0 in
    let rest = c.pop.new.self.items in
    let some : 0 < length c.self.inside.kinds.items = omega (arith, c.requires, ap depth c.self.view_is) in
    let popped = c.in-Some-Some.ensures.items ∙ ap (λ (o : Option (Saved g.row.V.Denot)). rest ++ o ∷ []) c.in-Some-Some.field-0-is in
    let within = back_within _ _ _ _ _ _ _ _ _ _ _ _ c.self.invariant e rest popped some in
    let p : level_at c.self.inside.levels.items e.loc ≢ 0 = λ q. c.if-index-eq0.false (sym (level_read c.self.inside.levels.items e.loc _ within c.index.ensures) ∙ q) in
    let placed = put_values e c.self.inside.values.items c.self.inside.levels.items p ∙ ap (λ (x : g.row.V.Denot). set c.self.inside.values.items e.loc x) (sym c.replace.ensures.after) in
    back_sound _ _ _ _ _ _ _ _ _ _ _ _ c.self.invariant e rest popped some _ _ placed (put_levels e c.self.inside.levels.items p) _ c.in-Some-Some.ensures.capacity

pub returns-else-index-eq0-clause-after : goal.returns-else-index-eq0-clause-after
returns-else-index-eq0-clause-after g c =
    let e = c.in-Some-Some.field-0-0 in
    let rest = c.pop.new.self.items in
    let some : 0 < length c.self.inside.kinds.items = omega (arith, c.requires, ap depth c.self.view_is) in
    let popped = c.in-Some-Some.ensures.items ∙ ap (λ (o : Option (Saved g.row.V.Denot)). rest ++ o ∷ []) c.in-Some-Some.field-0-is in
    let within = back_within _ _ _ _ _ _ _ _ _ _ _ _ c.self.invariant e rest popped some in
    let p : level_at c.self.inside.levels.items e.loc ≢ 0 = λ q. c.if-index-eq0.false (sym (level_read c.self.inside.levels.items e.loc _ within c.index.ensures) ∙ q) in
    let placed = put_values e c.self.inside.values.items c.self.inside.levels.items p ∙ ap (λ (x : g.row.V.Denot). set c.self.inside.values.items e.loc x) (sym c.replace.ensures.after) in
    back_view _ _ _ _ _ _ _ _ _ _ _ _ c.self.invariant e rest popped some _ _ placed (put_levels e c.self.inside.levels.items p)
    ∙ ap (λ (s : Stack g.row.V.Denot). took_back (last_entry s.entries) s) c.self.view_is

pub returns-else-index-eq0-clause-back : goal.returns-else-index-eq0-clause-back
returns-else-index-eq0-clause-back g c =
    let e = c.in-Some-Some.field-0-0 in
    let rest = c.pop.new.self.items in
    let some : 0 < length c.self.inside.kinds.items = omega (arith, c.requires, ap depth c.self.view_is) in
    let popped = c.in-Some-Some.ensures.items ∙ ap (λ (o : Option (Saved g.row.V.Denot)). rest ++ o ∷ []) c.in-Some-Some.field-0-is in
    let within = back_within _ _ _ _ _ _ _ _ _ _ _ _ c.self.invariant e rest popped some in
    let p : level_at c.self.inside.levels.items e.loc ≢ 0 = λ q. c.if-index-eq0.false (sym (level_read c.self.inside.levels.items e.loc _ within c.index.ensures) ∙ q) in
    let out : c.replace.result ≡ get_or c.self.inside.values.items e.loc e.value = c.replace.ensures.value ∙ c.index_mut-in-Some-Some.ensures.value ∙ get_or_default c.self.inside.values.items e.loc _ e.value (omega (arith, within, c.self.invariant.same)) in
    ap (λ (x : g.row.V.Denot). let o : Option (ℕ × g.row.V.Denot) = Some (e.loc, x) in o) (out ∙ sym (drop_present e c.self.inside.values.items c.self.inside.levels.items p))
    ∙ back_gone _ _ _ _ _ _ _ _ _ _ _ _ c.self.invariant e rest popped some
    ∙ ap (λ (s : Stack g.row.V.Denot). gone (last_entry s.entries) s) c.self.view_is

pub returns-in-Some-None-clause-after : goal.returns-in-Some-None-clause-after
returns-in-Some-None-clause-after g c =
    let rest = c.pop.new.self.items in
    let popped = c.in-Some-None.ensures.items ∙ ap (λ (o : Option (Saved g.row.V.Denot)). rest ++ o ∷ []) c.in-Some-None.field-0-is in
    ap (λ (os : List (Option (Saved g.row.V.Denot))). stack_of c.self.inside.values.items c.self.inside.levels.items os c.self.inside.after.items c.self.inside.kinds.items c.self.inside.size c.self.inside.most) (c.push_reserved.ensures.items ∙ sym popped)
    ∙ sym (mark_same _ _ _ _ _ _ _ _ _ _ _ _ c.self.invariant rest popped)
    ∙ ap (λ (s : Stack g.row.V.Denot). took_back (last_entry s.entries) s) c.self.view_is

pub returns-in-Some-None-clause-back : goal.returns-in-Some-None-clause-back
returns-in-Some-None-clause-back g c =
    let rest = c.pop.new.self.items in
    let popped = c.in-Some-None.ensures.items ∙ ap (λ (o : Option (Saved g.row.V.Denot)). rest ++ o ∷ []) c.in-Some-None.field-0-is in
    mark_gone _ _ _ _ _ _ _ _ _ _ _ _ c.self.invariant rest popped ∙ ap (λ (s : Stack g.row.V.Denot). gone (last_entry s.entries) s) c.self.view_is

pub returns-in-Some-None-clause-none : goal.returns-in-Some-None-clause-none
returns-in-Some-None-clause-none g c =
    let rest = c.pop.new.self.items in
    let popped = c.in-Some-None.ensures.items ∙ ap (λ (o : Option (Saved g.row.V.Denot)). rest ++ o ∷ []) c.in-Some-None.field-0-is in
    subst (λ (s : Stack g.row.V.Denot). top s.maps ≡ top (below s.maps)) c.self.view_is (mark_maps _ _ _ _ _ _ _ _ _ _ _ _ c.self.invariant rest popped)

pub returns-then-index-eq0-clause-account : goal.returns-then-index-eq0-clause-account
returns-then-index-eq0-clause-account g c = λ w. weigh_taken w c.args.self.now _ _ (returns-then-index-eq0-clause-after g c) (returns-then-index-eq0-clause-back g c)

pub returns-else-index-eq0-clause-account : goal.returns-else-index-eq0-clause-account
returns-else-index-eq0-clause-account g c = λ w. weigh_taken w c.args.self.now _ _ (returns-else-index-eq0-clause-after g c) (returns-else-index-eq0-clause-back g c)

pub returns-then-index-eq0-clause-within : goal.returns-then-index-eq0-clause-within
returns-then-index-eq0-clause-within g c =
    let e = c.in-Some-Some.field-0-0 in
    let rest = c.pop.new.self.items in
    let some : 0 < length c.self.inside.kinds.items = omega (arith, c.requires, ap depth c.self.view_is) in
    let popped = c.in-Some-Some.ensures.items ∙ ap (λ (o : Option (Saved g.row.V.Denot)). rest ++ o ∷ []) c.in-Some-Some.field-0-is in
    let within = back_within _ _ _ _ _ _ _ _ _ _ _ _ c.self.invariant e rest popped some in
    within

pub returns-else-index-eq0-clause-within : goal.returns-else-index-eq0-clause-within
returns-else-index-eq0-clause-within g c =
    let e = c.in-Some-Some.field-0-0 in
    let rest = c.pop.new.self.items in
    let some : 0 < length c.self.inside.kinds.items = omega (arith, c.requires, ap depth c.self.view_is) in
    let popped = c.in-Some-Some.ensures.items ∙ ap (λ (o : Option (Saved g.row.V.Denot)). rest ++ o ∷ []) c.in-Some-Some.field-0-is in
    let within = back_within _ _ _ _ _ _ _ _ _ _ _ _ c.self.invariant e rest popped some in
    omega (arith, within, length-set c.self.inside.levels.items e.loc e.level)

pub returns-then-index-eq0-clause-restores : goal.returns-then-index-eq0-clause-restores
returns-then-index-eq0-clause-restores g c = restored_taken c.args.self.now _ (returns-then-index-eq0-clause-after g c)

pub returns-else-index-eq0-clause-restores : goal.returns-else-index-eq0-clause-restores
returns-else-index-eq0-clause-restores g c = restored_taken c.args.self.now _ (returns-else-index-eq0-clause-after g c)

pub returns-in-Some-None-clause-restores : goal.returns-in-Some-None-clause-restores
returns-in-Some-None-clause-restores g c = restored_taken c.args.self.now _ (returns-in-Some-None-clause-after g c)

pub returns-in-Some-None-clause-last : goal.returns-in-Some-None-clause-last
returns-in-Some-None-clause-last g c = (ended c.args.self.now _ (returns-in-Some-None-clause-after g c) (returns-in-Some-None-clause-back g c) (returns-in-Some-None-clause-none g c)).2
