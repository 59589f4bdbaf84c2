use Rattle.std.proofs.Common.{◌≤◌, Some, length, refl, ap, sym, ◌∙◌, subst, arith, vec_capacity}
use Rattle.save_stack.specs.Groups.{Stack, top}
use Rattle.save_stack.specs.Closing.{closed, kind_last}
use Rattle.save_stack.proofs.Restoring.{ended}
use Rattle.equivalents.specs.Groups.{depth}
use Rattle.equivalents.specs.Flat.{groups_of}
use Rattle.save_stack.specs.Mapped.{mapped}
use Rattle.eqtb_save.specs.Values.{numbered_value}
use Rattle.tex_defs.specs.declared.Sizes.{Sizes}
use Rattle.eqtb_save.specs.Table.{Table, IsSound}
use Rattle.eqtb_save.proofs.Held.{K, weight, held_is, held_weighs}
use Rattle.eqtb_save.proofs.Kept.{mk}
use Rattle.eqtb_save.proofs.Closes.{going_first, going_on, going_counted, begun_table, gone_sound, gone_whole, keeps_as, one_less, top_within}
use Rattle.eqtb_save.proofs.Eqtb.close_group.Goals as goal

pub loop-at-init : goal.loop-at-init
loop-at-init c = record { going = going_first c.args.lists.now c.self.inside.groups c.self.inside.categories c.self.invariant.codes; sizes = refl; room = refl }

pub take_back-requires : goal.take_back-requires
take_back-requires c =
    omega (arith, c.requires.open, ap (λ (t : Table). depth t.groups) c.self.view_is, ap (λ (s : Stack K). length s.kinds) c.loop-at.invariant.going.same)

pub release-requires : goal.release-requires
release-requires c =
    going_counted c.args.lists.now c.loop-at.lists c.self.inside.groups c.loop-at.self-inside.groups c.take_back.new.self c.loop-at.self-inside.categories c.in-Some.value
    (λ h. omega (arith, c.requires.covered h, held_is c.self.inside.groups c.args.self.now.groups (ap (λ (t : Table). t.groups) c.self.view_is) c.self.invariant.whole h)) c.loop-at.invariant.going (λ h. c.in-Some.ensures.account (weight h))

pub loop-at-preserved : goal.loop-at-preserved
loop-at-preserved c = record {
  going = going_on c.args.lists.now c.loop-at.lists c.self.inside.groups c.loop-at.self-inside.groups c.take_back.new.self c.loop-at.self-inside.categories c.in-Some.value
      (λ h. omega (arith, c.requires.covered h, held_is c.self.inside.groups c.args.self.now.groups (ap (λ (t : Table). t.groups) c.self.view_is) c.self.invariant.whole h)) c.loop-at.invariant.going (λ h. c.in-Some.ensures.account (weight h))
      c.release.new.lists c.note.new.categories c.in-Some.at c.in-Some.ensures.after c.in-Some.ensures.back c.release.ensures.account c.release.ensures.kept c.release.ensures.lasting c.release.ensures.after c.note.ensures;
  sizes = c.loop-at.invariant.sizes;
  room = c.loop-at.invariant.room;
}

pub drain-kind-requires-clause-room : goal.drain-kind-requires-clause-room
drain-kind-requires-clause-room c =
    let end = ended c.loop-at.self-inside.groups c.take_back.new.self c.in_default.ensures.after c.in_default.ensures.back c.in_default.ensures.none in
    omega (
      arith,
      top_within c.take_back.new.self.tokens,
      c.recall.ensures.fits,
      ap (λ (s : Stack K). s.size) end.0,
      ap (λ (s : Stack K). s.size) c.loop-at.invariant.going.same,
      c.self.invariant.save_size,
      c.self.invariant.rooms,
      c.loop-at.invariant.room,
      c.clear.ensures.capacity,
    )

pub loop-at-smaller : goal.loop-at-smaller
loop-at-smaller c = one_less c.loop-at.self-inside.groups c.take_back.new.self c.in-Some.at c.in-Some.value c.in-Some.ensures.after c.in-Some.ensures.back

pub drain-kind-requires-clause-open : goal.drain-kind-requires-clause-open
drain-kind-requires-clause-open c =
    let end = ended c.loop-at.self-inside.groups c.take_back.new.self c.in_default.ensures.after c.in_default.ensures.back c.in_default.ensures.none in
    omega (arith, c.requires.open, ap (λ (t : Table). depth t.groups) c.self.view_is, ap (λ (s : Stack K). length s.kinds) c.loop-at.invariant.going.same, ap (λ (s : Stack K). length s.kinds) end.0)

pub drain-kind-requires-clause-taken_back : goal.drain-kind-requires-clause-taken_back
drain-kind-requires-clause-taken_back c = (ended c.loop-at.self-inside.groups c.take_back.new.self c.in_default.ensures.after c.in_default.ensures.back c.in_default.ensures.none).1

pub invariant_of-self : goal.invariant_of-self
invariant_of-self c =
    let s = c.loop-at.self-inside.groups in
    let end = ended s c.take_back.new.self c.in_default.ensures.after c.in_default.ensures.back c.in_default.ensures.none in
    let room : c.self.inside.sizes.save_size ≤ vec_capacity c.drain-kind.new.closing = omega (arith, c.self.invariant.rooms, c.loop-at.invariant.room, c.clear.ensures.capacity, c.drain-kind.ensures.capacity) in
    subst (λ (n : Sizes). IsSound c.loop-at.self-inside.categories (mapped numbered_value c.drain-kind.new.groups) c.drain-kind.new.closing.items (vec_capacity c.drain-kind.new.closing) 0 (Some c.drain-kind.result) n) (sym c.loop-at.invariant.sizes)
    (gone_sound c.loop-at.self-inside.categories c.self.inside.categories c.self.inside.groups s c.drain-kind.new.groups c.self.inside.closing.items c.drain-kind.new.closing.items (vec_capacity c.self.inside.closing) (vec_capacity c.drain-kind.new.closing) c.self.inside.given c.self.inside.ending c.drain-kind.result c.self.inside.sizes c.self.invariant
    (omega (arith, c.requires.open, ap (λ (t : Table). depth t.groups) c.self.view_is)) c.loop-at.invariant.going.codes c.loop-at.invariant.going.same end.2 (c.drain-kind.ensures.group ∙ ap (λ (x : Stack K). closed x) end.0) c.in_default.ensures.none room)

pub returns-clause-after : goal.returns-clause-after
returns-clause-after c =
    let s = c.loop-at.self-inside.groups in
    let end = ended s c.take_back.new.self c.in_default.ensures.after c.in_default.ensures.back c.in_default.ensures.none in
    ap (λ (n : Sizes). mk (groups_of (mapped numbered_value c.drain-kind.new.groups)) c.drain-kind.new.closing.items (Some c.drain-kind.result) n) c.loop-at.invariant.sizes
    ∙ begun_table c.self.inside.groups c.drain-kind.new.groups c.args.self.now _ _ c.self.inside.sizes c.drain-kind.new.closing.items c.drain-kind.result c.self.view_is c.self.invariant.whole
    (omega (arith, c.requires.open, ap (λ (t : Table). depth t.groups) c.self.view_is))
    (c.drain-kind.ensures.group ∙ ap (λ (x : Stack K). closed x) (end.0 ∙ sym end.2 ∙ c.loop-at.invariant.going.same))
    (c.drain-kind.ensures.tokens ∙ ap (λ (x : Stack K). top x.tokens) end.0 ∙ ap (λ (x : Stack K). top x.tokens) c.loop-at.invariant.going.same)
    (sym (ap (λ (x : Stack K). kind_last x.kinds) end.0 ∙ ap (λ (x : Stack K). kind_last x.kinds) c.loop-at.invariant.going.same) ∙ c.drain-kind.ensures.kind)

pub returns-clause-account : goal.returns-clause-account
returns-clause-account c =
    let s = c.loop-at.self-inside.groups in
    let end = ended s c.take_back.new.self c.in_default.ensures.after c.in_default.ensures.back c.in_default.ensures.none in
    let begun = c.drain-kind.ensures.group ∙ ap (λ (x : Stack K). closed x) (end.0 ∙ sym end.2 ∙ c.loop-at.invariant.going.same) in
    let whole = gone_whole c.self.inside.groups c.drain-kind.new.groups begun c.self.invariant.whole (omega (arith, c.requires.open, ap (λ (t : Table). depth t.groups) c.self.view_is)) in
    λ h. omega (
      arith,
      c.loop-at.invariant.going.moves h,
      c.in_default.ensures.account (weight h),
      c.drain-kind.ensures.account (weight h),
      held_is c.self.inside.groups c.args.self.now.groups (ap (λ (t : Table). t.groups) c.self.view_is) c.self.invariant.whole h,
      held_weighs c.drain-kind.new.groups h whole,
    )

pub returns-clause-kept : goal.returns-clause-kept
returns-clause-kept c =
    keeps_as c.args.lists.now c.loop-at.lists _ _ c.loop-at.invariant.going.kept (λ h. sym (held_is c.self.inside.groups c.args.self.now.groups (ap (λ (t : Table). t.groups) c.self.view_is) c.self.invariant.whole h))
