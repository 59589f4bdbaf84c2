use Rattle.std.proofs.Common.{ap, ◌∙◌, length, arith}
use Rattle.std.proofs.lemmas.List.{length-set}
use Rattle.save_stack.specs.Groups.{Stack}
use Rattle.equivalents.specs.Locations.{V}
use Rattle.equivalents.specs.Holding.{value_list}
use Rattle.equivalents.specs.Groups.{set_global}
use Rattle.meanings.specs.Holding.{without_holder}
use Rattle.eqtb_save.specs.Values.{numbered_value}
use Rattle.eqtb_save.specs.Table.{Table}
use Rattle.eqtb_save.proofs.Held.{K, weight, back_counted, moves_by, keeps_by}
use Rattle.eqtb_save.proofs.Setting.{gdefined_sound, gdefined_groups, old_is, with_groups}
use Rattle.eqtb_save.proofs.Eqtb.gdefine.Goals as goal

pub gdefine-old-requires : goal.gdefine-old-requires
gdefine-old-requires c = omega (arith, c.place-at.ensures.within, ap (λ (t : Table). length t.groups.levels) c.self.view_is)

pub note-requires : goal.note-requires
note-requires c = omega (
  arith,
  c.place-at.ensures.within,
  ap (λ (t : Table). length t.groups.levels) c.self.view_is,
  ap (λ (x : Stack K). length x.levels) c.gdefine-old.ensures.after,
  length-set c.self.inside.groups.levels c.place-at.result 0,
)

pub release-requires : goal.release-requires
release-requires c =
    back_counted c.self.inside.groups c.gdefine-old.new.self c.args.self.now.groups (ap (λ (t : Table). t.groups) c.self.view_is) c.self.invariant.whole
    c.args.lists.now (λ h. weight h c.args.value) c.gdefine-old.result c.requires.covered (λ h. c.gdefine-old.ensures.account (weight h))

pub invariant_of-self : goal.invariant_of-self
invariant_of-self c =
    gdefined_sound c.self.inside.groups c.gdefine-old.new.self c.args.self.now.groups (ap (λ (t : Table). t.groups) c.self.view_is) c.self.invariant.whole c.args.loc c.requires.within c.place-at.result c.place-at.ensures.number c.args.value c.gdefine-old.ensures.after
    _ _ _ _ _ _ _ c.self.invariant c.requires.suits c.note.ensures

pub returns-clause-after : goal.returns-clause-after
returns-clause-after c =
    with_groups _ _ _ _ _ c.args.self.now c.self.view_is (λ g. set_global g c.args.loc (numbered_value c.args.value))
    (gdefined_groups c.self.inside.groups c.gdefine-old.new.self c.args.self.now.groups (ap (λ (t : Table). t.groups) c.self.view_is) c.self.invariant.whole c.args.loc c.requires.within c.place-at.result c.place-at.ensures.number c.args.value c.gdefine-old.ensures.after)

pub returns-clause-let_go : goal.returns-clause-let_go
returns-clause-let_go c =
    c.release.ensures.after
    ∙ ap (λ (v : V). without_holder (value_list v) c.args.lists.now)
    (old_is c.self.inside.groups c.args.self.now.groups (ap (λ (t : Table). t.groups) c.self.view_is) c.self.invariant.whole c.args.loc c.requires.within c.place-at.result c.place-at.ensures.number c.args.value c.gdefine-old.result c.gdefine-old.ensures.back)

pub returns-clause-account : goal.returns-clause-account
returns-clause-account c =
    moves_by c.self.inside.groups c.gdefine-old.new.self c.args.self.now.groups (ap (λ (t : Table). t.groups) c.self.view_is) c.self.invariant.whole (invariant_of-self c).whole
    c.args.lists.now c.release.new.lists (λ h. weight h c.args.value) (λ h. weight h c.gdefine-old.result) (λ h. c.gdefine-old.ensures.account (weight h)) c.release.ensures.account

pub returns-clause-kept : goal.returns-clause-kept
returns-clause-kept c =
    keeps_by c.self.inside.groups c.gdefine-old.new.self c.args.self.now.groups (ap (λ (t : Table). t.groups) c.self.view_is) c.self.invariant.whole
    c.args.lists.now c.release.new.lists (λ h. weight h c.args.value) (λ h. weight h c.gdefine-old.result) (λ h. c.gdefine-old.ensures.account (weight h)) c.release.ensures.kept
