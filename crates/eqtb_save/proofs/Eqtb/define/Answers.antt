use Rattle.std.proofs.Common.{ℕ, ap, ◌∙◌, sym, length, arith}
use Rattle.std.specs.Prelude.{Option}
use Rattle.std.proofs.lemmas.List.{length-set}
use Rattle.save_stack.specs.Accounts.{optional}
use Rattle.save_stack.specs.Groups.{Stack, depth}
use Rattle.equivalents.specs.Groups.{set_local}
use Rattle.meanings.specs.Holding.{without_holder}
use Rattle.eqtb_save.specs.Values.{numbered_value}
use Rattle.eqtb_save.specs.Table.{Table}
use Rattle.eqtb_save.proofs.Held.{K, weight, Balance, back_counted, moves_by, still_moves, keeps_by}
use Rattle.eqtb_save.proofs.Setting.{defined_sound, defined_groups, let_go, nothing_goes, with_groups, still_sound, still_table, set_fits, set_refused}
use Rattle.eqtb_save.proofs.Eqtb.define.Goals as goal

pub define-requires : goal.define-requires
define-requires c = omega (arith, c.place-at.ensures.within, ap (λ (t : Table). length t.groups.levels) c.self.view_is)

-- the old value is handed back

pub note-requires : goal.note-requires
note-requires c = omega (
  arith,
  c.place-at.ensures.within,
  ap (λ (t : Table). length t.groups.levels) c.self.view_is,
  ap (λ (x : Stack K). length x.levels) c.in-Ok-Some.ensures.ok,
  length-set c.self.inside.groups.levels c.place-at.result (depth c.self.inside.groups),
)

pub invariant_of-self : goal.invariant_of-self
invariant_of-self c =
    defined_sound c.self.inside.groups c.define.new.self c.args.self.now.groups (ap (λ (t : Table). t.groups) c.self.view_is) c.self.invariant.whole c.args.loc c.requires.within c.place-at.result c.place-at.ensures.number c.args.value c.in-Ok-Some.ensures.ok
    _ _ _ _ _ _ _ c.self.invariant c.requires.suits c.note.ensures

pub returns-in-Ok-Some-clause-refused : goal.returns-in-Ok-Some-clause-refused
returns-in-Ok-Some-clause-refused c = set_fits c.self.inside.groups c.args.self.now.groups (ap (λ (t : Table). t.groups) c.self.view_is) c.args.loc c.place-at.result c.place-at.ensures.number c.args.self.now.sizes (c.self.invariant.save_size ∙ ap (λ (t : Table). t.sizes.save_size) c.self.view_is) c.in-Ok-Some.ensures.room

pub returns-in-Ok-Some-clause-ok : goal.returns-in-Ok-Some-clause-ok
returns-in-Ok-Some-clause-ok c =
    with_groups _ _ _ _ _ c.args.self.now c.self.view_is (λ g. set_local g c.args.loc (numbered_value c.args.value))
    (defined_groups c.self.inside.groups c.define.new.self c.args.self.now.groups (ap (λ (t : Table). t.groups) c.self.view_is) c.self.invariant.whole c.args.loc c.requires.within c.place-at.result c.place-at.ensures.number c.args.value c.in-Ok-Some.ensures.ok)

pub release-requires : goal.release-requires
release-requires c =
    let balance : Balance c.self.inside.groups c.define.new.self (λ h. weight h c.args.value) (λ h. weight h c.in-Ok-Some.old) = λ h. omega (arith, c.in-Ok-Some.ensures.account (weight h), ap (optional (weight h)) c.in-Ok-Some.field-0-is) in
    back_counted c.self.inside.groups c.define.new.self c.args.self.now.groups (ap (λ (t : Table). t.groups) c.self.view_is) c.self.invariant.whole c.args.lists.now (λ h. weight h c.args.value) c.in-Ok-Some.old c.requires.covered balance

pub returns-in-Ok-Some-clause-let_go : goal.returns-in-Ok-Some-clause-let_go
returns-in-Ok-Some-clause-let_go c =
    c.release.ensures.after
    ∙ ap (λ (o : Option ℕ). without_holder o c.args.lists.now)
    (let_go c.self.inside.groups c.args.self.now.groups (ap (λ (t : Table). t.groups) c.self.view_is) c.self.invariant.whole c.args.loc c.requires.within c.place-at.result c.place-at.ensures.number c.args.value c.in-Ok-Some.old (sym c.in-Ok-Some.field-0-is ∙ c.in-Ok-Some.ensures.back))

pub returns-in-Ok-Some-clause-account : goal.returns-in-Ok-Some-clause-account
returns-in-Ok-Some-clause-account c =
    let balance : Balance c.self.inside.groups c.define.new.self (λ h. weight h c.args.value) (λ h. weight h c.in-Ok-Some.old) = λ h. omega (arith, c.in-Ok-Some.ensures.account (weight h), ap (optional (weight h)) c.in-Ok-Some.field-0-is) in
    moves_by c.self.inside.groups c.define.new.self c.args.self.now.groups (ap (λ (t : Table). t.groups) c.self.view_is) c.self.invariant.whole (invariant_of-self c).whole c.args.lists.now c.release.new.lists (λ h. weight h c.args.value) (λ h. weight h c.in-Ok-Some.old) balance c.release.ensures.account

pub returns-in-Ok-Some-clause-kept : goal.returns-in-Ok-Some-clause-kept
returns-in-Ok-Some-clause-kept c =
    let balance : Balance c.self.inside.groups c.define.new.self (λ h. weight h c.args.value) (λ h. weight h c.in-Ok-Some.old) = λ h. omega (arith, c.in-Ok-Some.ensures.account (weight h), ap (optional (weight h)) c.in-Ok-Some.field-0-is) in
    keeps_by c.self.inside.groups c.define.new.self c.args.self.now.groups (ap (λ (t : Table). t.groups) c.self.view_is) c.self.invariant.whole c.args.lists.now c.release.new.lists (λ h. weight h c.args.value) (λ h. weight h c.in-Ok-Some.old) balance c.release.ensures.kept

-- the old value is saved

pub note-requires-in-Ok-None : goal.note-requires-in-Ok-None
note-requires-in-Ok-None c = omega (
  arith,
  c.place-at.ensures.within,
  ap (λ (t : Table). length t.groups.levels) c.self.view_is,
  ap (λ (x : Stack K). length x.levels) c.in-Ok-None.ensures.ok,
  length-set c.self.inside.groups.levels c.place-at.result (depth c.self.inside.groups),
)

pub invariant_of-self-in-Ok-None : goal.invariant_of-self-in-Ok-None
invariant_of-self-in-Ok-None c =
    defined_sound c.self.inside.groups c.define.new.self c.args.self.now.groups (ap (λ (t : Table). t.groups) c.self.view_is) c.self.invariant.whole c.args.loc c.requires.within c.place-at.result c.place-at.ensures.number c.args.value c.in-Ok-None.ensures.ok
    _ _ _ _ _ _ _ c.self.invariant c.requires.suits c.note-in-Ok-None.ensures

pub returns-in-Ok-None-clause-refused : goal.returns-in-Ok-None-clause-refused
returns-in-Ok-None-clause-refused c = set_fits c.self.inside.groups c.args.self.now.groups (ap (λ (t : Table). t.groups) c.self.view_is) c.args.loc c.place-at.result c.place-at.ensures.number c.args.self.now.sizes (c.self.invariant.save_size ∙ ap (λ (t : Table). t.sizes.save_size) c.self.view_is) c.in-Ok-None.ensures.room

pub returns-in-Ok-None-clause-ok : goal.returns-in-Ok-None-clause-ok
returns-in-Ok-None-clause-ok c =
    with_groups _ _ _ _ _ c.args.self.now c.self.view_is (λ g. set_local g c.args.loc (numbered_value c.args.value))
    (defined_groups c.self.inside.groups c.define.new.self c.args.self.now.groups (ap (λ (t : Table). t.groups) c.self.view_is) c.self.invariant.whole c.args.loc c.requires.within c.place-at.result c.place-at.ensures.number c.args.value c.in-Ok-None.ensures.ok)

pub returns-in-Ok-None-clause-let_go : goal.returns-in-Ok-None-clause-let_go
returns-in-Ok-None-clause-let_go c =
    sym (ap (λ (o : Option ℕ). without_holder o c.args.lists.now) (nothing_goes c.self.inside.groups c.args.self.now.groups (ap (λ (t : Table). t.groups) c.self.view_is) c.self.invariant.whole c.args.loc c.requires.within c.place-at.result c.place-at.ensures.number c.args.value (sym c.in-Ok-None.field-0-is ∙ c.in-Ok-None.ensures.back)))

pub returns-in-Ok-None-clause-account : goal.returns-in-Ok-None-clause-account
returns-in-Ok-None-clause-account c =
    let balance : Balance c.self.inside.groups c.define.new.self (λ h. weight h c.args.value) (λ h. 0) = λ h. omega (arith, c.in-Ok-None.ensures.account (weight h), ap (optional (weight h)) c.in-Ok-None.field-0-is) in
    still_moves c.self.inside.groups c.define.new.self c.args.self.now.groups (ap (λ (t : Table). t.groups) c.self.view_is) c.self.invariant.whole (invariant_of-self-in-Ok-None c).whole c.args.lists.now (λ h. weight h c.args.value) balance

-- the new value is handed back

pub release-requires-in-Err : goal.release-requires-in-Err
release-requires-in-Err c =
    let balance : Balance c.self.inside.groups c.define.new.self (λ h. weight h c.args.value) (λ h. weight h c.in-Err.value) = λ h. omega (arith, c.in-Err.ensures.account (weight h)) in
    back_counted c.self.inside.groups c.define.new.self c.args.self.now.groups (ap (λ (t : Table). t.groups) c.self.view_is) c.self.invariant.whole c.args.lists.now (λ h. weight h c.args.value) c.in-Err.value c.requires.covered balance

pub invariant_of-self-in-Err : goal.invariant_of-self-in-Err
invariant_of-self-in-Err c = still_sound c.self.inside.groups c.define.new.self _ _ _ _ _ _ c.self.invariant c.in-Err.ensures.err

pub returns-in-Err-clause-refused : goal.returns-in-Err-clause-refused
returns-in-Err-clause-refused c = set_refused c.self.inside.groups c.args.self.now.groups (ap (λ (t : Table). t.groups) c.self.view_is) c.args.loc c.place-at.result c.place-at.ensures.number c.args.self.now.sizes (c.self.invariant.save_size ∙ ap (λ (t : Table). t.sizes.save_size) c.self.view_is) c.in-Err.full c.in-Err.ensures.full

pub returns-in-Err-clause-err : goal.returns-in-Err-clause-err
returns-in-Err-clause-err c = still_table c.self.inside.groups c.define.new.self _ _ _ _ c.self.view_is c.in-Err.ensures.err

pub returns-in-Err-clause-account : goal.returns-in-Err-clause-account
returns-in-Err-clause-account c =
    let balance : Balance c.self.inside.groups c.define.new.self (λ h. weight h c.args.value) (λ h. weight h c.in-Err.value) = λ h. omega (arith, c.in-Err.ensures.account (weight h)) in
    moves_by c.self.inside.groups c.define.new.self c.args.self.now.groups (ap (λ (t : Table). t.groups) c.self.view_is) c.self.invariant.whole (invariant_of-self-in-Err c).whole c.args.lists.now c.release-in-Err.new.lists (λ h. weight h c.args.value) (λ h. weight h c.in-Err.value) balance c.release-in-Err.ensures.account

pub returns-in-Err-clause-kept : goal.returns-in-Err-clause-kept
returns-in-Err-clause-kept c =
    let balance : Balance c.self.inside.groups c.define.new.self (λ h. weight h c.args.value) (λ h. weight h c.in-Err.value) = λ h. omega (arith, c.in-Err.ensures.account (weight h)) in
    keeps_by c.self.inside.groups c.define.new.self c.args.self.now.groups (ap (λ (t : Table). t.groups) c.self.view_is) c.self.invariant.whole c.args.lists.now c.release-in-Err.new.lists (λ h. weight h c.args.value) (λ h. weight h c.in-Err.value) balance c.release-in-Err.ensures.kept
