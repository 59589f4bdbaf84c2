use Rattle.std.proofs.Common.{◌+◌, Option, ap, arith}
use Rattle.std.specs.Prelude.{sum_by}
use Rattle.save_stack.specs.declared.Saved.{Saved}
use Rattle.save_stack.specs.Accounts.{array_weight, mark_weight}
use Rattle.meanings.proofs.Counted.{list_is_held}
use Rattle.equivalents.specs.Holding.{value_list}
use Rattle.eqtb_save.specs.Table.{Table}
use Rattle.eqtb_save.specs.Values.{numbered_value}
use Rattle.eqtb_save.specs.Holding.{held, entry_holds}
use Rattle.eqtb_save.proofs.Held.{K, weight, held_weighs}
use Rattle.eqtb_save.proofs.Ended.{first_going, part_covered, still_going, last_value, last_saved, none_left}
use Rattle.eqtb_save.proofs.Marks.{marks_last, same_length}
use Rattle.eqtb_save.proofs.Eqtb.close.Goals as goal

pub loop-value-init : goal.loop-value-init
loop-value-init c = first_going c.args.lists.now (held c.args.self) _ (λ h. omega (arith, c.into_values-values.ensures.account (weight h), held_weighs c.self.inside.groups h c.self.invariant.whole, ap (λ (t : Table). held t h) c.self.view_is))

pub release-requires : goal.release-requires
release-requires c =
    let saved = c.into_values-values.result.1.items in
    list_is_held c.loop-value.lists (value_list (numbered_value c.in-Some.value))
    (part_covered c.args.lists.now c.loop-value.lists (held c.args.self) _ (λ h. sum_by (weight h) c.pop.new.self.items + array_weight (weight h) saved) (λ h. weight h c.in-Some.value) c.requires c.loop-value.invariant
    (last_value c.loop-value.values.items c.pop.new.self.items c.in-Some.value saved c.in-Some.ensures.items))

pub loop-value-preserved : goal.loop-value-preserved
loop-value-preserved c =
    let saved = c.into_values-values.result.1.items in
    still_going c.args.lists.now c.loop-value.lists (held c.args.self) _ (λ h. sum_by (weight h) c.pop.new.self.items + array_weight (weight h) saved) (λ h. weight h c.in-Some.value) c.requires c.loop-value.invariant
    (last_value c.loop-value.values.items c.pop.new.self.items c.in-Some.value saved c.in-Some.ensures.items) c.release.new.lists c.release.ensures.account c.release.ensures.kept
    (same_length (value_list (numbered_value c.in-Some.value)) c.loop-value.lists c.release.new.lists c.release.ensures.after) (marks_last (value_list (numbered_value c.in-Some.value)) c.loop-value.lists c.release.new.lists c.release.ensures.after)

pub loop-entry-init : goal.loop-entry-init
loop-entry-init c = record {
  moves = λ h. omega (arith, c.loop-value.invariant.moves h, none_left (weight h) c.loop-value.values.items (omega (arith, c.in_default.ensures.cases.0, c.loop-value.values.ok.0)));
  kept = c.loop-value.invariant.kept;
  length = c.loop-value.invariant.length;
  marks = c.loop-value.invariant.marks;
}

pub release_entry-requires : goal.release_entry-requires
release_entry-requires c =
    part_covered c.args.lists.now c.loop-entry.lists (held c.args.self) _ (λ h. array_weight (weight h) c.pop-in-loop-entry.new.self.items) (λ h. entry_holds c.in-Some-pop.entry h) c.requires c.loop-entry.invariant
    (last_saved c.loop-entry.saved.items c.pop-in-loop-entry.new.self.items c.in-Some-pop.entry c.in-Some-pop.ensures.items)

pub loop-entry-preserved : goal.loop-entry-preserved
loop-entry-preserved c =
    still_going c.args.lists.now c.loop-entry.lists (held c.args.self) _ (λ h. array_weight (weight h) c.pop-in-loop-entry.new.self.items) (λ h. entry_holds c.in-Some-pop.entry h) c.requires c.loop-entry.invariant
    (last_saved c.loop-entry.saved.items c.pop-in-loop-entry.new.self.items c.in-Some-pop.entry c.in-Some-pop.ensures.items) c.release_entry.new.lists c.release_entry.ensures.account c.release_entry.ensures.kept c.release_entry.ensures.length c.release_entry.ensures.marks

pub returns-clause-account : goal.returns-clause-account
returns-clause-account c = λ h. omega (arith, c.loop-entry.invariant.moves h, none_left (λ (o : Option (Saved K)). mark_weight (weight h) o) c.loop-entry.saved.items (omega (arith, c.in_default-pop.ensures.cases.0, c.loop-entry.saved.ok.0)))
