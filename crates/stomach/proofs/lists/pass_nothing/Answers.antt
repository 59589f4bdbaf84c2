use Rattle.std.proofs.Common.{◌∙◌, ◌∷◌, ap, refl, None, Some}
use Rattle.equivalents.specs.declared.values.Val.TheVariants as val
use Rattle.plain_machine.specs.declared.broken.Broken.TheVariants as broken
use Rattle.plain_machine.specs.States.{Set, Closed}
use Rattle.plain_machine.proofs.Doing.{did_one}
use Rattle.plain_machine.proofs.GroupNumbers.{set_demands_of}
use Rattle.input_state.specs.Stored.{Stored}
use Rattle.engine_state.specs.Book.{with_work}
use Rattle.engine_state.specs.Stands.{state_of}
use Rattle.plain_machine.specs.Weights.{pending_weight}
use Rattle.engine_state.proofs.Grouping.{asks_same}
use Rattle.engine_state.proofs.Joining.{quiet_here, same_err, when_true}
use Rattle.stomach.proofs.ActingAlone.{value_did, value_stands}
use Rattle.engine_state.proofs.ValueTexts.{fetchable}
use Rattle.stomach.proofs.ListsSet.{given_lighter, set_in, set_went, suits_list}
use Rattle.stomach.proofs.Passing.{unpassed_cut}
use Rattle.stomach.proofs.RuleCloses.{closed_lighter}
use Rattle.stomach.proofs.lists.pass_nothing.Goals as goal

pub set_no_list-requires : goal.set_no_list-requires
set_no_list-requires c = let h = when_true _ _ c.takes_list.result c.if-takes_list.true c.takes_list.ensures in
    record { within = fetchable c.close_reading.new.self.input.groups c.args.loc h.0; suits = suits_list c.args.loc (val.Tokens None) h.1 tt }

pub returns-in_err-set_no_list-clause-err : goal.returns-in_err-set_no_list-clause-err
returns-in_err-set_no_list-clause-err c = let i = c.in_err-set_no_list in let e = c.args.engine.now in let e1 = c.close_reading.new.self in let l = c.close_reading.ensures in let global = c.is_global-global.result in
    same_err c.from_residual.result i.field-0.0 _ c.from_residual.ensures.1
    (λ sizes w book r rs st. let s = state_of e (with_work (r ∷ rs) book) in let left = with_work rs book in let after = l.stands sizes book r rs st in
    set_in sizes e e1 book w rs s (did_one sizes Closed s (state_of e1 left) w w refl (l.state sizes book r rs st) (quiet_here Closed w tt)) c.args.call c.args.loc (val.Tokens None) global (c.is_global-global.ensures book) _ (broken.Full i.field-0.0)
    (unpassed_cut sizes e1 left w c.set_no_list.new.self (Set global c.args.loc (val.Tokens None)) i.field-0.0 i.ensures.err
    (asks_same sizes e1 left (Some i.field-0.0) after.sound _ _ (set_demands_of book.number global e1.input.groups c.args.loc) i.ensures.refused) after))

pub returns-in_ok-set_no_list-clause-rule : goal.returns-in_ok-set_no_list-clause-rule
returns-in_ok-set_no_list-clause-rule c = let i = c.in_ok-set_no_list.ensures in let e = c.args.engine.now in let e1 = c.close_reading.new.self in let l = c.close_reading.ensures in let global = c.is_global-global.result in
    λ takes sizes w book r rs st. let s = state_of e (with_work (r ∷ rs) book) in let left = with_work rs book in let after = l.stands sizes book r rs st in
    set_went sizes e e1 book w rs s (did_one sizes Closed s (state_of e1 left) w w refl (l.state sizes book r rs st) (quiet_here Closed w tt)) c.args.call c.args.loc (val.Tokens None) global (c.is_global-global.ensures book) _
    (value_did e1 c.set_no_list.new.self global c.args.loc (val.Tokens None) tt i.ok sizes w left after i.refused)
    (value_stands e1 c.set_no_list.new.self global c.args.loc (val.Tokens None) tt i.ok i.keeps sizes left after)

pub returns-in_ok-set_no_list-clause-light : goal.returns-in_ok-set_no_list-clause-light
returns-in_ok-set_no_list-clause-light c = let e = c.args.engine.now in let e1 = c.close_reading.new.self in let l = c.close_reading.ensures in let i = c.in_ok-set_no_list.ensures in
    λ none a asks end. given_lighter e e1 (record e1 { input = c.set_no_list.new.self }) (closed_lighter e e1 a none asks end l.same l.frames l.weight) ((l.same none).call ∙ none) (ap (λ (x : Stored). x.call) i.ok) refl (ap (λ (x : Stored). pending_weight x.pending) i.ok)

-- NO LIST STANDS THERE

pub returns-else-takes_list-clause-light : goal.returns-else-takes_list-clause-light
returns-else-takes_list-clause-light c = let l = c.close_reading.ensures in λ none a asks end. closed_lighter c.args.engine.now c.close_reading.new.self a none asks end l.same l.frames l.weight
