use Rattle.std.proofs.Common.{ap, ◌∙◌, None}
use Rattle.equivalents.specs.declared.values.Val.TheVariants as val
use Rattle.input_state.specs.Stored.{Stored}
use Rattle.engine_state.proofs.Joining.{same_err}
use Rattle.engine_state.proofs.Weighing.{acted_lighter}
use Rattle.engine_state.proofs.ValueTexts.{fetchable}
use Rattle.stomach.proofs.ListsSet.{list_went, list_cut, suits_list}
use Rattle.stomach.proofs.RuleCloses.{closed_lighter}
use Rattle.stomach.proofs.lists.assign_list.Goals as goal

-- NO LIST STANDS THERE

pub returns-then-not-takes_list-clause-rule : goal.returns-then-not-takes_list-clause-rule
returns-then-not-takes_list-clause-rule c = λ takes. absurd (c.if-not-takes_list.ensures takes)

pub returns-then-not-takes_list-clause-light : goal.returns-then-not-takes_list-clause-light
returns-then-not-takes_list-clause-light c = let l = c.close_reading.ensures in λ none a asks end. closed_lighter c.args.engine.now c.close_reading.new.self a none asks end l.same l.frames l.weight

-- ONE DOES

pub set_list-requires-clause-within : goal.set_list-requires-clause-within
set_list-requires-clause-within c = let h = c.if-not-takes_list.ensures in fetchable c.args.engine.now.input.groups c.args.loc h.0

pub set_list-requires-clause-suits : goal.set_list-requires-clause-suits
set_list-requires-clause-suits c = let h = c.if-not-takes_list.ensures in suits_list c.args.loc (val.Tokens None) h.1 tt

pub returns-in_err-set_list-clause-err : goal.returns-in_err-set_list-clause-err
returns-in_err-set_list-clause-err c = let i = c.in_err-set_list in
    same_err c.from_residual.result i.field-0.0 _ c.from_residual.ensures.1
    (λ sizes w book r rs st. list_cut sizes c.args.engine.now book w r rs c.args.call c.args.loc c.is_global-global.result c.set_list.new.self i.field-0.0 (c.is_global-global.ensures book) i.ensures.err i.ensures.refused st)

pub returns-clause-rule : goal.returns-clause-rule
returns-clause-rule c = let i = c.in_ok-set_list.ensures in let n = c.end.ensures in
    λ takes sizes w book r rs st own.
    list_went sizes c.args.engine.now book w r rs c.args.call c.args.loc c.is_global-global.result c.end.new.self c.set_list.new.self (c.is_global-global.ensures book) c.requires.token n.rest n.stands n.shallow i.ok i.sets i.keeps i.refused st own

pub returns-clause-light : goal.returns-clause-light
returns-clause-light c = let e = c.args.engine.now in let n = c.end.ensures in
    λ none a asks end. acted_lighter e (record e { input = c.set_list.new.self; readings = c.end.new.self }) none (ap (λ (x : Stored). x.call) c.in_ok-set_list.ensures.ok ∙ none) (ap (λ (x : Stored). x.pending) c.in_ok-set_list.ensures.ok) a asks end n.frames n.weight
