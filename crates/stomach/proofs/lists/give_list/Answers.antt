use Rattle.std.proofs.Common.{◌∙◌, [], ◌∷◌, ◌++◌, List, ap, refl, sym, true, false}
use Rattle.std.proofs.lemmas.List.{append-nil}
use Rattle.plain_machine.specs.declared.broken.Broken.TheVariants as broken
use Rattle.plain_machine.specs.States.{Move, Closed}
use Rattle.plain_machine.specs.Plan.{list_given, list_number}
use Rattle.plain_machine.proofs.Doing.{did_one}
use Rattle.engine_state.specs.Book.{with_work}
use Rattle.engine_state.specs.Lists.{with_list}
use Rattle.engine_state.specs.Stands.{page_of, state_of}
use Rattle.plain_machine.specs.Weights.{pending_weight}
use Rattle.engine_state.specs.declared.engine.Engine.{Engine}
use Rattle.engine_state.proofs.CuttingReadings.{in_by, stands_in}
use Rattle.engine_state.proofs.Joining.{quiet_here, same_err, on_ok, on_both, err_to, when_true}
use Rattle.engine_state.proofs.ValueTexts.{fetchable}
use Rattle.stomach.proofs.ListsSet.{copied_as, gives_went, gives_in, given_lighter}
use Rattle.stomach.proofs.ActsEnding.{closed_leaves, turned_page}
use Rattle.stomach.proofs.RuleCloses.{closed_lighter}
use Rattle.stomach.proofs.lists.give_list.Goals as goal

-- THE LOCATION ISN'T THERE

pub returns-then-not-is_fetchable-clause-light : goal.returns-then-not-is_fetchable-clause-light
returns-then-not-is_fetchable-clause-light c = let l = c.close_reading.ensures in λ a asks end. closed_lighter c.args.engine.now c.close_reading.new.self a c.requires.uncalled asks end l.same l.frames l.weight

-- THE LIST IS COPIED

pub copy_list-requires : goal.copy_list-requires
copy_list-requires c = record { there = fetchable c.close_reading.new.self.input.groups c.args.loc (sym c.is_fetchable.ensures ∙ c.if-not-is_fetchable.false) }

pub returns-in_err-copy_list-clause-err : goal.returns-in_err-copy_list-clause-err
returns-in_err-copy_list-clause-err c = let i = c.in_err-copy_list in let e = c.args.engine.now in let e1 = c.close_reading.new.self in let l = c.close_reading.ensures in
    same_err c.from_residual.result (broken.Full i.field-0.0) _ c.from_residual.ensures.1
    (λ sizes w book call r rs st. let s = state_of e (with_work (r ∷ rs) book) in let left = with_work rs book in let after = l.stands sizes book r rs st in let is = l.state sizes book r rs st in
    gives_in sizes e e1 book w rs s (did_one sizes Closed s (state_of e1 left) w w refl is (quiet_here Closed w tt)) (turned_page e e1 (with_work (r ∷ rs) book) left Closed is closed_leaves) call c.args.loc true
    (copied_as c.copies.result rs (c.copies.ensures.stands e1.input.builds rs after.readings.frames) ∙ c.if-copies.true) c.copy_list.new.self (broken.Full i.field-0.0)
    (i.ensures.refused (when_true _ _ c.copies.result c.if-copies.true (c.copies.ensures.asks e1.input.builds)) sizes w left after))

pub returns-then-copies-clause-rule : goal.returns-then-copies-clause-rule
returns-then-copies-clause-rule c = let i = c.in_ok-copy_list.ensures in let e = c.args.engine.now in let e1 = c.close_reading.new.self in let l = c.close_reading.ensures in
    let copies = when_true _ _ c.copies.result c.if-copies.true (c.copies.ensures.asks e1.input.builds) in
    λ there sizes w book call r rs st. let s = state_of e (with_work (r ∷ rs) book) in let left = with_work rs book in let after = l.stands sizes book r rs st in let is = l.state sizes book r rs st in
    gives_went sizes e e1 book w rs s (did_one sizes Closed s (state_of e1 left) w w refl is (quiet_here Closed w tt)) (turned_page e e1 (with_work (r ∷ rs) book) left Closed is closed_leaves) call c.args.loc true
    (copied_as c.copies.result rs (c.copies.ensures.stands e1.input.builds rs after.readings.frames) ∙ c.if-copies.true) c.copy_list.new.self (with_list e1 c.args.loc left)
    (i.did copies sizes w left after) (i.stands copies sizes left after)

pub returns-then-copies-clause-light : goal.returns-then-copies-clause-light
returns-then-copies-clause-light c = let e = c.args.engine.now in let e1 = c.close_reading.new.self in let l = c.close_reading.ensures in let only = c.copy_list.ensures.only in
    λ a asks end. given_lighter e e1 c.copy_list.new.self (closed_lighter e e1 a c.requires.uncalled asks end l.same l.frames l.weight) ((l.same c.requires.uncalled).call ∙ c.requires.uncalled)
    (ap (λ (x : Engine). x.input.call) only) (ap (λ (x : Engine). x.readings) only) (ap (λ (x : Engine). pending_weight x.input.pending) only)

-- IT IS PUT IN FRONT

pub put_list-requires : goal.put_list-requires
put_list-requires c = record { there = fetchable c.close_reading.new.self.input.groups c.args.loc (sym c.is_fetchable.ensures ∙ c.if-not-is_fetchable.false) }

pub returns-clause-rule : goal.returns-clause-rule
returns-clause-rule c = let n = c.put_list in let e = c.args.engine.now in let e1 = c.close_reading.new.self in let l = c.close_reading.ensures in
    on_both n.result (λ did stands there sizes w book call r rs st. let s = state_of e (with_work (r ∷ rs) book) in let left = with_work rs book in let after = l.stands sizes book r rs st in let is = l.state sizes book r rs st in
    gives_went sizes e e1 book w rs s (did_one sizes Closed s (state_of e1 left) w w refl is (quiet_here Closed w tt)) (turned_page e e1 (with_work (r ∷ rs) book) left Closed is closed_leaves) call c.args.loc false
    (copied_as c.copies.result rs (c.copies.ensures.stands e1.input.builds rs after.readings.frames) ∙ c.if-copies.false) n.new.self left (did sizes w left after.sound) (stands sizes left after)) n.ensures.did n.ensures.stands

pub returns-clause-err : goal.returns-clause-err
returns-clause-err c = let n = c.put_list in let e = c.args.engine.now in let e1 = c.close_reading.new.self in let l = c.close_reading.ensures in
    err_to n.result (λ b cuts sizes w book call r rs st. let s = state_of e (with_work (r ∷ rs) book) in let left = with_work rs book in let after = l.stands sizes book r rs st in let is = l.state sizes book r rs st in
    let gives : List Move = list_given (page_of e1 left) false (list_number (page_of e1 left) c.args.loc) in
    gives_in sizes e e1 book w rs s (did_one sizes Closed s (state_of e1 left) w w refl is (quiet_here Closed w tt)) (turned_page e e1 (with_work (r ∷ rs) book) left Closed is closed_leaves) call c.args.loc false
    (copied_as c.copies.result rs (c.copies.ensures.stands e1.input.builds rs after.readings.frames) ∙ c.if-copies.false) n.new.self b
    (in_by sizes (state_of e1 left) n.new.self w w (gives ++ []) gives b (sym (append-nil gives)) (stands_in sizes e1 n.new.self left w w (gives ++ []) b (cuts sizes w left [] after.sound) n.ensures.frames after))) n.ensures.err

pub returns-clause-light : goal.returns-clause-light
returns-clause-light c = let n = c.put_list in let e = c.args.engine.now in let e1 = c.close_reading.new.self in let l = c.close_reading.ensures in let only = n.ensures.only in
    on_ok n.result (λ stands a asks end. given_lighter e e1 n.new.self (closed_lighter e e1 a c.requires.uncalled asks end l.same l.frames l.weight) ((l.same c.requires.uncalled).call ∙ c.requires.uncalled)
    (ap (λ (x : Engine). x.input.call) only) (ap (λ (x : Engine). x.readings) only) n.ensures.light) n.ensures.stands
