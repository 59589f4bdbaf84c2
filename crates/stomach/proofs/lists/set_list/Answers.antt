use Rattle.std.proofs.Common.{◌≡◌, ◌∙◌, [], ◌∷◌, refl, List, None}
use Rattle.equivalents.specs.declared.values.Val.TheVariants as val
use Rattle.rows.specs.Readings.{ActsOn}
use Rattle.rows.specs.declared.command.Effect.TheVariants.{SetList}
use Rattle.reading_frames.specs.Views.{kept_list_of, top_list}
use Rattle.reading_frames.specs.Stack.{innermost_count}
use Rattle.plain_machine.specs.declared.broken.Broken.TheVariants as broken
use Rattle.plain_machine.specs.States.{Move, Closed, ListSet, Set}
use Rattle.plain_machine.specs.Plan.{is_global}
use Rattle.engine_state.specs.Book.{with_work}
use Rattle.engine_state.specs.Stands.{page_of, state_of}
use Rattle.engine_state.proofs.CuttingReadings.{in_by}
use Rattle.engine_state.proofs.Joining.{same_err, err_to, on_both, went_by}
use Rattle.stomach.proofs.FrameAsks.{innermost_own}
use Rattle.stomach.proofs.ListsSet.{sets_some, sets_none}
use Rattle.stomach.proofs.Passing.{kept_top, unmade_in, unput_in, behind_went}
use Rattle.stomach.proofs.lists.set_list.Goals as goal

-- A LIST WITH A TOKEN

pub returns-in_err-assign_list-clause-err : goal.returns-in_err-assign_list-clause-err
returns-in_err-assign_list-clause-err c = let e = c.args.engine.now in let e1 = c.assign_list.new.engine in let i = c.in_err-assign_list in let ts = kept_list_of c.args.listed e.input.builds in
    let some = c.if-has_token.ensures in
    let top = kept_top c.args.listed e.input.builds some in
    same_err c.from_residual.result (broken.Full i.field-0.0) _ c.from_residual.ensures.1
    (λ takes sizes w book r rs st asks. let s = state_of e (with_work (r ∷ rs) book) in
    let moves : List Move = ListSet (is_global (page_of e book) c.args.call) c.args.loc (top_list e.input.builds) ∷ [] in
    in_by sizes s e1 w w _ _ (broken.Full i.field-0.0) (sets_some (page_of e book) c.args.call c.args.loc (top_list e.input.builds) ts top (λ none. some (top ∙ none)))
    (unmade_in sizes s e e1 e1 w moves (broken.Full i.field-0.0) (i.ensures.err sizes w book r rs st)))

pub returns-in_ok-assign_list-clause-rule : goal.returns-in_ok-assign_list-clause-rule
returns-in_ok-assign_list-clause-rule c = let e = c.args.engine.now in let e1 = c.assign_list.new.engine in let e2 = c.put_after.new.self in let n = c.put_after.ensures in let p = c.in_ok-assign_list.ensures in
    let ts = kept_list_of c.args.listed e.input.builds in
    let some = c.if-has_token.ensures in
    let top = kept_top c.args.listed e.input.builds some in
    on_both c.put_after.result (λ did idle takes sizes w book r rs st asks. let s = state_of e (with_work (r ∷ rs) book) in
    let own : innermost_count e.readings.frames ≡ 1 = innermost_own e.readings.frames e.input.builds (ActsOn c.args.call (SetList c.args.loc) ts) ts asks refl some in
    let moves : List Move = ListSet (is_global (page_of e book) c.args.call) c.args.loc (top_list e.input.builds) ∷ [] in
    went_by sizes s e2 w w _ _ 0 (sets_some (page_of e book) c.args.call c.args.loc (top_list e.input.builds) ts top (λ none. some (top ∙ none)))
    (behind_went sizes s e e1 e2 w moves (p.call st.uncalled) p.after n.frames (p.rule takes sizes w book r rs st own) n.others n.store idle did)) n.did n.idle

pub returns-in_ok-assign_list-clause-err : goal.returns-in_ok-assign_list-clause-err
returns-in_ok-assign_list-clause-err c = let e = c.args.engine.now in let e1 = c.assign_list.new.engine in let e2 = c.put_after.new.self in let n = c.put_after.ensures in let p = c.in_ok-assign_list.ensures in
    let ts = kept_list_of c.args.listed e.input.builds in
    let some = c.if-has_token.ensures in
    let top = kept_top c.args.listed e.input.builds some in
    err_to c.put_after.result (λ b cuts takes sizes w book r rs st asks. let s = state_of e (with_work (r ∷ rs) book) in
    let own : innermost_count e.readings.frames ≡ 1 = innermost_own e.readings.frames e.input.builds (ActsOn c.args.call (SetList c.args.loc) ts) ts asks refl some in
    let moves : List Move = ListSet (is_global (page_of e book) c.args.call) c.args.loc (top_list e.input.builds) ∷ [] in
    in_by sizes s e2 w w _ _ b (sets_some (page_of e book) c.args.call c.args.loc (top_list e.input.builds) ts top (λ none. some (top ∙ none)))
    (unput_in sizes s e e1 e2 w moves (p.call st.uncalled) p.after n.frames (p.rule takes sizes w book r rs st own) b cuts)) n.err

-- ONE WITHOUT A TOKEN

pub returns-in_err-pass_nothing-clause-err : goal.returns-in_err-pass_nothing-clause-err
returns-in_err-pass_nothing-clause-err c = let e = c.args.engine.now in let e1 = c.pass_nothing.new.engine in let i = c.in_err-pass_nothing in let ts = kept_list_of c.args.listed e.input.builds in
    same_err c.from_residual-in_err-pass_nothing.result (broken.Full i.field-0.0) _ c.from_residual-in_err-pass_nothing.ensures.1
    (λ takes sizes w book r rs st asks. let s = state_of e (with_work (r ∷ rs) book) in
    let moves : List Move = Closed ∷ Set (is_global (page_of e book) c.args.call) c.args.loc (val.Tokens None) ∷ [] in
    in_by sizes s e1 w w _ _ (broken.Full i.field-0.0) (sets_none (page_of e book) c.args.call c.args.loc ts c.if-has_token.ensures) (unmade_in sizes s e e1 e1 w moves (broken.Full i.field-0.0) (i.ensures.err sizes w book r rs st)))

pub returns-in_ok-pass_nothing-clause-rule : goal.returns-in_ok-pass_nothing-clause-rule
returns-in_ok-pass_nothing-clause-rule c = let e = c.args.engine.now in let e1 = c.pass_nothing.new.engine in let p = c.put_after-else-has_token in let e2 = p.new.self in let n = p.ensures in let i = c.in_ok-pass_nothing.ensures in
    let ts = kept_list_of c.args.listed e.input.builds in
    on_both p.result (λ did idle takes sizes w book r rs st asks. let s = state_of e (with_work (r ∷ rs) book) in
    let moves : List Move = Closed ∷ Set (is_global (page_of e book) c.args.call) c.args.loc (val.Tokens None) ∷ [] in
    went_by sizes s e2 w w _ _ 0 (sets_none (page_of e book) c.args.call c.args.loc ts c.if-has_token.ensures)
    (behind_went sizes s e e1 e2 w moves (i.call st.uncalled) i.after n.frames (i.rule takes sizes w book r rs st) n.others n.store idle did)) n.did n.idle

pub returns-in_ok-pass_nothing-clause-err : goal.returns-in_ok-pass_nothing-clause-err
returns-in_ok-pass_nothing-clause-err c = let e = c.args.engine.now in let e1 = c.pass_nothing.new.engine in let p = c.put_after-else-has_token in let e2 = p.new.self in let n = p.ensures in let i = c.in_ok-pass_nothing.ensures in
    let ts = kept_list_of c.args.listed e.input.builds in
    err_to p.result (λ b cuts takes sizes w book r rs st asks. let s = state_of e (with_work (r ∷ rs) book) in
    let moves : List Move = Closed ∷ Set (is_global (page_of e book) c.args.call) c.args.loc (val.Tokens None) ∷ [] in
    in_by sizes s e2 w w _ _ b (sets_none (page_of e book) c.args.call c.args.loc ts c.if-has_token.ensures)
    (unput_in sizes s e e1 e2 w moves (i.call st.uncalled) i.after n.frames (i.rule takes sizes w book r rs st) b cuts)) n.err
