use Rattle.std.proofs.Common.{◌≡◌, ◌∙◌, [], ◌∷◌, refl, List}
use Rattle.rows.specs.Readings.{Defines}
use Rattle.reading_frames.specs.Views.{kept_list_of, top_list}
use Rattle.reading_frames.specs.Stack.{innermost_count}
use Rattle.plain_machine.specs.declared.broken.Broken.TheVariants as broken
use Rattle.plain_machine.specs.States.{Move, Defined}
use Rattle.plain_machine.specs.Plan.{is_global}
use Rattle.engine_state.specs.Book.{with_work}
use Rattle.engine_state.specs.Stands.{page_of, state_of}
use Rattle.engine_state.proofs.CuttingReadings.{in_by}
use Rattle.engine_state.proofs.Joining.{same_err, err_to, on_both, went_by}
use Rattle.stomach.proofs.Defining.{defines_are, none_went}
use Rattle.stomach.proofs.FrameAsks.{innermost_own}
use Rattle.stomach.proofs.Passing.{kept_top, unmade_in, unput_in, behind_went}
use Rattle.stomach.proofs.RuleCloses.{closed_lighter}
use Rattle.stomach.proofs.define.define.Goals as goal

pub returns-in_err-assign_macro-clause-err : goal.returns-in_err-assign_macro-clause-err
returns-in_err-assign_macro-clause-err c = let e = c.args.engine.now in let e1 = c.assign_macro.new.engine in let i = c.in_err-assign_macro in let ts = kept_list_of c.args.listed e.input.builds in
    let some = c.if-has_token.ensures in
    let top = kept_top c.args.listed e.input.builds some in
    same_err c.from_residual.result (broken.Full i.field-0.0) _ c.from_residual.ensures.1
    (λ sizes w book r rs st asks. let s = state_of e (with_work (r ∷ rs) book) in
    let moves : List Move = Defined (is_global (page_of e book) c.args.call) c.args.name c.args.call.long c.args.call.outer (top_list e.input.builds) ∷ [] in
    in_by sizes s e1 w w _ _ (broken.Full i.field-0.0) (defines_are (page_of e book) c.args.call c.args.name (top_list e.input.builds) ts top (λ none. some (top ∙ none)))
    (unmade_in sizes s e e1 e1 w moves (broken.Full i.field-0.0) (i.ensures.err sizes w book r rs st)))

pub returns-in_ok-assign_macro-clause-rule : goal.returns-in_ok-assign_macro-clause-rule
returns-in_ok-assign_macro-clause-rule c = let e = c.args.engine.now in let e1 = c.assign_macro.new.engine in let e2 = c.put_after.new.self in let n = c.put_after.ensures in let p = c.in_ok-assign_macro.ensures in
    let ts = kept_list_of c.args.listed e.input.builds in
    let some = c.if-has_token.ensures in
    let top = kept_top c.args.listed e.input.builds some in
    on_both c.put_after.result (λ did idle sizes w book r rs st asks. let s = state_of e (with_work (r ∷ rs) book) in
    let own : innermost_count e.readings.frames ≡ 1 = innermost_own e.readings.frames e.input.builds (Defines c.args.call c.args.name ts) ts asks refl some in
    let moves : List Move = Defined (is_global (page_of e book) c.args.call) c.args.name c.args.call.long c.args.call.outer (top_list e.input.builds) ∷ [] in
    went_by sizes s e2 w w _ _ 0 (defines_are (page_of e book) c.args.call c.args.name (top_list e.input.builds) ts top (λ none. some (top ∙ none)))
    (behind_went sizes s e e1 e2 w moves (p.call st.uncalled) p.after n.frames (p.rule sizes w book r rs st own) n.others n.store idle did)) n.did n.idle

pub returns-in_ok-assign_macro-clause-err : goal.returns-in_ok-assign_macro-clause-err
returns-in_ok-assign_macro-clause-err c = let e = c.args.engine.now in let e1 = c.assign_macro.new.engine in let e2 = c.put_after.new.self in let n = c.put_after.ensures in let p = c.in_ok-assign_macro.ensures in
    let ts = kept_list_of c.args.listed e.input.builds in
    let some = c.if-has_token.ensures in
    let top = kept_top c.args.listed e.input.builds some in
    err_to c.put_after.result (λ b cuts sizes w book r rs st asks. let s = state_of e (with_work (r ∷ rs) book) in
    let own : innermost_count e.readings.frames ≡ 1 = innermost_own e.readings.frames e.input.builds (Defines c.args.call c.args.name ts) ts asks refl some in
    let moves : List Move = Defined (is_global (page_of e book) c.args.call) c.args.name c.args.call.long c.args.call.outer (top_list e.input.builds) ∷ [] in
    in_by sizes s e2 w w _ _ b (defines_are (page_of e book) c.args.call c.args.name (top_list e.input.builds) ts top (λ none. some (top ∙ none)))
    (unput_in sizes s e e1 e2 w moves (p.call st.uncalled) p.after n.frames (p.rule sizes w book r rs st own) b cuts)) n.err

-- NO TOKEN

pub returns-else-has_token-clause-rule : goal.returns-else-has_token-clause-rule
returns-else-has_token-clause-rule c = let e = c.args.engine.now in let e1 = c.close_reading.new.self in let l = c.close_reading.ensures in
    λ sizes w book r rs st asks.
    none_went sizes e e1 book w r rs c.args.call c.args.name (l.stands sizes book r rs st) (l.state sizes book r rs st) (kept_list_of c.args.listed e.input.builds) c.if-has_token.ensures

pub returns-else-has_token-clause-light : goal.returns-else-has_token-clause-light
returns-else-has_token-clause-light c = let l = c.close_reading.ensures in
    λ none asks. closed_lighter c.args.engine.now c.close_reading.new.self (Defines c.args.call c.args.name []) none asks tt l.same l.frames l.weight
