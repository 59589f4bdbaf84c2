use Rattle.std.proofs.Common.{◌∙◌}
use Rattle.engine_state.specs.Book.{with_work}
use Rattle.plain_machine.specs.Plan.{chosen}
use Rattle.engine_state.proofs.Joining.{on_ok, err_to}
use Rattle.stomach.proofs.GoingOn.{behind_in, behind_went, gone_on_lighter}
use Rattle.stomach.proofs.conditional.choose_behind.Goals as goal

pub returns-clause-rule : goal.returns-clause-rule
returns-clause-rule c = let n = c.choose in let e = c.args.engine.now in let e1 = c.close_reading.new.self in let l = c.close_reading.ensures in
    on_ok n.result (λ h sizes w book r rs st.
    behind_went sizes e e1 n.new.engine book r rs w (l.state sizes book r rs st) (λ page. chosen page c.args.call c.args.value) (h sizes w (with_work rs book) (l.stands sizes book r rs st))) n.ensures.rule

pub returns-clause-err : goal.returns-clause-err
returns-clause-err c = let n = c.choose in let e = c.args.engine.now in let e1 = c.close_reading.new.self in let l = c.close_reading.ensures in
    err_to n.result (λ b h sizes w book r rs st.
    behind_in sizes e e1 n.new.engine book r rs w (l.state sizes book r rs st) (λ page. chosen page c.args.call c.args.value) b (h sizes w (with_work rs book) (l.stands sizes book r rs st))) n.ensures.err

pub returns-clause-light : goal.returns-clause-light
returns-clause-light c = let n = c.choose in let e = c.args.engine.now in let e1 = c.close_reading.new.self in let l = c.close_reading.ensures in
    on_ok n.result (λ most a asks end. gone_on_lighter e e1 n.new.engine a c.requires.uncalled asks end l.same l.frames l.weight (λ k. most k ((l.same c.requires.uncalled).call ∙ c.requires.uncalled))) n.ensures.light
