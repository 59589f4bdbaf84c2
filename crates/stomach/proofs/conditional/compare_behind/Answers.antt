use Rattle.std.proofs.Common.{◌∷◌, subst}
use Rattle.std.specs.Prelude.{Bool}
use Rattle.conditionals.specs.declared.choice.Value.TheVariants.{Truth}
use Rattle.rows.specs.declared.command.Effect.TheVariants.{Choose}
use Rattle.plain_machine.specs.Plan.{acts}
use Rattle.engine_state.specs.Book.{with_work}
use Rattle.engine_state.specs.CutReadings.{CutsIn}
use Rattle.engine_state.specs.Rules.{Went}
use Rattle.engine_state.specs.Stands.{page_of, state_of}
use Rattle.engine_state.proofs.Joining.{on_ok, err_to}
use Rattle.stomach.proofs.conditional.compare_behind.Goals as goal

pub returns-clause-rule : goal.returns-clause-rule
returns-clause-rule c = let n = c.choose_behind in let e = c.args.engine.now in
    on_ok n.result (λ h sizes w book r rs st.
    subst (λ (b : Bool). Went sizes (state_of e (with_work (r ∷ rs) book)) n.new.engine w w (acts (page_of e book) c.args.call (Choose (Truth b))) 0) (c.is_same-same.ensures sizes (with_work (r ∷ rs) book) st.sound)
    (h sizes w book r rs st)) n.ensures.rule

pub returns-clause-err : goal.returns-clause-err
returns-clause-err c = let n = c.choose_behind in let e = c.args.engine.now in
    err_to n.result (λ broken h sizes w book r rs st.
    subst (λ (b : Bool). CutsIn sizes (state_of e (with_work (r ∷ rs) book)) n.new.engine w w (acts (page_of e book) c.args.call (Choose (Truth b))) broken) (c.is_same-same.ensures sizes (with_work (r ∷ rs) book) st.sound)
    (h sizes w book r rs st)) n.ensures.err
