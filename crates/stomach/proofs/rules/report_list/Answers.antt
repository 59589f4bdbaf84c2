use Rattle.std.proofs.Common.{◌∷◌, [], ap, ◌∙◌}
use Rattle.tex_syntax.specs.declared.words.Outcome.TheVariants.{AtFatal}
use Rattle.tex_defs.specs.declared.Fatal.TheVariants as fatal
use Rattle.rows.specs.Readings.{ActsOn}
use Rattle.plain_machine.specs.States.{Closed}
use Rattle.input_state.specs.Stored.{Stored}
use Rattle.engine_state.specs.Book.{with_work}
use Rattle.plain_machine.specs.Weights.{pending_weight}
use Rattle.engine_state.proofs.Joining.{same_err}
use Rattle.engine_state.proofs.CuttingReadings.{stands_in}
use Rattle.stomach.proofs.RuleCloses.{closed_lighter_behind, reported_closed, reported_halts}
use Rattle.stomach.proofs.rules.report_list.Goals as goal

pub returns-in_err-report_as-clause-err : goal.returns-in_err-report_as-clause-err
returns-in_err-report_as-clause-err g c = let i = c.in_err-report_as in let e = c.args.engine.now in
    same_err c.from_residual.result i.field-0.0 _ c.from_residual.ensures.1
    (λ sizes f book r rs st. stands_in sizes e c.report_as.new.self (with_work (r ∷ rs) book) _ _ _ i.field-0.0 (i.ensures.err sizes f (with_work (r ∷ rs) book) (Closed ∷ []) st.sound.sized.few_reports) c.report_as.ensures.frames st)

pub returns-then-branch-clause-rule : goal.returns-then-branch-clause-rule
returns-then-branch-clause-rule g c = let e = c.args.engine.now in let n = c.report_as.ensures in let k = c.close_reading.ensures in let i = c.in_ok-report_as.ensures in
    λ sizes f book r rs st. reported_closed sizes e c.report_as.new.self c.close_reading.new.self book r rs f _ _ _ k.stands k.state k.others.in_line n.frames n.input (i.sized c.if-branch.true sizes) st (i.on c.if-branch.true sizes f (with_work (r ∷ rs) book) (Closed ∷ []))

pub returns-then-branch-clause-light : goal.returns-then-branch-clause-light
returns-then-branch-clause-light g c = let n = c.report_as.ensures in let k = c.close_reading.ensures in
    λ free call effect asks. closed_lighter_behind c.args.engine.now c.report_as.new.self c.close_reading.new.self (ActsOn call effect []) c.requires.uncalled asks tt n.frames (ap (λ (i : Stored). pending_weight i.pending) n.input) k.same k.frames k.weight

pub returns-then-branch-clause-idle : goal.returns-then-branch-clause-idle
returns-then-branch-clause-idle g c = c.close_reading.ensures.idle ∙ ap (λ (i : Stored). i.making) c.report_as.ensures.input ∙ c.requires.idle

pub returns-clause-rule : goal.returns-clause-rule
returns-clause-rule g c =
    λ sizes f book r rs st. reported_halts sizes c.args.engine.now c.report_as.new.self (with_work (r ∷ rs) book) _ _ _ (AtFatal fatal.HundredErrors) c.report_as.ensures.frames st (c.in_ok-report_as.ensures.last c.if-branch.false sizes f (with_work (r ∷ rs) book) (Closed ∷ []))
