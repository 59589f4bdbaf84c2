use Rattle.std.proofs.Common.{◌≡◌, ◌∷◌, [], ap, ◌∙◌, arith, false, true}
use Rattle.std.proofs.lemmas.Grind.{common_steps}
use Rattle.tex_syntax.specs.declared.words.Outcome.TheVariants.{AtFatal}
use Rattle.plain_machine.specs.States.{Closed}
use Rattle.tex_defs.specs.declared.Fatal.TheVariants as fatal
use Rattle.input_state.specs.Stored.{Stored}
use Rattle.input_state.specs.Callings.{call_in}
use Rattle.plain_machine.specs.Weights.{pending_weight}
use Rattle.engine_state.specs.Steps.{wants_token}
use Rattle.engine_state.specs.Book.{with_work}
use Rattle.engine_state.proofs.CallEnding.{failed_went, failed_halts}
use Rattle.engine_state.proofs.CallWeighing.{lighter_by}
use Rattle.engine_state.proofs.CheckingMoves.{asks_kept}
use Rattle.engine_state.proofs.Joining.{same_err}
use Rattle.gullet.proofs.gathering.fail_call.Goals as goal

pub returns-in_err-report-clause-err : goal.returns-in_err-report-clause-err
returns-in_err-report-clause-err g c = let i = c.in_err-report in
    same_err c.from_residual.result i.field-0.0 _ c.from_residual.ensures.1 (λ sizes f book r rs st. i.ensures.err sizes f (with_work (r ∷ rs) book) (Closed ∷ []) st.sound.sized.few_reports)

pub returns-then-not-branch-clause-rule : goal.returns-then-not-branch-clause-rule
returns-then-not-branch-clause-rule g c =
    let no : c.in_ok-report.field-0 ≡ false = grind (arith, common_steps, c.if-not-branch.true) in
    λ sizes f book r rs call is st. failed_halts sizes c.args.engine.now c.report.new.self (with_work (r ∷ rs) book) _ _ c.args.report (AtFatal fatal.HundredErrors) (c.in_ok-report.ensures.last no sizes f (with_work (r ∷ rs) book) (Closed ∷ []))

pub returns-clause-rule : goal.returns-clause-rule
returns-clause-rule g c =
    let yes : c.in_ok-report.field-0 ≡ true = grind (arith, common_steps, c.if-not-branch.false) in let e = c.args.engine.now in let e1 = c.report.new.self in
    let l = c.close_reading.ensures in
    λ sizes f book r rs call is st. failed_went sizes e e1 c.close_reading.new.self book r rs f _ _ c.args.report st c.report.ensures.frames c.report.ensures.input (c.in_ok-report.ensures.sized yes sizes) l.ends l.others.in_line
    (c.in_ok-report.ensures.on yes sizes f (with_work (r ∷ rs) book) (Closed ∷ []))

pub returns-clause-light : goal.returns-clause-light
returns-clause-light g c free call is asks = let n = c.report.ensures in
    lighter_by c.args.engine.now c.report.new.self c.close_reading.new.self n.frames (ap (λ (x : Stored). pending_weight x.pending) n.input) (c.close_reading.ensures.light call (ap call_in n.frames.call ∙ is) (ap wants_token (asks_kept c.args.engine.now c.report.new.self n.frames) ∙ asks))
