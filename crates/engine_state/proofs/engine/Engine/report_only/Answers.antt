use Rattle.std.proofs.Common.{[]}
use Rattle.engine_state.proofs.Joining.{same_err}
use Rattle.engine_state.proofs.Reporting.{reports_went}
use Rattle.engine_state.proofs.AtLocations.{all_input}
use Rattle.engine_state.proofs.engine.Engine.report_only.Goals as goal

pub returns-in_err-report-clause-err : goal.returns-in_err-report-clause-err
returns-in_err-report-clause-err g c = let i = c.in_err-report in
    same_err c.from_residual.result i.field-0.0 _ c.from_residual.ensures.1 (λ sizes f book few. i.ensures.err sizes f book [] few)

pub returns-then-branch-clause-rule : goal.returns-then-branch-clause-rule
returns-then-branch-clause-rule g c = λ sizes f book st. let e = c.args.self.now in let e' = c.report.new.self in
    reports_went sizes e e' book _ _ c.args.report
    (all_input sizes e e' book c.report.ensures.frames c.report.ensures.input (c.in_ok-report.ensures.sized c.if-branch.true sizes) st)
    (c.in_ok-report.ensures.on c.if-branch.true sizes f book [])

pub returns-else-branch-clause-rule : goal.returns-else-branch-clause-rule
returns-else-branch-clause-rule g c = λ sizes f book st. c.in_ok-report.ensures.last c.if-branch.false sizes f book []
