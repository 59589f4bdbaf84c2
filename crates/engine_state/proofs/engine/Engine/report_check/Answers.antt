use Rattle.std.proofs.Common.{◌≡◌, true, false, arith}
use Rattle.std.proofs.lemmas.Grind.{common_steps}
use Rattle.plain_machine.specs.Plan.{cut_or_not}
use Rattle.engine_state.specs.Rules.{space_moves}
use Rattle.engine_state.proofs.CheckingMoves.{behind}
use Rattle.engine_state.proofs.engine.Engine.report_check.Goals as goal

pub returns-then-not-branch-clause-last : goal.returns-then-not-branch-clause-last
returns-then-not-branch-clause-last g c = λ is sizes f book rest.
    let no : c.in_ok-report.field-0 ≡ false = grind (arith, common_steps, c.if-not-branch.true) in
    c.in_ok-report.ensures.last no sizes f book rest

pub returns-clause-on : goal.returns-clause-on
returns-clause-on g c = λ is sizes f book want space page t.
    let e = c.args.self.now in let e1 = c.report.new.self in let e2 = c.note_check.new.self in
    let yes : c.in_ok-report.field-0 ≡ true = grind (arith, common_steps, c.if-not-branch.false) in
    behind sizes want space e e1 e2 f (g.S.Sink.told c.args.out.now) _ c.args.report page book c.report.ensures.frames c.report.ensures.input (c.in_ok-report.ensures.sized yes sizes) t c.args.what c.args.number c.requires.asked c.note_check.ensures.in_call c.note_check.ensures.elsewhere
    (c.in_ok-report.ensures.on yes sizes f book (cut_or_not c.args.what (space_moves page space book.work)))
