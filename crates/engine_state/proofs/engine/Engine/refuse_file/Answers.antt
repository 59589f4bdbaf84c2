use Rattle.std.proofs.Common.{refl}
use Rattle.std.specs.Prelude.{true}
use Rattle.token_show.specs.Views.{style_of}
use Rattle.engine_state.specs.Begins.{no_file_end}
use Rattle.engine_state.specs.Rules.{counted}
use Rattle.engine_state.specs.Stands.{own_style, page_of}
use Rattle.engine_state.proofs.Joining.{ok_to, err_to}
use Rattle.engine_state.proofs.Reporting.{missing_is, missing_halts, missing_cut, err_out}
use Rattle.engine_state.proofs.Stopping.{noted_cuts}
use Rattle.engine_state.proofs.engine.Engine.refuse_file.Goals as goal

pub returns-in_err-written-clause-err : goal.returns-in_err-written-clause-err
returns-in_err-written-clause-err g c = let e = c.args.self.now in let written = c.write_missing_file-written in
    err_to c.from_residual.result (λ b h sizes f book few. noted_cuts true sizes _ (record e { in_line = written.new.in_line }) _ _ _ book b (h sizes f book (counted (page_of e book) (no_file_end (page_of e book)))))
    (err_out _ _ e written.new.in_line _ _ (missing_is (style_of c.view_of-view.result) (own_style e) e.in_line c.line_number-line.result e.input.pending.number c.args.name.now c.args.name.now c.view_of-view.ensures.style c.line_number-line.ensures refl)
    c.from_residual.result c.in_err-written.field-0.0 c.from_residual.ensures.1 c.in_err-written.ensures.err)

pub returns-clause-run : goal.returns-clause-run
returns-clause-run g c = let e = c.args.self.now in let written = c.write_missing_file-written in
    ok_to c.end_refused.result (λ o h sizes f book.
    missing_halts _ _ e c.end_refused.new.self written.new.in_line _ _ (missing_is (style_of c.view_of-view.result) (own_style e) e.in_line c.line_number-line.result e.input.pending.number c.args.name.now c.args.name.now c.view_of-view.ensures.style c.line_number-line.ensures refl)
    c.in_ok-written.ensures.ok sizes f book _ (no_file_end (page_of e book)) o (h sizes f book)) c.end_refused.ensures.run

pub returns-clause-err : goal.returns-clause-err
returns-clause-err g c = let e = c.args.self.now in let written = c.write_missing_file-written in
    err_to c.end_refused.result (λ b h sizes f book few.
    missing_cut _ _ e c.end_refused.new.self written.new.in_line _ _ (missing_is (style_of c.view_of-view.result) (own_style e) e.in_line c.line_number-line.result e.input.pending.number c.args.name.now c.args.name.now c.view_of-view.ensures.style c.line_number-line.ensures refl)
    c.in_ok-written.ensures.ok sizes f book _ (no_file_end (page_of e book)) b (h sizes f book few)) c.end_refused.ensures.err
