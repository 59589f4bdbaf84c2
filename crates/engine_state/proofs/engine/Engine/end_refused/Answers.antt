use Rattle.std.proofs.Common.{◌≡◌, ◌++◌, ap, ◌∙◌, true, false, arith}
use Rattle.std.proofs.lemmas.Grind.{common_steps}
use Rattle.plain_state.specs.Reports.{emergency, no_file_line}
use Rattle.plain_tokens.specs.Printed.{Style}
use Rattle.engine_state.specs.Begins.{no_file_end}
use Rattle.engine_state.specs.Stands.{own_style, page_of}
use Rattle.engine_state.proofs.Joining.{same_err}
use Rattle.engine_state.proofs.Reporting.{counted_style, refused_halts, refused_cuts, did_text, cut_text}
use Rattle.engine_state.proofs.engine.Engine.end_refused.Goals as goal

pub returns-in_err-count_report-clause-err : goal.returns-in_err-count_report-clause-err
returns-in_err-count_report-clause-err g c = let i = c.in_err-count_report in
    same_err c.from_residual.result i.field-0.0 _ c.from_residual.ensures.1 (λ sizes f book few. i.ensures.err sizes f book (no_file_end (page_of c.args.self.now book)) few)

pub returns-then-not-branch-clause-run : goal.returns-then-not-branch-clause-run
returns-then-not-branch-clause-run g c = λ sizes f book.
    let no : c.in_ok-count_report.field-0 ≡ false = grind (arith, common_steps, c.if-not-branch.true) in
    c.in_ok-count_report.ensures.last no sizes f book (no_file_end (page_of c.args.self.now book))

pub returns-in_err-write_text-clause-err : goal.returns-in_err-write_text-clause-err
returns-in_err-write_text-clause-err g c = let e = c.args.self.now in let e1 = c.count_report.new.self in let e2 = c.write_text.new.self in let i = c.in_err-write_text in
    let yes : c.in_ok-count_report.field-0 ≡ true = grind (arith, common_steps, c.if-not-branch.false) in
    same_err c.from_residual-in_err-write_text.result i.field-0.0 _ c.from_residual-in_err-write_text.ensures.1
    (λ sizes f book few.
    let on = c.in_ok-count_report.ensures.on yes sizes f book (no_file_end (page_of e book)) in
    let style : own_style e1 ≡ own_style e = counted_style sizes e e1 book _ _ on c.count_report.ensures.input in
    let text : c.bytes.result.now ≡ emergency (own_style e) ++ no_file_line (own_style e) =
    c.bytes.ensures.bytes ∙ (c.no_file_lines-text.ensures ∙ ap (λ (x : Style). emergency x ++ no_file_line x) (c.view_of.ensures.style ∙ style)) in
    refused_cuts sizes e e1 book _ _ on e2 _ i.field-0.0 (cut_text sizes _ _ book _ _ i.field-0.0 _ _ text (i.ensures.err sizes f book)))

pub returns-clause-run : goal.returns-clause-run
returns-clause-run g c = λ sizes f book. let e = c.args.self.now in let e1 = c.count_report.new.self in let e2 = c.write_text.new.self in
    let yes : c.in_ok-count_report.field-0 ≡ true = grind (arith, common_steps, c.if-not-branch.false) in
    let on = c.in_ok-count_report.ensures.on yes sizes f book (no_file_end (page_of e book)) in
    let style : own_style e1 ≡ own_style e = counted_style sizes e e1 book _ _ on c.count_report.ensures.input in
    let text : c.bytes.result.now ≡ emergency (own_style e) ++ no_file_line (own_style e) =
    c.bytes.ensures.bytes ∙ (c.no_file_lines-text.ensures ∙ ap (λ (x : Style). emergency x ++ no_file_line x) (c.view_of.ensures.style ∙ style)) in
    refused_halts sizes e e1 book _ _ on e2 _ (did_text sizes _ _ _ _ _ _ text (c.in_ok-write_text.ensures.did sizes f book))
