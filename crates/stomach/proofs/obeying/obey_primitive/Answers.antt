use Rattle.std.proofs.Common.{◌≡◌, sym, ◌∙◌, true, false, arith}
use Rattle.std.specs.Prelude.{◌≢◌}
use Rattle.tex_defs.specs.declared.Meaning.TheVariants as means
use Rattle.rows.specs.Table.{has_row}
use Rattle.rows.specs.declared.command.Head.TheVariants.{Primitive}
use Rattle.engine_state.specs.Stands.{state_of, page_of}
use Rattle.engine_state.proofs.Uncalled.{all_of}
use Rattle.engine_state.proofs.Joining.{same_err, ok_to, err_to, onward_by, went_by}
use Rattle.engine_state.proofs.CuttingReadings.{cuts_in, in_by, column_in}
use Rattle.engine_state.proofs.Reporting.{line_went}
use Rattle.engine_state.proofs.AtLocations.{only_frames, column_all}
use Rattle.stomach.proofs.TokensObeyed.{row_found, row_moves, end_moves, begingroup_moves, endgroup_moves, endcsname_moves, other_moves}
use Rattle.stomach.proofs.GroupsMet.{onward_column}
use Rattle.stomach.proofs.obeying.obey_primitive.Goals as goal

-- A ROW IS READ

pub returns-then-is_some-clause-rule : goal.returns-then-is_some-clause-rule
returns-then-is_some-clause-rule g c = let e = c.args.engine.now in let n = c.begin_row in
    let has : has_row (Primitive c.args.number) ≡ true = row_found (Primitive c.args.number) c.find_row.result true c.find_row.ensures (sym c.is_some.ensures ∙ c.if-is_some.true) in
    ok_to n.result (λ ruled h sizes f book st.
    onward_by sizes (state_of e book) n.new.engine book _ _ _ _ ruled (row_moves (page_of e book) c.args.token c.args.number has)
    (onward_column sizes (state_of e book) n.new.engine book f (g.S.Sink.told c.args.out.now) e.in_line _ ruled n.ensures.column (h sizes _ book st))) n.ensures.rule

pub returns-then-is_some-clause-err : goal.returns-then-is_some-clause-err
returns-then-is_some-clause-err g c = let e = c.args.engine.now in let n = c.begin_row in
    let has : has_row (Primitive c.args.number) ≡ true = row_found (Primitive c.args.number) c.find_row.result true c.find_row.ensures (sym c.is_some.ensures ∙ c.if-is_some.true) in
    err_to n.result (λ b h sizes f book st.
    in_by sizes (state_of e book) n.new.engine _ _ _ _ b (row_moves (page_of e book) c.args.token c.args.number has)
    (column_in sizes (state_of e book) n.new.engine f (g.S.Sink.told c.args.out.now) e.in_line _ b n.ensures.column (h sizes _ book st))) n.ensures.err

-- GROUPS

pub returns-in-2-clause-rule : goal.returns-in-2-clause-rule
returns-in-2-clause-rule g c = let e = c.args.engine.now in let n = c.open_group in
    let none : has_row (Primitive c.args.number) ≡ false = row_found (Primitive c.args.number) c.find_row.result false c.find_row.ensures (sym c.is_some.ensures ∙ c.if-is_some.false) in
    ok_to n.result (λ ruled h sizes f book st.
    onward_by sizes (state_of e book) n.new.engine book _ _ _ _ ruled (begingroup_moves (page_of e book) c.args.token c.args.number none c.in-2.is)
    (onward_column sizes (state_of e book) n.new.engine book f (g.S.Sink.told c.args.out.now) e.in_line _ ruled n.ensures.column (h sizes _ book st))) n.ensures.rule

pub returns-in-2-clause-err : goal.returns-in-2-clause-err
returns-in-2-clause-err g c = let e = c.args.engine.now in let n = c.open_group in
    let none : has_row (Primitive c.args.number) ≡ false = row_found (Primitive c.args.number) c.find_row.result false c.find_row.ensures (sym c.is_some.ensures ∙ c.if-is_some.false) in
    err_to n.result (λ b h sizes f book st.
    in_by sizes (state_of e book) n.new.engine _ _ _ _ b (begingroup_moves (page_of e book) c.args.token c.args.number none c.in-2.is)
    (column_in sizes (state_of e book) n.new.engine f (g.S.Sink.told c.args.out.now) e.in_line _ b n.ensures.column (h sizes _ book st))) n.ensures.err

pub returns-in-3-clause-rule : goal.returns-in-3-clause-rule
returns-in-3-clause-rule g c = let e = c.args.engine.now in let n = c.meet_endgroup in
    let none : has_row (Primitive c.args.number) ≡ false = row_found (Primitive c.args.number) c.find_row.result false c.find_row.ensures (sym c.is_some.ensures ∙ c.if-is_some.false) in
    ok_to n.result (λ ruled h sizes f book st.
    onward_by sizes (state_of e book) n.new.engine book _ _ _ _ ruled (endgroup_moves (page_of e book) c.args.token c.args.number none c.in-3.is) (h sizes f book st)) n.ensures.rule

pub returns-in-3-clause-err : goal.returns-in-3-clause-err
returns-in-3-clause-err g c = let e = c.args.engine.now in let n = c.meet_endgroup in
    let none : has_row (Primitive c.args.number) ≡ false = row_found (Primitive c.args.number) c.find_row.result false c.find_row.ensures (sym c.is_some.ensures ∙ c.if-is_some.false) in
    err_to n.result (λ b h sizes f book st.
    in_by sizes (state_of e book) n.new.engine _ _ _ _ b (endgroup_moves (page_of e book) c.args.token c.args.number none c.in-3.is) (h sizes f book st)) n.ensures.err

-- THE OTHERS

pub returns-in-6-clause-rule : goal.returns-in-6-clause-rule
returns-in-6-clause-rule g c = let e = c.args.engine.now in let e' = c.halt.new.self in
    let none : has_row (Primitive c.args.number) ≡ false = row_found (Primitive c.args.number) c.find_row.result false c.find_row.ensures (sym c.is_some.ensures ∙ c.if-is_some.false) in
    ok_to c.halt.result (λ ruled h sizes f book st.
    onward_by sizes (state_of e book) e' book _ _ _ _ ruled (end_moves (page_of e book) c.args.token c.args.number none c.in-6.is) (h sizes f book)) c.halt.ensures.rule

pub returns-in-6-clause-err : goal.returns-in-6-clause-err
returns-in-6-clause-err g c = let e = c.args.engine.now in let e' = c.halt.new.self in
    let none : has_row (Primitive c.args.number) ≡ false = row_found (Primitive c.args.number) c.find_row.result false c.find_row.ensures (sym c.is_some.ensures ∙ c.if-is_some.false) in
    err_to c.halt.result (λ b h sizes f book st.
    in_by sizes (state_of e book) e' _ _ _ _ b (end_moves (page_of e book) c.args.token c.args.number none c.in-6.is)
    (cuts_in sizes e e' book _ _ _ b (h sizes f book) c.halt.ensures.frames (all_of sizes e book st))) c.halt.ensures.err

pub returns-in-4-clause-rule : goal.returns-in-4-clause-rule
returns-in-4-clause-rule g c = let e = c.args.engine.now in let e' = c.report_only.new.self in
    let none : has_row (Primitive c.args.number) ≡ false = row_found (Primitive c.args.number) c.find_row.result false c.find_row.ensures (sym c.is_some.ensures ∙ c.if-is_some.false) in
    ok_to c.report_only.result (λ ruled h sizes f book st.
    onward_by sizes (state_of e book) e' book _ _ _ _ ruled (endcsname_moves (page_of e book) c.args.token c.args.number none c.in-4.is) (h sizes f book (all_of sizes e book st))) c.report_only.ensures.rule

pub returns-in-4-clause-err : goal.returns-in-4-clause-err
returns-in-4-clause-err g c = let e = c.args.engine.now in let e' = c.report_only.new.self in
    let none : has_row (Primitive c.args.number) ≡ false = row_found (Primitive c.args.number) c.find_row.result false c.find_row.ensures (sym c.is_some.ensures ∙ c.if-is_some.false) in
    err_to c.report_only.result (λ b h sizes f book st.
    in_by sizes (state_of e book) e' _ _ _ _ b (endcsname_moves (page_of e book) c.args.token c.args.number none c.in-4.is)
    (cuts_in sizes e e' book _ _ _ b (h sizes f book st.sound.sized.few_reports) c.report_only.ensures.frames (all_of sizes e book st))) c.report_only.ensures.err

pub returns-in_ok-token_line-in_default-clause-rule : goal.returns-in_ok-token_line-in_default-clause-rule
returns-in_ok-token_line-in_default-clause-rule g c = let e = c.args.engine.now in let e' = c.token_line.new.self in let n = c.args.number in
    let none : has_row (Primitive n) ≡ false = row_found (Primitive n) c.find_row.result false c.find_row.ensures (sym c.is_some.ensures ∙ c.if-is_some.false) in
    let no_end : n ≢ 6 = omega arith in let no_relax : n ≢ 1 = omega arith in let no_begin : n ≢ 2 = omega arith in let no_ending : n ≢ 3 = omega arith in let no_endcsname : n ≢ 4 = omega arith in
    λ sizes f book st.
    went_by sizes (state_of e book) e' _ _ _ _ 0 (other_moves (page_of e book) c.args.token n none no_end no_relax no_begin no_ending no_endcsname)
    (line_went sizes e e' book _ _ (means.Prim n) (column_all sizes e e' book c.token_line.ensures.only (all_of sizes e book st)) (c.in_ok-token_line-in_default.ensures.did sizes f book))

pub returns-in_err-token_line-in_default-clause-err : goal.returns-in_err-token_line-in_default-clause-err
returns-in_err-token_line-in_default-clause-err g c = let e = c.args.engine.now in let e' = c.token_line.new.self in let n = c.args.number in let i = c.in_err-token_line-in_default in
    let none : has_row (Primitive n) ≡ false = row_found (Primitive n) c.find_row.result false c.find_row.ensures (sym c.is_some.ensures ∙ c.if-is_some.false) in
    let no_end : n ≢ 6 = omega arith in let no_relax : n ≢ 1 = omega arith in let no_begin : n ≢ 2 = omega arith in let no_ending : n ≢ 3 = omega arith in let no_endcsname : n ≢ 4 = omega arith in
    same_err c.from_residual.result i.field-0.0 _ c.from_residual.ensures.1
    (λ sizes f book st.
    in_by sizes (state_of e book) e' _ _ _ _ i.field-0.0 (other_moves (page_of e book) c.args.token n none no_end no_relax no_begin no_ending no_endcsname)
    (cuts_in sizes e e' book _ _ _ _ (i.ensures.err sizes f book) (only_frames e e' c.token_line.ensures.only) (all_of sizes e book st)))
