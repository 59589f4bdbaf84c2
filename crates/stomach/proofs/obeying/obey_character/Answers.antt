use Rattle.std.proofs.Common.{arith}
use Rattle.std.specs.Prelude.{◌≢◌}
use Rattle.tex_defs.specs.declared.Meaning.TheVariants as means
use Rattle.engine_state.specs.Stands.{state_of, page_of}
use Rattle.engine_state.proofs.Uncalled.{all_of}
use Rattle.engine_state.proofs.Joining.{same_err, ok_to, err_to, onward_by, went_by}
use Rattle.engine_state.proofs.CuttingReadings.{cuts_in, in_by, column_in}
use Rattle.engine_state.proofs.Reporting.{line_went}
use Rattle.engine_state.proofs.AtLocations.{only_frames, column_all}
use Rattle.stomach.proofs.TokensObeyed.{left_moves, right_moves, shown_moves}
use Rattle.stomach.proofs.GroupsMet.{onward_column}
use Rattle.stomach.proofs.obeying.obey_character.Goals as goal

-- A LEFT BRACE

pub returns-in-1-clause-rule : goal.returns-in-1-clause-rule
returns-in-1-clause-rule g c = let e = c.args.engine.now in let n = c.open_group in
    ok_to n.result (λ ruled h sizes f book st.
    onward_by sizes (state_of e book) n.new.engine book _ _ _ _ ruled (left_moves (page_of e book) c.args.cat c.args.code c.in-1.is)
    (onward_column sizes (state_of e book) n.new.engine book f (g.S.Sink.told c.args.out.now) e.in_line _ ruled n.ensures.column (h sizes _ book st))) n.ensures.rule

pub returns-in-1-clause-err : goal.returns-in-1-clause-err
returns-in-1-clause-err g c = let e = c.args.engine.now in let n = c.open_group in
    err_to n.result (λ b h sizes f book st.
    in_by sizes (state_of e book) n.new.engine _ _ _ _ b (left_moves (page_of e book) c.args.cat c.args.code c.in-1.is)
    (column_in sizes (state_of e book) n.new.engine f (g.S.Sink.told c.args.out.now) e.in_line _ b n.ensures.column (h sizes _ book st))) n.ensures.err

-- A RIGHT BRACE

pub returns-in-2-clause-rule : goal.returns-in-2-clause-rule
returns-in-2-clause-rule g c = let e = c.args.engine.now in let n = c.meet_brace in
    ok_to n.result (λ ruled h sizes f book st.
    onward_by sizes (state_of e book) n.new.engine book _ _ _ _ ruled (right_moves (page_of e book) c.args.cat c.args.code c.in-2.is) (h sizes f book st)) n.ensures.rule

pub returns-in-2-clause-err : goal.returns-in-2-clause-err
returns-in-2-clause-err g c = let e = c.args.engine.now in let n = c.meet_brace in
    err_to n.result (λ b h sizes f book st.
    in_by sizes (state_of e book) n.new.engine _ _ _ _ b (right_moves (page_of e book) c.args.cat c.args.code c.in-2.is) (h sizes f book st)) n.ensures.err

-- ANOTHER

pub returns-in_ok-token_line-in_default-clause-rule : goal.returns-in_ok-token_line-in_default-clause-rule
returns-in_ok-token_line-in_default-clause-rule g c = let e = c.args.engine.now in let e' = c.token_line.new.self in let n = c.args.cat in
    let no_left : n ≢ 1 = omega arith in let no_right : n ≢ 2 = omega arith in
    λ sizes f book st.
    went_by sizes (state_of e book) e' _ _ _ _ 0 (shown_moves (page_of e book) n c.args.code no_left no_right)
    (line_went sizes e e' book _ _ (means.Char n c.args.code) (column_all sizes e e' book c.token_line.ensures.only (all_of sizes e book st)) (c.in_ok-token_line-in_default.ensures.did sizes f book))

pub returns-in_err-token_line-in_default-clause-err : goal.returns-in_err-token_line-in_default-clause-err
returns-in_err-token_line-in_default-clause-err g c = let e = c.args.engine.now in let e' = c.token_line.new.self in let n = c.args.cat in let i = c.in_err-token_line-in_default in
    let no_left : n ≢ 1 = omega arith in let no_right : n ≢ 2 = omega arith in
    same_err c.from_residual.result i.field-0.0 _ c.from_residual.ensures.1
    (λ sizes f book st.
    in_by sizes (state_of e book) e' _ _ _ _ i.field-0.0 (shown_moves (page_of e book) n c.args.code no_left no_right)
    (cuts_in sizes e e' book _ _ _ _ (i.ensures.err sizes f book) (only_frames e e' c.token_line.ensures.only) (all_of sizes e book st)))
