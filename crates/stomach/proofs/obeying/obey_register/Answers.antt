use Rattle.std.proofs.Common.{◌≡◌, sym, ◌∙◌, true, false}
use Rattle.tex_defs.specs.declared.Meaning.TheVariants as means
use Rattle.rows.specs.Table.{has_row}
use Rattle.rows.specs.declared.command.Head.TheVariants.{Register}
use Rattle.engine_state.specs.Stands.{state_of, page_of}
use Rattle.engine_state.proofs.Uncalled.{all_of}
use Rattle.engine_state.proofs.Joining.{same_err, ok_to, err_to, onward_by, went_by}
use Rattle.engine_state.proofs.CuttingReadings.{cuts_in, in_by, column_in}
use Rattle.engine_state.proofs.Reporting.{line_went}
use Rattle.engine_state.proofs.AtLocations.{only_frames, column_all}
use Rattle.stomach.proofs.TokensObeyed.{row_found, assigned_moves, unread_moves}
use Rattle.stomach.proofs.GroupsMet.{onward_column}
use Rattle.stomach.proofs.obeying.obey_register.Goals as goal

-- ITS ROW IS READ

pub returns-then-is_some-clause-rule : goal.returns-then-is_some-clause-rule
returns-then-is_some-clause-rule g c = let e = c.args.engine.now in let n = c.begin_row in let h = Register c.args.kind c.args.no in
    let has : has_row h ≡ true = row_found h c.find_row.result true c.find_row.ensures (sym c.is_some.ensures ∙ c.if-is_some.true) in
    ok_to n.result (λ ruled h sizes f book st.
    onward_by sizes (state_of e book) n.new.engine book _ _ _ _ ruled (assigned_moves (page_of e book) c.args.token c.args.kind c.args.no has)
    (onward_column sizes (state_of e book) n.new.engine book f (g.S.Sink.told c.args.out.now) e.in_line _ ruled n.ensures.column (h sizes _ book st))) n.ensures.rule

pub returns-then-is_some-clause-err : goal.returns-then-is_some-clause-err
returns-then-is_some-clause-err g c = let e = c.args.engine.now in let n = c.begin_row in let h = Register c.args.kind c.args.no in
    let has : has_row h ≡ true = row_found h c.find_row.result true c.find_row.ensures (sym c.is_some.ensures ∙ c.if-is_some.true) in
    err_to n.result (λ b h sizes f book st.
    in_by sizes (state_of e book) n.new.engine _ _ _ _ b (assigned_moves (page_of e book) c.args.token c.args.kind c.args.no has)
    (column_in sizes (state_of e book) n.new.engine f (g.S.Sink.told c.args.out.now) e.in_line _ b n.ensures.column (h sizes _ book st))) n.ensures.err

-- IT HAS NONE

pub returns-clause-rule : goal.returns-clause-rule
returns-clause-rule g c = let e = c.args.engine.now in let e' = c.token_line.new.self in let h = Register c.args.kind c.args.no in
    let none : has_row h ≡ false = row_found h c.find_row.result false c.find_row.ensures (sym c.is_some.ensures ∙ c.if-is_some.false) in
    λ sizes f book st.
    went_by sizes (state_of e book) e' _ _ _ _ 0 (unread_moves (page_of e book) c.args.token c.args.kind c.args.no none)
    (line_went sizes e e' book _ _ (means.Register c.args.kind c.args.no) (column_all sizes e e' book c.token_line.ensures.only (all_of sizes e book st)) (c.in_ok-token_line.ensures.did sizes f book))

pub returns-in_err-token_line-clause-err : goal.returns-in_err-token_line-clause-err
returns-in_err-token_line-clause-err g c = let e = c.args.engine.now in let e' = c.token_line.new.self in let h = Register c.args.kind c.args.no in let i = c.in_err-token_line in
    let none : has_row h ≡ false = row_found h c.find_row.result false c.find_row.ensures (sym c.is_some.ensures ∙ c.if-is_some.false) in
    same_err c.from_residual.result i.field-0.0 _ c.from_residual.ensures.1
    (λ sizes f book st.
    in_by sizes (state_of e book) e' _ _ _ _ i.field-0.0 (unread_moves (page_of e book) c.args.token c.args.kind c.args.no none)
    (cuts_in sizes e e' book _ _ _ _ (i.ensures.err sizes f book) (only_frames e e' c.token_line.ensures.only) (all_of sizes e book st)))
