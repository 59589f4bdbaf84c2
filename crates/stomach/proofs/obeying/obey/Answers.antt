use Rattle.std.proofs.Common.{ap}
use Rattle.plain_machine.specs.Plan.{command}
use Rattle.engine_state.specs.Stands.{state_of, page_of}
use Rattle.engine_state.proofs.Uncalled.{all_of}
use Rattle.engine_state.proofs.Joining.{same_err, ok_to, err_to, onward_by, went_by}
use Rattle.engine_state.proofs.CuttingReadings.{cuts_in, in_by}
use Rattle.engine_state.proofs.Reporting.{line_went}
use Rattle.engine_state.proofs.AtLocations.{only_frames, column_all}
use Rattle.stomach.proofs.TokensObeyed.{line_moves}
use Rattle.stomach.proofs.obeying.obey.Goals as goal

-- A PRIMITIVE

pub returns-in-Prim-clause-rule : goal.returns-in-Prim-clause-rule
returns-in-Prim-clause-rule g c = let e = c.args.engine.now in let n = c.obey_primitive in
    ok_to n.result (λ ruled h sizes f book st. onward_by sizes (state_of e book) n.new.engine book _ _ _ _ ruled (ap (command (page_of e book) c.args.x.token) c.in-Prim.is) (h sizes f book st)) n.ensures.rule

pub returns-in-Prim-clause-err : goal.returns-in-Prim-clause-err
returns-in-Prim-clause-err g c = let e = c.args.engine.now in let n = c.obey_primitive in
    err_to n.result (λ b h sizes f book st. in_by sizes (state_of e book) n.new.engine _ _ _ _ b (ap (command (page_of e book) c.args.x.token) c.in-Prim.is) (h sizes f book st)) n.ensures.err

-- THE NAME OF A REGISTER

pub returns-in-Register-clause-rule : goal.returns-in-Register-clause-rule
returns-in-Register-clause-rule g c = let e = c.args.engine.now in let n = c.obey_register in
    ok_to n.result (λ ruled h sizes f book st. onward_by sizes (state_of e book) n.new.engine book _ _ _ _ ruled (ap (command (page_of e book) c.args.x.token) c.in-Register.is) (h sizes f book st)) n.ensures.rule

pub returns-in-Register-clause-err : goal.returns-in-Register-clause-err
returns-in-Register-clause-err g c = let e = c.args.engine.now in let n = c.obey_register in
    err_to n.result (λ b h sizes f book st. in_by sizes (state_of e book) n.new.engine _ _ _ _ b (ap (command (page_of e book) c.args.x.token) c.in-Register.is) (h sizes f book st)) n.ensures.err

-- A CHARACTER

pub returns-in-Char-clause-rule : goal.returns-in-Char-clause-rule
returns-in-Char-clause-rule g c = let e = c.args.engine.now in let n = c.obey_character in
    ok_to n.result (λ ruled h sizes f book st. onward_by sizes (state_of e book) n.new.engine book _ _ _ _ ruled (ap (command (page_of e book) c.args.x.token) c.in-Char.is) (h sizes f book st)) n.ensures.rule

pub returns-in-Char-clause-err : goal.returns-in-Char-clause-err
returns-in-Char-clause-err g c = let e = c.args.engine.now in let n = c.obey_character in
    err_to n.result (λ b h sizes f book st. in_by sizes (state_of e book) n.new.engine _ _ _ _ b (ap (command (page_of e book) c.args.x.token) c.in-Char.is) (h sizes f book st)) n.ensures.err

-- ANOTHER MEANING

pub returns-in_ok-token_line-in_default-clause-rule : goal.returns-in_ok-token_line-in_default-clause-rule
returns-in_ok-token_line-in_default-clause-rule g c = let e = c.args.engine.now in let e' = c.token_line.new.self in let x = c.args.x in let n = c.in_default in
    λ sizes f book st.
    went_by sizes (state_of e book) e' _ _ _ _ 0 (line_moves (page_of e book) x.token x.meaning n.not-Prim n.not-Register n.not-RelaxMarked n.not-Char)
    (line_went sizes e e' book _ _ x.meaning (column_all sizes e e' book c.token_line.ensures.only (all_of sizes e book st)) (c.in_ok-token_line-in_default.ensures.did sizes f book))

pub returns-in_err-token_line-in_default-clause-err : goal.returns-in_err-token_line-in_default-clause-err
returns-in_err-token_line-in_default-clause-err g c = let e = c.args.engine.now in let e' = c.token_line.new.self in let x = c.args.x in let n = c.in_default in let i = c.in_err-token_line-in_default in
    same_err c.from_residual.result i.field-0.0 _ c.from_residual.ensures.1
    (λ sizes f book st.
    in_by sizes (state_of e book) e' _ _ _ _ i.field-0.0 (line_moves (page_of e book) x.token x.meaning n.not-Prim n.not-Register n.not-RelaxMarked n.not-Char)
    (cuts_in sizes e e' book _ _ _ _ (i.ensures.err sizes f book) (only_frames e e' c.token_line.ensures.only) (all_of sizes e book st)))
