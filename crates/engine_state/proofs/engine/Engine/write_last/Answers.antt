use Rattle.std.proofs.Common.{◌∙◌, ap}
use Rattle.engine_state.specs.Begins.{last_bytes}
use Rattle.engine_state.specs.Stands.{page_of}
use Rattle.engine_state.proofs.Conditionals.{end_did, end_cuts}
use Rattle.engine_state.proofs.Joining.{same_err, on_ok, err_to}
use Rattle.engine_state.proofs.Reporting.{did_text, cut_text, last_text_cut}
use Rattle.engine_state.proofs.engine.Engine.write_last.Goals as goal

pub returns-in_err-write_text-clause-err : goal.returns-in_err-write_text-clause-err
returns-in_err-write_text-clause-err g c = let e = c.args.self.now in let i = c.in_err-write_text in
    same_err c.from_residual.result i.field-0.0 _ c.from_residual.ensures.1
    (λ sizes f book. last_text_cut sizes _ _ book _ _ (page_of e book) c.args.last i.field-0.0 (cut_text sizes _ _ book _ _ i.field-0.0 _ _ (c.bytes.ensures.bytes ∙ c.last_text-text.ensures book) (i.ensures.err sizes f book)))

pub returns-in-End-clause-did : goal.returns-in-End-clause-did
returns-in-End-clause-did g c = let e = c.args.self.now in let e1 = c.write_text.new.self in let n = c.write_conditionals_left in
    rw c.in-End.is (on_ok n.result (λ h sizes f book. end_did sizes e e1 n.new.self book _ _ _ c.write_text.ensures.only
    (did_text sizes _ _ _ _ _ _ (c.bytes.ensures.bytes ∙ c.last_text-text.ensures book ∙ ap (last_bytes (page_of e book)) c.in-End.is) (c.in_ok-write_text.ensures.did sizes f book)) (h sizes f book)) n.ensures.did)

pub returns-in-End-clause-err : goal.returns-in-End-clause-err
returns-in-End-clause-err g c = let e = c.args.self.now in let e1 = c.write_text.new.self in let n = c.write_conditionals_left in
    rw c.in-End.is (err_to n.result (λ b h sizes f book more. end_cuts sizes e e1 n.new.self book _ _ _ c.write_text.ensures.only
    (did_text sizes _ _ _ _ _ _ (c.bytes.ensures.bytes ∙ c.last_text-text.ensures book ∙ ap (last_bytes (page_of e book)) c.in-End.is) (c.in_ok-write_text.ensures.did sizes f book)) b more (h sizes f book more)) n.ensures.err)

pub returns-in-NoEnd-clause-did : goal.returns-in-NoEnd-clause-did
returns-in-NoEnd-clause-did g c = let e = c.args.self.now in
    rw c.in-NoEnd.is (λ sizes f book. did_text sizes _ _ _ _ _ _ (c.bytes.ensures.bytes ∙ c.last_text-text.ensures book ∙ ap (last_bytes (page_of e book)) c.in-NoEnd.is) (c.in_ok-write_text.ensures.did sizes f book))
