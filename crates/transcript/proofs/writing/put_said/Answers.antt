use Rattle.std.proofs.Common.{◌++◌, ◌∙◌, ap, sym, List, ℕ}
use Rattle.transcript.proofs.Joins.{same_err, taking_on, taking_front}
use Rattle.transcript.proofs.writing.put_said.Goals as goal

pub loop-left-preserved : goal.loop-left-preserved
loop-left-preserved g c =
    let rest = c.first_bytes-bytes.new.said in let whole : List ℕ = c.args.said in
    taking_on _ _ _ _ _ _ c.loop-left.left c.as_slice.result.now rest whole c.loop-left.invariant
    (c.first_bytes-bytes.ensures.parts ∙ ap (λ (x : List ℕ). x ++ rest) (sym c.as_slice.ensures.value)) c.in_ok-put.ensures.ok

pub returns-in_err-put-clause-err : goal.returns-in_err-put-clause-err
returns-in_err-put-clause-err g c =
    let rest = c.first_bytes-bytes.new.said in let whole : List ℕ = c.args.said in
    same_err c.from_residual.result c.in_err-put.field-0.0 _ c.from_residual.ensures.1
    (taking_front _ _ _ _ _ _ c.loop-left.left c.as_slice.result.now rest whole c.in_err-put.field-0.0 c.loop-left.invariant
    (c.first_bytes-bytes.ensures.parts ∙ ap (λ (x : List ℕ). x ++ rest) (sym c.as_slice.ensures.value)) c.in_err-put.ensures.err)
