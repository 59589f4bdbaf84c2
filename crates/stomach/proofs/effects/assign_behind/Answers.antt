use Rattle.std.proofs.Common.{[], ◌∷◌, ◌++◌, ◌∙◌}
use Rattle.plain_machine.specs.States.{Assigned}
use Rattle.plain_tokens.specs.Meanings.{meaning_to_let}
use Rattle.plain_machine.specs.Plan.{put_one}
use Rattle.engine_state.specs.Stands.{page_of}
use Rattle.engine_state.proofs.Counting.{counts_of}
use Rattle.gullet.proofs.JobName.{name_stands}
use Rattle.engine_state.proofs.Joining.{same_err}
use Rattle.stomach.proofs.Assigning.{behind_cuts, behind_did, unset_cuts}
use Rattle.stomach.proofs.effects.assign_behind.Goals as goal

pub returns-in_err-put_one-clause-err : goal.returns-in_err-put_one-clause-err
returns-in_err-put_one-clause-err c = let e = c.args.engine.now in let n = c.in_err-put_one in
    same_err c.from_residual.result n.field-0.0 _ c.from_residual.ensures.1
    (λ sizes w book more st. n.ensures.err sizes w book ((put_one c.args.x.token ++ Assigned c.args.global c.args.name (meaning_to_let (page_of e book).now.meanings c.args.y) ∷ []) ++ more) (counts_of sizes e book st) st.idle)

pub returns-in_err-put_one-2-clause-err : goal.returns-in_err-put_one-2-clause-err
returns-in_err-put_one-2-clause-err c = let e = c.args.engine.now in let e1 = c.put_one.new.self in let e2 = c.put_one-2.new.self in let p = c.in_ok-put_one.ensures in let n = c.in_err-put_one-2 in
    same_err c.from_residual-in_err-put_one-2.result n.field-0.0 _ c.from_residual-in_err-put_one-2.ensures.1
    (λ sizes w book more st.
    let now = name_stands sizes e e1 book p.frames p.others p.store p.idle st in
    behind_cuts sizes e e1 e2 book w c.args.global c.args.name c.args.x c.args.y (p.did sizes w book (counts_of sizes e book st) st.idle) n.field-0.0 more
    (n.ensures.err sizes w book ((Assigned c.args.global c.args.name (meaning_to_let (page_of e book).now.meanings c.args.y) ∷ []) ++ more) (counts_of sizes e1 book now) now.idle))

pub returns-in_err-assign-clause-err : goal.returns-in_err-assign-clause-err
returns-in_err-assign-clause-err c = let e = c.args.engine.now in let e1 = c.put_one.new.self in let e2 = c.put_one-2.new.self in let p = c.in_ok-put_one.ensures in let q = c.in_ok-put_one-2.ensures in let n = c.in_err-assign in
    same_err c.from_residual-in_err-assign.result n.field-0.0 _ c.from_residual-in_err-assign.ensures.1
    (λ sizes w book more st.
    let now = name_stands sizes e e1 book p.frames p.others p.store p.idle st in
    let last = name_stands sizes e1 e2 book q.frames q.others q.store q.idle now in
    unset_cuts sizes e e1 e2 book w c.args.global c.args.name c.args.x c.args.y (p.did sizes w book (counts_of sizes e book st) st.idle) c.assign.new.engine (q.page book ∙ p.page book)
    (q.did sizes w book (counts_of sizes e1 book now) now.idle) n.field-0.0 more (n.ensures.err sizes w book more last))

pub returns-clause-did : goal.returns-clause-did
returns-clause-did c = let e = c.args.engine.now in let e1 = c.put_one.new.self in let e2 = c.put_one-2.new.self in let p = c.in_ok-put_one.ensures in let q = c.in_ok-put_one-2.ensures in
    λ sizes w book st.
    let now = name_stands sizes e e1 book p.frames p.others p.store p.idle st in
    let last = name_stands sizes e1 e2 book q.frames q.others q.store q.idle now in
    behind_did sizes e e1 e2 book w c.args.global c.args.name c.args.x c.args.y (p.did sizes w book (counts_of sizes e book st) st.idle) c.assign.new.engine (q.page book ∙ p.page book)
    (q.did sizes w book (counts_of sizes e1 book now) now.idle) (c.in_ok-assign.ensures.did sizes w book last)

pub returns-clause-stands : goal.returns-clause-stands
returns-clause-stands c = let e = c.args.engine.now in let e1 = c.put_one.new.self in let e2 = c.put_one-2.new.self in let p = c.in_ok-put_one.ensures in let q = c.in_ok-put_one-2.ensures in
    λ sizes book st.
    let now = name_stands sizes e e1 book p.frames p.others p.store p.idle st in
    c.in_ok-assign.ensures.stands sizes book (name_stands sizes e1 e2 book q.frames q.others q.store q.idle now)
