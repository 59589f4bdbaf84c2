use Rattle.std.proofs.Common.{◌≡◌, Bool, [], ◌∷◌, subst, rules}
use Rattle.tex_defs.specs.declared.Meaning.TheVariants as means
use Rattle.plain_tokens.specs.Names.{relax_primitive}
use Rattle.plain_machine.specs.declared.broken.Broken.TheVariants as broken
use Rattle.plain_machine.specs.Plan.{is_global, noting}
use Rattle.plain_machine.specs.States.{Assigned}
use Rattle.plain_machine.specs.Does.{Did}
use Rattle.engine_state.specs.Book.{with_work}
use Rattle.engine_state.specs.Rules.{Cuts}
use Rattle.engine_state.specs.Stands.{page_of, state_of}
use Rattle.plain_machine.specs.Weights.{pending_weight}
use Rattle.engine_state.proofs.Joining.{same_err}
use Rattle.engine_state.proofs.CuttingReadings.{stands_in}
use Rattle.stomach.proofs.Telling.{noted_in, noted_went, relax_free, told_light}
use Rattle.stomach.proofs.ends.relax.Goals as goal

pub returns-in_err-give_meaning-clause-err : goal.returns-in_err-give_meaning-clause-err
returns-in_err-give_meaning-clause-err c = let e = c.args.engine.now in let e1 = c.give_meaning.new.engine in let i = c.in_err-give_meaning in let is = c.is_global-global in
    same_err c.from_residual.result i.field-0.0 _ c.from_residual.ensures.1
    (λ sizes w book r rs st. let at = with_work (r ∷ rs) book in
    stands_in sizes e e1 at w w _ i.field-0.0
    (subst (λ (b : Bool). Cuts sizes (state_of e at) e1 at w w (Assigned b c.args.name (means.Prim relax_primitive) ∷ noting r) i.field-0.0) (is.ensures book) (i.ensures.err sizes w at (noting r) st)) c.give_meaning.ensures.frames st)

pub returns-in_err-note-clause-err : goal.returns-in_err-note-clause-err
returns-in_err-note-clause-err c = let e = c.args.engine.now in let e1 = c.give_meaning.new.engine in let k = c.in_ok-give_meaning.ensures in let i = c.in_err-note in let is = c.is_global-global in
    same_err c.from_residual-in_err-note.result (broken.Full i.field-0.0) _ c.from_residual-in_err-note.ensures.1
    (λ sizes w book r rs st. let at = with_work (r ∷ rs) book in
    noted_in sizes e e1 c.note.new.self book w r rs (Assigned (is_global (page_of e book) c.args.call) c.args.name (means.Prim relax_primitive) ∷ [])
    (subst (λ (b : Bool). Did sizes (state_of e at) (state_of e1 at) w w (Assigned b c.args.name (means.Prim relax_primitive) ∷ [])) (is.ensures book) (k.did sizes w at st)) (broken.Full i.field-0.0)
    (i.ensures.refused sizes w book r rs (k.stands sizes at st)))

pub returns-clause-rule : goal.returns-clause-rule
returns-clause-rule c = let e = c.args.engine.now in let e1 = c.give_meaning.new.engine in let k = c.in_ok-give_meaning.ensures in let n = c.in_ok-note.ensures in let is = c.is_global-global in
    λ sizes w book r rs st. let at = with_work (r ∷ rs) book in
    noted_went sizes e e1 c.note.new.self book w r rs (Assigned (is_global (page_of e book) c.args.call) c.args.name (means.Prim relax_primitive) ∷ [])
    (subst (λ (b : Bool). Did sizes (state_of e at) (state_of e1 at) w w (Assigned b c.args.name (means.Prim relax_primitive) ∷ [])) (is.ensures book) (k.did sizes w at st))
    (relax_free (state_of e at) r c.args.call c.args.name) (n.did sizes w book r rs (k.stands sizes at st)) (n.stands sizes at (k.stands sizes at st))

pub returns-clause-light : goal.returns-clause-light
returns-clause-light c = let n = c.in_ok-note.ensures in let e = c.args.engine.now in let e1 = c.give_meaning.new.engine in
    let left : pending_weight e1.input.pending ≡ pending_weight e.input.pending = search (rules, c.give_meaning.ensures.only) in
    λ reported. told_light e e1 c.note.new.self c.requires.uncalled c.give_meaning.ensures.frames left n.light reported
