use Rattle.std.proofs.Common.{[], ◌∷◌, refl}
use Rattle.plain_machine.specs.declared.broken.Broken.TheVariants as broken
use Rattle.plain_machine.proofs.Doing.{did_none}
use Rattle.engine_state.specs.Book.{with_work}
use Rattle.engine_state.specs.Stands.{state_of}
use Rattle.engine_state.proofs.Joining.{same_err}
use Rattle.engine_state.proofs.AtLocations.{same_engine}
use Rattle.stomach.proofs.Magnifying.{note_free}
use Rattle.stomach.proofs.Telling.{noted_went, told_light}
use Rattle.stomach.proofs.ends.proceed.Goals as goal

pub returns-in_err-note-clause-err : goal.returns-in_err-note-clause-err
returns-in_err-note-clause-err c = let i = c.in_err-note in
    same_err c.from_residual.result (broken.Full i.field-0.0) _ c.from_residual.ensures.1
    (λ sizes w book r rs st. i.ensures.refused sizes w book r rs st)

pub returns-clause-rule : goal.returns-clause-rule
returns-clause-rule c = let e = c.args.engine.now in let n = c.in_ok-note.ensures in
    λ sizes w book r rs st. let at = with_work (r ∷ rs) book in
    noted_went sizes e e c.note.new.self book w r rs [] (did_none sizes (state_of e at) w) (note_free (state_of e at) r) (n.did sizes w book r rs st) (n.stands sizes at st)

pub returns-clause-light : goal.returns-clause-light
returns-clause-light c = let n = c.in_ok-note.ensures in let e = c.args.engine.now in
    λ reported. told_light e e c.note.new.self c.requires.uncalled (same_engine e e refl) refl n.light reported
