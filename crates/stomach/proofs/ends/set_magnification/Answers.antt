use Rattle.std.proofs.Common.{[], ◌∷◌, refl}
use Rattle.plain_machine.specs.declared.broken.Broken.TheVariants as broken
use Rattle.plain_machine.specs.States.{MagnificationSet}
use Rattle.engine_state.specs.Book.{with_work}
use Rattle.engine_state.specs.Stands.{state_of}
use Rattle.engine_state.proofs.Joining.{same_err}
use Rattle.engine_state.proofs.AtLocations.{same_engine}
use Rattle.stomach.proofs.Magnifying.{mag_stands, mag_did, mag_frames, set_free}
use Rattle.stomach.proofs.Telling.{noted_in, noted_went, told_light}
use Rattle.stomach.proofs.ends.set_magnification.Goals as goal

pub returns-in_err-note-clause-err : goal.returns-in_err-note-clause-err
returns-in_err-note-clause-err c = let e = c.args.engine.now in let m = c.args.mag in let i = c.in_err-note in
    same_err c.from_residual.result (broken.Full i.field-0.0) _ c.from_residual.ensures.1
    (λ sizes w book r rs st. let at = with_work (r ∷ rs) book in
    noted_in sizes e (record e { mag_set = m }) c.note.new.self book w r rs (MagnificationSet m ∷ []) (mag_did sizes e at w m) (broken.Full i.field-0.0)
    (i.ensures.refused sizes w book r rs (mag_stands sizes e at m st)))

pub returns-clause-rule : goal.returns-clause-rule
returns-clause-rule c = let e = c.args.engine.now in let m = c.args.mag in let n = c.in_ok-note.ensures in
    λ sizes w book r rs st. let at = with_work (r ∷ rs) book in let st1 = mag_stands sizes e at m st in
    noted_went sizes e (record e { mag_set = m }) c.note.new.self book w r rs (MagnificationSet m ∷ []) (mag_did sizes e at w m) (set_free (state_of e at) r m) (n.did sizes w book r rs st1) (n.stands sizes at st1)

pub returns-clause-light : goal.returns-clause-light
returns-clause-light c = let n = c.in_ok-note.ensures in let e = c.args.engine.now in let m = c.args.mag in
    λ reported. told_light e (record e { mag_set = m }) c.note.new.self c.requires.uncalled (mag_frames e e m (same_engine e e refl)) refl n.light reported
