use Rattle.std.proofs.Common.{[], ◌∷◌, sym, ap, refl, false}
use Rattle.rows.specs.declared.command.Call.{Call}
use Rattle.rows.specs.declared.words.Phrase.TheVariants.{Command}
use Rattle.plain_readings.specs.Readings.{Reads}
use Rattle.plain_machine.specs.declared.broken.Broken.TheVariants as broken
use Rattle.plain_machine.specs.States.{Begun}
use Rattle.engine_state.specs.Stands.{state_of}
use Rattle.engine_state.proofs.Counting.{counts_of}
use Rattle.engine_state.proofs.Joining.{same_err, went_by}
use Rattle.engine_state.proofs.CuttingReadings.{in_by}
use Rattle.stomach.proofs.InnerBegun.{begun_went, begun_in}
use Rattle.stomach.proofs.obeying.begin_row.Goals as goal

pub returns-in_err-begin-clause-err : goal.returns-in_err-begin-clause-err
returns-in_err-begin-clause-err c = let e = c.args.engine.now in let e' = c.begin.new.self in let n = c.in_err-begin in let k = Reads (Command c.call_of.result) in
    same_err c.from_residual.result (broken.Full n.field-0.0) _ c.from_residual.ensures.1
    (λ sizes w book st.
    in_by sizes (state_of e book) e' w w (Begun k ∷ []) _ (broken.Full n.field-0.0) (ap (λ (x : Call). Begun (Reads (Command x)) ∷ []) (sym c.call_of.ensures))
    (begun_in sizes e e' book w k false n.field-0.0 refl n.ensures.err (n.ensures.refused sizes book (counts_of sizes e book st)) st))

pub returns-clause-rule : goal.returns-clause-rule
returns-clause-rule c = let e = c.args.engine.now in let e' = c.begin.new.self in let n = c.in_ok-begin.ensures in let k = Reads (Command c.call_of.result) in
    λ sizes w book st.
    went_by sizes (state_of e book) e' w w (Begun k ∷ []) _ 0 (ap (λ (x : Call). Begun (Reads (Command x)) ∷ []) (sym c.call_of.ensures))
    (begun_went sizes e e' book w k false refl (n.fits sizes book (counts_of sizes e book st)) (n.state sizes book st) (n.stands sizes book st))
