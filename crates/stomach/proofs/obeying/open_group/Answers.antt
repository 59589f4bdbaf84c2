use Rattle.std.proofs.Common.{refl}
use Rattle.engine_state.proofs.CuttingReadings.{stands_in}
use Rattle.engine_state.proofs.Joining.{same_err}
use Rattle.engine_state.proofs.Uncalled.{all_of}
use Rattle.stomach.proofs.obeying.open_group.Goals as goal

pub returns-in_err-open_group-clause-err : goal.returns-in_err-open_group-clause-err
returns-in_err-open_group-clause-err c = let i = c.in_err-open_group in
    same_err c.from_residual.result i.field-0.0 _ c.from_residual.ensures.1
    (λ sizes w book st. stands_in sizes c.args.engine.now c.open_group.new.self book w w _ i.field-0.0 (i.ensures.err sizes w book st.sound) i.ensures.frames st)

pub returns-clause-rule : goal.returns-clause-rule
returns-clause-rule c = λ sizes w book st. record {
  book' = book;
  stands = all_of sizes c.open_group.new.self book (c.in_ok-open_group.ensures.stands sizes book st);
  did = c.in_ok-open_group.ensures.did sizes w book st.sound;
  count = refl;
}
