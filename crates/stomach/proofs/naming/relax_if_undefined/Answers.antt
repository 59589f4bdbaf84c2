use Rattle.std.proofs.Common.{◌≡◌, true, false, sym, ◌∙◌, arith}
use Rattle.std.proofs.lemmas.Grind.{common_steps}
use Rattle.engine_state.specs.Stands.{state_of}
use Rattle.engine_state.proofs.Joining.{on_ok, err_to}
use Rattle.stomach.proofs.SpeltNames.{relaxed_did, relaxed_cuts, defined_did}
use Rattle.stomach.proofs.naming.relax_if_undefined.Goals as goal

pub returns-then-not-is_undefined-clause-did : goal.returns-then-not-is_undefined-clause-did
returns-then-not-is_undefined-clause-did c =
    let means : c.is_undefined.result ≡ false = grind (arith, common_steps, c.if-not-is_undefined.true) in
    λ sizes w book st. defined_did sizes c.args.engine.now book c.args.name w (sym c.is_undefined.ensures ∙ means)

pub returns-clause-did : goal.returns-clause-did
returns-clause-did c = let e = c.args.engine.now in let n = c.give_meaning in
    let lacking : c.is_undefined.result ≡ true = grind (arith, common_steps, c.if-not-is_undefined.false) in
    on_ok n.result (λ h sizes w book st. relaxed_did sizes e book c.args.name (state_of n.new.engine book) w (sym c.is_undefined.ensures ∙ lacking) (h sizes w book st)) n.ensures.did

pub returns-clause-err : goal.returns-clause-err
returns-clause-err c = let e = c.args.engine.now in let n = c.give_meaning in
    let lacking : c.is_undefined.result ≡ true = grind (arith, common_steps, c.if-not-is_undefined.false) in
    err_to n.result (λ b h sizes w book more st. relaxed_cuts sizes e book c.args.name n.new.engine w more b (sym c.is_undefined.ensures ∙ lacking) (h sizes w book more st)) n.ensures.err
