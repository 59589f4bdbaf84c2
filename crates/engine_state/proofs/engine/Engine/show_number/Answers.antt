use Rattle.std.proofs.Common.{◌∷◌, w32, FitsSigned, rules}
use Rattle.std.proofs.lemmas.Int.{to_z-of_z}
use Rattle.plain_machine.specs.States.{Flawed}
use Rattle.engine_state.proofs.Joining.{same_err}
use Rattle.engine_state.proofs.Showing.{flawed_behind}
use Rattle.engine_state.proofs.engine.Engine.show_number.Goals as goal

pub returns-in_err-write_shown_number-clause-err : goal.returns-in_err-write_shown_number-clause-err
returns-in_err-write_shown_number-clause-err g c = let i = c.in_err-write_shown_number in let n : FitsSigned w32 c.args.n = search rules in
    same_err c.from_residual.result i.field-0.0 _ c.from_residual.ensures.1 (λ sizes f book more. (rw (to_z-of_z w32 c.args.n n) at i.ensures.err) sizes f book (Flawed ∷ more))

pub returns-clause-did : goal.returns-clause-did
returns-clause-did g c = let n : FitsSigned w32 c.args.n = search rules in
    λ sizes f book. flawed_behind sizes c.args.self.now c.write_shown_number.new.self book _ _ _ ((rw (to_z-of_z w32 c.args.n n) at c.in_ok-write_shown_number.ensures.did) sizes f book)
