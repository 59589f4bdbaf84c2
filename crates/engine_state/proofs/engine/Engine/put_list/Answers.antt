use Rattle.std.proofs.Common.{ap}
use Rattle.input_state.specs.Calls.{after_call}
use Rattle.input_state.specs.AtLocations.{location_put}
use Rattle.input_state.specs.Stored.{Stored}
use Rattle.plain_machine.specs.declared.broken.Broken.TheVariants as broken
use Rattle.engine_state.proofs.Joining.{same_err}
use Rattle.engine_state.proofs.ListsGiven.{given_cuts, given_did, given_sound}
use Rattle.engine_state.proofs.SharedPut.{pending_stands}
use Rattle.engine_state.proofs.engine.Engine.put_list.Goals as goal

pub returns-in_err-put_list-clause-err : goal.returns-in_err-put_list-clause-err
returns-in_err-put_list-clause-err c = let e = c.args.self.now in let i = c.in_err-put_list in
    same_err c.from_residual.result (broken.Full i.field-0.0) _ c.from_residual.ensures.1
    (λ sizes w book more sound. given_cuts sizes e book sound c.args.loc (record e { input = c.put_list.new.self }) w i.field-0.0 more (ap (λ (x : Stored). record e { input = x }) i.ensures.err) i.ensures.refused)

pub returns-clause-did : goal.returns-clause-did
returns-clause-did c = let e = c.args.self.now in let i = c.in_ok-put_list.ensures in
    λ sizes w book sound. given_did sizes e book sound c.args.loc (record e { input = c.put_list.new.self }) (ap (λ (x : Stored). record e { input = x }) i.ok) c.put_list.ensures.keeps w i.refused

pub returns-clause-sound : goal.returns-clause-sound
returns-clause-sound c = let e = c.args.self.now in let i = c.in_ok-put_list.ensures in
    λ sizes book sound. given_sound sizes e book sound c.args.loc (record e { input = c.put_list.new.self }) (ap (λ (x : Stored). record e { input = x }) i.ok) c.put_list.ensures.keeps

pub returns-clause-stands : goal.returns-clause-stands
returns-clause-stands c = let e = c.args.self.now in let i = c.in_ok-put_list.ensures in let e2 = record e { input = c.put_list.new.self } in
    λ sizes book st.
    let is = ap (λ (x : Stored). record e { input = x }) i.ok in
    pending_stands sizes e e2 book (after_call (location_put e.input.lists e.input.groups c.args.loc) e.input.pending) is (given_sound sizes e book st.sound c.args.loc e2 is c.put_list.ensures.keeps) st
