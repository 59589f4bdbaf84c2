use Rattle.std.proofs.Common.{ap, refl}
use Rattle.input_state.specs.Stored.{Stored}
use Rattle.engine_state.proofs.Joining.{same_err}
use Rattle.engine_state.proofs.ListsCopied.{copied_stands, copied_did, copied_cut, uncopied}
use Rattle.engine_state.proofs.engine.Engine.copy_list.Goals as goal

pub returns-in_err-copy_list-clause-refused : goal.returns-in_err-copy_list-clause-refused
returns-in_err-copy_list-clause-refused c = let e = c.args.self.now in let n = c.copy_list in let i = c.in_err-copy_list in
    same_err c.from_residual.result i.field-0.0 _ c.from_residual.ensures.1
    (λ copies sizes w book st. copied_cut sizes e (record e { input = n.new.self }) book c.args.loc st copies n.ensures.keeps i.field-0.0 w refl i.ensures.err)

pub returns-in_ok-copy_list-clause-stands : goal.returns-in_ok-copy_list-clause-stands
returns-in_ok-copy_list-clause-stands c = let e = c.args.self.now in let n = c.copy_list in let i = c.in_ok-copy_list.ensures in
    λ copies sizes book st. copied_stands sizes e (record e { input = n.new.self }) book c.args.loc st copies n.ensures.keeps (ap (λ (x : Stored). record e { input = x }) i.ok) i.fits

pub returns-in_ok-copy_list-clause-did : goal.returns-in_ok-copy_list-clause-did
returns-in_ok-copy_list-clause-did c = let e = c.args.self.now in let n = c.copy_list in let i = c.in_ok-copy_list.ensures in
    λ copies sizes w book st. copied_did sizes e (record e { input = n.new.self }) book c.args.loc st copies n.ensures.keeps (ap (λ (x : Stored). record e { input = x }) i.ok) i.fits w

-- an expanded text has its list

pub returns-else-has_list-clause-stands : goal.returns-else-has_list-clause-stands
returns-else-has_list-clause-stands c = λ copies sizes book st. uncopied sizes c.args.self.now book st copies c.if-has_list.ensures

pub returns-else-has_list-clause-did : goal.returns-else-has_list-clause-did
returns-else-has_list-clause-did c = λ copies sizes w book st. uncopied sizes c.args.self.now book st copies c.if-has_list.ensures
