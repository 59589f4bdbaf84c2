use Rattle.std.proofs.Common.{refl, ◌+◌, ◌∙◌, sym, ap, length, ℕ}
use Rattle.input_stack.specs.Pending.{room}
use Rattle.input_stack.specs.View.{pending}
use Rattle.input_stack.proofs.Pushed.{used_is, room_left}
use Rattle.input_stack.proofs.stack.InputStack.push_file.Goals as goal

pub drop_finished-requires : goal.drop_finished-requires
drop_finished-requires c = c.requires

pub full-requires : goal.full-requires
full-requires c = c.drop_finished.ensures.stands.fits

pub put-requires-clause-fits : goal.put-requires-clause-fits
put-requires-clause-fits c = c.drop_finished.ensures.stands.fits

pub put-requires-clause-closed : goal.put-requires-clause-closed
put-requires-clause-closed c = refl

pub put-requires-clause-no_arguments : goal.put-requires-clause-no_arguments
put-requires-clause-no_arguments c = refl

pub returns-in-Some-clause-stands : goal.returns-in-Some-clause-stands
returns-in-Some-clause-stands c = c.drop_finished.ensures.stands

pub returns-in-Some-clause-ok : goal.returns-in-Some-clause-ok
returns-in-Some-clause-ok c = tt

pub returns-in-Some-clause-on_top : goal.returns-in-Some-clause-on_top
returns-in-Some-clause-on_top c = tt

pub returns-in-Some-clause-err : goal.returns-in-Some-clause-err
returns-in-Some-clause-err c = c.drop_finished.ensures.after

pub returns-in-Some-clause-account : goal.returns-in-Some-clause-account
returns-in-Some-clause-account c = c.drop_finished.ensures.account

pub returns-in-Some-clause-kept : goal.returns-in-Some-clause-kept
returns-in-Some-clause-kept c = c.drop_finished.ensures.kept

pub returns-in-Some-clause-lasting : goal.returns-in-Some-clause-lasting
returns-in-Some-clause-lasting c = c.drop_finished.ensures.lasting

pub returns-in-Some-clause-size : goal.returns-in-Some-clause-size
returns-in-Some-clause-size c = c.drop_finished.ensures.size

pub returns-in-Some-clause-parameter_size : goal.returns-in-Some-clause-parameter_size
returns-in-Some-clause-parameter_size c = c.drop_finished.ensures.parameter_size

pub returns-clause-err : goal.returns-clause-err
returns-clause-err c = tt

pub returns-clause-kept : goal.returns-clause-kept
returns-clause-kept c = c.drop_finished.ensures.kept

pub returns-clause-lasting : goal.returns-clause-lasting
returns-clause-lasting c = c.drop_finished.ensures.lasting

pub returns-clause-size : goal.returns-clause-size
returns-clause-size c = c.put.ensures.sizes.size ∙ c.drop_finished.ensures.size

pub returns-clause-parameter_size : goal.returns-clause-parameter_size
returns-clause-parameter_size c = c.put.ensures.sizes.parameter_size ∙ c.drop_finished.ensures.parameter_size

pub returns-in-Some-clause-refused : goal.returns-in-Some-clause-refused
returns-in-Some-clause-refused c =
    let p = pending c.args.lists.now c.args.self.now in
    let s = c.drop_finished.new.self in
    let e = c.drop_finished.ensures in
    let u = used_is c.drop_finished.new.lists s p e.stands.fits e.unfinished e.after in
    ap (λ (n : ℕ). room c.args.self.now.size n) (sym u) ∙ sym (ap (λ (z : ℕ). room z (length s.levels.items + s.argument_levels)) e.size) ∙ sym c.full.ensures ∙ c.in-Some.is

pub returns-clause-refused : goal.returns-clause-refused
returns-clause-refused c =
    let p = pending c.args.lists.now c.args.self.now in
    let s = c.drop_finished.new.self in
    let e = c.drop_finished.ensures in
    let u = used_is c.drop_finished.new.lists s p e.stands.fits e.unfinished e.after in
    ap (λ (n : ℕ). room c.args.self.now.size n) (sym u) ∙ sym (ap (λ (z : ℕ). room z (length s.levels.items + s.argument_levels)) e.size) ∙ sym c.full.ensures ∙ c.in_default.is

pub put-requires-clause-room : goal.put-requires-clause-room
put-requires-clause-room c =
    let s = c.drop_finished.new.self in
    room_left s.size (length s.levels.items + s.argument_levels) (sym c.full.ensures ∙ c.in_default.is)
