use Rattle.std.proofs.Common.{◌+◌, ◌∙◌, ap, length, ℕ}
use Rattle.input_stack.specs.Pending.{room}
use Rattle.input_stack.specs.View.{pending}
use Rattle.input_stack.proofs.Pushed.{used_is}
use Rattle.input_stack.proofs.stack.InputStack.room.Goals as goal

pub returns-clause-refused : goal.returns-clause-refused
returns-clause-refused c =
    let p = pending c.args.lists.now c.args.self.now in
    let s = c.drop_finished.new.self in
    let e = c.drop_finished.ensures in
    let u = used_is c.drop_finished.new.lists s p e.stands.fits e.unfinished e.after in
    c.full.ensures ∙ ap (λ (z : ℕ). room z (length s.levels.items + s.argument_levels)) e.size ∙ ap (λ (n : ℕ). room c.args.self.now.size n) u
