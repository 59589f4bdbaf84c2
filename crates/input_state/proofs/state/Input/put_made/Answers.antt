use Rattle.std.proofs.Common.{◌∙◌, sym}
use Rattle.input_state.specs.HeldLists.{made}
use Rattle.input_state.proofs.Joined.{keeps, level_refused, made_keeps}
use Rattle.input_state.proofs.state.Input.put_made.Goals as goal

pub returns-in-Some-clause-refused : goal.returns-in-Some-clause-refused
returns-in-Some-clause-refused c =
    let i = c.self.inside in
    sym (level_refused i.held i.buffer.items i.files c.args.self.now c.self.view_is c.self.invariant) ∙ sym c.room.ensures.refused ∙ c.in-Some.is

pub returns-in-Some-clause-keeps : goal.returns-in-Some-clause-keeps
returns-in-Some-clause-keeps c =
    let i = c.self.inside in
    keeps i.held c.room.new.self i.buffer.items i.buffer.items i.files i.files c.args.self.now c.self.view_is c.room.ensures.keeps

pub returns-clause-refused : goal.returns-clause-refused
returns-clause-refused c =
    let i = c.self.inside in
    sym (level_refused i.held i.buffer.items i.files c.args.self.now c.self.view_is c.self.invariant) ∙ sym c.room.ensures.refused ∙ c.in_default.is

pub returns-clause-keeps : goal.returns-clause-keeps
returns-clause-keeps c =
    let i = c.self.inside in
    made_keeps i.held c.room.new.self c.put_made.new.self i.buffer.items i.files c.args.self.now (made c.room.new.self.making) c.self.view_is c.room.ensures.keeps c.put_made.ensures.keeps c.put_made.ensures.after
