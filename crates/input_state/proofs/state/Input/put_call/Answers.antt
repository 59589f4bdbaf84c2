use Rattle.std.proofs.Common.{◌∙◌, ap}
use Rattle.input_state.specs.Calls.{put_of}
use Rattle.input_state.specs.Stored.{Stored, put_refusal}
use Rattle.input_state.proofs.Joined.{keeps, put_refused, refused_same}
use Rattle.input_state.proofs.state.Input.put_call.Goals as goal

pub returns-clause-keeps : goal.returns-clause-keeps
returns-clause-keeps c =
    let i = c.self.inside in
    keeps i.held c.put_call.new.self i.buffer.items i.buffer.items i.files i.files c.args.self.now c.self.view_is c.put_call.ensures.keeps

pub returns-clause-refused : goal.returns-clause-refused
returns-clause-refused c =
    let i = c.self.inside in
    let s = c.args.self.now in
    let same =
    put_refused i.held i.buffer.items i.files s c.self.view_is c.self.invariant (put_of i.held.lists i.held.groups.now.meanings i.held.call)
    ∙ ap (λ (v : Stored). put_refusal (put_of v.lists v.groups.now.meanings v.call) s) c.self.view_is in
    refused_same c.put_call.result _ _ same c.put_call.ensures.refused
