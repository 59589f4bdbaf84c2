use Rattle.std.proofs.Common.{◌∙◌, ap}
use Rattle.input_state.specs.AtLocations.{location_put}
use Rattle.input_state.specs.Stored.{Stored, call_refusal}
use Rattle.input_state.proofs.Joined.{keeps, call_refused, refused_same}
use Rattle.input_state.proofs.state.Input.put_list.Goals as goal

pub returns-clause-keeps : goal.returns-clause-keeps
returns-clause-keeps c =
    let i = c.self.inside in
    keeps i.held c.put_list.new.self i.buffer.items i.buffer.items i.files i.files c.args.self.now c.self.view_is c.put_list.ensures.keeps

pub returns-clause-refused : goal.returns-clause-refused
returns-clause-refused c =
    let i = c.self.inside in
    let s = c.args.self.now in
    let same =
    call_refused i.held i.buffer.items i.files s c.self.view_is c.self.invariant (location_put i.held.lists i.held.groups c.args.loc)
    ∙ ap (λ (v : Stored). call_refusal (location_put v.lists v.groups c.args.loc) s) c.self.view_is in
    refused_same c.put_list.result _ _ same c.put_list.ensures.refused
