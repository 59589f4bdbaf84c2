use Rattle.std.proofs.Common.{ap}
use Rattle.input_state.specs.HeldLists.{HeldLists}
use Rattle.input_state.proofs.ListNumbers.{number_held, number_tokens}
use Rattle.input_state.proofs.lists_held.Held.nth_list.Goals as goal

pub returns-clause-held : goal.returns-clause-held
returns-clause-held c =
    let i = c.self.inside in
    number_held i.lists i.builds.items c.args.self.now.builds (ap (λ (w : HeldLists). w.builds) c.self.view_is) c.args.k c.requires c.len.result i.builds.len c.len.ensures i.builds.ok.0 c.index.result.now c.index.ensures i.making c.self.invariant.shared.building

pub returns-clause-tokens : goal.returns-clause-tokens
returns-clause-tokens c =
    let i = c.self.inside in
    number_tokens i.lists i.builds.items c.args.self.now.builds (ap (λ (w : HeldLists). w.builds) c.self.view_is) c.args.k c.requires c.len.result i.builds.len c.len.ensures i.builds.ok.0 c.index.result.now c.index.ensures
