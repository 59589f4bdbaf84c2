use Rattle.std.proofs.Common.{ap}
use Rattle.input_state.specs.HeldLists.{HeldLists}
use Rattle.input_state.proofs.Innermost.{some_build, count_some, last_below, last_held, last_tokens}
use Rattle.input_state.proofs.lists_held.Held.list.Goals as goal

pub overflow_sub-len : goal.overflow_sub-len
overflow_sub-len c =
    let i = c.self.inside in
    let some = some_build i.lists i.builds.items c.args.self.now.builds (ap (λ (w : HeldLists). w.builds) c.self.view_is) c.requires in
    count_some i.builds.items c.len.result i.builds.len c.len.ensures i.builds.ok.0 some

pub index-requires : goal.index-requires
index-requires c =
    let i = c.self.inside in
    let some = some_build i.lists i.builds.items c.args.self.now.builds (ap (λ (w : HeldLists). w.builds) c.self.view_is) c.requires in
    last_below i.builds.items c.len.result i.builds.len c.len.ensures i.builds.ok.0 some

pub returns-clause-held : goal.returns-clause-held
returns-clause-held c =
    let i = c.self.inside in
    let some = some_build i.lists i.builds.items c.args.self.now.builds (ap (λ (w : HeldLists). w.builds) c.self.view_is) c.requires in
    last_held i.builds.items c.len.result i.builds.len c.len.ensures i.builds.ok.0 some c.index.result.now c.index.ensures i.lists i.making c.self.invariant.shared.building

pub returns-clause-tokens : goal.returns-clause-tokens
returns-clause-tokens c =
    let i = c.self.inside in
    let builds = ap (λ (w : HeldLists). w.builds) c.self.view_is in
    let some = some_build i.lists i.builds.items c.args.self.now.builds builds c.requires in
    last_tokens i.builds.items c.len.result i.builds.len c.len.ensures i.builds.ok.0 some c.index.result.now c.index.ensures i.lists c.args.self.now.builds builds
