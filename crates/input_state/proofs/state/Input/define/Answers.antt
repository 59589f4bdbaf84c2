use Rattle.std.proofs.Common.{subst}
use Rattle.plain_tokens.specs.Pending.{all_puts}
use Rattle.input_state.specs.Calls.{Defines}
use Rattle.input_state.specs.HeldLists.{first_list}
use Rattle.input_state.specs.Stored.{Stored}
use Rattle.input_state.proofs.Sounds.{ok_of}
use Rattle.input_state.proofs.Joined.{keeps, defined}
use Rattle.input_state.proofs.state.Input.define.Goals as goal

pub returns-clause-keeps : goal.returns-clause-keeps
returns-clause-keeps c =
    let i = c.self.inside in
    keeps i.held c.define.new.self i.buffer.items i.buffer.items i.files i.files c.args.self.now c.self.view_is c.define.ensures.keeps

pub returns-clause-defines : goal.returns-clause-defines
returns-clause-defines c =
    let i = c.self.inside in
    let s = c.args.self.now in
    ok_of c.define.result _ _ c.define.ensures.defines
    (λ k. subst (λ (v : Stored). Defines c.args.global s.groups c.define.new.self.groups (all_puts s.pending) s.lists c.define.new.self.lists (first_list v.builds) c.args.name c.args.long c.args.outer) c.self.view_is
    (defined i.held i.buffer.items i.files s c.self.view_is c.args.global _ _ _ c.args.name c.args.long c.args.outer k))
