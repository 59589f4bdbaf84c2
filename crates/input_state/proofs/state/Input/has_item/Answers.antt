use Rattle.std.proofs.Common.{◌≡◌, sym, ◌∙◌, ap}
use Rattle.line_lexer.specs.declared.Ahead.TheVariants as ahead
use Rattle.input_state.specs.HeldLists.{has_item, ahead_of}
use Rattle.input_state.specs.NextBytes.{InFront}
use Rattle.input_state.specs.Stored.{Stored}
use Rattle.input_state.proofs.Readies.{in_front, token_comes}
use Rattle.input_state.proofs.state.Input.has_item.Goals as goal

pub returns-clause-is : goal.returns-clause-is
returns-clause-is c = c.has_item.ensures.is ∙ ap (λ (v : Stored). has_item v.pending.puts) c.self.view_is

pub returns-clause-knows : goal.returns-clause-knows
returns-clause-knows c = λ hand.
    let i = c.self.inside in
    let s = c.args.self.now in
    let e : ahead_of s.groups.now.categories s.pending ≡ ahead.Token = ap (λ (v : Stored). ahead_of v.groups.now.categories v.pending) (sym c.self.view_is) ∙ c.has_item.ensures.next hand i.buffer.items i.files.files i.files.next in
    InFront (in_front s.groups.now.categories s.pending (λ h.
    let k : ahead.Token ≡ ahead.End = sym e ∙ h in
    cc))

pub returns-clause-step : goal.returns-clause-step
returns-clause-step c = λ hand.
    let i = c.self.inside in
    let s = c.args.self.now in
    let e : ahead_of s.groups.now.categories s.pending ≡ ahead.Token = ap (λ (v : Stored). ahead_of v.groups.now.categories v.pending) (sym c.self.view_is) ∙ c.has_item.ensures.next hand i.buffer.items i.files.files i.files.next in
    token_comes s.groups.now.categories s.pending e
