use Rattle.std.proofs.Common.{◌≡◌, ◌∙◌, Option, Some, None, ap, subst}
use Rattle.std.specs.Prelude.{MatchResult}
use Rattle.tex_defs.specs.declared.Full.{Full}
use Rattle.plain_tokens.specs.Meanings.{name_meaning}
use Rattle.input_state.specs.declared.answer.CallKind.TheVariants.{AtOnce}
use Rattle.input_state.specs.Calls.{called_put}
use Rattle.input_state.specs.Stored.{Stored, call_refusal}
use Rattle.input_state.proofs.Joined.{keeps, call_refused}
use Rattle.input_state.proofs.state.Input.call_at_once.Goals as goal

pub returns-clause-keeps : goal.returns-clause-keeps
returns-clause-keeps c =
    let i = c.self.inside in
    keeps i.held c.call_at_once.new.self i.buffer.items i.buffer.items i.files i.files c.args.self.now c.self.view_is c.call_at_once.ensures.keeps

pub returns-clause-refused : goal.returns-clause-refused
returns-clause-refused c =
    let i = c.self.inside in
    let s = c.args.self.now in
    let same =
    call_refused i.held i.buffer.items i.files s c.self.view_is c.self.invariant (called_put i.held.lists (name_meaning i.held.groups.now.meanings c.args.name))
    ∙ ap (λ (v : Stored). call_refusal (called_put v.lists (name_meaning v.groups.now.meanings c.args.name)) s) c.self.view_is in
    subst (λ (o : Option Full). MatchResult c.call_at_once.result (λ kind. kind ≡ AtOnce → o ≡ None) (λ full. o ≡ Some full)) same c.call_at_once.ensures.refused
