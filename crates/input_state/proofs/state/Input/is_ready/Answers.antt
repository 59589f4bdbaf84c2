use Rattle.std.proofs.Common.{◌∙◌, ap, sym}
use Rattle.input_state.specs.Reads.{gives_step}
use Rattle.input_state.proofs.Readies.{token_comes, used_up, ready_is}
use Rattle.input_state.proofs.state.Input.is_ready.Goals as goal

pub returns-in-Token : goal.returns-in-Token
returns-in-Token c = sym (token_comes c.args.self.now.groups.now.categories c.args.self.now.pending (sym c.looks.ensures.ahead ∙ c.in-Token.is))

pub returns-in-End : goal.returns-in-End
returns-in-End c =
    let i = c.self.inside in
    let s = c.args.self.now in
    c.has_line.ensures ∙ ready_is i.held i.buffer.items i.files s c.self.view_is ∙ sym (ap gives_step (used_up s.groups.now.categories s.pending (sym c.looks.ensures.ahead ∙ c.in-End.is)).1)
