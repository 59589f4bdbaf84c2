use Rattle.std.proofs.Common.{◌∙◌, sym}
use Rattle.input_state.specs.NextBytes.{InFront}
use Rattle.input_state.proofs.Readies.{no_end, in_front, knows_next, needs_bytes}
use Rattle.input_state.proofs.state.Input.needs_bytes.Goals as goal

pub returns-in-Token : goal.returns-in-Token
returns-in-Token c = record {
  ready = λ e. InFront (in_front c.args.self.now.groups.now.categories c.args.self.now.pending (λ h. no_end c.looks.result c.in-Token.is (c.looks.ensures.ahead ∙ h)));
  needs = λ e. cc;
}

pub returns-in-End : goal.returns-in-End
returns-in-End c =
    let i = c.self.inside in
    record {
      ready = λ e. knows_next i.held i.buffer.items i.files c.args.self.now c.self.view_is c.self.invariant.file_size (sym c.lacks_next.ensures ∙ e);
      needs = λ e. needs_bytes i.held i.buffer.items i.files c.args.self.now c.self.view_is c.self.invariant.file_size (sym c.looks.ensures.ahead ∙ c.in-End.is) (sym c.lacks_next.ensures ∙ e);
    }
