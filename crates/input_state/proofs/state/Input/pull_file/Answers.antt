use Rattle.std.proofs.Common.{◌∙◌, sym, ap, subst}
use Rattle.plain_tokens.specs.Pending.{FileOver, beneath}
use Rattle.input_state.specs.declared.file.Step.{Step}
use Rattle.equivalents.specs.Parameters.{end_of_line}
use Rattle.input_state.specs.Stored.{Stored}
use Rattle.input_state.proofs.Readies.{GivesStep, step_gives}
use Rattle.input_state.proofs.Behind.{still_put, over_puts, over_keeps, taken_puts}
use Rattle.input_state.proofs.state.Input.pull_file.Goals as goal

pub returns-in-Nothing-clause-ok : goal.returns-in-Nothing-clause-ok
returns-in-Nothing-clause-ok c =
    let i = c.self.inside in
    let s = c.args.self.now in
    (subst (λ (x : Step). GivesStep x s.pending) c.in-Nothing.is (step_gives i.held i.buffer.items i.files s c.step.result c.self.view_is c.step.ensures), sym c.requires.without_ended)

pub returns-in-Over-clause-ok : goal.returns-in-Over-clause-ok
returns-in-Over-clause-ok c =
    let i = c.self.inside in
    let s = c.args.self.now in
    let gives = subst (λ (x : Step). GivesStep x s.pending) c.in-Over.is (step_gives i.held i.buffer.items i.files s c.step.result c.self.view_is c.step.ensures) in
    gives.0
    ∙ ap (λ ss. FileOver (beneath ss)) (sym c.drop_front.ensures.outer)
    ∙ sym (ap (λ (v : Stored). FileOver v.pending) c.end_file.ensures)

pub returns-in-Over-clause-keeps : goal.returns-in-Over-clause-keeps
returns-in-Over-clause-keeps c = over_keeps c.args.self.now c.drop_front.new.self c.end_file.new.self c.drop_front.ensures.keeps c.drop_front.ensures.front c.end_file.ensures

pub returns-in_ok-take_line-in-Line-clause-puts : goal.returns-in_ok-take_line-in-Line-clause-puts
returns-in_ok-take_line-in-Line-clause-puts c = λ id.
    let s = c.args.self.now in
    still_put id s.pending c.take_line.new.self.pending (taken_puts (end_of_line s.groups.now) s.pending c.take_line.new.self.pending c.in_ok-take_line-in-Line.ensures.ok)

pub returns-in-Over-clause-puts : goal.returns-in-Over-clause-puts
returns-in-Over-clause-puts c = λ id.
    still_put id c.args.self.now.pending c.end_file.new.self.pending (over_puts c.args.self.now.pending c.drop_front.new.self.pending c.end_file.new.self.pending c.drop_front.ensures.outer (ap (λ (v : Stored). v.pending) c.end_file.ensures))
