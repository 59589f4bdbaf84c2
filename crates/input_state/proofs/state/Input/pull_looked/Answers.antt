use Rattle.std.proofs.Common.{◌∙◌, ap, sym}
use Rattle.plain_tokens.specs.Pending.{end_token_lists}
use Rattle.input_state.specs.Stored.{Stored}
use Rattle.input_state.specs.HeldLists.{ahead_of}
use Rattle.input_state.proofs.Readies.{no_end}
use Rattle.input_state.proofs.Files.{keeps_twice, settled_twice, ahead_settled, front_ok, pull_ok, pull_refused, pull_err}
use Rattle.input_state.proofs.state.Input.pull_looked.Goals as goal

pub returns-in-Token-clause-ok : goal.returns-in-Token-clause-ok
returns-in-Token-clause-ok c =
    front_ok c.args.self.now c.read_front.new.self c.read_front.result (λ h. no_end c.looks.result c.in-Token.is (c.looks.ensures.ahead ∙ h)) c.read_front.ensures.gives c.read_front.ensures.refused

pub returns-in-End-clause-ok : goal.returns-in-End-clause-ok
returns-in-End-clause-ok c = pull_ok c.end_token_lists.new.self.lists c.args.self.now c.pull_file.new.self (sym c.looks.ensures.ahead ∙ c.in-End.is) c.end_token_lists.new.self c.pull_file.result c.end_token_lists.ensures.after c.pull_file.ensures.ok

pub returns-in-End-clause-refused : goal.returns-in-End-clause-refused
returns-in-End-clause-refused c = pull_refused c.end_token_lists.new.self.lists c.args.self.now c.pull_file.new.self (sym c.looks.ensures.ahead ∙ c.in-End.is) c.end_token_lists.new.self c.pull_file.result c.end_token_lists.ensures.after c.pull_file.ensures.ok c.pull_file.ensures.err

pub returns-in-End-clause-err : goal.returns-in-End-clause-err
returns-in-End-clause-err c = pull_err c.end_token_lists.new.self.lists c.args.self.now c.pull_file.new.self (sym c.looks.ensures.ahead ∙ c.in-End.is) c.end_token_lists.new.self c.pull_file.result c.end_token_lists.ensures.after c.pull_file.ensures.err

pub pull_file-requires-clause-end : goal.pull_file-requires-clause-end
pull_file-requires-clause-end c =
    ap (λ (s : Stored). ahead_of s.groups.now.categories s.pending) c.end_token_lists.ensures.after ∙ ahead_settled c.args.self.now.groups.now.categories c.args.self.now.pending ∙ sym c.looks.ensures.ahead ∙ c.in-End.is

pub pull_file-requires-clause-without_ended : goal.pull_file-requires-clause-without_ended
pull_file-requires-clause-without_ended c =
    ap (λ (s : Stored). end_token_lists s.pending) c.end_token_lists.ensures.after ∙ settled_twice c.args.self.now.pending ∙ sym (ap (λ (s : Stored). s.pending) c.end_token_lists.ensures.after)

pub returns-in-End-clause-keeps : goal.returns-in-End-clause-keeps
returns-in-End-clause-keeps c =
    keeps_twice c.args.self.now c.end_token_lists.new.self c.pull_file.new.self c.end_token_lists.ensures.keeps c.pull_file.ensures.keeps (ap (λ (s : Stored). s.groups) c.pull_file.ensures.others) c.pull_file.ensures.puts
