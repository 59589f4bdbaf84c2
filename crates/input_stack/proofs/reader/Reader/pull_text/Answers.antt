use Rattle.std.proofs.Common.{sym, ◌∙◌}
use Rattle.input_stack.proofs.Rests.{get_drop}
use Rattle.input_stack.proofs.reader.Reader.pull_text.Goals as goal

pub returns-clause-token : goal.returns-clause-token
returns-clause-token c =
    let r = c.args.self.now in
    get_drop _ r.read _ (c.token-token.ensures r.list.id r.read (sym c.requires.place ∙ c.in-Some.is))
