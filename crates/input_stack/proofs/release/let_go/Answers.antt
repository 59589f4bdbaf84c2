use Rattle.token_lists.specs.Ids.{id_of}
use Rattle.input_stack.proofs.Lasting.{released_lasts}
use Rattle.input_stack.proofs.release.let_go.Goals as goal

pub returns-clause-lasting : goal.returns-clause-lasting
returns-clause-lasting c = released_lasts c.args.lists.now _ (id_of c.args.list) c.requires c.release.ensures.after
