use Rattle.std.proofs.Common.{◌∙◌, sym, arith}
use Rattle.token_lists.specs.Table.{tokens_at}
use Rattle.token_lists.specs.Ids.{id_of}
use Rattle.input_state.proofs.Walking.{ended}
use Rattle.input_state.proofs.places.behind.Goals as goal

pub returns-in-None-clause-rest : goal.returns-in-None-clause-rest
returns-in-None-clause-rest c =
    let id = id_of c.args.list.now in
    let none = c.in-None.ensures id c.loop-k.invariant.0 in
    none ∙ sym (ended (tokens_at c.args.lists.now id) c.loop-k.from.index c.args.count none (omega (arith, c.loop-k.invariant.1, c.loop-k-test.true)))
