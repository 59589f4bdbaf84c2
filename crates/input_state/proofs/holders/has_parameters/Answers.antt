use Rattle.std.proofs.Common.{refl, sym}
use Rattle.token_lists.specs.Table.{tokens_at}
use Rattle.token_lists.specs.Ids.{id_of}
use Rattle.input_state.proofs.Calling.{first_decides}
use Rattle.input_state.proofs.holders.has_parameters.Goals as goal

pub returns-in-Some : goal.returns-in-Some
returns-in-Some c =
    let id = id_of c.args.list.now in
    let first = c.in-Some.ensures in
    first_decides (tokens_at c.args.lists.now id) c.is_end_mark.result (first.ends.0 refl) (λ t at. c.is_end_mark.ensures id 0 t (sym first.place) at)
