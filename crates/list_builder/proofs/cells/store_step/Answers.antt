use Rattle.std.proofs.Common.{ap}
use Rattle.token_lists.specs.Table.{tokens_at}
use Rattle.token_lists.specs.Ids.{build_id}
use Rattle.list_builder.proofs.Parts.{part_first, part_rest}
use Rattle.list_builder.proofs.cells.store_step.Goals as goal

pub returns-in-Err-clause-cut_short : goal.returns-in-Err-clause-cut_short
returns-in-Err-clause-cut_short c =
    part_first _ _ c.args.step.first c.args.step.second c.in-Err.ensures.some (ap (λ t. tokens_at t (build_id c.args.build.now)) c.in-Err.ensures.err)

pub returns-clause-cut_short : goal.returns-clause-cut_short
returns-clause-cut_short c =
    part_rest c.store_cell-2.result (build_id c.args.build.now) c.store_cell.new.lists c.store_cell-2.new.lists (tokens_at c.args.lists.now (build_id c.args.build.now)) c.args.step.first c.args.step.second
    c.store_cell-2.ensures.some c.store_cell-2.ensures.err c.in_default.ensures.grown
