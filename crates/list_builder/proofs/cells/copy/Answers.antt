use Rattle.std.proofs.Common.{subst}
use Rattle.token_lists.specs.Table.{tokens_at}
use Rattle.token_lists.specs.Ids.{id_of, build_id, IsBuilding}
use Rattle.list_builder.specs.Scans.{IsBuildingIn}
use Rattle.list_builder.proofs.Parts.{part_copied}
use Rattle.list_builder.proofs.cells.copy.Goals as goal

pub returns-clause-cut_short : goal.returns-clause-cut_short
returns-clause-cut_short c =
    let building : IsBuilding c.args.lists.now c.in-Some.build = subst (IsBuildingIn c.args.lists.now) c.in-Some.is c.requires.building in
    part_copied c.args.lists.now c.append_copy.new.self c.in-Some.build (tokens_at c.args.lists.now (id_of c.args.list.now)) building c.append_copy.result c.args.work.now (build_id c.append_copy.new.build)
    c.in-Some.is c.append_copy.ensures.same c.append_copy.ensures.err
