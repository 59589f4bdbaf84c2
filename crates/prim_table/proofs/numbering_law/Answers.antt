use Rattle.std.proofs.Common.{refl}
use Rattle.prim_table.specs.Primitives.{primitive_names, command_names, assignment_names, expandable_names, conditional_names, integer_names, dimension_names, glue_names, token_names}
use Rattle.prim_table.proofs.Table.{placed, distinct, sizes_are}
use Rattle.prim_table.proofs.numbering_law.Goals as goal

pub returns-clause-placed : goal.returns-clause-placed
returns-clause-placed c = placed

pub returns-clause-distinct : goal.returns-clause-distinct
returns-clause-distinct c = distinct

pub returns-clause-sizes : goal.returns-clause-sizes
returns-clause-sizes c = sizes_are

pub returns-clause-long : goal.returns-clause-long
unfolding primitive_names command_names assignment_names expandable_names conditional_names integer_names dimension_names glue_names token_names
returns-clause-long c = refl
