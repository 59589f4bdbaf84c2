use Rattle.std.proofs.Common.{refl}
use Rattle.prim_table.specs.Primitives.{primitive_name, primitive_names, command_names, assignment_names, expandable_names, conditional_names, integer_names, dimension_names, glue_names, token_names}
use Rattle.meanings.proofs.laws.frozen_names.Goals as goal

pub returns : goal.returns
unfolding primitive_name primitive_names command_names assignment_names expandable_names conditional_names integer_names dimension_names glue_names token_names
returns c = record { relax = refl; end_group = refl; fi = refl }
