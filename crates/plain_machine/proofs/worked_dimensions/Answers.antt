use Rattle.std.proofs.Common.{refl}
use Rattle.std.specs.Fmt.{digits}
use Rattle.prim_table.specs.Primitives.{primitive_name, primitive_names, command_names, assignment_names, expandable_names, conditional_names, integer_names, dimension_names, glue_names, token_names}
use Rattle.plain_machine.specs.Rows.{job_of, run_of, job_fills, full_in}
use Rattle.plain_tokens.specs.Categories.{initial_categories}
use Rattle.equivalents.specs.First.{first_tables}
use Rattle.plain_tokens.specs.Lex.{headed, letters, behind_letters, lexed}
use Rattle.plain_tokens.specs.Lookup.{number_from}
use Rattle.plain_tokens.specs.Numerals.{fraction_digits}
use Rattle.plain_machine.proofs.worked_dimensions.Goals as goal

pub returns : goal.returns
unfolding job_of run_of job_fills full_in initial_categories first_tables digits headed letters behind_letters lexed number_from fraction_digits primitive_names primitive_name command_names assignment_names expandable_names conditional_names integer_names dimension_names glue_names token_names
returns c = record {
  points = ((refl, refl), refl);
  scaled_points = ((refl, refl), refl);
  fraction = ((refl, refl), refl);
  half_of_a_dimension = ((refl, refl), refl);
  twice_a_dimension = ((refl, refl), refl);
  factor_of_a_register = ((refl, refl), refl);
  infinite_stretch = ((refl, refl), refl);
  infinite_stretch_with_a_fraction = ((refl, refl), refl);
  glue_of_a_parameter = ((refl, refl), refl);
  units = (refl, refl);
  no_font = (refl, refl);
  too_large = (refl, refl);
  no_unit = (refl, refl);
  no_number = (refl, refl);
  glue_turned = (refl, refl);
  width_of_glue = (refl, refl);
  incompatible = (refl, refl);
  bad_register = (refl, refl);
  behind_a_dimension = (refl, refl);
  taken_back = (refl, refl);
  globally = (refl, refl);
  depth = refl;
  depth_fits = (refl, refl);
  saved_value = refl;
  saved_once = (refl, refl);
}
