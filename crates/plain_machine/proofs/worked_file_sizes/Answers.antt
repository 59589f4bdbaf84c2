use Rattle.std.proofs.Common.{refl}
use Rattle.std.specs.Fmt.{digits}
use Rattle.prim_table.specs.Primitives.{primitive_name, primitive_names, command_names, assignment_names, expandable_names, conditional_names, integer_names, dimension_names, glue_names, token_names}
use Rattle.plain_machine.specs.Rows.{job_of, result_beside, run_of, job_fills, full_in}
use Rattle.plain_tokens.specs.Categories.{initial_categories}
use Rattle.equivalents.specs.First.{first_tables}
use Rattle.plain_tokens.specs.Lex.{headed, letters, behind_letters, lexed}
use Rattle.plain_tokens.specs.Lookup.{number_from}
use Rattle.plain_machine.proofs.worked_file_sizes.Goals as goal

pub returns : goal.returns
unfolding job_of result_beside run_of job_fills full_in initial_categories first_tables digits headed letters behind_letters lexed number_from primitive_names primitive_name command_names assignment_names expandable_names conditional_names integer_names dimension_names glue_names token_names
returns c = record {
  no_level = refl;
  no_level_for_a_missing_file = refl;
  two_levels_fit = (refl, refl);
  level_goes_with_its_file = (refl, refl);
  no_buffer = refl;
  buffer_of_one = refl;
  line_is_one_too_long = refl;
  line_fits = (refl, refl);
  two_lines_fit = (refl, refl);
  two_lines_are_one_too_long = refl;
  name_is_one_too_long = refl;
}
