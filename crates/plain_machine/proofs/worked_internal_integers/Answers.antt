use Rattle.std.proofs.Common.{refl}
use Rattle.std.specs.Fmt.{digits}
use Rattle.prim_table.specs.Primitives.{primitive_name, primitive_names, command_names, assignment_names, expandable_names, conditional_names, integer_names, dimension_names, glue_names, token_names}
use Rattle.plain_machine.specs.Rows.{job_of, run_of, job_fills, full_in}
use Rattle.plain_tokens.specs.Categories.{initial_categories}
use Rattle.equivalents.specs.First.{first_tables}
use Rattle.plain_tokens.specs.Lex.{headed, letters, behind_letters, lexed}
use Rattle.plain_tokens.specs.Lookup.{number_from}
use Rattle.plain_machine.proofs.worked_internal_integers.Goals as goal

pub returns : goal.returns
unfolding job_of run_of job_fills full_in initial_categories first_tables digits headed letters behind_letters lexed number_from primitive_names primitive_name command_names assignment_names expandable_names conditional_names integer_names dimension_names glue_names token_names
returns c = record {
  register = ((refl, refl), refl);
  without_an_equals_sign = ((refl, refl), refl);
  written = ((refl, refl), refl);
  copied = ((refl, refl), refl);
  of_a_register_as_number = ((refl, refl), refl);
  one_within_another = (refl, refl);
  parameter = ((refl, refl), refl);
  of_a_parameter = ((refl, refl), refl);
  no_space_behind = ((refl, refl), refl);
  space_behind_digits = (refl, refl);
  signs = (refl, refl);
  sign_turned = (refl, refl);
  least = (refl, refl);
  codes_read = (refl, refl);
  first_values = (refl, refl);
  bad_register = ((refl, refl), refl);
  bad_register_read = (refl, refl);
  register_below_zero = (refl, refl);
  bad_register_as_value = (refl, refl);
  bad_character_read = (refl, refl);
  no_register = (refl, refl);
  invalid_code = (refl, refl);
  character_by_a_register = (refl, refl);
  parameter_taken_back = (refl, refl);
  register_taken_back = (refl, refl);
  global = (refl, refl);
  all_global = (refl, refl);
  none_global = (refl, refl);
  by_other_names = (refl, refl);
  of_a_macro = (refl, refl);
  roman = (refl, refl);
  in_an_expanded_body = (refl, refl);
  behind_an_assignment = (refl, refl);
  behind_long = (refl, refl);
  depth = refl;
  depth_fits = (refl, refl);
  saved_value = refl;
  saved_once = (refl, refl);
}
