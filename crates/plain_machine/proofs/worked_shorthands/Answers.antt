use Rattle.std.proofs.Common.{refl}
use Rattle.std.specs.Fmt.{digits}
use Rattle.prim_table.specs.Primitives.{primitive_name, primitive_names, command_names, assignment_names, expandable_names, conditional_names, integer_names, dimension_names, glue_names, token_names}
use Rattle.plain_machine.specs.Rows.{job_of, run_of, job_fills, full_in}
use Rattle.plain_tokens.specs.Categories.{initial_categories}
use Rattle.equivalents.specs.First.{first_tables}
use Rattle.plain_tokens.specs.Lex.{headed, letters, behind_letters, lexed}
use Rattle.plain_tokens.specs.Lookup.{number_from}
use Rattle.plain_tokens.specs.Numerals.{fraction_digits}
use Rattle.plain_machine.proofs.worked_shorthands.Goals as goal

pub returns : goal.returns
unfolding job_of run_of job_fills full_in initial_categories first_tables digits headed letters behind_letters lexed number_from fraction_digits primitive_names primitive_name command_names assignment_names expandable_names conditional_names integer_names dimension_names glue_names token_names
returns c = record {
  register = ((refl, refl), refl);
  register_without_an_equals_sign = (refl, refl);
  register_advanced = (refl, refl);
  register_taken_back = (refl, refl);
  register_globally = (refl, refl);
  register_behind_long = (refl, refl);
  behind_a_register = (refl, refl);
  register_let = (refl, refl);
  register_shown = (refl, refl);
  dimension = (refl, refl);
  glue = (refl, refl);
  glue_in_mu = (refl, refl);
  character = ((refl, refl), refl);
  character_meant = (refl, refl);
  character_typeset = ((refl, refl), refl);
  character_behind_a_prefix = (refl, refl);
  character_as_number = (refl, refl);
  mathematical = (refl, refl);
  greatest = (refl, refl);
  name_within_its_value = (refl, refl);
  macro_within_its_value = (refl, refl);
  bad_character = (refl, refl);
  character_below_zero = (refl, refl);
  bad_mathematical = (refl, refl);
  bad_register = (refl, refl);
  no_name = (refl, refl);
  taken_back = (refl, refl);
  globally = (refl, refl);
  behind_a_definition = (refl, refl);
  saved_name = refl;
  saved_once = (refl, refl);
  saved_globally = (refl, refl);
}
