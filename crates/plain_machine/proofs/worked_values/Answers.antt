use Rattle.std.proofs.Common.{refl}
use Rattle.std.specs.Fmt.{digits}
use Rattle.prim_table.specs.Primitives.{primitive_name, primitive_names, command_names, assignment_names, expandable_names, conditional_names, integer_names, dimension_names, glue_names, token_names}
use Rattle.plain_machine.specs.Rows.{job_of, run_of, job_fills, full_in}
use Rattle.plain_tokens.specs.Categories.{initial_categories}
use Rattle.equivalents.specs.First.{first_tables}
use Rattle.plain_tokens.specs.Lex.{headed, letters, behind_letters, lexed}
use Rattle.plain_tokens.specs.Lookup.{number_from}
use Rattle.plain_tokens.specs.Numerals.{fraction_digits}
use Rattle.plain_machine.proofs.worked_values.Goals as goal

pub returns : goal.returns
unfolding job_of run_of job_fills full_in initial_categories first_tables digits headed letters behind_letters lexed number_from fraction_digits primitive_names primitive_name command_names assignment_names expandable_names conditional_names integer_names dimension_names glue_names token_names
returns c = record {
  codes_and_parameters = (refl, refl);
  negative = (refl, refl);
  dimension = (refl, refl);
  dimension_in_scaled_points = (refl, refl);
  glue = (refl, refl);
  glue_in_mu = (refl, refl);
  first_dimension_and_glue = (refl, refl);
  in_an_expanded_body = ((refl, refl), refl);
  behind_expandafter = (refl, refl);
  as_a_number = (refl, refl);
  typeset = (refl, refl);
  of_a_letter = ((refl, refl), refl);
  of_a_sign = (refl, refl);
  of_a_command = (refl, refl);
  of_a_macro = (refl, refl);
  of_an_undefined_name = (refl, refl);
  bad_register = (refl, refl);
  no_register = (refl, refl);
  depth = refl;
  depth_fits = (refl, refl);
}
