use Rattle.std.proofs.Common.{refl}
use Rattle.std.specs.Fmt.{digits}
use Rattle.prim_table.specs.Primitives.{primitive_name, primitive_names, command_names, assignment_names, expandable_names, conditional_names, integer_names, dimension_names, glue_names, token_names}
use Rattle.plain_machine.specs.Rows.{job_fills, full_in, job_of, run_of}
use Rattle.plain_tokens.specs.Categories.{initial_categories}
use Rattle.equivalents.specs.First.{first_tables}
use Rattle.plain_tokens.specs.Lex.{headed, letters, behind_letters, lexed}
use Rattle.plain_tokens.specs.Lookup.{number_from}
use Rattle.plain_machine.proofs.worked_levels.Goals as goal

pub returns : goal.returns
unfolding job_fills full_in job_of run_of initial_categories first_tables digits headed letters behind_letters lexed number_from primitive_names primitive_name command_names assignment_names expandable_names conditional_names integer_names dimension_names glue_names token_names
returns c = record {
  deep_calls = refl;
  last_calls = (refl, refl);
  argument_level = refl;
  argument_level_fits = (refl, refl);
  gap_level = (refl, refl);
  live_arguments = refl;
  no_parameters = (refl, refl);
  gap_parameter = refl;
  nine_parameters = (refl, refl);
  ten_parameters = refl;
  call_depth = refl;
  call_depth_fits = (refl, refl);
  plain_call_depth = (refl, refl);
  argument_levels = refl;
  argument_levels_fit = (refl, refl);
  last_of_an_argument = (refl, refl);
  empty_body = (refl, refl);
  parameters_first = refl;
  then_the_level = refl;
}
