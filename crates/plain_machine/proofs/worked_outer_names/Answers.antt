use Rattle.std.proofs.Common.{refl}
use Rattle.std.specs.Fmt.{digits}
use Rattle.prim_table.specs.Primitives.{primitive_name, primitive_names, command_names, assignment_names, expandable_names, conditional_names, integer_names, dimension_names, glue_names, token_names}
use Rattle.plain_machine.specs.Rows.{job_of, run_of}
use Rattle.plain_tokens.specs.Categories.{initial_categories}
use Rattle.equivalents.specs.First.{first_tables}
use Rattle.plain_tokens.specs.Lex.{headed, letters, behind_letters, lexed}
use Rattle.plain_tokens.specs.Lookup.{number_from}
use Rattle.plain_machine.proofs.worked_outer_names.Goals as goal

pub returns : goal.returns
unfolding job_of run_of initial_categories first_tables digits headed letters behind_letters lexed number_from primitive_names primitive_name command_names assignment_names expandable_names conditional_names integer_names dimension_names glue_names token_names
returns c = record {
  outer_parameters = (refl, refl);
  outer_parameters_behind = (refl, refl);
  outer_definition = (refl, refl);
  outer_use = (refl, refl);
  outer_use_long = (refl, refl);
  outer_in_a_match = (refl, refl);
  outer_behind_the_first = (refl, refl);
  outer_undelimited = (refl, refl);
  outer_in_a_group = (refl, refl);
  outer_before_the_first = (refl, refl);
  outer_then_par = (refl, refl);
  outer_in_a_call_in_a_definition = (refl, refl);
  outer_text = (refl, refl);
  outer_behind_long = (refl, refl);
  outer_in_a_text_in_a_group = (refl, refl);
}
