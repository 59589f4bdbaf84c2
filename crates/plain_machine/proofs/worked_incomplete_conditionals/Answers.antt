use Rattle.std.proofs.Common.{refl}
use Rattle.std.specs.Fmt.{digits}
use Rattle.prim_table.specs.Primitives.{primitive_name, primitive_names, command_names, assignment_names, expandable_names, conditional_names, integer_names, dimension_names, glue_names, token_names}
use Rattle.plain_machine.specs.Rows.{job_of, result_beside, run_of}
use Rattle.plain_tokens.specs.Categories.{initial_categories}
use Rattle.equivalents.specs.First.{first_tables}
use Rattle.plain_tokens.specs.Lex.{headed, letters, behind_letters, lexed}
use Rattle.plain_tokens.specs.Lookup.{number_from}
use Rattle.plain_machine.proofs.worked_incomplete_conditionals.Goals as goal

pub returns : goal.returns
unfolding job_of run_of result_beside initial_categories first_tables digits headed letters behind_letters lexed number_from primitive_names primitive_name command_names assignment_names expandable_names conditional_names integer_names dimension_names glue_names token_names
returns c = record {
  no_more = (refl, refl);
  no_more_behind_an_else = (refl, refl);
  no_more_in_a_message = (refl, refl);
  no_more_of_a_conditional_within = (refl, refl);
  line_of_the_present_text = (refl, refl);
  line_behind_an_extra_or = (refl, refl);
  name_of_the_innermost = (refl, refl);
  outer_name = (refl, refl);
  outer_name_is_put_back = (refl, refl);
  outer_name_in_a_conditional_within = (refl, refl);
  outer_name_behind_an_else = (refl, refl);
  outer_name_in_a_text = (refl, refl);
  outer_name_in_a_true_branch = (refl, refl);
  no_more_in_a_test = (refl, refl);
  skipping_enters_no_names = (refl, refl);
  in_a_file_beneath_another = (refl, (refl, refl));
}
