use Rattle.std.proofs.Common.{refl}
use Rattle.std.specs.Fmt.{digits}
use Rattle.prim_table.specs.Primitives.{primitive_name, primitive_names, command_names, assignment_names, expandable_names, conditional_names, integer_names, dimension_names, glue_names, token_names}
use Rattle.plain_machine.specs.Rows.{job_of, run_of}
use Rattle.plain_tokens.specs.Categories.{initial_categories}
use Rattle.equivalents.specs.First.{first_tables}
use Rattle.plain_tokens.specs.Lex.{headed, letters, behind_letters, lexed}
use Rattle.plain_tokens.specs.Lookup.{number_from}
use Rattle.plain_machine.proofs.worked_conditionals.Goals as goal

pub returns : goal.returns
unfolding job_of run_of initial_categories first_tables digits headed letters behind_letters lexed number_from primitive_names primitive_name command_names assignment_names expandable_names conditional_names integer_names dimension_names glue_names token_names
returns c = record {
  branches = (refl, refl);
  steps_of_a_test = ((refl, refl), refl);
  steps_of_a_case = ((refl, refl), refl);
  extra_fi = (refl, refl);
  extra_else = (refl, refl);
  extra_or = (refl, refl);
  other_branch = (refl, refl);
  inner_conditional_skipped = (refl, refl);
  inner_else_skipped = (refl, refl);
  else_skipped = (refl, refl);
  further_else_skipped = (refl, refl);
  further_else_read = (refl, refl);
  or_of_a_false_test = (refl, refl);
  or_of_a_true_test = (refl, refl);
  first_case = (refl, refl);
  last_case = (refl, refl);
  no_case = (refl, refl);
  other_case = (refl, refl);
  or_behind_the_other_case = (refl, refl);
  negative_case = (refl, refl);
  ors_of_a_negative_case = (refl, refl);
  case_in_a_case = (refl, refl);
  unbalanced = (refl, refl);
  not_expanded_where_skipped = (refl, refl);
  steps_of_skipped_text = ((refl, refl), refl);
  fi_in_a_test = ((refl, refl), refl);
  fi_for_a_character = (refl, refl);
  else_in_a_test = (refl, refl);
  left_open_by_a_false_test = (refl, refl);
  left_open_by_a_true_test = (refl, refl);
  left_open_by_the_number_of_a_case = (refl, refl);
  fi_behind_expandafter = (refl, refl);
  else_behind_expandafter = (refl, refl);
  test_behind_expandafter = (refl, refl);
  in_an_expanded_body = (refl, refl);
  in_a_number = (refl, refl);
  in_a_name = (refl, refl);
  of_an_argument = (refl, refl);
  counted_loop = (refl, refl);
  by_other_names = (refl, refl);
  constants = (refl, refl);
  boxes = (refl, refl);
  no_box = (refl, refl);
  open_at_the_end = (refl, refl);
  lines_of_the_open = (refl, refl);
  begun_behind_the_end_of_the_file = (refl, refl);
  escape_character_at_the_end = (refl, refl);
}
