use Rattle.std.proofs.Common.{refl}
use Rattle.std.specs.Fmt.{digits}
use Rattle.prim_table.specs.Primitives.{primitive_name, primitive_names, command_names, assignment_names, expandable_names, conditional_names, integer_names, dimension_names, glue_names, token_names}
use Rattle.plain_machine.specs.Rows.{job_of, run_of, job_fills, full_in}
use Rattle.plain_tokens.specs.Categories.{initial_categories}
use Rattle.equivalents.specs.First.{first_tables}
use Rattle.plain_tokens.specs.Lex.{headed, letters, behind_letters, lexed}
use Rattle.plain_tokens.specs.Lookup.{number_from}
use Rattle.plain_tokens.specs.Numerals.{fraction_digits}
use Rattle.plain_machine.proofs.worked_lists.Goals as goal

pub returns : goal.returns
unfolding job_of run_of job_fills full_in initial_categories first_tables digits headed letters behind_letters lexed number_from fraction_digits primitive_names primitive_name command_names assignment_names expandable_names conditional_names integer_names dimension_names glue_names token_names
returns c = record {
  assigned = ((refl, refl), refl);
  without_equals = ((refl, refl), refl);
  shared = ((refl, refl), refl);
  in_an_expanded_body = ((refl, refl), refl);
  put = (refl, refl);
  itself = (refl, refl);
  not_expanded = (refl, refl);
  between_expansions = (refl, refl);
  not_expanded_in_a_message = (refl, refl);
  obeyed = (refl, refl);
  assigns = (refl, refl);
  as_a_number = (refl, refl);
  behind_expandafter = (refl, refl);
  behind_expandafter_in_a_body = (refl, refl);
  in_a_number_in_a_body = (refl, refl);
  in_a_name_in_a_body = (refl, refl);
  not_read_again = (refl, refl);
  in_a_name = (refl, refl);
  of_what_the_list_names = (refl, refl);
  braces = (refl, refl);
  parameter_character = (refl, refl);
  behind_a_parameter_character = (refl, refl);
  copied = (refl, refl);
  emptied = (refl, refl);
  emptied_where_it_is_read = (refl, refl);
  appended = (refl, refl);
  parameter = (refl, refl);
  parameter_of_a_register = (refl, refl);
  by_a_name = (refl, refl);
  no_name = (refl, refl);
  behind_relax = (refl, refl);
  implicit_brace = (refl, refl);
  brace_of_a_macro = (refl, refl);
  register_of_a_macro = (refl, refl);
  no_brace = (refl, refl);
  of_a_number = (refl, refl);
  bad_register = (refl, refl);
  local = (refl, refl);
  taken_back = (refl, refl);
  globally = (refl, refl);
  all_global = (refl, refl);
  none_global = (refl, refl);
  behind_long = (refl, refl);
  after_assignment = (refl, refl);
  no_arithmetic = (refl, refl);
  with_a_paragraph = (refl, refl);
  outer_name = (refl, refl);
  no_end = (refl, refl);
}
