use Rattle.std.proofs.Common.{refl}
use Rattle.std.specs.Fmt.{digits}
use Rattle.prim_table.specs.Primitives.{primitive_name, primitive_names, command_names, assignment_names, expandable_names, conditional_names, integer_names, dimension_names, glue_names, token_names}
use Rattle.plain_machine.specs.Rows.{job_of, run_of, job_fills, full_in}
use Rattle.plain_tokens.specs.Categories.{initial_categories}
use Rattle.equivalents.specs.First.{first_tables}
use Rattle.plain_tokens.specs.Lex.{headed, letters, behind_letters, lexed}
use Rattle.plain_tokens.specs.Lookup.{number_from}
use Rattle.plain_tokens.specs.Numerals.{fraction_digits}
use Rattle.plain_machine.proofs.worked_cases.Goals as goal

pub returns : goal.returns
unfolding job_of run_of job_fills full_in initial_categories first_tables digits headed letters behind_letters lexed number_from fraction_digits primitive_names primitive_name command_names assignment_names expandable_names conditional_names integer_names dimension_names glue_names token_names
returns c = record {
  capitals = ((refl, refl), refl);
  in_a_message = (refl, refl);
  of_an_argument = (refl, refl);
  small_letters_of_a_list = (refl, refl);
  not_expanded = (refl, refl);
  names_stay = (refl, refl);
  active_character = (refl, refl);
  active_as_another = (refl, refl);
  category_stays = (refl, refl);
  code_of_zero = (refl, refl);
  in_a_group = (refl, refl);
  closes_a_group = (refl, refl);
  empty = (refl, refl);
  keyword = (refl, refl);
  behind_relax = (refl, refl);
  no_brace = (refl, refl);
  with_a_prefix = (refl, refl);
}
