use Rattle.std.proofs.Common.{refl}
use Rattle.std.specs.Fmt.{digits}
use Rattle.prim_table.specs.Primitives.{primitive_name, primitive_names, command_names, assignment_names, expandable_names, conditional_names, integer_names, dimension_names, glue_names, token_names}
use Rattle.plain_machine.specs.Rows.{job_of, run_of, job_fills, full_in}
use Rattle.plain_tokens.specs.Categories.{initial_categories}
use Rattle.equivalents.specs.First.{first_tables}
use Rattle.plain_tokens.specs.Lex.{headed, letters, behind_letters, lexed}
use Rattle.plain_tokens.specs.Lookup.{number_from}
use Rattle.plain_tokens.specs.Numerals.{fraction_digits}
use Rattle.plain_machine.proofs.worked_list_sizes.Goals as goal

pub returns : goal.returns
unfolding job_of run_of job_fills full_in initial_categories first_tables digits headed letters behind_letters lexed number_from fraction_digits primitive_names primitive_name command_names assignment_names expandable_names conditional_names integer_names dimension_names glue_names token_names
returns c = record {
  words = refl;
  words_fit = (refl, refl);
  put_without_a_word = (refl, refl);
  shared_without_a_word = (refl, refl);
  words_of_a_body = refl;
  words_of_a_body_fit = (refl, refl);
  words_of_a_text = refl;
  words_of_a_text_fit = (refl, refl);
  second_list = refl;
  second_list_fits = (refl, refl);
  beside_the_value_before = refl;
  beside_the_value_before_fits = (refl, refl);
  let_go = (refl, refl);
  saved_list = refl;
  let_go_behind_a_group = (refl, refl);
  level = refl;
  level_fits = (refl, refl);
  saved_value = refl;
  saved_once = (refl, refl);
  depth = refl;
  depth_fits = (refl, refl);
  depth_of_the = refl;
  depth_of_the_fits = (refl, refl);
}
