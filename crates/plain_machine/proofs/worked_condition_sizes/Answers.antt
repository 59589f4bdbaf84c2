use Rattle.std.proofs.Common.{refl}
use Rattle.std.specs.Fmt.{digits}
use Rattle.prim_table.specs.Primitives.{primitive_name, primitive_names, command_names, assignment_names, expandable_names, conditional_names, integer_names, dimension_names, glue_names, token_names}
use Rattle.plain_machine.specs.Rows.{full_in, job_fills, job_of, run_of}
use Rattle.plain_tokens.specs.Categories.{initial_categories}
use Rattle.equivalents.specs.First.{first_tables}
use Rattle.plain_tokens.specs.Lex.{headed, letters, behind_letters, lexed}
use Rattle.plain_tokens.specs.Lookup.{number_from}
use Rattle.plain_machine.proofs.worked_condition_sizes.Goals as goal

pub returns : goal.returns
unfolding job_fills full_in job_of run_of initial_categories first_tables digits headed letters behind_letters lexed number_from primitive_names primitive_name command_names assignment_names expandable_names conditional_names integer_names dimension_names glue_names token_names
returns c = record {
  two_open = refl;
  two_open_fit = (refl, refl);
  none_open = refl;
  closed = (refl, refl);
  deep = refl;
  skipped = (refl, refl);
  within_a_test = refl;
  within_a_test_fit = (refl, refl);
  depth_first = refl;
  then_the_conditional = refl;
  test_ended_before_skipping = (refl, refl);
  skipping_below_a_token = refl;
  skipping_below_a_token_fits = (refl, refl);
  levels_of_a_fi_in_a_test = refl;
  levels_of_a_fi_in_a_test_fit = (refl, refl);
  words_of_a_fi_in_a_test = refl;
  words_of_a_fi_in_a_test_fit = (refl, refl);
  no_words_of_skipped_text = (refl, refl);
}
