use Rattle.std.proofs.Common.{refl}
use Rattle.std.specs.Fmt.{digits}
use Rattle.prim_table.specs.Primitives.{primitive_name, primitive_names, command_names, assignment_names, expandable_names, conditional_names, integer_names, dimension_names, glue_names, token_names}
use Rattle.plain_machine.specs.Rows.{job_of, run_of, job_fills, full_in}
use Rattle.plain_tokens.specs.Categories.{initial_categories}
use Rattle.equivalents.specs.First.{first_tables}
use Rattle.plain_tokens.specs.Lex.{headed, letters, behind_letters, lexed}
use Rattle.plain_tokens.specs.Lookup.{number_from}
use Rattle.plain_machine.proofs.worked_spelling_sizes.Goals as goal

pub returns : goal.returns
unfolding job_of run_of job_fills full_in initial_categories first_tables digits headed letters behind_letters lexed number_from primitive_names primitive_name command_names assignment_names expandable_names conditional_names integer_names dimension_names glue_names token_names
returns c = record {
  name_words = refl;
  name_words_fit = (refl, refl);
  missing_words = refl;
  name_pool = refl;
  name_pool_fits = (refl, refl);
  name_strings = refl;
  name_hash = refl;
  name_depth = refl;
  name_depth_fits = (refl, refl);
  job_depth = refl;
  behind_depth = refl;
  behind_depth_fits = (refl, refl);
  call_behind_depth = refl;
  behind_levels = refl;
  behind_levels_fit = (refl, refl);
  string_level = refl;
  string_words = refl;
  string_words_fit = (refl, refl);
  empty_text_word = refl;
  empty_text_word_fits = (refl, refl);
  shared = refl;
  shared_fits = (refl, refl);
  shared_and_redefined = refl;
  shared_and_redefined_fits = (refl, refl);
  let_go = (refl, refl);
}
