use Rattle.std.proofs.Common.{refl}
use Rattle.std.specs.Fmt.{digits}
use Rattle.prim_table.specs.Primitives.{primitive_name, primitive_names, command_names, assignment_names, expandable_names, conditional_names, integer_names, dimension_names, glue_names, token_names}
use Rattle.plain_machine.specs.Rows.{job_of, run_of, job_fills, full_in}
use Rattle.plain_tokens.specs.Categories.{initial_categories}
use Rattle.equivalents.specs.First.{first_tables}
use Rattle.plain_tokens.specs.Lex.{headed, letters, behind_letters, lexed}
use Rattle.plain_tokens.specs.Lookup.{number_from}
use Rattle.plain_machine.proofs.worked_group_sizes.Goals as goal

pub returns : goal.returns
unfolding job_of run_of job_fills full_in initial_categories first_tables digits headed letters behind_letters lexed number_from primitive_names primitive_name command_names assignment_names expandable_names conditional_names integer_names dimension_names glue_names token_names
returns c = record {
  levels = refl;
  levels_fit = (refl, refl);
  saves = refl;
  saves_first = refl;
  saved_token = refl;
  saved_token_fits = (refl, refl);
  saved_value = refl;
  saved_once = (refl, refl);
  global_value = (refl, refl);
  saved_behind_a_global_value = refl;
  level_behind_a_group = refl;
  level_behind_a_group_fits = (refl, refl);
  words_behind_a_group = refl;
  list_of_a_saved_value = refl;
  list_of_a_saved_value_fits = (refl, refl);
  list_let_go_behind_a_group = (refl, refl);
}
