use Rattle.std.proofs.Common.{refl}
use Rattle.std.specs.Fmt.{digits}
use Rattle.prim_table.specs.Primitives.{primitive_name, primitive_names, command_names, assignment_names, expandable_names, conditional_names, integer_names, dimension_names, glue_names, token_names}
use Rattle.plain_machine.specs.Rows.{job_of, result_beside, run_of, job_fills, full_in}
use Rattle.plain_tokens.specs.Categories.{initial_categories}
use Rattle.equivalents.specs.First.{first_tables}
use Rattle.plain_tokens.specs.Lex.{headed, letters, behind_letters, lexed}
use Rattle.plain_tokens.specs.Lookup.{number_from}
use Rattle.plain_machine.proofs.worked_files.Goals as goal

pub returns : goal.returns
unfolding job_of result_beside run_of job_fills full_in initial_categories first_tables digits headed letters behind_letters lexed number_from primitive_names primitive_name command_names assignment_names expandable_names conditional_names integer_names dimension_names glue_names token_names
returns c = record {
  beneath = (refl, (refl, refl));
  missing = (refl, (refl, refl));
  other_extension = (refl, (refl, refl));
  files_within_files = (refl, (refl, refl));
  line_numbers = (refl, (refl, refl));
  empty = (refl, (refl, refl));
  ended_use = (refl, (refl, refl));
  outer_behind_the_end = (refl, (refl, refl));
  ended_text = (refl, (refl, refl));
  within_a_name = (refl, (refl, refl));
  behind_a_token = (refl, (refl, refl));
  by_a_macro = (refl, (refl, refl));
  within_a_text = (refl, (refl, refl));
  ends_twice = (refl, (refl, refl));
  job_ends = (refl, (refl, refl));
  job_ends_at_its_last_line = (refl, (refl, refl));
  at_the_end_of_the_job = (refl, (refl, refl));
  last_in_the_job = (refl, (refl, refl));
  levels = refl;
  two_levels = refl;
  stack_level = refl;
  long_line_beneath = refl;
  long_name = refl;
  long_name_fits = (refl, refl);
  long_file_name = refl;
}
