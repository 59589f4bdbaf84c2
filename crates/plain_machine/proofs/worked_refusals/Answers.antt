use Rattle.plain_machine.specs.Rows.{job_of, run_of}
use Rattle.std.proofs.Common.{refl}
use Rattle.std.specs.Fmt.{digits}
use Rattle.prim_table.specs.Primitives.{primitive_name, primitive_names, command_names, assignment_names, expandable_names, conditional_names, integer_names, dimension_names, glue_names, token_names}
use Rattle.plain_machine.specs.Rows.{job_fills, full_in}
use Rattle.plain_tokens.specs.Categories.{initial_categories}
use Rattle.equivalents.specs.First.{first_tables}
use Rattle.plain_tokens.specs.Lex.{headed, letters, behind_letters, lexed}
use Rattle.plain_tokens.specs.Lookup.{number_from}
use Rattle.plain_machine.proofs.worked_refusals.Goals as goal

pub returns : goal.returns
unfolding job_fills full_in job_of run_of initial_categories first_tables digits headed letters behind_letters lexed number_from primitive_names primitive_name command_names assignment_names expandable_names conditional_names integer_names dimension_names glue_names token_names
returns c = record {
  fits = (refl, refl);
  pool = refl;
  pool_fits = (refl, refl);
  strings = refl;
  hash = refl;
  hash_fits = (refl, refl);
  buffer = refl;
  buffer_fits = (refl, refl);
  file_level = refl;
  put_level = refl;
  finished_level = (refl, refl);
  depth = refl;
  text_list = refl;
  text_fits = (refl, refl);
  put_list = refl;
  put_again = (refl, refl);
  finished_list = (refl, refl);
}
