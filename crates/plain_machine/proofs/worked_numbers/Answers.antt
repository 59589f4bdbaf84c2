use Rattle.std.proofs.Common.{refl}
use Rattle.std.specs.Fmt.{digits}
use Rattle.prim_table.specs.Primitives.{primitive_name, primitive_names, command_names, assignment_names, expandable_names, conditional_names, integer_names, dimension_names, glue_names, token_names}
use Rattle.plain_machine.specs.Rows.{job_of, run_of, job_fills, full_in}
use Rattle.plain_tokens.specs.Categories.{initial_categories}
use Rattle.equivalents.specs.First.{first_tables}
use Rattle.plain_tokens.specs.Lex.{headed, letters, behind_letters, lexed}
use Rattle.plain_tokens.specs.Lookup.{number_from}
use Rattle.plain_machine.proofs.worked_numbers.Goals as goal

pub returns : goal.returns
unfolding job_of run_of job_fills full_in initial_categories first_tables digits headed letters behind_letters lexed number_from primitive_names primitive_name command_names assignment_names expandable_names conditional_names integer_names dimension_names glue_names token_names
returns c = record {
  negative = ((refl, refl), refl);
  nested = (refl, refl);
  of_a_macro = (refl, refl);
  in_a_body = (refl, refl);
  in_an_expanded_body = (refl, refl);
  in_a_number = (refl, refl);
  behind_a_prefix = (refl, refl);
  obeyed = ((refl, refl), refl);
  missing = (refl, refl);
  too_big = (refl, refl);
  outer_in_a_definition = (refl, refl);
  outer_elsewhere = (refl, refl);
  file_ended = (refl, refl);
  depth = refl;
  text_words = refl;
  text_words_fit = (refl, refl);
  text_level = refl;
}
