use Rattle.std.proofs.Common.{refl}
use Rattle.std.specs.Fmt.{digits}
use Rattle.prim_table.specs.Primitives.{primitive_name, primitive_names, command_names, assignment_names, expandable_names, conditional_names, integer_names, dimension_names, glue_names, token_names}
use Rattle.plain_machine.specs.Rows.{job_of, named_job_of, run_of}
use Rattle.plain_tokens.specs.Categories.{initial_categories}
use Rattle.equivalents.specs.First.{first_tables}
use Rattle.plain_tokens.specs.Lex.{headed, letters, behind_letters, lexed}
use Rattle.plain_tokens.specs.Lookup.{number_from}
use Rattle.plain_machine.proofs.worked_expansions.Goals as goal

pub returns : goal.returns
unfolding job_of named_job_of run_of initial_categories first_tables digits headed letters behind_letters lexed number_from primitive_names primitive_name command_names assignment_names expandable_names conditional_names integer_names dimension_names glue_names token_names
returns c = record {
  not_expanded = ((refl, refl), refl);
  redefined = (refl, refl);
  roman = ((refl, refl), refl);
  behind = (refl, refl);
  behind_twice = ((refl, refl), refl);
  behind_a_character = (refl, refl);
  behind_the_unexpandable = ((refl, refl), refl);
  behind_the_undefined = ((refl, refl), refl);
  behind_a_mismatch = (refl, refl);
  behind_at_the_end = (refl, refl);
  behind_at_the_end_of_a_text = (refl, refl);
  behind_an_outer_name = (refl, refl);
  marked = (refl, refl);
  marked_entered = (refl, refl);
  marked_in_the_stomach = ((refl, refl), refl);
  marked_once = (refl, refl);
  marked_active = (refl, refl);
  marked_outer = (refl, refl);
  outer_as_text = (refl, refl);
  string_of_characters = (refl, refl);
  string_of_a_space = (refl, refl);
  string_in_the_stomach = ((refl, refl), refl);
  string_at_the_end_of_a_text = (refl, refl);
  meanings_of_characters = (refl, refl);
  meanings_of_names = (refl, refl);
  job = (refl, refl);
  job_with_a_space = (refl, refl);
  job_in_the_stomach = (refl, refl);
  job_number = (refl, refl);
  job_without_a_name = (refl, refl);
}
