use Rattle.std.proofs.Common.{refl}
use Rattle.std.specs.Fmt.{digits}
use Rattle.prim_table.specs.Primitives.{primitive_name, primitive_names, command_names, assignment_names, expandable_names, conditional_names, integer_names, dimension_names, glue_names, token_names}
use Rattle.plain_machine.specs.Rows.{job_of, run_of}
use Rattle.plain_tokens.specs.Categories.{initial_categories}
use Rattle.equivalents.specs.First.{first_tables}
use Rattle.plain_tokens.specs.Lex.{headed, letters, behind_letters, lexed}
use Rattle.plain_tokens.specs.Lookup.{number_from}
use Rattle.plain_tokens.specs.Numerals.{fraction_digits}
use Rattle.plain_machine.proofs.worked_shown.Goals as goal

pub returns : goal.returns
unfolding job_of run_of initial_categories first_tables digits headed letters behind_letters lexed number_from fraction_digits primitive_names primitive_name command_names assignment_names expandable_names conditional_names integer_names dimension_names glue_names token_names
returns c = record {
  undefined = (refl, refl);
  undefined_counts = (refl, (refl, refl));
  undefined_entered = (refl, refl);
  of_a_macro = (refl, refl);
  long_outer_macro = (refl, refl);
  letter = ((refl, refl), refl);
  characters = (refl, refl);
  primitive_of_another_name = (refl, refl);
  marked = (refl, refl);
  active = (refl, refl);
  on_a_fresh_line = (refl, refl);
  not_counted = (refl, (refl, refl));
  no_flaw = (refl, (refl, refl));
  error = (refl, refl);
  error_counts = (refl, (refl, refl));
  error_expanded = (refl, refl);
  error_without_a_brace = (refl, refl);
  error_behind_a_prefix = (refl, refl);
  error_at_the_end = (refl, refl);
  hundred_errors = ((refl, refl), refl);
  value = (refl, refl);
  values_not_counted = (refl, (refl, refl));
  glue = (refl, refl);
  list = (refl, refl);
  no_list = (refl, refl);
  given_character = (refl, refl);
  value_of_a_macro = (refl, refl);
  no_value = (refl, refl);
}
