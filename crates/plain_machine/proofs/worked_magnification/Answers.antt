use Rattle.std.proofs.Common.{refl}
use Rattle.std.specs.Fmt.{digits}
use Rattle.prim_table.specs.Primitives.{primitive_name, primitive_names, command_names, assignment_names, expandable_names, conditional_names, integer_names, dimension_names, glue_names, token_names}
use Rattle.plain_machine.specs.Rows.{job_of, run_of, job_fills, full_in}
use Rattle.plain_tokens.specs.Categories.{initial_categories}
use Rattle.equivalents.specs.First.{first_tables}
use Rattle.plain_tokens.specs.Lex.{headed, letters, behind_letters, lexed}
use Rattle.plain_tokens.specs.Lookup.{number_from}
use Rattle.plain_tokens.specs.Numerals.{fraction_digits}
use Rattle.plain_machine.proofs.worked_magnification.Goals as goal

pub returns : goal.returns
unfolding job_of run_of job_fills full_in initial_categories first_tables digits headed letters behind_letters lexed number_from fraction_digits primitive_names primitive_name command_names assignment_names expandable_names conditional_names integer_names dimension_names glue_names token_names
returns c = record {
  without_a_step = ((refl, refl), refl);
  set = (refl, refl);
  same_again = (refl, refl);
  another = (refl, refl);
  another_than_the_first_value = (refl, refl);
  another_below_zero = (refl, refl);
  set_back_globally = (refl, refl);
  zero = (refl, refl);
  too_great = (refl, refl);
  below_zero = (refl, refl);
  greatest = (refl, refl);
  least = (refl, refl);
  changed_globally = (refl, refl);
  another_behind_an_illegal_one = (refl, refl);
  set_in_a_group = (refl, refl);
  not_checked = (refl, refl);
  in_glue = (refl, refl);
  no_value_saved = (refl, refl);
}
