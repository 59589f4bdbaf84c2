use Rattle.std.proofs.Common.{refl}
use Rattle.std.specs.Fmt.{digits}
use Rattle.prim_table.specs.Primitives.{primitive_name, primitive_names, command_names, assignment_names, expandable_names, conditional_names, integer_names, dimension_names, glue_names, token_names}
use Rattle.plain_machine.specs.Rows.{job_of, run_of}
use Rattle.plain_tokens.specs.Categories.{initial_categories}
use Rattle.equivalents.specs.First.{first_tables}
use Rattle.plain_tokens.specs.Lex.{headed, letters, behind_letters, lexed}
use Rattle.plain_tokens.specs.Lookup.{number_from}
use Rattle.plain_machine.proofs.worked_meanings.Goals as goal

pub returns : goal.returns
unfolding job_of run_of initial_categories first_tables digits headed letters behind_letters lexed number_from primitive_names primitive_name command_names assignment_names expandable_names conditional_names integer_names dimension_names glue_names token_names
returns c = record {
  name = ((refl, refl), refl);
  equals = ((refl, refl), refl);
  future = ((refl, refl), refl);
  letter = (refl, refl);
  command = (refl, refl);
  name_in_a_report = (refl, refl);
  of_a_macro = (refl, refl);
  undefined = (refl, refl);
  undefined_entered = (refl, refl);
  outer = (refl, refl);
  equals_sign = (refl, refl);
  second_space = (refl, refl);
  implicit_space = (refl, refl);
  implicit_brace = (refl, refl);
  implicit_parameter = (refl, refl);
  prefixed = (refl, refl);
  missing_name = ((refl, refl), refl);
  behind_noexpand = (refl, refl);
  future_brace = (refl, refl);
  future_letter = (refl, refl);
  future_space = (refl, refl);
  ignored_spaces = ((refl, refl), refl);
  ignored_spaces_expanded = ((refl, refl), refl);
  ignored_before_a_command = (refl, refl);
  ignored_before_a_prefix = (refl, refl);
}
