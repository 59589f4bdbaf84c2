use Rattle.std.proofs.Common.{refl}
use Rattle.std.specs.Fmt.{digits}
use Rattle.prim_table.specs.Primitives.{primitive_name, primitive_names, command_names, assignment_names, expandable_names, conditional_names, integer_names, dimension_names, glue_names, token_names}
use Rattle.plain_machine.specs.Rows.{job_of, run_of}
use Rattle.plain_tokens.specs.Categories.{initial_categories}
use Rattle.equivalents.specs.First.{first_tables}
use Rattle.plain_tokens.specs.Lex.{headed, letters, behind_letters, lexed}
use Rattle.plain_tokens.specs.Lookup.{number_from}
use Rattle.plain_machine.proofs.worked_spellings.Goals as goal

pub returns : goal.returns
unfolding job_of run_of initial_categories first_tables digits headed letters behind_letters lexed number_from primitive_names primitive_name command_names assignment_names expandable_names conditional_names integer_names dimension_names glue_names token_names
returns c = record {
  let_behind = ((refl, refl), refl);
  becomes_relax = ((refl, refl), refl);
  entered = (refl, refl);
  relax_meant = (refl, refl);
  one_character = (refl, refl);
  empty_name = (refl, refl);
  defined = (refl, refl);
  expanded = ((refl, refl), refl);
  with_a_space = (refl, refl);
  with_braces = (refl, refl);
  ended_by_another_name = (refl, refl);
  missing = (refl, refl);
  missing_before_relax = (refl, refl);
  missing_before_a_marked_name = (refl, refl);
  within_another = (refl, refl);
  undefined_within = (refl, refl);
  extra = ((refl, refl), refl);
  extra_in_a_text = (refl, refl);
  outer_allowed = (refl, refl);
  outer_in_a_definition = ((refl, refl), refl);
  outer_spelt_in_a_text = (refl, refl);
  ended_file = (refl, refl);
}
