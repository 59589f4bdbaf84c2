use Rattle.std.proofs.Common.{refl}
use Rattle.std.specs.Fmt.{digits}
use Rattle.prim_table.specs.Primitives.{primitive_name, primitive_names, command_names, assignment_names, expandable_names, conditional_names, integer_names, dimension_names, glue_names, token_names}
use Rattle.plain_machine.specs.Rows.{job_of, run_of}
use Rattle.plain_tokens.specs.Categories.{initial_categories}
use Rattle.equivalents.specs.First.{first_tables}
use Rattle.plain_tokens.specs.Lex.{headed, letters, behind_letters, lexed}
use Rattle.plain_tokens.specs.Lookup.{number_from}
use Rattle.plain_machine.proofs.worked_bodies.Goals as goal

pub returns : goal.returns
unfolding job_of run_of initial_categories first_tables digits headed letters behind_letters lexed number_from primitive_names primitive_name command_names assignment_names expandable_names conditional_names integer_names dimension_names glue_names token_names
returns c = record {
  long_by_name = (refl, refl);
  long_behind_global = (refl, refl);
  nested = (refl, refl);
  redefined = (refl, refl);
  redefined_in_its_body = (refl, refl);
  par = (refl, refl);
  active = (refl, refl);
  active_mismatch = (refl, refl);
  number = (refl, refl);
  inner_space = (refl, refl);
  space_before_the_name = (refl, refl);
  outer_again = (refl, refl);
  steps = ((refl, refl), refl);
  gap_steps = ((refl, refl), refl);
}
