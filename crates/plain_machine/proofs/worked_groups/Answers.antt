use Rattle.std.proofs.Common.{refl}
use Rattle.std.specs.Fmt.{digits}
use Rattle.prim_table.specs.Primitives.{primitive_name, primitive_names, command_names, assignment_names, expandable_names, conditional_names, integer_names, dimension_names, glue_names, token_names}
use Rattle.plain_machine.specs.Rows.{job_of, run_of}
use Rattle.plain_tokens.specs.Categories.{initial_categories}
use Rattle.equivalents.specs.First.{first_tables}
use Rattle.plain_tokens.specs.Lex.{headed, letters, behind_letters, lexed}
use Rattle.plain_tokens.specs.Lookup.{number_from}
use Rattle.plain_machine.proofs.worked_groups.Goals as goal

pub returns : goal.returns
unfolding job_of run_of initial_categories first_tables digits headed letters behind_letters lexed number_from primitive_names primitive_name command_names assignment_names expandable_names conditional_names integer_names dimension_names glue_names token_names
returns c = record {
  after_group = ((refl, refl), refl);
  after_no_group = (refl, refl);
  after_the_inner_group = (refl, refl);
  local_and_global = (refl, refl);
  taken_back = (refl, refl);
  category_taken_back = (refl, refl);
  relax_taken_back = (refl, refl);
  after_assignment = (refl, refl);
  after_one_assignment = ((refl, refl), refl);
  last_after_assignment = (refl, refl);
  after_a_definition = (refl, refl);
  after_the_future = (refl, refl);
  semisimple = ((refl, refl), refl);
  forgotten = (refl, refl);
  brace_missing = ((refl, refl), refl);
  extra = ((refl, refl), refl);
  too_many = ((refl, refl), refl);
  too_many_counts = (refl, (refl, refl));
  ended_in_a_group = ((refl, refl), refl);
  ended_in_a_group_counts = (refl, (refl, refl));
  ended_in_two_groups = (refl, refl);
  implicit = (refl, refl);
}
