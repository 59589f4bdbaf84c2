use Rattle.std.proofs.Common.{refl}
use Rattle.std.specs.Fmt.{digits}
use Rattle.prim_table.specs.Primitives.{primitive_name, primitive_names, command_names, assignment_names, expandable_names, conditional_names, integer_names, dimension_names, glue_names, token_names}
use Rattle.plain_machine.specs.Rows.{job_fills, full_in, job_of, run_of}
use Rattle.plain_tokens.specs.Categories.{initial_categories}
use Rattle.equivalents.specs.First.{first_tables}
use Rattle.plain_tokens.specs.Lex.{headed, letters, behind_letters, lexed}
use Rattle.plain_tokens.specs.Lookup.{number_from}
use Rattle.plain_machine.proofs.worked_words.Goals as goal

pub returns : goal.returns
unfolding job_fills full_in job_of run_of initial_categories first_tables digits headed letters behind_letters lexed number_from primitive_names primitive_name command_names assignment_names expandable_names conditional_names integer_names dimension_names glue_names token_names
returns c = record {
  growing_in_100 = refl;
  growing_in_101 = refl;
  growing_in_102 = refl;
  shared = refl;
  shared_fits = (refl, refl);
  argument_words = refl;
  argument_words_fits = (refl, refl);
  two_arguments = refl;
  two_arguments_fits = (refl, refl);
  redefined = refl;
  redefined_fits = (refl, refl);
  read_body = refl;
  read_body_fits = (refl, refl);
  arguments_held = refl;
  arguments_held_fit = (refl, refl);
  arguments_gone = (refl, refl);
  place_reached = refl;
  place_reached_fits = (refl, refl);
  inner_call = refl;
  inner_call_fits = (refl, refl);
  call_behind_a_finished_body = refl;
  call_behind_a_finished_body_fits = (refl, refl);
  body_behind_a_finished_body = (refl, refl);
}
