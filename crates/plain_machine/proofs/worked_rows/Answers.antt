use Rattle.std.proofs.Common.{refl}
use Rattle.std.specs.Fmt.{digits}
use Rattle.prim_table.specs.Primitives.{primitive_name, primitive_names, command_names, assignment_names, expandable_names, conditional_names, integer_names, dimension_names, glue_names, token_names}
use Rattle.plain_machine.specs.Rows.{job_of, run_of}
use Rattle.plain_tokens.specs.Categories.{initial_categories}
use Rattle.equivalents.specs.First.{first_tables}
use Rattle.plain_tokens.specs.Lex.{headed, letters, behind_letters, lexed}
use Rattle.plain_tokens.specs.Lookup.{number_from}
use Rattle.plain_machine.proofs.worked_rows.Goals as goal

pub returns : goal.returns
unfolding job_of run_of initial_categories first_tables digits headed letters behind_letters lexed number_from primitive_names primitive_name command_names assignment_names expandable_names conditional_names integer_names dimension_names glue_names token_names
returns c = record {
  usual = ((refl, refl), refl);
  hi = ((refl, refl), refl);
  letter = (refl, refl);
  empty = ((refl, refl), refl);
  no_end = (refl, refl);
  two = (refl, refl);
  blank = (refl, refl);
  carriage_returns = (refl, refl);
  long_text = (refl, refl);
  octal = (refl, refl);
  signs = (refl, refl);
  shown = (refl, refl);
  active = (refl, refl);
  ignored = (refl, refl);
  comment = (refl, refl);
  other_escape = (refl, refl);
  null_printed = (refl, refl);
  line_feed_printed = (refl, refl);
  too_great = (refl, refl);
  no_category = (refl, refl);
  undefined = (refl, refl);
  brace_missing = (refl, refl);
  run_away = (refl, refl);
  improper = (refl, refl);
  improper_again = (refl, refl);
  entered_raw = (refl, refl);
  not_entered = (refl, refl);
  entered_once = (refl, refl);
  missing = (refl, refl);
  hats = (refl, refl);
  relax = ((refl, refl), refl);
  relax_before_a_brace = ((refl, refl), refl);
  relax_twice = (refl, refl);
  global = ((refl, refl), refl);
  long_assignment = ((refl, refl), refl);
  prefix_before_a_message = ((refl, refl), refl);
  prefix_before_a_letter = ((refl, refl), refl);
  prefix_before_the_end = (refl, refl);
}
