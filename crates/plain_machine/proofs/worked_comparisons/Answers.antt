use Rattle.std.proofs.Common.{refl}
use Rattle.std.specs.Fmt.{digits}
use Rattle.prim_table.specs.Primitives.{primitive_name, primitive_names, command_names, assignment_names, expandable_names, conditional_names, integer_names, dimension_names, glue_names, token_names}
use Rattle.plain_machine.specs.Rows.{job_of, run_of}
use Rattle.plain_tokens.specs.Categories.{initial_categories}
use Rattle.equivalents.specs.First.{first_tables}
use Rattle.plain_tokens.specs.Lex.{headed, letters, behind_letters, lexed}
use Rattle.plain_tokens.specs.Lookup.{number_from}
use Rattle.plain_machine.proofs.worked_comparisons.Goals as goal

pub returns : goal.returns
unfolding job_of run_of initial_categories first_tables digits headed letters behind_letters lexed number_from primitive_names primitive_name command_names assignment_names expandable_names conditional_names integer_names dimension_names glue_names token_names
returns c = record {
  relations = (refl, refl);
  spaces_before_a_relation = (refl, refl);
  relation_of_a_macro = (refl, refl);
  no_relation = (refl, refl);
  relation_taken = (refl, refl);
  relation_of_another_category = (refl, refl);
  implicit_relation = (refl, refl);
  equal_dimensions = (refl, refl);
  greater_dimension = (refl, refl);
  odd_numbers = (refl, refl);
  same_codes = (refl, refl);
  codes_of_a_macro = (refl, refl);
  codes_of_names = (refl, refl);
  codes_of_implicit_characters = (refl, refl);
  codes_of_given_characters = (refl, refl);
  no_code = (refl, refl);
  same_categories = (refl, refl);
  categories_of_implicit_characters = (refl, refl);
  category_by_the_character = (refl, refl);
  marked_name = (refl, refl);
  marked_active_character = (refl, refl);
  two_marked_active_characters = (refl, refl);
  active_character_that_means_relax = (refl, refl);
  macros = (refl, refl);
  flags = (refl, refl);
  same_flags = (refl, refl);
  parameter_texts = (refl, refl);
  characters_of_places = (refl, refl);
  categories_in_bodies = (refl, refl);
  copy_of_a_macro = (refl, refl);
  empty_macros = (refl, refl);
  not_expanded_by_ifx = (refl, refl);
  undefined_names = (refl, refl);
  marked_name_is_not_relax = (refl, refl);
  marked_names = (refl, refl);
  primitives = (refl, refl);
  characters = (refl, refl);
  given_characters = (refl, refl);
  registers = (refl, refl);
  enters_no_names = (refl, refl);
  enters_no_name_with_one_that_is_known = (refl, refl);
}
