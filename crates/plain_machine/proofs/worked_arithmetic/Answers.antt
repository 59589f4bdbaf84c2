use Rattle.std.proofs.Common.{refl}
use Rattle.std.specs.Fmt.{digits}
use Rattle.prim_table.specs.Primitives.{primitive_name, primitive_names, command_names, assignment_names, expandable_names, conditional_names, integer_names, dimension_names, glue_names, token_names}
use Rattle.plain_machine.specs.Rows.{job_of, run_of, job_fills, full_in}
use Rattle.plain_tokens.specs.Categories.{initial_categories}
use Rattle.equivalents.specs.First.{first_tables}
use Rattle.plain_tokens.specs.Lex.{headed, letters, behind_letters, lexed}
use Rattle.plain_tokens.specs.Lookup.{number_from}
use Rattle.plain_tokens.specs.Numerals.{fraction_digits}
use Rattle.plain_machine.proofs.worked_arithmetic.Goals as goal

pub returns : goal.returns
unfolding job_of run_of job_fills full_in initial_categories first_tables digits headed letters behind_letters lexed number_from fraction_digits primitive_names primitive_name command_names assignment_names expandable_names conditional_names integer_names dimension_names glue_names token_names
returns c = record {
  advance = ((refl, refl), refl);
  without_by = ((refl, refl), refl);
  capital_letters = ((refl, refl), refl);
  other_categories = (refl, refl);
  spaces_before_by = (refl, refl);
  by_of_a_macro = (refl, refl);
  half_a_keyword = ((refl, refl), refl);
  implicit_letter = (refl, refl);
  negative = ((refl, refl), refl);
  multiply = (refl, refl);
  divide = ((refl, refl), refl);
  divide_by_a_negative_number = (refl, refl);
  greatest = (refl, refl);
  sum_too_great = (refl, refl);
  sum_too_small = (refl, refl);
  product_too_great = (refl, refl);
  divided_by_zero = (refl, refl);
  behind_an_overflow = (refl, refl);
  behind_arithmetic = (refl, refl);
  taken_back = (refl, refl);
  global = (refl, refl);
  parameter = (refl, refl);
  behind_long = (refl, refl);
  bad_register = (refl, refl);
  no_variable = ((refl, refl), refl);
  behind_no_variable = (refl, refl);
  escape_character = (refl, refl);
  dimension = ((refl, refl), refl);
  dimension_without_by = (refl, refl);
  dimension_divided = (refl, refl);
  product_of_a_dimension_too_large = (refl, refl);
  sum_of_dimensions = (refl, refl);
  sum_of_dimensions_too_great = (refl, refl);
  glue = (refl, refl);
  glue_of_equal_orders = (refl, refl);
  glue_with_a_part_of_zero = (refl, refl);
  glue_multiplied = (refl, refl);
  product_of_glue_too_large = (refl, refl);
  glue_divided = (refl, refl);
  glue_divided_by_zero = (refl, refl);
  glue_in_mu = (refl, refl);
  depth = refl;
  depth_fits = (refl, refl);
  levels_of_a_keyword = refl;
  levels_of_a_keyword_fit = (refl, refl);
}
