use Rattle.std.proofs.Common.{refl}
use Rattle.plain_tokens.specs.Categories.{initial_categories}
use Rattle.prim_table.specs.Primitives.{integer_names, dimension_names, glue_names, token_names}
use Rattle.equivalents.specs.First.{first_tables}
use Rattle.equivalents.proofs.laws.first_values.Goals as goal

pub returns : goal.returns
unfolding first_tables initial_categories integer_names dimension_names glue_names token_names
returns c = record {
  integer_places = λ knows. refl;
  dimension_places = λ knows. refl;
  glue_places = λ knows. refl;
  token_places = λ knows. refl;
  places = refl;
  integers = λ knows. refl;
  characters = λ knows. refl;
}
