-- Laws of the frozen names, in the words of their users.
use Rattle.std.specs.Prelude.{◌≡◌, codes}
use Rattle.prim_table.specs.Primitives.{primitive_name}
use Rattle.plain_tokens.specs.Names.{relax_primitive}
use Rattle.plain_tokens.specs.Meanings.{end_group_primitive, fi_primitive}

-- the frozen names that are primitives have those primitives' names
pub record FrozenNames : Type 0 where
  pub relax : primitive_name relax_primitive ≡ codes "relax"
  pub end_group : primitive_name end_group_primitive ≡ codes "endgroup"
  pub fi : primitive_name fi_primitive ≡ codes "fi"
