-- The strings that a run keeps, and where one more is refused.
use Rattle.std.specs.Prelude.{ℕ, List, [], ◌∷◌, ◌++◌, Option}
use Rattle.tex_defs.specs.declared.Full.{Full}
use Rattle.tex_defs.specs.declared.Sizes.{Sizes}
use Rattle.prim_table.specs.Primitives.{primitive_names}
use Rattle.plain_tokens.specs.Tables.{string, new_name, refused}

-- the names entered and the other kept strings, each in order
pub record Strings : Type 0 where
  pub names : List (List ℕ)
  pub others : List (List ℕ)
  pub sizes : Sizes

-- what INITEX begins with
abbrev pub primitives_alone : Sizes → Strings
primitives_alone sizes = record { names = primitive_names; others = []; sizes = sizes }

-- the name is the last now
abbrev pub with_name : Strings → List ℕ → Strings
with_name strings name = record strings { names = strings.names ++ name ∷ [] }

-- the string is the last of the others
abbrev pub with_other : Strings → List ℕ → Strings
with_other strings bytes = record strings { others = strings.others ++ bytes ∷ [] }

-- the first of pool size, number of strings and hash size that has no room for a new name
abbrev pub name_refusal : Strings → List ℕ → Option Full
name_refusal strings name = refused strings.sizes (new_name name strings.names strings.others)

-- the first of pool size and number of strings that has no room for another string
abbrev pub other_refusal : Strings → List ℕ → Option Full
other_refusal strings bytes = refused strings.sizes (string bytes strings.names strings.others)

-- the first of these strings, or that of no byte
abbrev pub head_string : List (List ℕ) → List ℕ
head_string [] = []
head_string (bytes ∷ strings) = bytes
