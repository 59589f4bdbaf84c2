-- The numbers of primitives, and the names that tokens are.
use Rattle.std.specs.Prelude.{ℕ, ◌==◌, Bool, true, false, ◌||◌}
use Rattle.tex_defs.specs.declared.Token.{Token}
use Rattle.tex_defs.specs.declared.Token.TheVariants as token
use Rattle.tex_defs.specs.declared.Name.{Name}
use Rattle.tex_defs.specs.declared.Name.TheVariants.{Word}
use Rattle.tex_defs.specs.declared.Name.TheVariants as name
use Rattle.tex_defs.specs.declared.Meaning.{Meaning}
use Rattle.tex_defs.specs.declared.Meaning.TheVariants as means

-- the numbers of the primitives, as the table of all primitives has them
abbrev pub relax_primitive : ℕ
relax_primitive = 1

abbrev pub end_primitive : ℕ
end_primitive = 6

abbrev pub par_primitive : ℕ
par_primitive = 5

-- the prefixes of assignments
abbrev pub long_primitive : ℕ
long_primitive = 23

abbrev pub outer_primitive : ℕ
outer_primitive = 24

abbrev pub global_primitive : ℕ
global_primitive = 25

-- the definitions
abbrev pub def_primitive : ℕ
def_primitive = 26

abbrev pub gdef_primitive : ℕ
gdef_primitive = 27

abbrev pub edef_primitive : ℕ
edef_primitive = 28

abbrev pub xdef_primitive : ℕ
xdef_primitive = 29

abbrev pub is_definition_primitive : ℕ → Bool
is_definition_primitive number = (number == def_primitive) || (number == gdef_primitive) || (number == edef_primitive) || (number == xdef_primitive)

-- a primitive's own meaning, under whatever name
abbrev pub means_primitive : ℕ → Meaning Unit → Bool
means_primitive n (means.Prim number) = number == n
means_primitive n m = false

-- the meaning of `\relax`, also that of a name behind `\noexpand`
abbrev pub means_relax : Meaning Unit → Bool
means_relax means.RelaxMarked = true
means_relax m = means_primitive relax_primitive m

-- the name that a token is
abbrev pub name_of : Token → Name
name_of (token.Named name) = name
name_of (token.Marked name) = name
name_of t = name.Empty
