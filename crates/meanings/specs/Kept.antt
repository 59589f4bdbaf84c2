-- Meanings as they are kept, with the numbers of their lists. Only what the frozen `\endwrite` means is a macro without a list.
use Rattle.std.specs.Prelude.{ℕ, ◌<◌, Option, None, Some}
use Rattle.tex_defs.specs.declared.Meaning.{Meaning}
use Rattle.tex_defs.specs.declared.Meaning.TheVariants as means
use Rattle.token_lists.specs.declared.ListRef.{ListRef}
use Rattle.token_lists.specs.Ids.{id_of}

-- a location, if the name has one, is among those that there are
abbrev pub IsPlaced : Option ℕ → ℕ → Type 0
IsPlaced None count = ⊥
IsPlaced (Some k) count = k < count

-- a meaning that is no macro's
abbrev pub without_list : Meaning Unit → Meaning (Option ℕ)
without_list means.Undefined = means.Undefined
without_list means.RelaxMarked = means.RelaxMarked
without_list (means.Char cat code) = means.Char cat code
without_list (means.CharGiven code) = means.CharGiven code
without_list (means.MathGiven code) = means.MathGiven code
without_list (means.Register kind n) = means.Register kind n
without_list (means.Prim number) = means.Prim number
without_list (means.Macro long outer list) = means.Macro long outer None

abbrev pub numbered_list : Option ListRef → Option ℕ
numbered_list None = None
numbered_list (Some r) = Some (id_of r)

-- a meaning with the number of its list
abbrev pub numbered_meaning : Meaning (Option ListRef) → Meaning (Option ℕ)
numbered_meaning means.Undefined = means.Undefined
numbered_meaning means.RelaxMarked = means.RelaxMarked
numbered_meaning (means.Char cat code) = means.Char cat code
numbered_meaning (means.CharGiven code) = means.CharGiven code
numbered_meaning (means.MathGiven code) = means.MathGiven code
numbered_meaning (means.Register kind n) = means.Register kind n
numbered_meaning (means.Prim number) = means.Prim number
numbered_meaning (means.Macro long outer list) = means.Macro long outer (numbered_list list)
