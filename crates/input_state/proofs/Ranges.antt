-- What the ranges of the sizes say.
use Rattle.std.proofs.Common.{◌≡◌, ◌≤◌, List, [], ◌∷◌, ◌++◌, take, drop, Option, None, Some, refl, sym, arith}
use Rattle.std.specs.Prelude.{Bool, true, false, if◌then◌else◌}
use Rattle.std.proofs.lemmas.Option.{none-some}
use Rattle.std.proofs.lemmas.Bool.Decides.{nat_tests}
use Rattle.tex_defs.specs.declared.Table.{Table}
use Rattle.tex_defs.specs.declared.Table.TheVariants.{HashSize, SaveSize, InputStackSize, ParameterStackSize}
use Rattle.tex_defs.specs.declared.Sizes.{Sizes}
use Rattle.tex_defs.specs.Sizes.{size_of, is_in_range, first_out_among, first_out_of_range, tables}

if_in : (b : Bool) (x : Option Table) (t : Table) → (if b then x else Some t) ≡ None → (b ≡ true) × (x ≡ None)
if_in true x t h = (refl, h)
if_in false x t h = absurd (none-some t (sym h))

in_range : (sizes : Sizes) (before behind : List Table) (t : Table) → first_out_among sizes (before ++ t ∷ behind) ≡ None → is_in_range t (size_of sizes t) ≡ true
in_range sizes [] behind t h = (if_in (is_in_range t (size_of sizes t)) (first_out_among sizes behind) t h).0
in_range sizes (v ∷ before) behind t h = in_range sizes before behind t (if_in (is_in_range v (size_of sizes v)) (first_out_among sizes (before ++ t ∷ behind)) v h).1

pub hash_greatest : (sizes : Sizes) → first_out_of_range sizes ≡ None → sizes.hash_size ≤ 65535
hash_greatest sizes h =
    let k = in_range sizes (take 2 tables) (drop 3 tables) HashSize h in
    grind (arith, nat_tests, k)

pub save_greatest : (sizes : Sizes) → first_out_of_range sizes ≡ None → sizes.save_size ≤ 1000000
save_greatest sizes h =
    let k = in_range sizes (take 4 tables) (drop 5 tables) SaveSize h in
    grind (arith, nat_tests, k)

pub input_greatest : (sizes : Sizes) → first_out_of_range sizes ≡ None → sizes.input_stack_size ≤ 1000000
input_greatest sizes h =
    let k = in_range sizes (take 5 tables) (drop 6 tables) InputStackSize h in
    grind (arith, nat_tests, k)

pub parameters_greatest : (sizes : Sizes) → first_out_of_range sizes ≡ None → sizes.parameter_stack_size ≤ 1000000
parameters_greatest sizes h =
    let k = in_range sizes (take 6 tables) (drop 7 tables) ParameterStackSize h in
    grind (arith, nat_tests, k)
