-- INITEX's values in one list, by the locations' numbers.
use Rattle.std.specs.Prelude.{◌≡◌, ℕ, ◌++◌, Bool, ℤ, pos, List, [], ◌∷◌, Option, None, map, replicate}
use Rattle.std.specs.List.{range_with_len}
use Rattle.tex_defs.specs.declared.Meaning.TheVariants as means
use Rattle.plain_tokens.specs.Categories.{initial_category}
use Rattle.plain_tokens.specs.Meanings.{fixed_locations, first_meaning, primitive_count}
use Rattle.token_lists.specs.declared.ListRef.{ListRef}
use Rattle.save_stack.specs.Groups.{Stack, extended}
use Rattle.save_stack.specs.Mapped.{mapped}
use Rattle.equivalents.specs.declared.values.CodeKind.{CodeKind}
use Rattle.equivalents.specs.declared.values.CodeKind.TheVariants as code
use Rattle.equivalents.specs.declared.values.Val.{Val}
use Rattle.equivalents.specs.declared.values.Val.TheVariants as val
use Rattle.equivalents.specs.Locations.{V, zero_glue}
use Rattle.equivalents.specs.First.{first_lowercase, first_uppercase, first_space_factor, first_math_code, first_delimiter, first_integer}
use Rattle.eqtb_save.specs.Values.{numbered_value}

-- these locations more, each assigned at the outermost level
abbrev pub with_all : Stack V → List V → Stack V
with_all s [] = s
with_all s (v ∷ vs) = with_all (extended s v) vs

-- what the new locations have is this
pub record Adds (old new : Stack (Val (Option ListRef))) (row : List V) : Type 0 where
  pub after : mapped numbered_value new ≡ with_all (mapped numbered_value old) row

-- a character's code of this kind
abbrev pub first_code : CodeKind → ℕ → ℤ
first_code code.Category c = pos (initial_category c)
first_code code.Lowercase c = first_lowercase c
first_code code.Uppercase c = first_uppercase c
first_code code.SpaceFactor c = first_space_factor c
first_code code.Math c = first_math_code c
first_code code.Delimiter c = first_delimiter c

abbrev pub codes_of : CodeKind → List V
codes_of kind = map (λ c. val.Number (first_code kind c)) (range_with_len 0 256)

abbrev pub integers : List V
integers = map (λ i. val.Number (first_integer i)) (range_with_len 0 55)

abbrev pub zeros : ℕ → List V
zeros count = replicate count (val.Number (pos 0))

abbrev pub zero_glues : ℕ → List V
zero_glues count = replicate count (val.Skip zero_glue)

abbrev pub empty_lists : ℕ → List V
empty_lists count = replicate count (val.Tokens None)

abbrev pub undefined_names : List V
undefined_names = replicate fixed_locations (val.Meant means.Undefined)

-- the names of the primitives, of which these mean something
abbrev pub primitive_names : (ℕ → Bool) → List V
primitive_names knows = map (λ n. val.Meant (first_meaning knows n)) (range_with_len 1 primitive_count)

-- the values of all locations
unfoldable pub first_values : (ℕ → Bool) → List V
first_values knows =
    codes_of code.Category ++ (codes_of code.Lowercase ++ (codes_of code.Uppercase ++ (codes_of code.SpaceFactor ++ (codes_of code.Math ++ (codes_of code.Delimiter
    ++ (integers ++ (zeros 21 ++ (zero_glues 18 ++ (zeros 512 ++ (zero_glues 512 ++ (empty_lists 256 ++ (empty_lists 8 ++ (undefined_names ++ primitive_names knows)))))))))))))
