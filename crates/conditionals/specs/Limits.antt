-- What a `\fi`, an `\else` and an `\or` do. The TeXbook, chapter 20; TeX: The Program, part 28 (`if_limit`, `fi_or_else`).
use Rattle.std.specs.Prelude.{ℕ, ◌==◌, nat_lt, if◌then◌else◌, Option, Some, None}
use Rattle.conditionals.specs.declared.skip.Ender.{Ender}
use Rattle.conditionals.specs.declared.skip.Ender.TheVariants.{Fi, Else, Or}
use Rattle.conditionals.specs.declared.limits.Limit.{Limit}
use Rattle.conditionals.specs.declared.limits.Limit.TheVariants.{Test, AfterElse, Branch, Case}
use Rattle.conditionals.specs.declared.limits.Met.{Met}
use Rattle.conditionals.specs.declared.limits.Met.TheVariants.{RelaxBefore, Extra, SkipsToFi, Closes}

-- The codes: 1 is the test, 2 `\fi`, 3 `\else` and 4 `\or`. A limit is the greatest code that may come; where none is open, that is 0.
abbrev pub test_code : ℕ
test_code = 1

abbrev pub ender_code : Ender → ℕ
ender_code Fi = 2
ender_code Else = 3
ender_code Or = 4

abbrev pub limit_code : Option Limit → ℕ
limit_code None = 0
limit_code (Some Test) = test_code
limit_code (Some AfterElse) = ender_code Fi
limit_code (Some Branch) = ender_code Else
limit_code (Some Case) = ender_code Or

abbrev pub met_by_code : (limit code : ℕ) → Met
met_by_code limit code =
    if nat_lt limit code then (if limit == test_code then RelaxBefore else Extra)
    else if code == ender_code Fi then Closes
    else SkipsToFi

abbrev pub met : Option Limit → Ender → Met
met limit e = met_by_code (limit_code limit) (ender_code e)
