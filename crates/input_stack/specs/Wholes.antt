-- The levels, each with the arguments of its call.
use Rattle.std.specs.Prelude.{ℕ, ◌-◌, List, [], ◌∷◌, length, take, drop, Option, sum_by}
use Rattle.token_lists.specs.declared.ListRef.{ListRef}
use Rattle.input_stack.specs.declared.level.Level.{Level}
use Rattle.input_stack.specs.declared.level.Level.TheVariants as level
use Rattle.input_stack.specs.Whole.{with_arguments}
use Rattle.input_stack.specs.WholeLevel.{WholeLevel}
use Rattle.input_stack.specs.WholeLevel as whole_as

-- how many arguments a level's call has
abbrev pub level_count : Level → ℕ
level_count (level.List r) = 0
level_count (level.Call c) = c.count
level_count (level.Source s) = 0

-- and those of these levels
abbrev pub count_in : List Level → ℕ
count_in ls = sum_by level_count ls

-- a level with the arguments of its call, where it has one
abbrev pub whole : List (Option ListRef) → Level → WholeLevel
whole args (level.List r) = whole_as.List r
whole args (level.Call c) = whole_as.Call (with_arguments args c)
whole args (level.Source s) = whole_as.Source s

-- of the arguments of all levels up to this one its own, which stand last, and those beneath
abbrev pub own : List (Option ListRef) → Level → List (Option ListRef)
own cells l = drop (length cells - level_count l) cells

abbrev pub beneath : List (Option ListRef) → Level → List (Option ListRef)
beneath cells l = take (length cells - level_count l) cells

-- levels, innermost first, where these are the arguments of all, the innermost level's last
abbrev pub wholes : List (Option ListRef) → List Level → List WholeLevel
wholes cells [] = []
wholes cells (l ∷ ls) = whole (own cells l) l ∷ wholes (beneath cells l) ls
