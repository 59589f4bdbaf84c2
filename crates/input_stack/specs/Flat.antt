-- What was put as one flat list of items, each with the number of the Put that placed it and the count of its call's
-- arguments.
use Rattle.std.specs.Prelude.{ℕ, ◌+◌, List, [], ◌∷◌, ◌++◌, map, length, Option, None, Some, Bool, false, cond, ◌==◌}
use Rattle.input_stack.specs.Puts.{Item, Put, later_of, count_of}

pub record Placed : Type 0 where
  pub put : ℕ
  pub arguments : ℕ
  pub item : Item

abbrev pub place : ℕ → ℕ → Item → Placed
place n a x = record { put = n; arguments = a; item = x }

-- a Put's number is the count of the Puts beneath it
abbrev pub placed : List Put → List Placed
placed [] = []
placed (p ∷ ps) = map (place (length ps) (length p.arguments)) p.items ++ placed ps

abbrev pub is_same : Option ℕ → ℕ → Bool
is_same None n = false
is_same (Some m) n = m == n

-- each run of items of one Put counts once, and once more where it begins within an argument
abbrev pub used_after : Option ℕ → List Placed → ℕ
used_after last [] = 0
used_after last (x ∷ xs) = cond (is_same last x.put) 0 (1 + count_of (later_of x.item)) + used_after (Some x.put) xs

abbrev pub used_arguments_after : Option ℕ → List Placed → ℕ
used_arguments_after last [] = 0
used_arguments_after last (x ∷ xs) = cond (is_same last x.put) 0 x.arguments + used_arguments_after (Some x.put) xs
