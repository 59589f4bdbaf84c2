-- What was put in front of a line: lists that are being read, and what counts as used of them
-- (TeX: The Program, part 22, input stacks and states).
use Rattle.std.specs.Prelude.{ℕ, ◌+◌, List, [], ◌∷◌, ◌++◌, length, Option, None, Some, Bool, true, false, is_some, sum_by}
use Rattle.tex_defs.specs.declared.Token.{Token}

-- What is still to be read: a token of the list that was put, the first token of an argument and a further one, each
-- with the number of the argument's list, or a gap, which is an argument without tokens in its place.
pub data Item : Type 0 where
  Text : Token → Item
  First : ℕ → Token → Item
  Later : ℕ → Token → Item
  Gap : Item

-- One list that was put: its number, whether other parts may hold it too, as a macro's list of which the body is read,
-- the numbers of the call's arguments (an argument without tokens has no list), the argument whose level is open, and the
-- items that are left.
pub record Put : Type 0 where
  pub list : ℕ
  pub body : Bool
  pub arguments : List (Option ℕ)
  pub reading : Option ℕ
  pub items : List Item

-- the argument whose further token this is
abbrev pub later_of : Item → Option ℕ
later_of (Text t) = None
later_of (First n t) = None
later_of (Later n t) = Some n
later_of Gap = None

-- the argument that this item is of
abbrev pub argument_of : Item → Option ℕ
argument_of (Text t) = None
argument_of (First n t) = Some n
argument_of (Later n t) = Some n
argument_of Gap = None

abbrev pub count_of : Option ℕ → ℕ
count_of None = 0
count_of (Some n) = 1

-- USED

-- A Put with an item counts once, and once more where the rest of an argument stands in front of which tokens were
-- handed on.
abbrev pub used_of : List Item → ℕ
used_of [] = 0
used_of (x ∷ xs) = 1 + count_of (later_of x)

abbrev pub used : List Put → ℕ
used puts = sum_by (λ p. used_of p.items) puts

abbrev pub when_some : List Item → ℕ → ℕ
when_some [] n = 0
when_some (x ∷ xs) n = n

-- the arguments of the calls with an item
abbrev pub used_arguments : List Put → ℕ
used_arguments puts = sum_by (λ p. when_some p.items (length p.arguments)) puts

-- the arguments of the calls that stand, those that are finished too
abbrev pub open_arguments : List Put → ℕ
open_arguments puts = sum_by (λ p. length p.arguments) puts

-- the levels that stand, those that are finished too
abbrev pub open_levels_of : Put → ℕ
open_levels_of p = 1 + count_of p.reading

abbrev pub open_levels : List Put → ℕ
open_levels puts = sum_by open_levels_of puts

-- HELD

abbrev pub numbers : List (Option ℕ) → List ℕ
numbers [] = []
numbers (None ∷ cells) = numbers cells
numbers (Some n ∷ cells) = n ∷ numbers cells

-- the lists that a Put holds: its own, once more the argument whose level is open, and its call's arguments
abbrev pub lists_of : Put → List ℕ
lists_of p = p.list ∷ numbers (p.reading ∷ p.arguments)

-- READ

-- this list on those beneath, or what is left of them where it has ended
abbrev pub unless_ended : Put → List Item → List Put → List Put → List Put
unless_ended p [] below rest = below
unless_ended p (x ∷ xs) below rest = record { list = p.list; body = p.body; arguments = p.arguments; reading = later_of x; items = x ∷ xs } ∷ rest

-- A finished Put stays, without items, until it is ended: as the next reading or the next push begins.
abbrev pub without_ended : List Put → List Put
without_ended [] = []
without_ended (p ∷ ps) = unless_ended p p.items (without_ended ps) ps

abbrev pub without_gaps : List Item → List Item
without_gaps [] = []
without_gaps (Text t ∷ xs) = Text t ∷ xs
without_gaps (First n t ∷ xs) = First n t ∷ xs
without_gaps (Later n t ∷ xs) = Later n t ∷ xs
without_gaps (Gap ∷ xs) = without_gaps xs

-- the flat list: all items in order
abbrev pub flat : List Put → List Item
flat [] = []
flat (p ∷ ps) = p.items ++ flat ps

abbrev pub first : List Item → Option Item
first [] = None
first (x ∷ xs) = Some x

-- the item that is next handed on: the first that is no gap
abbrev pub next_item : List Put → Option Item
next_item puts = first (without_gaps (flat puts))

-- the innermost Put has an item left that is no gap
abbrev pub has_item : List Put → Bool
has_item [] = false
has_item (p ∷ ps) = is_some (first (without_gaps p.items))

-- after the gaps in front and the first item behind them
abbrev pub pulled_top : Put → List Item → List Put → List Put → List Put
pulled_top p [] below rest = below
pulled_top p (x ∷ xs) below rest = record { list = p.list; body = p.body; arguments = p.arguments; reading = argument_of x; items = xs } ∷ rest

abbrev pub pulled : List Put → List Put
pulled [] = []
pulled (p ∷ ps) = pulled_top p (without_gaps p.items) (pulled ps) ps

-- a Put in front; one without items is none
abbrev pub put_top : Put → List Item → List Put → List Put
put_top p [] puts = puts
put_top p (x ∷ xs) puts = p ∷ without_ended puts

abbrev pub put_in_front : Put → List Put → List Put
put_in_front p puts = put_top p p.items puts

abbrev pub is_empty : List Item → Bool
is_empty [] = true
is_empty (x ∷ xs) = false

-- nothing is left of the innermost Put
abbrev pub is_finished : List Put → Bool
is_finished [] = false
is_finished (p ∷ ps) = is_empty p.items
