-- Who holds the lists of the memory. A shared list, a macro's or a location's, is held by each location and each saved value that has it and by each
-- list in front that is it or its body, any other list by the one place where it is shown, and an argument that is read once more, by its level.
use Rattle.std.specs.Prelude.{◌≡◌, ℕ, ◌+◌, ◌<◌, ◌≤◌, List, [], ◌∷◌, ◌++◌, map, drop, Option, None, Some, IfSome, option_to_list}
use Rattle.std.specs.List.{AllZip, filter_map, flat_map}
use Rattle.tex_defs.specs.declared.Token.{Token}
use Rattle.plain_tokens.specs.Puts.{Put, Whole, Own, Macro, levels_of, list_of_tokens}
use Rattle.plain_tokens.specs.Pending.{all_puts}
use Rattle.token_lists.specs.Table.{Entry, tokens_at}
use Rattle.token_lists.specs.Holders.{times, AreHolders}
use Rattle.equivalents.specs.Holding.{lists_held}
use Rattle.input_stack.specs.Puts.{count_of}
use Rattle.input_state.specs.Stored.{Stored, gathered}

-- A LIST IN FRONT

-- a list that was put for itself; a shared list has its number
abbrev pub own_list : Whole → List (List Token)
own_list (Own ts) = ts ∷ []
own_list (Macro number) = []

-- the number of a shared list, of a macro whose body it is or of a location
abbrev pub macro_of : Whole → Option ℕ
macro_of (Own ts) = None
macro_of (Macro number) = Some number

-- The lists that a list in front holds, by their numbers: its own, the arguments of its call, and once more the argument
-- whose level is open.
pub record Numbers : Type 0 where
  pub own : List ℕ
  pub arguments : List ℕ
  pub reading : Option ℕ

-- They are the lists that it shows, where an argument without tokens is no list. Where a further token of an argument is
-- next, its level is open.
pub record AreListsOf (table : List (Option Entry)) (p : Put) (n : Numbers) : Type 0 where
  pub own : map (tokens_at table) n.own ≡ own_list p.list
  pub arguments : map (tokens_at table) n.arguments ≡ flat_map list_of_tokens p.arguments
  pub reading : IfSome n.reading (λ h. 0 < times h n.arguments)
  pub levels : levels_of p.items ≤ 1 + count_of n.reading

-- no argument's level is open but where a further token of it is next
abbrev pub HasNoMoreLevels : Put → Numbers → Type 0
HasNoMoreLevels p n = levels_of p.items ≡ 1 + count_of n.reading

-- ALL HOLDERS, by the numbers of the lists that they hold

-- the locations and saved values that have a list, and the lists in front that are shared
abbrev pub shared_numbers : (held : List ℕ) → List Put → List ℕ
shared_numbers held puts = held ++ filter_map (λ p. macro_of p.list) puts

-- the places of the other lists
abbrev pub own_numbers : List Numbers → List ℕ → List ℕ
own_numbers fronts rest = flat_map (λ n. n.own ++ n.arguments) fronts ++ rest

-- the levels of arguments
abbrev pub reading_numbers : List Numbers → List ℕ
reading_numbers fronts = filter_map (λ n. n.reading) fronts

-- The holders of all lists, where locations and saved values hold these, these lists are in front, and these others are held. In the innermost
-- list in front an argument's level may be open behind its last token, until the next reading.
pub record HaveHolders (table : List (Option Entry)) (held : List ℕ) (puts : List Put) (others : List (List Token)) : Type 0 where
  pub fronts : List Numbers
  pub rest : List ℕ
  pub in_front : AllZip (AreListsOf table) puts fronts
  pub beneath : AllZip HasNoMoreLevels (drop 1 puts) (drop 1 fronts)
  pub elsewhere : map (tokens_at table) rest ≡ others
  pub counts : AreHolders table (shared_numbers held puts ++ (own_numbers fronts rest ++ reading_numbers fronts))
  -- each of these lists has that one place, and isn't shared
  pub sole : (h : ℕ) → 0 < times h (own_numbers fronts rest) → times h (shared_numbers held puts ++ own_numbers fronts rest) ≡ 1

-- The others are the list that is made, the call's, and those that are gathered.
abbrev pub AreCounted : List (Option Entry) → Stored → Type 0
AreCounted table s = HaveHolders table (lists_held s.groups) (all_puts s.pending) (option_to_list s.making ++ gathered s)
