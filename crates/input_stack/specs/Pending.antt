-- What is pending: lists in front of the innermost line, and the open files and lines of `\read`, innermost first,
-- each with the lists that stand in front of what is beneath it.
use Rattle.std.specs.Prelude.{◌≡◌, ℕ, ◌+◌, List, [], ◌∷◌, ◌++◌, map, Option, None, Some, Bool, true, false, cond, nat_lt, sum_by, nat_le, drop}
use Rattle.tex_defs.specs.declared.Token.{Token}
use Rattle.tex_defs.specs.declared.Full.{Full}
use Rattle.tex_defs.specs.declared.Table.TheVariants.{InputStackSize, ParameterStackSize}
use Rattle.input_stack.specs.Puts.{Item, Text, Put, used, used_arguments, open_levels, open_arguments, without_ended, put_in_front, lists_of}
use Rattle.token_lists.specs.Accounts.{holds}
use Rattle.line_lexer.specs.declared.Line.{Line}
use Rattle.world_io.specs.declared.traits.InId.{InId}
use Rattle.input_stack.specs.declared.level.Source.{Source}

-- a file or a line of `\read`, and the lists in front of what is beneath it
pub record Below : Type 0 where
  pub source : Source
  pub puts : List Put

-- the lists in front of the innermost line, and the lines, innermost first
pub record Pending : Type 0 where
  pub puts : List Put
  pub sources : List Below

-- other lists in front of the same lines
abbrev pub with_puts : List Put → Pending → Pending
with_puts ps p = record { puts = ps; sources = p.sources }

-- levels of what is beneath: one for each file or `\read` line, and those of the lists in front of what it covers
abbrev pub levels_below : List Below → ℕ
levels_below bs = sum_by (λ b. 1 + open_levels b.puts) bs

-- all levels that stand
abbrev pub levels : Pending → ℕ
levels p = open_levels p.puts + levels_below p.sources

-- the levels that are used
abbrev pub used_levels : Pending → ℕ
used_levels p = used p.puts + sum_by (λ b. 1 + used b.puts) p.sources

-- the arguments of all calls that stand
abbrev pub arguments : Pending → ℕ
arguments p = open_arguments p.puts + sum_by (λ b. open_arguments b.puts) p.sources

-- the arguments that are used
abbrev pub used_parameters : Pending → ℕ
used_parameters p = used_arguments p.puts + sum_by (λ b. used_arguments b.puts) p.sources

-- A list of these tokens as it stands, without arguments: one of its own, or one that other parts may hold too.
abbrev pub listed_put : (shared : Bool) → ℕ → List Token → Put
listed_put shared n ts = record { list = n; body = shared; arguments = []; reading = None; items = map Text ts }

abbrev pub plain_put : ℕ → List Token → Put
plain_put n ts = listed_put false n ts

abbrev pub shared_put : ℕ → List Token → Put
shared_put n ts = listed_put true n ts

-- the finished lists at the top go
abbrev pub end_token_lists : Pending → Pending
end_token_lists p = with_puts (without_ended p.puts) p

-- the list on top goes
abbrev pub without_top : Pending → Pending
without_top p = with_puts (drop 1 p.puts) p

-- a list in front; one without tokens is none
abbrev pub put : Put → Pending → Pending
put x p = with_puts (put_in_front x p.puts) p

-- the refusal of one more level
abbrev pub levels_full : ℕ → ℕ → Full
levels_full used size = record { table = InputStackSize; used = used; size = size }

-- why there is no room for one more level
abbrev pub room : ℕ → ℕ → Option Full
room size used = cond (nat_lt used size) None (Some (levels_full used size))

-- The refusal of a list with these items, where the levels are at the size. A list without items needs none.
abbrev pub refusal : ℕ → List Item → Pending → Option Full
refusal size [] p = None
refusal size (x ∷ xs) p = room size (used_levels p)

-- the refusal of a call's arguments
abbrev pub parameters_full : ℕ → ℕ → Full
parameters_full used size = record { table = ParameterStackSize; used = used; size = size }

-- why there is no room for so many arguments more
abbrev pub parameter_room : ℕ → ℕ → ℕ → Option Full
parameter_room size used count = cond (nat_le (used + count) size) None (Some (parameters_full used size))

-- the first refusal of two
abbrev pub either : Option Full → Option Full → Option Full
either None second = second
either (Some full) second = Some full

-- The refusal of a macro call with so many arguments and these items: the arguments are asked for before the level. A
-- call without items needs none of them.
abbrev pub call_refusal : (size parameter_size : ℕ) → ℕ → List Item → Pending → Option Full
call_refusal size parameter_size count [] p = None
call_refusal size parameter_size count (x ∷ xs) p = either (parameter_room parameter_size (used_parameters p) count) (room size (used_levels p))

-- a file, or a line of `\read` without one, in front of all that is pending
abbrev pub open_over : Option InId → Line → Pending → Pending
open_over id line p = record { puts = []; sources = record { source = record { id = id; line = line }; puts = p.puts } ∷ p.sources }

abbrev pub sources_at : Line → List Below → List Below
sources_at line [] = []
sources_at line (b ∷ bs) = record { source = record { id = b.source.id; line = line }; puts = b.puts } ∷ bs

-- the innermost of them goes on at this line
abbrev pub at_line : Line → Pending → Pending
at_line line p = record { puts = p.puts; sources = sources_at line p.sources }

-- the innermost of them goes, and what is beneath it is in front
abbrev pub EndsIn : List Below → Pending → Option InId → Type 0
EndsIn [] new id = ⊥
EndsIn (b ∷ bs) new id = (id ≡ b.source.id) × (new ≡ record { puts = b.puts; sources = bs })

abbrev pub Ends : Pending → Pending → Option InId → Type 0
Ends old new id = EndsIn old.sources new id

-- how often a number stands among these
abbrev pub times : ℕ → List ℕ → ℕ
times h ns = sum_by (λ n. holds n h) ns

-- the lists that some Puts hold
abbrev pub lists_in : List Put → List ℕ
lists_in [] = []
lists_in (p ∷ ps) = lists_of p ++ lists_in ps

abbrev pub lists_below : List Below → List ℕ
lists_below [] = []
lists_below (b ∷ bs) = lists_in b.puts ++ lists_below bs

-- the lists that are held by what is pending, each as often as it is held
abbrev pub held_lists : Pending → List ℕ
held_lists p = lists_in p.puts ++ lists_below p.sources
