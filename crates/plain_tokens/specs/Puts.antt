-- The lists that were put in front of a line: macro bodies with their arguments in place, tokens put back and inserted
-- (The TeXbook, chapter 20; TeX: The Program, part 22).
use Rattle.std.specs.Prelude.{ℕ, ◌+◌, ◌-◌, List, [], ◌∷◌, ◌++◌, map, length, sum_by, slice_get, Option, None, Some}
use Rattle.tex_defs.specs.declared.Token.{Token}
use Rattle.tex_defs.specs.declared.Token.TheVariants.{Number, EndPlaces}

-- What is still to be read: a token of the list that was put, the first token of an argument and a further one, or a gap,
-- which is an argument without tokens in its place.
pub data Item : Type 0 where
  Text : Token → Item
  First : Token → Item
  Later : Token → Item
  Gap : Item

-- a list of its own, or the list with this number, a macro's or a location's, which other parts may hold too
pub data Whole : Type 0 where
  Own : List Token → Whole
  Macro : ℕ → Whole

-- A list that was put in front, the arguments of its call, and the items that are still to be read.
pub record Put : Type 0 where
  pub list : Whole
  pub arguments : List (List Token)
  pub items : List Item

-- WHAT A CALL PUTS: the body, each parameter number replaced by its argument. Nothing is copied.

-- the tokens of an argument; without any it is a gap
abbrev pub spread : List Token → List Item
spread [] = Gap ∷ []
spread (t ∷ ts) = First t ∷ map Later ts

-- a number without an argument stands for itself
abbrev pub placed_argument : ℕ → Option (List Token) → List Item
placed_argument n None = Text (Number n) ∷ []
placed_argument n (Some a) = spread a

abbrev pub token_items : List (List Token) → Token → List Item
token_items arguments (Number n) = placed_argument n (slice_get arguments (n - 1))
token_items arguments t = Text t ∷ []

-- the body's tokens, each parameter number replaced by its argument, of which the first has the number 1
abbrev pub substituted : List (List Token) → List Token → List Item
substituted arguments [] = []
substituted arguments (t ∷ ts) = token_items arguments t ++ substituted arguments ts

-- a macro's list is its parameter text, the end mark and its body
abbrev pub body_of : List Token → List Token
body_of [] = []
body_of (EndPlaces ∷ ts) = ts
body_of (t ∷ ts) = body_of ts

-- a call of the macro with this number and this list
abbrev pub call_put : ℕ → List Token → List (List Token) → Put
call_put number ts arguments = record { list = Macro number; arguments = arguments; items = substituted arguments (body_of ts) }

-- a list of these tokens, none of them read
abbrev pub token_put : List Token → Put
token_put ts = record { list = Own ts; arguments = []; items = map Text ts }

-- the list with this number as it stands, none of it read
abbrev pub list_put : ℕ → List Token → Put
list_put number ts = record { list = Macro number; arguments = []; items = map Text ts }

-- a list in front; one without items is none
abbrev pub put_top : Put → List Item → List Put → List Put
put_top p [] puts = puts
put_top p (x ∷ xs) puts = p ∷ puts

abbrev pub with_put : Put → List Put → List Put
with_put p puts = put_top p p.items puts

-- WHAT IS READ

-- this list on those beneath, or what is left of them where it has ended
abbrev pub unless_ended : Put → List Item → List Put → List Put → List Put
unless_ended p [] below rest = below
unless_ended p (x ∷ xs) below rest = p ∷ rest

-- without the finished lists in front: a list whose last item was read stays until the next reading or the next push begins
abbrev pub without_ended : List Put → List Put
without_ended [] = []
without_ended (p ∷ ps) = unless_ended p p.items (without_ended ps) ps

-- behind the gaps
abbrev pub without_gaps : List Item → List Item
without_gaps [] = []
without_gaps (Text t ∷ xs) = Text t ∷ xs
without_gaps (First t ∷ xs) = First t ∷ xs
without_gaps (Later t ∷ xs) = Later t ∷ xs
without_gaps (Gap ∷ xs) = without_gaps xs

abbrev pub passed_top : Put → List Item → List Put → List Put → List Put
passed_top p [] below rest = below
passed_top p (x ∷ xs) below rest = record { list = p.list; arguments = p.arguments; items = x ∷ xs } ∷ rest

-- behind the gaps in front, and without the lists of which nothing else is left
abbrev pub passed : List Put → List Put
passed [] = []
passed (p ∷ ps) = passed_top p (without_gaps p.items) (passed ps) ps

abbrev pub first_item : List Item → Option Item
first_item [] = None
first_item (x ∷ xs) = Some x

abbrev pub top_item : List Put → Option Item
top_item [] = None
top_item (p ∷ ps) = first_item p.items

-- the item that is next handed on, if one is left
abbrev pub next_item : List Put → Option Item
next_item puts = top_item (passed puts)

-- the token of an item; a gap has none
abbrev pub item_token : Item → Token
item_token (Text t) = t
item_token (First t) = t
item_token (Later t) = t
item_token Gap = EndPlaces

-- WHAT COUNTS

-- the level of an argument stands where a further token of it is next
abbrev pub argument_level : Item → ℕ
argument_level (Text t) = 0
argument_level (First t) = 0
argument_level (Later t) = 1
argument_level Gap = 0

-- a list with an item left has a level, and one more where it stands within an argument
abbrev pub levels_of : List Item → ℕ
levels_of [] = 0
levels_of (x ∷ xs) = 1 + argument_level x

abbrev pub put_levels : List Put → ℕ
put_levels puts = sum_by (λ p. levels_of p.items) puts

abbrev pub when_some : List Item → ℕ → ℕ
when_some [] n = 0
when_some (x ∷ xs) n = n

-- the arguments of the calls with an item left
abbrev pub put_parameters : List Put → ℕ
put_parameters puts = sum_by (λ p. when_some p.items (length p.arguments)) puts

-- LISTS THAT ARE HELD

-- a list; one without tokens is none
abbrev pub list_of_tokens : List Token → List (List Token)
list_of_tokens [] = []
list_of_tokens (t ∷ ts) = (t ∷ ts) ∷ []

-- the first list gets a token
abbrev pub grow_first : Token → List (List Token) → List (List Token)
grow_first t [] = []
grow_first t (ts ∷ lists) = (ts ++ t ∷ []) ∷ lists

-- a list that is being made gets a token
abbrev pub grown_by : Token → Option (List Token) → Option (List Token)
grown_by t None = None
grown_by t (Some ts) = Some (ts ++ t ∷ [])
