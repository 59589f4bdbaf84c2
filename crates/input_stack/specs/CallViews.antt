-- A macro call that is being read: its body, and in it the arguments in their places. A list that other parts may hold too is
-- read as a body without arguments.
use Rattle.std.specs.Prelude.{◌≡◌, ℕ, ◌+◌, ◌^◌, ◌<◌, List, [], ◌∷◌, ◌++◌, map, take, length, Option, None, Some, Bool, true, false, cond, IfSome}
use Rattle.tex_defs.specs.declared.Token.{Token}
use Rattle.token_lists.specs.declared.ListRef.{ListRef}
use Rattle.token_lists.specs.Ids.{id_of}
use Rattle.token_lists.specs.Table.{Entry, tokens_at, places_at, holders_at, IsHeld}
use Rattle.token_lists.specs.Accounts.{holds, cells_hold, none, Moves, Keeps}
use Rattle.macro_args.specs.declared.args.Args.{Args}
use Rattle.input_stack.specs.declared.reader.Reader.{Reader}
use Rattle.input_stack.specs.Whole.{WholeCall}
use Rattle.input_stack.specs.declared.met.Met.{Met}
use Rattle.input_stack.specs.declared.met.Met.TheVariants as met_as
use Rattle.input_stack.specs.Puts.{Item, Text, First, Later, Gap, Put, later_of, argument_of, count_of}
use Rattle.input_stack.specs.Calls.{Argument, argument_list, substituted}
use Rattle.input_stack.specs.Pulls.{token_in}
use Rattle.input_stack.specs.Rest.{rest, number, IsAt}

-- an argument, where it has a list
abbrev pub argument_in : List (Option Entry) → Option ListRef → Option Argument
argument_in table None = None
argument_in table (Some r) = Some (record { list = id_of r; tokens = tokens_at table (id_of r) })

-- the arguments that these cells hold
abbrev pub cells_in : List (Option Entry) → List (Option ListRef) → List (Option Argument)
cells_in table cells = map (argument_in table) cells

abbrev pub arguments_in : List (Option Entry) → Args → List (Option Argument)
arguments_in table args = cells_in table (take args.count args.lists)

-- the tokens that are left of the argument whose level is open
abbrev pub open_tokens : List (Option Entry) → Option Reader → List Token
open_tokens table None = []
open_tokens table (Some r) = rest table r

abbrev pub open_number : Option Reader → Option ℕ
open_number None = None
open_number (Some r) = Some (number r)

abbrev pub open_items : List (Option Entry) → Option Reader → List Item
open_items table None = []
open_items table (Some r) = map (Later (number r)) (rest table r)

abbrev pub open_holds : Option Reader → ℕ → ℕ
open_holds None h = 0
open_holds (Some r) h = holds (number r) h

-- the items that are left
abbrev pub items_of : List (Option Entry) → WholeCall → List Item
items_of table c = open_items table c.argument ++ substituted (cells_in table c.args) (rest table c.body)

abbrev pub put_of_call : List (Option Entry) → WholeCall → Put
put_of_call table c = record { list = number c.body; body = true; arguments = map argument_list (cells_in table c.args); reading = open_number c.argument; items = items_of table c }

-- how often the arguments hold the list of a number
abbrev pub arguments_hold : Args → ℕ → ℕ
arguments_hold args h = cells_hold (take args.count args.lists) h

-- a call holds the list that it reads, once more the argument whose level is open, and its arguments
abbrev pub call_holds : WholeCall → ℕ → ℕ
call_holds c h = holds (number c.body) h + (open_holds c.argument h + cells_hold c.args h)

-- without its arguments
abbrev pub readers_hold : Reader → Option Reader → ℕ → ℕ
readers_hold body argument h = holds (number body) h + open_holds argument h

-- how many of its levels are an argument's
abbrev pub call_open : Option Reader → ℕ
call_open argument = count_of (open_number argument)

-- the readers of a call are at the places of their next tokens
pub record AreAt (table : List (Option Entry)) (r : Reader) (o : Option Reader) : Type 0 where
  pub body : IsAt table r
  pub argument : IfSome o (λ x. IsAt table x)

-- each of these lists is held
abbrev pub AreHeld : List (Option Entry) → List (Option ListRef) → Type 0
AreHeld table cells = (h : ℕ) → 0 < cells_hold cells h → IsHeld table h

-- the readers of a call are at their places, and its arguments are held
pub record IsCall (table : List (Option Entry)) (c : WholeCall) : Type 0 where
  pub body : IsAt table c.body
  pub argument : IfSome c.argument (λ r. IsAt table r)
  pub held : AreHeld table c.args

-- an item is left, and an argument's level is open exactly where its further tokens are in front
abbrev pub IsSettled : Option ℕ → List Item → Type 0
IsSettled reading [] = ⊥
IsSettled reading (x ∷ xs) = reading ≡ later_of x

-- what is met, whichever list it is of
abbrev pub met_of : Item → Met
met_of (Text t) = met_as.Text t
met_of (First n t) = met_as.First t
met_of (Later n t) = met_as.Later t
met_of Gap = met_as.Gap

abbrev pub met : Option Item → Option Met
met None = None
met (Some x) = Some (met_of x)

abbrev pub opens : Met → Bool
opens (met_as.Text t) = false
opens (met_as.First t) = true
opens (met_as.Later t) = false
opens met_as.Gap = false

-- the next item is the first token of an argument
abbrev pub is_opening : Option Met → Bool
is_opening None = false
is_opening (Some m) = opens m

-- what a level that opens holds
abbrev pub opened : Option Item → ℕ → ℕ
opened (Some (First n t)) h = holds n h
opened x h = 0

-- An argument whose level opens gets a holder more: it may have one.
abbrev pub IsCountable : List (Option Entry) → Option Item → Type 0
IsCountable table (Some (First n t)) = holders_at table n + 1 < 2 ^ 32
IsCountable table x = Unit {0}

-- some lists have more holders, and nothing else is changed
pub record Shares (old new : List (Option Entry)) (more : ℕ → ℕ) : Type 0 where
  pub size : length new ≡ length old
  pub tokens : (h : ℕ) → tokens_at new h ≡ tokens_at old h
  pub places : (h : ℕ) → places_at new h ≡ places_at old h
  pub holders : (h : ℕ) → holders_at new h ≡ holders_at old h + more h
  pub held : (h : ℕ) → 0 < more h → IsHeld old h

-- the gaps in front are passed over and the item behind them is handed on
pub record CallGives (old new : List (Option Entry)) (c c' : WholeCall) (item : Item) (left : List Item) : Type 0 where
  pub after : put_of_call new c' ≡ record { list = number c.body; body = true; arguments = map argument_list (cells_in old c.args); reading = argument_of item; items = left }
  pub stands : IsCall new c'
  pub shares : Shares old new (opened (Some item))
  pub held : (h : ℕ) → call_holds c' h ≡ call_holds c h + opened (Some item) h
  pub levels : call_open c'.argument ≡ call_open c.argument + cond (opens (met_of item)) 1 0

abbrev pub CallPulls : (old new : List (Option Entry)) → WholeCall → WholeCall → List Item → Option Token → Type 0
CallPulls old new c c' [] result = result ≡ None
CallPulls old new c c' (x ∷ xs) result = (result ≡ Some (token_in x)) × CallGives old new c c' x xs

-- An argument's level of which no token is left goes; where none goes, nothing changes.
abbrev pub Closes : (old new : List (Option Entry)) → WholeCall → WholeCall → Bool → Type 0
Closes old new c c' true = (c' ≡ record { body = c.body; argument = None; args = c.args }) × (open_tokens old c.argument ≡ []) × (call_open c.argument ≡ 1) × Moves old new (open_holds c.argument) none × Keeps old new (open_holds c.argument)
Closes old new c c' false = (new ≡ old) × (c' ≡ c) × (open_tokens old c.argument ≡ [] → c.argument ≡ None)

-- an item is handed on, and the argument whose level stands then has the items behind it
pub record Hands (old new : List (Option Entry)) (item : Item) (items : List Item) (handed : Token) (argument : Option Reader) : Type 0 where
  pub token : handed ≡ token_in item
  pub left : open_items new argument ≡ items
  pub reading : open_number argument ≡ argument_of item
  pub levels : count_of (open_number argument) ≡ cond (opens (met_of item)) 1 0
  pub at_next : IfSome argument (λ r. IsAt new r)
  pub holds : (h : ℕ) → open_holds argument h ≡ opened (Some item) h
  pub shares : Shares old new (opened (Some item))

abbrev pub HandsOn : (old new : List (Option Entry)) → List Item → Token → Option Reader → Type 0
HandsOn old new [] token argument = ⊥
HandsOn old new (x ∷ xs) token argument = Hands old new x xs token argument

abbrev pub is_gap : Option Item → Bool
is_gap None = false
is_gap (Some (Text t)) = false
is_gap (Some (First n t)) = false
is_gap (Some (Later n t)) = false
is_gap (Some Gap) = true
