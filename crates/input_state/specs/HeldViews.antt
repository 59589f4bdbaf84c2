-- The lists in main memory as plain lists: those of macros and locations may be shared, and each other list is held in one place.
use Rattle.std.specs.Prelude.{◌≡◌, ℕ, ◌+◌, ◌<◌, ◌≤◌, Bool, true, false, List, [], ◌∷◌, ◌++◌, map, reverse, length, Option, None, Some, All, option_to_list, sum_by}
use Rattle.tex_defs.specs.declared.Token.{Token}
use Rattle.tex_defs.specs.declared.Sizes.{Sizes}
use Rattle.tex_defs.specs.Sizes.{first_out_of_range}
use Rattle.plain_tokens.specs.Puts as plain
use Rattle.equivalents.specs.Holding.{list_of}
use Rattle.eqtb_save.specs.Table.{Table}
use Rattle.eqtb_save.specs.Holding as eqtb
use Rattle.token_lists.specs.declared.Build.{Build}
use Rattle.token_lists.specs.Ids.{build_id, IsBuilding}
use Rattle.token_lists.specs.Table.{Entry, tokens_at, tokens_of, holders_at}
use Rattle.token_lists.specs.Accounts.{holds}
use Rattle.input_stack.specs.Puts.{Put, Item, Text, First, Later, Gap, argument_of, numbers}
use Rattle.input_stack.specs.Pending.{Pending, Below, times}
use Rattle.input_stack.specs.View.{pending, held}
use Rattle.input_stack.specs.Stacks.{IsStack}
use Rattle.input_stack.specs.declared.stack.InputStack.{InputStack}
use Rattle.macro_args.specs.Args.{args_in, args_hold, IsFilled}
use Rattle.macro_call.specs.Scans as scans
use Rattle.macro_call.specs.Listed.{AreListed}
use Rattle.macro_call.specs.declared.scan.ArgScan.{ArgScan}
use Rattle.macro_args.specs.declared.args.Args.{Args}
use Rattle.tex_defs.specs.declared.Name.{Name}
use Rattle.plain_tokens.specs.Meanings.{name_meaning}
use Rattle.input_state.specs.HeldLists.{HeldLists, Covered}
use Rattle.input_state.specs.Callings.{Calling, NotCalling, Gathering, Stopped, Gathered}
use Rattle.input_state.specs.declared.gathering.Gathering as code
use Rattle.input_state.specs.declared.gathering.Gathering.TheVariants as call

-- an item without the number of its argument's list
abbrev pub plain_item : Item → plain.Item
plain_item (Text t) = plain.Text t
plain_item (First n t) = plain.First t
plain_item (Later n t) = plain.Later t
plain_item Gap = plain.Gap

-- a list that was put and may be shared has its number, another its own tokens
abbrev pub whole_of : Bool → ℕ → List Token → plain.Whole
whole_of true n ts = plain.Macro n
whole_of false n ts = plain.Own ts

abbrev pub argument_text : List (Option Entry) → Option ℕ → List Token
argument_text table None = []
argument_text table (Some n) = tokens_at table n

-- a list in front: its tokens or its number, the arguments of its call, and the items that are left
abbrev pub front : List (Option Entry) → Put → plain.Put
front table x = record { list = whole_of x.body x.list (tokens_at table x.list); arguments = map (argument_text table) x.arguments; items = map plain_item x.items }

abbrev pub fronts : List (Option Entry) → List Put → List plain.Put
fronts table ps = map (front table) ps

-- the tokens of a list that is being built
abbrev pub text : List (Option Entry) → Build → List Token
text table b = tokens_at table (build_id b)

abbrev pub made_text : List (Option Entry) → Option Build → Option (List Token)
made_text table None = None
made_text table (Some b) = Some (text table b)

-- the files, by their lines and the lists in front of what is beneath them
abbrev pub covered : List (Option Entry) → Below → Covered
covered table b = record { line = b.source.line; puts = fronts table b.puts }

abbrev pub covers : List (Option Entry) → List Below → List Covered
covers table bs = map (covered table) bs

-- all lists in front, the innermost line's first
abbrev pub puts_below : List Below → List Put
puts_below [] = []
puts_below (b ∷ bs) = b.puts ++ puts_below bs

abbrev pub puts_in : Pending → List Put
puts_in p = p.puts ++ puts_below p.sources

-- all lists, by their numbers
abbrev pub texts : List (Option Entry) → List (List Token)
texts table = map tokens_of table

-- what stands at all locations, and the call that is gathered
pub record Named : Type 0 where
  pub table : Table
  pub call : code.Gathering

abbrev pub named : Table → code.Gathering → Named
named t gathering = record { table = t; call = gathering }

abbrev pub calling_of : List (Option Entry) → code.Gathering → Calling
calling_of table call.None = NotCalling
calling_of table (call.Gathers name scan) = Gathering name (scans.scan_of table scan)
calling_of table (call.Stopped name why scan) = Stopped name why (scans.scan_of table scan)
calling_of table (call.Gathered name args) = Gathered name (args_in table args)

abbrev pub lists_of : List (Option Entry) → Pending → Option Build → List Build → Named → Sizes → HeldLists
lists_of table p making gathered m sizes = record {
  puts = fronts table p.puts;
  making = made_text table making;
  call = calling_of table m.call;
  builds = map (text table) (reverse gathered);
  below = covers table p.sources;
  sizes = sizes;
  groups = m.table.groups;
  closing = m.table.closing;
  ending = m.table.ending;
  lists = texts table;
}

-- an argument of a call, by the number of its list
abbrev pub IsOf : List (Option ℕ) → Option ℕ → Type 0
IsOf cells None = Unit {0}
IsOf cells (Some n) = 0 < times n (numbers cells)

abbrev pub AreOf : List (Option ℕ) → List Item → Type 0
AreOf cells [] = Unit {0}
AreOf cells (x ∷ xs) = IsOf cells (argument_of x) × AreOf cells xs

-- of arguments a list in front reads those of its call alone
pub record IsFront (p : Put) : Type 0 where
  pub reading : IsOf p.arguments p.reading
  pub items : AreOf p.arguments p.items

abbrev pub AreFronts : List Put → Type 0
AreFronts [] = Unit {0}
AreFronts (p ∷ ps) = IsFront p × AreFronts ps

-- the lists of the arguments in front
abbrev pub cells_of : List Put → List ℕ
cells_of [] = []
cells_of (p ∷ ps) = numbers p.arguments ++ cells_of ps

-- all lists that are being built
abbrev pub all_builds : Option Build → List Build → List Build
all_builds making gathered = option_to_list making ++ reverse gathered

-- how often they hold the list of a number
abbrev pub built : List Build → ℕ → ℕ
built bs h = sum_by (λ b. holds (build_id b) h) bs

-- WHO HOLDS A LIST

-- the lists that a list in front has for itself: its own, where it isn't shared, and its call's arguments
abbrev pub own_of : Bool → ℕ → List ℕ → List ℕ
own_of true n ns = ns
own_of false n ns = n ∷ ns

abbrev pub owns : List Put → List ℕ
owns [] = []
owns (p ∷ ps) = own_of p.body p.list (numbers p.arguments) ++ owns ps

abbrev pub body_of : Bool → ℕ → List ℕ
body_of true n = n ∷ []
body_of false n = []

-- the shared lists that are in front, macros' with their bodies
abbrev pub bodies : List Put → List ℕ
bodies [] = []
bodies (p ∷ ps) = body_of p.body p.list ++ bodies ps

-- the arguments whose levels are open
abbrev pub opens : List Put → List ℕ
opens [] = []
opens (p ∷ ps) = numbers (p.reading ∷ []) ++ opens ps

-- the call takes tokens
abbrev pub IsScanning : code.Gathering → Type 0
IsScanning call.None = ⊥
IsScanning (call.Gathers name scan) = Unit {0}
IsScanning (call.Stopped name why scan) = ⊥
IsScanning (call.Gathered name args) = ⊥

-- all arguments are there
abbrev pub HasArguments : code.Gathering → Type 0
HasArguments call.None = ⊥
HasArguments (call.Gathers name scan) = ⊥
HasArguments (call.Stopped name why scan) = ⊥
HasArguments (call.Gathered name args) = Unit {0}

-- how often a call holds the list of a number
abbrev pub call_holds : code.Gathering → ℕ → ℕ
call_holds call.None h = 0
call_holds (call.Gathers name scan) h = scans.scan_holds scan h
call_holds (call.Stopped name why scan) h = scans.scan_holds scan h
call_holds (call.Gathered name args) h = args_hold args h

-- how often locations, saved values and the call do
abbrev pub names_hold : Named → ℕ → ℕ
names_hold m h = eqtb.held m.table h + call_holds m.call h

-- A list in front of its own, an argument, a list of the call or one that is being built is that in one place, and isn't shared.
pub record IsApart (ps : List Put) (bs : List Build) (m : Named) : Type 0 where
  pub sole : (h : ℕ) → times h (owns ps) + (built bs h + call_holds m.call h) ≤ 1
  pub apart : (h : ℕ) → 0 < times h (owns ps) + (built bs h + call_holds m.call h) → times h (bodies ps) + eqtb.held m.table h ≡ 0

-- a shared list has a token, a macro's its end mark
pub record IsDefined (ts : List Token) : Type 0 where
  pub some : 0 < length ts

-- Each list is held by levels, builds, locations, saved values and the call.
pub record IsShared (table : List (Option Entry)) (stack : InputStack) (bs : List Build) (m : Named) : Type 0 where
  pub stands : IsStack table stack
  pub fronts : AreFronts (puts_in (pending table stack))
  pub building : All (IsBuilding table) bs
  pub counted : (h : ℕ) → holders_at table h ≡ held stack h + (built bs h + names_hold m h)
  pub apart : IsApart (puts_in (pending table stack)) bs m
  pub all_lists : (h : ℕ) → 0 < eqtb.held m.table h → IsDefined (tokens_at table h)
  -- an argument without tokens has no list
  pub listed : (h : ℕ) → 0 < times h (cells_of (puts_in (pending table stack))) → 0 < length (tokens_at table h)

-- THE CALL

-- the name means the macro over whose list the scanner stands
pub record IsGathering (table : List (Option Entry)) (t : Table) (name : Name) (scan : ArgScan) : Type 0 where
  pub id : ℕ
  pub list : list_of (name_meaning t.groups.now.meanings name) ≡ Some id
  pub sound : scans.IsSound table id scan

-- the name means a macro, and an argument without tokens has no list
pub record IsGathered (table : List (Option Entry)) (t : Table) (name : Name) (args : Args) : Type 0 where
  pub id : ℕ
  pub list : list_of (name_meaning t.groups.now.meanings name) ≡ Some id
  pub filled : IsFilled args
  pub listed : AreListed table args

abbrev pub IsCall : List (Option Entry) → Table → code.Gathering → Type 0
IsCall table t call.None = Unit {0}
IsCall table t (call.Gathers name scan) = IsGathering table t name scan
IsCall table t (call.Stopped name why scan) = scans.Owns table scan
IsCall table t (call.Gathered name args) = IsGathered table t name args

-- the sizes are in range, and there is room for what they admit
pub record IsSized (table : List (Option Entry)) (stack : InputStack) (m : Named) (sizes : Sizes) (capacity : ℕ) : Type 0 where
  pub memory : length table ≡ sizes.main_memory_size
  pub levels : stack.size ≡ sizes.input_stack_size
  pub parameters : stack.parameter_size ≡ sizes.parameter_stack_size
  pub equivalents : m.table.sizes ≡ sizes
  pub room : sizes.main_memory_size ≤ capacity
  pub ranges : first_out_of_range sizes ≡ None

pub record IsSound (table : List (Option Entry)) (stack : InputStack) (making : Option Build) (gathered : List Build) (m : Named) (sizes : Sizes) (capacity : ℕ) : Type 0 where
  pub shared : IsShared table stack (all_builds making gathered) m
  pub sized : IsSized table stack m sizes capacity
  pub call : IsCall table m.table m.call
