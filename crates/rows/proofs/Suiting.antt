-- What a command sets stands at a location that is there, and suits it: a category code was read in its range, a list is that of a location that is one. What is
-- computed, put or shown stands at a location that is there too.
use Rattle.std.proofs.Common.{◌≡◌, ◌<◌, ℕ, ℤ, pos, negsuc, ◌-◌, Bool, true, false, List, [], ◌∷◌, ◌++◌, refl, sym, subst, arith}
use Rattle.std.specs.Prelude.{Option, None, Some, nat_le, nat_lt, ◌==◌, ◌&&◌, if◌then◌else◌}
use Rattle.std.proofs.lemmas.Bool.Decides.{nat_tests}
use Rattle.tex_defs.specs.declared.Token.{Token}
use Rattle.tex_defs.specs.declared.Seen.{Seen}
use Rattle.tex_defs.specs.declared.Meaning.{Meaning}
use Rattle.tex_defs.specs.declared.Meaning.TheVariants as means
use Rattle.tex_defs.specs.declared.RegisterKind.TheVariants as register
use Rattle.tex_syntax.specs.declared.words.Want.{Want}
use Rattle.plain_tokens.specs.Names.{means_relax}
use Rattle.plain_tokens.specs.Categories.{is_between}
use Rattle.equivalents.specs.declared.values.CodeKind.TheVariants as code
use Rattle.equivalents.specs.declared.values.Loc.{Loc}
use Rattle.equivalents.specs.declared.values.Loc.TheVariants as loc
use Rattle.equivalents.specs.Locations.{IsCategory}
use Rattle.rows.specs.declared.words.Datum.{Datum}
use Rattle.rows.specs.declared.words.Datum.TheVariants as datum
use Rattle.rows.specs.declared.words.Value.{Value}
use Rattle.rows.specs.declared.words.Value.TheVariants as value
use Rattle.rows.specs.declared.words.Phrase.{Phrase}
use Rattle.rows.specs.declared.words.Phrase.TheVariants as phrase
use Rattle.rows.specs.declared.stage.Stage.{Stage}
use Rattle.rows.specs.declared.stage.Stage.TheVariants.{NumberTo, NumberUpTo, Equals, InternalValue, MacroText, TokenList, Variable}
use Rattle.rows.specs.declared.stage.Start.{Start}
use Rattle.rows.specs.declared.stage.Start.TheVariants.{Looks, Begins}
use Rattle.rows.specs.declared.stage.Met.{Met}
use Rattle.rows.specs.declared.stage.Met.TheVariants as met
use Rattle.rows.specs.declared.stage.Got.{Got}
use Rattle.rows.specs.declared.stage.Got.TheVariants as got
use Rattle.rows.specs.declared.stage.Next.{Next}
use Rattle.rows.specs.declared.stage.Next.TheVariants as next
use Rattle.rows.specs.declared.stage.Note.{Note}
use Rattle.rows.specs.declared.stage.Note.TheVariants as note
use Rattle.rows.specs.declared.arithmetic.Operation.{Operation}
use Rattle.rows.specs.declared.command.Action.{Action}
use Rattle.rows.specs.declared.command.Action.TheVariants as action
use Rattle.rows.specs.declared.command.Test.{Test}
use Rattle.rows.specs.declared.command.Test.TheVariants as test
use Rattle.rows.specs.declared.command.Call.{Call}
use Rattle.rows.specs.declared.command.Head.{Head}
use Rattle.rows.specs.declared.command.Head.TheVariants.{Primitive, Register}
use Rattle.rows.specs.declared.command.Row.{Row}
use Rattle.rows.specs.declared.command.TheConstants.{SYNTAX}
use Rattle.rows.specs.declared.internal.Bank.{Bank}
use Rattle.rows.specs.declared.internal.Bank.TheVariants as bank
use Rattle.rows.specs.declared.internal.Internal.{Internal}
use Rattle.rows.specs.declared.internal.Internal.TheVariants as internal
use Rattle.rows.specs.declared.command.Effect.TheVariants as effect
use Rattle.rows.specs.Arithmetic.{number_in, glue_in}
use Rattle.rows.specs.Effects.{comes_to, set_to, list_to, value_made, shows_datum}
use Rattle.rows.specs.Internal.{byte_of, first_integer, last_integer, first_dimension, last_dimension, first_glue, last_glue, first_list, last_list, location_in, internal_of, internal_parameter, internal_primitive, is_glue, is_list, list_of, list_parameter, or_else, value_of, variable_of, variable_primitive}
use Rattle.rows.specs.Readings.{Fed, Tok, Val, Noted}
use Rattle.rows.specs.Commands.{CommandAsk, command_ask}
use Rattle.rows.specs.Run.{StageOutcome, Asks, Takes, Passes, Gathers, Makes, Becomes, comes, due, noted, valued, inner, begins, numbers, met_with, looks, again, started, behind, run, no_turn, turned, row}
use Rattle.rows.specs.Stages.{datum_at, location_read, start, internal_met, numbered_by, on_token, on_value, on_datum, on_list}
use Rattle.rows.specs.Table.{stages_in, stages_of, find_row, parameter_row, row_among, row_or_token, action_of, assignment_to}
use Rattle.rows.specs.Tests.{tested}
use Rattle.rows.specs.Tokens.{is_at_most, is_up_to, is_equals}
use Rattle.rows.specs.Suiting.{IsThere, IsVariable, IsSuited, AsksSuited, TakesAll, TakesList}

-- STAGES

-- what stands at a location is there, and is a list
abbrev UsesThere : Datum → Type 0
UsesThere (datum.At l) = IsThere l
UsesThere d = Unit {0}

abbrev UsesList : Datum → Type 0
UsesList (datum.At l) = TakesList l
UsesList d = Unit {0}

-- what a stage may have read: a number in its range; the location of a variable; a number, or a location that is there; that of a list; an `=` isn't kept
abbrev IsRead : Stage → Datum → Type 0
IsRead (NumberTo greatest complaint) d = is_at_most greatest (number_in d) ≡ true
IsRead Variable d = IsVariable (location_read d)
IsRead InternalValue d = UsesThere d
IsRead TokenList d = UsesList d
IsRead Equals d = ⊥
IsRead s d = Unit {0}

-- whether it may be over with nothing that is kept, whether it may look at a token, and whether it may be an inner reading
abbrev MayPass : Stage → Type 0
MayPass (NumberTo greatest complaint) = ⊥
MayPass Variable = ⊥
MayPass InternalValue = ⊥
MayPass TokenList = ⊥
MayPass s = Unit {0}

abbrev MayLook : Stage → Type 0
MayLook (NumberTo greatest complaint) = ⊥
MayLook s = Unit {0}

abbrev MayBegin : Stage → Type 0
MayBegin Equals = ⊥
MayBegin Variable = ⊥
MayBegin InternalValue = ⊥
MayBegin s = Unit {0}

abbrev StartFits : Stage → Start → Type 0
StartFits s (Looks want) = MayLook s
StartFits s (Begins k) = MayBegin s

abbrev NextFits : Stage → Next → Type 0
NextFits s (next.Takes d) = IsRead s d
NextFits s n = Unit {0}

abbrev MetFits : Stage → Met → Type 0
MetFits s (met.Takes d) = IsRead s d
MetFits s met.Passes = MayPass s
MetFits s met.Leaves = MayPass s
MetFits s (met.Notes n m) = NextFits s m
MetFits s (met.Numbers b) = (n : ℕ) → IsRead s (datum.At (location_in b n))
MetFits s (met.Begins k) = MayBegin s
MetFits s m = Unit {0}

abbrev GotFits : Stage → Got → Type 0
GotFits s (got.Takes d) = IsRead s d
GotFits s (got.Tells report m) = NextFits s m
GotFits s g = Unit {0}

abbrev Fits : Stage → StageOutcome → Type 0
Fits s (Asks a) = AsksSuited (command_ask a)
Fits s (Takes d fed) = IsRead s d
Fits s (Passes fed) = MayPass s
Fits s o = Unit {0}

start_fits : (s : Stage) (c : Call) (ds : List Datum) → StartFits s (start s c ds)
start_fits (NumberTo greatest complaint) c ds = tt
start_fits s c ds = tt

any_next : (s : Stage) → ((d : Datum) → IsRead s d) → (m : Next) → NextFits s m
any_next s h (next.Takes d) = h d
any_next s h m = tt

any_met : (s : Stage) → MayPass s → MayBegin s → ((d : Datum) → IsRead s d) → (m : Met) → MetFits s m
any_met s pass begin h (met.Takes d) = h d
any_met s pass begin h met.Passes = pass
any_met s pass begin h met.Leaves = pass
any_met s pass begin h (met.Notes n m) = any_next s h m
any_met s pass begin h (met.Numbers b) = λ n. h (datum.At (location_in b n))
any_met s pass begin h (met.Begins k) = begin
any_met s pass begin h m = tt

met_if : (s : Stage) (b : Bool) (l m : Met) → MetFits s l → MetFits s m → MetFits s (if b then l else m)
met_if s true l m h i = h
met_if s false l m h i = i

-- what a token stands for, where it is to be read
abbrev InternalFits : Stage → Option Internal → Type 0
InternalFits s (Some (internal.Given n)) = IsRead s (datum.Number (pos n))
InternalFits s (Some (internal.At l)) = IsRead s (datum.At l)
InternalFits s (Some (internal.Numbered b)) = (n : ℕ) → IsRead s (datum.At (location_in b n))
InternalFits s None = Unit {0}

internal_met_fits : (s : Stage) (otherwise : Met) (o : Option Internal) → MetFits s otherwise → InternalFits s o → MetFits s (internal_met otherwise o)
internal_met_fits s otherwise (Some (internal.Given n)) h i = i
internal_met_fits s otherwise (Some (internal.At l)) h i = i
internal_met_fits s otherwise (Some (internal.Numbered b)) h i = i
internal_met_fits s otherwise None h i = h

internal_if : (s : Stage) (b : Bool) (l o : Option Internal) → (b ≡ true → InternalFits s l) → InternalFits s o → InternalFits s (if b then l else o)
internal_if s true l o h i = h refl
internal_if s false l o h i = i

-- the parameters are as many as there are locations of their kind
parameter_varies : (n : ℕ) → InternalFits Variable (internal_parameter n)
parameter_varies n =
    internal_if Variable (is_between first_integer last_integer n) _ _ (λ is. (grind (arith, nat_tests, is), λ m. tt))
    (internal_if Variable (is_between first_dimension last_dimension n) _ _ (λ is. (grind (arith, nat_tests, is), λ m. tt))
    (internal_if Variable (is_between first_glue last_glue n) _ _ (λ is. (grind (arith, nat_tests, is), λ g. tt)) tt))

-- the registers are variables, and no codes
numbered_varies : (n : ℕ) → is_between 41 44 n ≡ true → InternalFits Variable (internal_primitive n)
numbered_varies n among =
    internal_if Variable (n == 35) _ _ (λ is. absurd (grind (arith, nat_tests, is, among)))
    (internal_if Variable (n == 36) _ _ (λ is. absurd (grind (arith, nat_tests, is, among)))
    (internal_if Variable (n == 37) _ _ (λ is. absurd (grind (arith, nat_tests, is, among)))
    (internal_if Variable (n == 38) _ _ (λ is. absurd (grind (arith, nat_tests, is, among)))
    (internal_if Variable (n == 39) _ _ (λ is. absurd (grind (arith, nat_tests, is, among)))
    (internal_if Variable (n == 40) _ _ (λ is. absurd (grind (arith, nat_tests, is, among)))
    (internal_if Variable (n == 41) _ _ (λ is. λ k. (tt, λ m. tt))
    (internal_if Variable (n == 42) _ _ (λ is. λ k. (tt, λ m. tt))
    (internal_if Variable (n == 43) _ _ (λ is. λ k. (tt, λ g. tt))
    (internal_if Variable (n == 44) _ _ (λ is. λ k. (tt, λ g. tt)) (parameter_varies n))))))))))

variable_primitive_fits : (n : ℕ) → InternalFits Variable (variable_primitive n)
variable_primitive_fits n = internal_if Variable (is_between 41 44 n) (internal_primitive n) (internal_parameter n) (numbered_varies n) (parameter_varies n)

variable_fits : (m : Meaning Unit) → InternalFits Variable (variable_of m)
variable_fits (means.Register register.Count n) = (tt, λ m. tt)
variable_fits (means.Register register.Dimen n) = (tt, λ m. tt)
variable_fits (means.Register register.Skip n) = (tt, λ g. tt)
variable_fits (means.Register register.Muskip n) = (tt, λ g. tt)
variable_fits (means.Register register.Toks n) = tt
variable_fits (means.Prim n) = variable_primitive_fits n
variable_fits m = tt

parameter_fits : (n : ℕ) → InternalFits InternalValue (internal_parameter n)
parameter_fits n =
    internal_if InternalValue (is_between first_integer last_integer n) _ _ (λ is. grind (arith, nat_tests, is))
    (internal_if InternalValue (is_between first_dimension last_dimension n) _ _ (λ is. grind (arith, nat_tests, is))
    (internal_if InternalValue (is_between first_glue last_glue n) _ _ (λ is. grind (arith, nat_tests, is)) tt))

internal_primitive_fits : (n : ℕ) → InternalFits InternalValue (internal_primitive n)
internal_primitive_fits n =
    internal_if InternalValue (n == 35) _ _ (λ is. λ k. tt)
    (internal_if InternalValue (n == 36) _ _ (λ is. λ k. tt)
    (internal_if InternalValue (n == 37) _ _ (λ is. λ k. tt)
    (internal_if InternalValue (n == 38) _ _ (λ is. λ k. tt)
    (internal_if InternalValue (n == 39) _ _ (λ is. λ k. tt)
    (internal_if InternalValue (n == 40) _ _ (λ is. λ k. tt)
    (internal_if InternalValue (n == 41) _ _ (λ is. λ k. tt)
    (internal_if InternalValue (n == 42) _ _ (λ is. λ k. tt)
    (internal_if InternalValue (n == 43) _ _ (λ is. λ k. tt)
    (internal_if InternalValue (n == 44) _ _ (λ is. λ k. tt) (parameter_fits n))))))))))

internal_fits : (m : Meaning Unit) → InternalFits InternalValue (internal_of m)
internal_fits (means.CharGiven c) = tt
internal_fits (means.MathGiven c) = tt
internal_fits (means.Register register.Toks n) = tt
internal_fits (means.Register kind n) = tt
internal_fits (means.Prim n) = internal_primitive_fits n
internal_fits m = tt

-- a list of tokens
list_parameter_fits : (n : ℕ) → InternalFits TokenList (list_parameter n)
list_parameter_fits n = internal_if TokenList (is_between first_list last_list n) _ _ (λ is. (grind (arith, nat_tests, is), refl)) tt

list_of_fits : (m : Meaning Unit) → InternalFits TokenList (list_of m)
list_of_fits (means.Register register.Toks n) = (tt, refl)
list_of_fits (means.Prim n) = internal_if TokenList (n == 45) (Some (internal.Numbered (bank.Registers register.Toks))) (list_parameter n) (λ is. λ k. (tt, refl)) (list_parameter_fits n)
list_of_fits m = tt

-- is there
list_is_there : (o : Option Internal) → InternalFits TokenList o → InternalFits InternalValue o
list_is_there (Some (internal.Given n)) h = tt
list_is_there (Some (internal.At l)) h = h.0
list_is_there (Some (internal.Numbered b)) h = λ n. (h n).0
list_is_there None h = tt

or_else_fits : (s : Stage) (o p : Option Internal) → InternalFits s o → InternalFits s p → InternalFits s (or_else o p)
or_else_fits s None p h i = i
or_else_fits s (Some x) p h i = h

value_of_fits : (m : Meaning Unit) → InternalFits InternalValue (value_of m)
value_of_fits m = or_else_fits InternalValue (internal_of m) (list_of m) (internal_fits m) (list_is_there (list_of m) (list_of_fits m))

token_fits : (s : Stage) → MayLook s → (c : Call) (x : Seen) → MetFits s (on_token s c x)
token_fits (NumberTo greatest complaint) look c x = absurd look
token_fits Variable look c x = internal_met_fits Variable _ (variable_of x.meaning) tt (variable_fits x.meaning)
token_fits InternalValue look c x = internal_met_fits InternalValue _ (value_of x.meaning) tt (value_of_fits x.meaning)
token_fits TokenList look c x =
    met_if TokenList (means_relax x.meaning) (met.Skips c) (internal_met (met.Begins (phrase.Text c.name false)) (list_of x.meaning)) tt
    (internal_met_fits TokenList (met.Begins (phrase.Text c.name false)) (list_of x.meaning) tt (list_of_fits x.meaning))
token_fits Equals look c x = met_if Equals (is_equals x) met.Passes met.Leaves tt tt
token_fits s look c x = any_met s tt tt (λ d. tt) (on_token s c x)

-- a number out of its range is 0
range_fits : (b : Bool) (s : Stage) (n : ℤ) (l m : Got) → (b ≡ true → GotFits s l) → GotFits s m → GotFits s (if b then l else m)
range_fits true s n l m h i = h refl
range_fits false s n l m h i = i

zero_is_read : (greatest : ℕ) → is_at_most greatest (pos 0) ≡ true
zero_is_read greatest = grind (arith, nat_tests)

datum_fits : (s : Stage) → MayBegin s → (d : Datum) → GotFits s (on_datum s d)
datum_fits (NumberTo greatest complaint) h d =
    range_fits (is_at_most greatest (number_in d)) (NumberTo greatest complaint) (number_in d) _ _ (λ h. h) (zero_is_read greatest)
datum_fits (NumberUpTo greatest) h d = range_fits (is_up_to greatest (number_in d)) (NumberUpTo greatest) (number_in d) _ _ (λ is. tt) tt
datum_fits TokenList h d = tt
datum_fits Equals h d = absurd h
datum_fits Variable h d = absurd h
datum_fits InternalValue h d = absurd h
datum_fits s h d = tt

list_fits : (s : Stage) → GotFits s (on_list s)
list_fits (MacroText expanded) = tt
list_fits s = tt

value_fits : (s : Stage) → MayBegin s → (v : Value) → GotFits s (on_value s v)
value_fits s h (value.Plain d) = datum_fits s h d
value_fits s h value.List = list_fits s

numbered_fits : (s : Stage) (b : Bank) → ((n : ℕ) → IsRead s (datum.At (location_in b n))) → (v : Value) → GotFits s (numbered_by b v)
numbered_fits s b h (value.Plain (datum.Number n)) = range_fits (is_at_most 255 n) s n _ _ (λ is. h (byte_of n)) (h 0)
numbered_fits s b h v = h 0

due_sets : (n : Note) → AsksSuited (command_ask (due n))
due_sets (note.Tells report back) = tt
due_sets (note.Inserts t report back) = tt
due_sets (note.Relaxes c n) = tt

comes_fits : (s : Stage) (m : Next) → NextFits s m → (fed : List Fed) → Fits s (comes m fed)
comes_fits s (next.Takes d) h fed = h
comes_fits s next.Stops h fed = tt
comes_fits s (next.Unassigned c) h fed = tt
comes_fits s (next.Becomes c) h fed = tt

noted_fits : (s : Stage) (n : Note) (m : Next) → NextFits s m → (fed : List Fed) → Fits s (noted n m fed)
noted_fits s n m h [] = due_sets n
noted_fits s n m h (Noted ∷ fed) = comes_fits s m h fed
noted_fits s n m h (y ∷ fed) = tt

valued_fits : (s : Stage) (g : Got) → GotFits s g → (ts : List Token) (fed : List Fed) → Fits s (valued g ts fed)
valued_fits s (got.Takes d) h ts fed = h
valued_fits s (got.Tells report m) h ts fed = noted_fits s (note.Tells report false) m h fed
valued_fits s got.Gathers h ts fed = tt
valued_fits s got.Defines h ts fed = tt

inner_fits : (s : Stage) → MayBegin s → (k : Phrase) (fed : List Fed) → Fits s (inner s k fed)
inner_fits s h k [] = tt
inner_fits s h k (Val v ts ∷ fed) = valued_fits s (on_value s v) (value_fits s h v) ts fed
inner_fits s h k (y ∷ fed) = tt

begins_fits : (s : Stage) → MayBegin s → (k : Phrase) (fed : List Fed) → Fits s (begins s k fed)
begins_fits s h k [] = tt
begins_fits s h k (Tok x ∷ fed) = inner_fits s h k fed
begins_fits s h k (Val v ts ∷ fed) = valued_fits s (on_value s v) (value_fits s h v) ts fed
begins_fits s h k (y ∷ fed) = tt

numbers_fits : (s : Stage) (b : Bank) → ((n : ℕ) → IsRead s (datum.At (location_in b n))) → (fed : List Fed) → Fits s (numbers b fed)
numbers_fits s b h [] = tt
numbers_fits s b h (Val v ts ∷ fed) = valued_fits s (numbered_by b v) (numbered_fits s b h v) ts fed
numbers_fits s b h (y ∷ fed) = tt

met_with_fits : (s : Stage) (x : Seen) (m : Met) → MetFits s m → (skipped : Call → StageOutcome) (retried : Note → StageOutcome) (fed : List Fed) → ((c : Call) → Fits s (skipped c)) → ((n : Note) → Fits s (retried n)) →
    Fits s (met_with s (Tok x) m skipped retried fed)
met_with_fits s x (met.Takes d) h skipped retried fed i j = h
met_with_fits s x met.Passes h skipped retried fed i j = h
met_with_fits s x met.Leaves h skipped retried fed i j = h
met_with_fits s x (met.Skips c) h skipped retried fed i j = i c
met_with_fits s x (met.Notes n m) h skipped retried fed i j = noted_fits s n m h fed
met_with_fits s x (met.Retries n) h skipped retried fed i j = j n
met_with_fits s x (met.Numbers b) h skipped retried fed i j = numbers_fits s b h fed
met_with_fits s x (met.Begins k) h skipped retried fed i j = inner_fits s h k fed
met_with_fits s x (met.Becomes c) h skipped retried fed i j = tt

mutual
  looks_fits : (s : Stage) → MayLook s → (c : Call) (want : Want) (fed : List Fed) → Fits s (looks s c want fed)
  looks_fits s look c want [] = tt
  looks_fits s look c want (Tok x ∷ fed) =
      met_with_fits s x (on_token s c x) (token_fits s look c x) (λ d. looks s d want fed) (λ n. again s c want n fed) fed (λ d. looks_fits s look d want fed) (λ n. again_fits s look c want n fed)
  looks_fits s look c want (y ∷ fed) = tt

  again_fits : (s : Stage) → MayLook s → (c : Call) (want : Want) (n : Note) (fed : List Fed) → Fits s (again s c want n fed)
  again_fits s look c want n [] = due_sets n
  again_fits s look c want n (Noted ∷ fed) = looks_fits s look c want fed
  again_fits s look c want n (y ∷ fed) = tt

started_fits : (s : Stage) (c : Call) (b : Start) → StartFits s b → (fed : List Fed) → Fits s (started s c b fed)
started_fits s c (Looks want) h fed = looks_fits s h c want fed
started_fits s c (Begins k) h fed = begins_fits s h k fed

-- ROWS

-- Behind these stages, and before each of them, the action has read what it may come to, where these things were.
abbrev ReadsSmall : Action → List Stage → List Datum → Type 0
ReadsSmall a [] ds = IsSuited (comes_to a ds)
ReadsSmall a (s ∷ ss) ds = IsSuited (comes_to a ds) × (((d : Datum) → IsRead s d → ReadsSmall a ss (ds ++ d ∷ [])) × (MayPass s → ReadsSmall a ss ds))

module _ (turn : Call → List Fed → CommandAsk) (turns : (c : Call) (fed : List Fed) → AsksSuited (command_ask (turn c fed))) where
  behind_sets : (c : Call) (s : Stage) (ds : List Datum) (onward : List Datum → List Fed → CommandAsk) → IsSuited (comes_to (action_of c.head) ds) → ((d : Datum) → IsRead s d → (fed : List Fed) → AsksSuited (command_ask (onward (ds ++ d ∷ []) fed))) → (MayPass s → (fed : List Fed) → AsksSuited (command_ask (onward ds fed))) →
      (o : StageOutcome) → Fits s o → AsksSuited (command_ask (behind turn c ds onward o))
  behind_sets c s ds onward now h i (Asks a) fits = fits
  behind_sets c s ds onward now h i (Takes d fed) fits = h d fits fed
  behind_sets c s ds onward now h i (Passes fed) fits = i fits fed
  behind_sets c s ds onward now h i (Gathers ts) fits = now
  behind_sets c s ds onward now h i (Makes ts) fits = tt
  behind_sets c s ds onward now h i (Becomes d fed) fits = turns d fed

  run_sets : (c : Call) (ss : List Stage) (ds : List Datum) → ReadsSmall (action_of c.head) ss ds → (fed : List Fed) → AsksSuited (command_ask (run turn c ss ds fed))
  run_sets c [] ds h fed = h
  run_sets c (s ∷ ss) ds h fed =
      behind_sets c s ds (λ es more. run turn c ss es more) h.0 (λ d read more. run_sets c ss (ds ++ d ∷ []) (h.1.0 d read) more) (λ pass more. run_sets c ss ds (h.1.1 pass) more)
      (started s c (start s c ds) fed) (started_fits s c (start s c ds) (start_fits s c ds) fed)

-- THE TABLE, of which each row is tried

abbrev is_category_row : List Stage → Bool
is_category_row (NumberTo m first ∷ Equals ∷ NumberTo n second ∷ []) = nat_le n 15
is_category_row ss = false

-- rows of one that reads a variable, or what stands for a value, before all else
abbrev is_variable_row : List Stage → Bool
is_variable_row (Variable ∷ ss) = true
is_variable_row ss = false

abbrev is_internal_row : List Stage → Bool
is_internal_row (InternalValue ∷ ss) = true
is_internal_row ss = false

-- those of one that reads a list for a parameter or a register, and for the register of a number
abbrev is_list_row : List Stage → Bool
is_list_row (Equals ∷ TokenList ∷ []) = true
is_list_row ss = false

abbrev is_register_row : List Stage → Bool
is_register_row (NumberTo n complaint ∷ Equals ∷ TokenList ∷ []) = true
is_register_row ss = false

-- a register or a parameter that arithmetic changes
abbrev is_variable : Loc → Bool
is_variable (loc.Integer i) = nat_lt i 55
is_variable (loc.Dimension i) = nat_lt i 21
is_variable (loc.Glue i) = nat_lt i 18
is_variable (loc.Register register.Toks n) = false
is_variable (loc.Register kind n) = true
is_variable l = false

-- a value for this location is read by this row
abbrev is_read_for : Loc → List Stage → Bool
is_read_for (loc.Tokens i) ss = nat_lt i 8 && is_list_row ss
is_read_for (loc.Register register.Toks n) ss = is_list_row ss
is_read_for l ss = is_variable l

abbrev reads_if_set : Action → List Stage → Bool
reads_if_set (action.SetCode code.Category) ss = is_category_row ss
reads_if_set (action.SetAt l) ss = is_read_for l ss
reads_if_set (action.SetRegister register.Toks) ss = is_register_row ss
reads_if_set (action.Compute operation) ss = is_variable_row ss
reads_if_set action.MakeValue ss = is_internal_row ss
reads_if_set action.ShowValue ss = is_internal_row ss
reads_if_set a ss = true

abbrev all_read : List (ℕ × Row × Action) → Bool
all_read [] = true
all_read (first ∷ rows) = reads_if_set first.2 (stages_in first.1) && all_read rows

table_reads : all_read SYNTAX.now ≡ true
table_reads = refl

category : (greatest : ℕ) (n : ℤ) → is_at_most greatest n ≡ true → nat_le greatest 15 ≡ true → IsCategory n
category greatest (pos n) h i = grind (arith, nat_tests, h, i)
category greatest (negsuc n) h i = absurd cc

-- whatever is read
any_reads : (a : Action) → ((ds : List Datum) → IsSuited (comes_to a ds)) → (ss : List Stage) (ds : List Datum) → ReadsSmall a ss ds
any_reads a h [] ds = h ds
any_reads a h (s ∷ ss) ds = (h ds, (λ d read. any_reads a h ss (ds ++ d ∷ []), λ pass. any_reads a h ss ds))

category_reads : (ss : List Stage) → is_category_row ss ≡ true → ReadsSmall (action.SetCode code.Category) ss []
category_reads (NumberTo m first ∷ Equals ∷ NumberTo n second ∷ []) h =
    ((tt, omega arith), (λ a in_a. ((tt, omega arith), (λ b no. absurd no, λ pass. ((tt, omega arith), (λ d in_d. (tt, category n (number_in d) in_d h), λ no. absurd no)))), λ no. absurd no))
category_reads ss h = absurd cc

-- whatever is read behind what the first stage has read
first_reads : (a : Action) (d : Datum) → ((es : List Datum) → IsSuited (comes_to a (d ∷ es))) → (ss : List Stage) (es : List Datum) → ReadsSmall a ss (d ∷ es)
first_reads a d h [] es = h es
first_reads a d h (s ∷ ss) es = (h es, (λ e read. first_reads a d h ss (es ++ e ∷ []), λ pass. first_reads a d h ss es))

variable_reads : (operation : Operation) (ss : List Stage) → is_variable_row ss ≡ true → ReadsSmall (action.Compute operation) ss []
variable_reads operation (Variable ∷ ss) h = ((omega arith, λ n. tt), (λ d read. first_reads (action.Compute operation) d (λ es. read) ss [], λ no. absurd no))
variable_reads operation ss h = absurd cc

-- what is there is put or shown
made_small : (d : Datum) → UsesThere d → IsSuited (value_made d)
made_small (datum.At l) there = by (is_list l) refl where
  by : (b : Bool) → is_list l ≡ b → IsSuited (if b then effect.PutList l else effect.MakeValue l)
  by true is = (there, is)
  by false is = there
made_small d there = tt

shown_small : (d : Datum) → UsesThere d → IsSuited (shows_datum d)
shown_small (datum.At l) there = there
shown_small d there = tt

made_reads : (ss : List Stage) → is_internal_row ss ≡ true → ReadsSmall action.MakeValue ss []
made_reads (InternalValue ∷ ss) h = (tt, (λ d read. first_reads action.MakeValue d (λ es. made_small d read) ss [], λ no. absurd no))
made_reads ss h = absurd cc

shown_reads : (ss : List Stage) → is_internal_row ss ≡ true → ReadsSmall action.ShowValue ss []
shown_reads (InternalValue ∷ ss) h = (tt, (λ d read. first_reads action.ShowValue d (λ es. shown_small d read) ss [], λ no. absurd no))
shown_reads ss h = absurd cc

-- A location gets a list, another one's or the one that was read last.
list_small : (l : Loc) (d : Datum) → TakesList l → UsesList d → IsSuited (list_to l d)
list_small l (datum.At m) h i = (h, i)
list_small l d h i = h

parameter_reads : (i : ℕ) (ss : List Stage) → i < 8 → is_list_row ss ≡ true → ReadsSmall (action.SetAt (loc.Tokens i)) ss []
parameter_reads i (Equals ∷ TokenList ∷ []) there h =
    let list : TakesList (loc.Tokens i) = (there, refl) in
    (list, (λ d no. absurd no, λ pass. (list, (λ d read. list_small (loc.Tokens i) d list read, λ no. absurd no))))
parameter_reads i ss there h = absurd cc

named_reads : (n : ℕ) (ss : List Stage) → is_list_row ss ≡ true → ReadsSmall (action.SetAt (loc.Register register.Toks n)) ss []
named_reads n (Equals ∷ TokenList ∷ []) h = ((tt, refl), (λ d no. absurd no, λ pass. ((tt, refl), (λ d read. list_small (loc.Register register.Toks n) d (tt, refl) read, λ no. absurd no))))
named_reads n ss h = absurd cc

register_reads : (ss : List Stage) → is_register_row ss ≡ true → ReadsSmall (action.SetRegister register.Toks) ss []
register_reads (NumberTo n complaint ∷ Equals ∷ TokenList ∷ []) h = (
  (tt, refl),
  (
    λ a in_a. (
      (tt, refl),
      (
        λ b no. absurd no,
        λ pass. (
          (tt, refl),
          (λ d read. list_small (loc.Register register.Toks (byte_of (number_in a))) d (tt, refl) read, λ no. absurd no),
        ),
      ),
    ),
    λ no. absurd no,
  ),
)
register_reads ss h = absurd cc

-- What a variable gets suits it, where it is no list.
set_small : (l : Loc) → is_list l ≡ false → IsVariable l → (d : Datum) → IsSuited (set_to l d)
set_small l plain h d = subst (λ (b : Bool). IsSuited (if b then list_to l d else if is_glue l then effect.SetGlue l (glue_in d) else effect.SetNumber l (number_in d))) (sym plain) (by (is_glue l) h.1) where
  by : (b : Bool) → TakesAll b l → IsSuited (if b then effect.SetGlue l (glue_in d) else effect.SetNumber l (number_in d))
  by true takes = (h.0, takes (glue_in d))
  by false takes = (h.0, takes (number_in d))

at_reads : (l : Loc) (ss : List Stage) → is_read_for l ss ≡ true → ReadsSmall (action.SetAt l) ss []
at_reads (loc.Integer i) ss h = any_reads (action.SetAt (loc.Integer i)) (λ ds. set_small (loc.Integer i) refl (grind (arith, nat_tests, h), λ m. tt) (datum_at 0 ds)) ss []
at_reads (loc.Dimension i) ss h = any_reads (action.SetAt (loc.Dimension i)) (λ ds. set_small (loc.Dimension i) refl (grind (arith, nat_tests, h), λ m. tt) (datum_at 0 ds)) ss []
at_reads (loc.Glue i) ss h = any_reads (action.SetAt (loc.Glue i)) (λ ds. set_small (loc.Glue i) refl (grind (arith, nat_tests, h), λ g. tt) (datum_at 0 ds)) ss []
at_reads (loc.Tokens i) ss h = parameter_reads i ss (grind (arith, nat_tests, h)) (grind (arith, nat_tests, h))
at_reads (loc.Register register.Toks n) ss h = named_reads n ss h
at_reads (loc.Register kind n) ss h = any_reads (action.SetAt (loc.Register kind n)) (λ ds. (tt, tt)) ss []
at_reads l ss h = absurd cc

-- A test uses no location.
tested_small : (t : Test) (ds : List Datum) → IsSuited (tested t ds)
tested_small test.Meanings ds = tt
tested_small t ds = tt

row_reads : (a : Action) (ss : List Stage) → reads_if_set a ss ≡ true → ReadsSmall a ss []
row_reads (action.SetCode code.Category) ss h = category_reads ss h
row_reads (action.SetCode kind) ss h = any_reads (action.SetCode kind) (λ ds. (tt, tt)) ss []
row_reads (action.SetAt l) ss h = at_reads l ss h
row_reads (action.SetRegister register.Toks) ss h = register_reads ss h
row_reads (action.SetRegister kind) ss h = any_reads (action.SetRegister kind) (λ ds. (tt, tt)) ss []
row_reads (action.Compute operation) ss h = variable_reads operation ss h
row_reads action.MakeValue ss h = made_reads ss h
row_reads action.ShowValue ss h = shown_reads ss h
row_reads (action.Test t) ss h = any_reads (action.Test t) (tested_small t) ss []
row_reads a ss h = any_reads a (λ ds. tt) ss []

abbrev found_reads : Option (Row × Action) → Bool
found_reads o = reads_if_set (row_or_token o).1 (stages_in (row_or_token o).0)

found_if : (b d : Bool) (found : Row × Action) (o : Option (Row × Action)) → reads_if_set found.1 (stages_in found.0) && d ≡ true → (d ≡ true → found_reads o ≡ true) → found_reads (if b then Some found else o) ≡ true
found_if true d found o h i = grind (arith, nat_tests, h)
found_if false d found o h i = i (grind (arith, nat_tests, h))

among_reads : (n : ℕ) (rows : List (ℕ × Row × Action)) → all_read rows ≡ true → found_reads (row_among n rows) ≡ true
among_reads n [] h = refl
among_reads n (first ∷ rows) h = found_if (first.0 == n) (all_read rows) (first.1, first.2) (row_among n rows) h (among_reads n rows)

-- a parameter is one of those that there are, and read as it stands
abbrev InternalReads : Option Internal → Type 0
InternalReads (Some (internal.At l)) = found_reads (Some (assignment_to l)) ≡ true
InternalReads o = Unit {0}

read_if : (b : Bool) (l o : Option Internal) → (b ≡ true → InternalReads l) → InternalReads o → InternalReads (if b then l else o)
read_if true l o h i = h refl
read_if false l o h i = i

read_or_else : (o p : Option Internal) → InternalReads o → InternalReads p → InternalReads (or_else o p)
read_or_else None p h i = i
read_or_else (Some x) p h i = h

and_true : (b : Bool) → b ≡ true → b && true ≡ true
and_true true h = refl
and_true false h = h

parameter_is_read : (n : ℕ) → InternalReads (or_else (internal_parameter n) (list_parameter n))
parameter_is_read n = read_or_else (internal_parameter n) (list_parameter n)
    (read_if (is_between first_integer last_integer n) _ _ (λ is. grind (arith, nat_tests, is))
    (read_if (is_between first_dimension last_dimension n) _ _ (λ is. grind (arith, nat_tests, is))
    (read_if (is_between first_glue last_glue n) _ _ (λ is. grind (arith, nat_tests, is)) tt)))
    (read_if (is_between first_list last_list n) _ _ (λ is. and_true (nat_lt (n - first_list) 8) (grind (arith, nat_tests, is))) tt)

parameter_among : (n : ℕ) (o : Option Internal) → InternalReads o → found_reads (parameter_row n o) ≡ true
parameter_among n (Some (internal.At l)) h = h
parameter_among n (Some (internal.Given k)) h = among_reads n SYNTAX.now table_reads
parameter_among n (Some (internal.Numbered b)) h = among_reads n SYNTAX.now table_reads
parameter_among n None h = among_reads n SYNTAX.now table_reads

-- so is a register's name
head_reads : (h : Head) → found_reads (find_row h) ≡ true
head_reads (Primitive n) = parameter_among n (or_else (internal_parameter n) (list_parameter n)) (parameter_is_read n)
head_reads (Register register.Count n) = refl
head_reads (Register register.Dimen n) = refl
head_reads (Register register.Skip n) = refl
head_reads (Register register.Muskip n) = refl
head_reads (Register register.Toks n) = refl

reads_small : (h : Head) → ReadsSmall (action_of h) (stages_of h) []
reads_small h = row_reads (action_of h) (stages_of h) (head_reads h)

pub row_sets : (c : Call) (fed : List Fed) → AsksSuited (command_ask (row c fed))
row_sets c fed =
    run_sets turned (λ d more. run_sets no_turn (λ e rest. tt) d (stages_of d.head) [] (reads_small d.head) more) c (stages_of c.head) [] (reads_small c.head) fed
