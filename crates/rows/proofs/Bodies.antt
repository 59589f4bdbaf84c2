-- What comes of a row that is fed with one more: a list becomes a macro's only where it is the value of a definition.
use Rattle.std.proofs.Common.{◌≡◌, ◌≢◌, Bool, true, false, List, [], ◌∷◌, ◌++◌, refl, sym, subst}
use Rattle.tex_defs.specs.declared.Token.{Token}
use Rattle.tex_defs.specs.declared.Seen.{Seen}
use Rattle.tex_syntax.specs.declared.words.Want.{Want}
use Rattle.rows.specs.declared.words.Value.{Value}
use Rattle.rows.specs.declared.words.Value.TheVariants as value
use Rattle.rows.specs.declared.words.Datum.{Datum}
use Rattle.rows.specs.declared.words.Datum.TheVariants as datum
use Rattle.rows.specs.declared.words.Phrase.{Phrase}
use Rattle.rows.specs.declared.words.Phrase.TheVariants.{Integer, Definition}
use Rattle.rows.specs.declared.internal.Bank.{Bank}
use Rattle.rows.specs.declared.stage.Stage.{Stage}
use Rattle.rows.specs.declared.stage.Stage.TheVariants.{MacroText, NumberTo, NumberUpTo}
use Rattle.rows.specs.declared.stage.Start.{Start}
use Rattle.rows.specs.declared.stage.Start.TheVariants.{Looks, Begins}
use Rattle.rows.specs.declared.stage.Met.{Met}
use Rattle.rows.specs.declared.stage.Met.TheVariants as met
use Rattle.rows.specs.declared.stage.Got.{Got}
use Rattle.rows.specs.declared.stage.Got.TheVariants as got
use Rattle.rows.specs.declared.stage.Next.{Next}
use Rattle.rows.specs.declared.stage.Next.TheVariants as next
use Rattle.rows.specs.declared.stage.Note.{Note}
use Rattle.rows.specs.declared.stage.Note.TheVariants as note
use Rattle.rows.specs.declared.command.Call.{Call}
use Rattle.rows.specs.Readings.{Fed, Tok, Val, Noted}
use Rattle.rows.specs.Commands.{CommandAsk, More, Inner, Defines, command_ask}
use Rattle.rows.specs.Stages.{start, on_token, on_value, on_datum, numbered_by}
use Rattle.rows.specs.Arithmetic.{number_in}
use Rattle.rows.specs.Tokens.{is_at_most, is_up_to}
use Rattle.std.specs.Prelude.{if◌then◌else◌}
use Rattle.rows.specs.Table.{stages_of}
use Rattle.rows.specs.Run.{StageOutcome, Asks, Takes, Passes, Gathers, Makes, Becomes, comes, due, noted, valued, inner, begins, numbers, met_with, looks, again, started, behind, run, no_turn, turned, row}
use Rattle.rows.specs.Laws.{HasBody, Brings}

-- A STAGE THAT IS FED WITH ONE MORE

-- what is left is nothing, or the token that came
abbrev IsSuited : List Fed → Type 0
IsSuited [] = Unit {0}
IsSuited (Tok x ∷ []) = Unit {0}
IsSuited fed = ⊥

-- no stage asks for a macro by itself
abbrev IsPlain : CommandAsk → Type 0
IsPlain (Defines c n ts) = ⊥
IsPlain a = Unit {0}

-- what comes where a stage asked for this
abbrev Follows : Fed → CommandAsk → StageOutcome → Type 0
Follows y a (Asks b) = IsPlain b
Follows y a (Takes d fed) = IsSuited fed
Follows y a (Passes fed) = IsSuited fed
Follows y a (Gathers ts) = Unit {0}
Follows y a (Makes ts) = Brings y (command_ask a) → ts ≢ []
Follows y a (Becomes c fed) = IsSuited fed

-- what came of a stage, and what comes of it with one more
abbrev Extends : Fed → StageOutcome → StageOutcome → Type 0
Extends y (Asks a) o = Follows y a o
Extends y (Takes d fed) o = o ≡ Takes d (fed ++ y ∷ [])
Extends y (Passes fed) o = o ≡ Passes (fed ++ y ∷ [])
Extends y (Gathers ts) o = o ≡ Gathers ts
Extends y (Makes ts) o = o ≡ Makes ts
Extends y (Becomes c fed) o = o ≡ Becomes c (fed ++ y ∷ [])

due_plain : (n : Note) → IsPlain (due n)
due_plain (note.Tells report back) = tt
due_plain (note.Inserts t report back) = tt
due_plain (note.Relaxes c n) = tt

comes_first : (y : Fed) (a : CommandAsk) (m : Next) → Follows y a (comes m [])
comes_first y a (next.Takes d) = tt
comes_first y a next.Stops = tt
comes_first y a (next.Unassigned c) = tt
comes_first y a (next.Becomes c) = tt

comes_more : (y : Fed) (m : Next) (fed : List Fed) → Extends y (comes m fed) (comes m (fed ++ y ∷ []))
comes_more y (next.Takes d) fed = refl
comes_more y next.Stops fed = tt
comes_more y (next.Unassigned c) fed = tt
comes_more y (next.Becomes c) fed = refl

noted_more : (y : Fed) (n : Note) (m : Next) (fed : List Fed) → Extends y (noted n m fed) (noted n m (fed ++ y ∷ []))
noted_more Noted n m [] = comes_first Noted (due n) m
noted_more y n m [] = tt
noted_more y n m (Noted ∷ fed) = comes_more y m fed
noted_more y n m (z ∷ fed) = tt

valued_more : (y : Fed) (g : Got) (ts : List Token) (fed : List Fed) → Extends y (valued g ts fed) (valued g ts (fed ++ y ∷ []))
valued_more y (got.Takes d) ts fed = refl
valued_more y (got.Tells report m) ts fed = noted_more y (note.Tells report false) m fed
valued_more y got.Gathers ts fed = refl
valued_more y got.Defines ts fed = refl

-- the list of a macro is that of a definition
abbrev Fits : Stage → Phrase → Type 0
Fits (MacroText expanded) (Definition n whole) = Unit {0}
Fits (MacroText expanded) k = ⊥
Fits s k = Unit {0}

-- a stage whose list is a macro's begins no reading with a token
abbrev FitsMet : Stage → Met → Type 0
FitsMet (MacroText expanded) (met.Begins k) = ⊥
FitsMet s m = Unit {0}

token_fits : (s : Stage) (c : Call) (x : Seen) → FitsMet s (on_token s c x)
token_fits (MacroText expanded) c x = tt
token_fits s c x = tt

-- the value for which a stage waits
abbrev NotDefines : Got → Type 0
NotDefines got.Defines = ⊥
NotDefines g = Unit {0}

value_plain : (y : Fed) (a : CommandAsk) (g : Got) (ts : List Token) → NotDefines g → Follows y a (valued g ts [])
value_plain y a (got.Takes d) ts h = tt
value_plain y a (got.Tells report m) ts h = tt
value_plain y a got.Gathers ts h = tt
value_plain y a got.Defines ts h = absurd h

macro_first : (v : Value) (ts : List Token) (expanded : Bool) (k : Phrase) (b : Bool) → Fits (MacroText expanded) k → Follows (Val v ts) (Inner k b) (valued (on_value (MacroText expanded) v) ts [])
macro_first value.List ts expanded (Definition n whole) b fits = λ h. h
macro_first (value.Plain d) ts expanded (Definition n whole) b fits = tt
macro_first v ts expanded k b fits = absurd fits

got_if : (b : Bool) (g h : Got) → NotDefines g → NotDefines h → NotDefines (if b then g else h)
got_if true g h i j = i
got_if false g h i j = j

datum_plain : (s : Stage) (d : Datum) → NotDefines (on_datum s d)
datum_plain (NumberTo greatest complaint) d = got_if (is_at_most greatest (number_in d)) _ _ tt tt
datum_plain (NumberUpTo greatest) d = got_if (is_up_to greatest (number_in d)) _ _ tt tt
datum_plain s d = tt

value_first : (s : Stage) (k : Phrase) (b : Bool) (v : Value) (ts : List Token) → Fits s k → Follows (Val v ts) (Inner k b) (valued (on_value s v) ts [])
value_first (MacroText expanded) k b v ts fits = macro_first v ts expanded k b fits
value_first s k b (value.Plain d) ts fits = value_plain (Val (value.Plain d) ts) (Inner k b) (on_datum s d) ts (datum_plain s d)
value_first s k b value.List ts fits = tt

inner_more : (y : Fed) (s : Stage) (k : Phrase) → Fits s k → (fed : List Fed) → Extends y (inner s k fed) (inner s k (fed ++ y ∷ []))
inner_more (Val v ts) s k fits [] = value_first s k true v ts fits
inner_more y s k fits [] = tt
inner_more y s k fits (Val v ts ∷ fed) = valued_more y (on_value s v) ts fed
inner_more y s k fits (z ∷ fed) = tt

begins_more : (y : Fed) (s : Stage) (k : Phrase) → Fits s k → (fed : List Fed) → Extends y (begins s k fed) (begins s k (fed ++ y ∷ []))
begins_more (Val v ts) s k fits [] = value_first s k false v ts fits
begins_more y s k fits [] = tt
begins_more y s k fits (Tok x ∷ fed) = inner_more y s k fits fed
begins_more y s k fits (Val v ts ∷ fed) = valued_more y (on_value s v) ts fed
begins_more y s k fits (z ∷ fed) = tt

-- the number of a register or of a character
numbered_plain : (bank : Bank) (v : Value) → NotDefines (numbered_by bank v)
numbered_plain bank (value.Plain (datum.Number n)) = got_if (is_at_most 255 n) _ _ tt tt
numbered_plain bank v = tt

numbers_more : (y : Fed) (bank : Bank) (fed : List Fed) → Extends y (numbers bank fed) (numbers bank (fed ++ y ∷ []))
numbers_more (Val v ts) bank [] = value_plain (Val v ts) (Inner Integer false) (numbered_by bank v) ts (numbered_plain bank v)
numbers_more y bank [] = tt
numbers_more y bank (Val v ts ∷ fed) = valued_more y (numbered_by bank v) ts fed
numbers_more y bank (z ∷ fed) = tt

met_fits : (s : Stage) (k : Phrase) → FitsMet s (met.Begins k) → Fits s k
met_fits (MacroText expanded) k fits = absurd fits
met_fits s k fits = tt

module _ (s : Stage) (c : Call) (want : Want) (x : Seen) where
  abbrev Met_of : Met → List Fed → StageOutcome
  Met_of m fed = met_with s (Tok x) m (λ d. looks s d want fed) (λ n. again s c want n fed) fed

  met_first : (m : Met) → Follows (Tok x) (More want) (Met_of m [])
  met_first (met.Takes d) = tt
  met_first met.Passes = tt
  met_first met.Leaves = tt
  met_first (met.Skips d) = tt
  met_first (met.Notes n m) = due_plain n
  met_first (met.Retries n) = due_plain n
  met_first (met.Numbers bank) = tt
  met_first (met.Begins k) = tt
  met_first (met.Becomes d) = tt

  met_more : (y : Fed) (m : Met) → FitsMet s m → (fed : List Fed) → ((d : Call) → Extends y (looks s d want fed) (looks s d want (fed ++ y ∷ []))) →
      ((n : Note) → Extends y (again s c want n fed) (again s c want n (fed ++ y ∷ []))) → Extends y (Met_of m fed) (Met_of m (fed ++ y ∷ []))
  met_more y (met.Takes d) fits fed h i = refl
  met_more y met.Passes fits fed h i = refl
  met_more y met.Leaves fits fed h i = refl
  met_more y (met.Skips d) fits fed h i = h d
  met_more y (met.Notes n m) fits fed h i = noted_more y n m fed
  met_more y (met.Retries n) fits fed h i = i n
  met_more y (met.Numbers bank) fits fed h i = numbers_more y bank fed
  met_more y (met.Begins k) fits fed h i = inner_more y s k (met_fits s k fits) fed
  met_more y (met.Becomes d) fits fed h i = refl

mutual
  looks_more : (y : Fed) (s : Stage) (c : Call) (want : Want) (fed : List Fed) → Extends y (looks s c want fed) (looks s c want (fed ++ y ∷ []))
  looks_more (Tok x) s c want [] = met_first s c want x (on_token s c x)
  looks_more y s c want [] = tt
  looks_more y s c want (Tok x ∷ fed) = met_more s c want x y (on_token s c x) (token_fits s c x) fed (λ d. looks_more y s d want fed) (λ n. again_more y s c want n fed)
  looks_more y s c want (z ∷ fed) = tt

  again_more : (y : Fed) (s : Stage) (c : Call) (want : Want) (n : Note) (fed : List Fed) → Extends y (again s c want n fed) (again s c want n (fed ++ y ∷ []))
  again_more Noted s c want n [] = tt
  again_more y s c want n [] = tt
  again_more y s c want n (Noted ∷ fed) = looks_more y s c want fed
  again_more y s c want n (z ∷ fed) = tt

abbrev FitsStart : Stage → Start → Type 0
FitsStart s (Looks want) = Unit {0}
FitsStart s (Begins k) = Fits s k

start_fits : (s : Stage) (c : Call) (ds : List Datum) → FitsStart s (start s c ds)
start_fits (MacroText expanded) c ds = tt
start_fits s c ds = tt

started_more : (y : Fed) (s : Stage) (c : Call) (begun : Start) → FitsStart s begun → (fed : List Fed) → Extends y (started s c begun fed) (started s c begun (fed ++ y ∷ []))
started_more y s c (Looks want) fits fed = looks_more y s c want fed
started_more y s c (Begins k) fits fed = begins_more y s k fits fed

-- A ROW THAT IS FED WITH ONE MORE

abbrev pub Keeps : Fed → CommandAsk → CommandAsk → Type 0
Keeps y a b = Brings y (command_ask a) → HasBody (command_ask a) → HasBody (command_ask b)

small_body : (onward : List Fed → CommandAsk) → HasBody (command_ask (onward [])) → ((x : Seen) → Keeps (Tok x) (onward []) (onward (Tok x ∷ []))) → (fed : List Fed) → IsSuited fed → HasBody (command_ask (onward fed))
small_body onward h more [] small = h
small_body onward h more (Tok x ∷ []) small = more x tt h
small_body onward h more fed small = absurd small

module _ (turn : Call → List Fed → CommandAsk) (turn_more : (c : Call) (fed : List Fed) (y : Fed) → Keeps y (turn c fed) (turn c (fed ++ y ∷ [])))
    (turn_small : (c : Call) (fed : List Fed) → IsSuited fed → HasBody (command_ask (turn c fed))) where
  abbrev After : Call → List Datum → (onward : List Datum → List Fed → CommandAsk) → StageOutcome → CommandAsk
  After c ds onward o = behind turn c ds onward o

  module _ (c : Call) (ds : List Datum) (onward : List Datum → List Fed → CommandAsk)
      (more : (es : List Datum) (fed : List Fed) (y : Fed) → Keeps y (onward es fed) (onward es (fed ++ y ∷ [])))
      (small : (es : List Datum) (fed : List Fed) → IsSuited fed → HasBody (command_ask (onward es fed))) where
    follows_body : (y : Fed) (a : CommandAsk) (o : StageOutcome) → Follows y a o → Brings y (command_ask a) → HasBody (command_ask (After c ds onward o))
    follows_body y a (Asks (Defines d n ts)) f h = absurd f
    follows_body y a (Asks b) f h = tt
    follows_body y a (Takes d fed) f h = small (ds ++ d ∷ []) fed f
    follows_body y a (Passes fed) f h = small ds fed f
    follows_body y a (Gathers ts) f h = tt
    follows_body y a (Makes ts) f h = f h
    follows_body y a (Becomes d fed) f h = turn_small d fed f

    behind_more : (y : Fed) (o p : StageOutcome) → Extends y o p → Keeps y (After c ds onward o) (After c ds onward p)
    behind_more y (Asks a) p e h i = follows_body y a p e h
    behind_more y (Takes d fed) p e h i = subst (λ (o : StageOutcome). HasBody (command_ask (After c ds onward o))) (sym e) (more (ds ++ d ∷ []) fed y h i)
    behind_more y (Passes fed) p e h i = subst (λ (o : StageOutcome). HasBody (command_ask (After c ds onward o))) (sym e) (more ds fed y h i)
    behind_more y (Gathers ts) p e h i = subst (λ (o : StageOutcome). HasBody (command_ask (After c ds onward o))) (sym e) tt
    behind_more y (Makes ts) p e h i = subst (λ (o : StageOutcome). HasBody (command_ask (After c ds onward o))) (sym e) i
    behind_more y (Becomes d fed) p e h i = subst (λ (o : StageOutcome). HasBody (command_ask (After c ds onward o))) (sym e) (turn_more d fed y h i)

  -- a row that was fed with nothing makes no macro
  first_body : (c : Call) (ss : List Stage) (ds : List Datum) → HasBody (command_ask (run turn c ss ds []))
  first_body c [] ds = tt
  first_body c (s ∷ ss) ds = at_start (start s c ds) where
    at_start : (begun : Start) → HasBody (command_ask (After c ds (λ es more. run turn c ss es more) (started s c begun [])))
    at_start (Looks want) = tt
    at_start (Begins k) = tt

  run_more : (c : Call) (ss : List Stage) (ds : List Datum) (fed : List Fed) (y : Fed) → Keeps y (run turn c ss ds fed) (run turn c ss ds (fed ++ y ∷ []))
  run_more c [] ds fed y = λ h i. tt
  run_more c (s ∷ ss) ds fed y =
      behind_more c ds (λ es more. run turn c ss es more) (λ es fed y. run_more c ss es fed y)
      (λ es fed small. small_body (λ more. run turn c ss es more) (first_body c ss es) (λ x. run_more c ss es [] (Tok x)) fed small) y
      (started s c (start s c ds) fed) (started s c (start s c ds) (fed ++ y ∷ [])) (started_more y s c (start s c ds) (start_fits s c ds) fed)

  run_small : (c : Call) (ss : List Stage) (ds : List Datum) (fed : List Fed) → IsSuited fed → HasBody (command_ask (run turn c ss ds fed))
  run_small c ss ds fed small = small_body (λ more. run turn c ss ds more) (first_body c ss ds) (λ x. run_more c ss ds [] (Tok x)) fed small

-- a command that goes on as another does so once
turned_more : (c : Call) (fed : List Fed) (y : Fed) → Keeps y (turned c fed) (turned c (fed ++ y ∷ []))
turned_more c fed y = run_more no_turn (λ c fed y h i. tt) (λ c fed small. tt) c (stages_of c.head) [] fed y

turned_small : (c : Call) (fed : List Fed) → IsSuited fed → HasBody (command_ask (turned c fed))
turned_small c fed small = run_small no_turn (λ c fed y h i. tt) (λ c fed small. tt) c (stages_of c.head) [] fed small

pub row_more : (c : Call) (fed : List Fed) (y : Fed) → Keeps y (row c fed) (row c (fed ++ y ∷ []))
row_more c fed y = run_more turned turned_more turned_small c (stages_of c.head) [] fed y
