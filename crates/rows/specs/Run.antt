-- What a row asks for after all that it was fed with.
use Rattle.std.specs.Prelude.{true, false, List, [], ◌∷◌, ◌++◌}
use Rattle.tex_defs.specs.declared.Token.{Token}
use Rattle.tex_syntax.specs.declared.words.Want.{Want}
use Rattle.rows.specs.declared.words.Datum.{Datum}
use Rattle.rows.specs.declared.words.Phrase.{Phrase}
use Rattle.rows.specs.declared.words.Phrase.TheVariants as phrase
use Rattle.rows.specs.declared.internal.Bank.{Bank}
use Rattle.rows.specs.declared.stage.Stage.{Stage}
use Rattle.rows.specs.declared.stage.Start.{Start}
use Rattle.rows.specs.declared.stage.Start.TheVariants.{Looks, Begins}
use Rattle.rows.specs.declared.stage.Met.{Met}
use Rattle.rows.specs.declared.stage.Met.TheVariants as met
use Rattle.rows.specs.declared.stage.Got.{Got}
use Rattle.rows.specs.declared.stage.Got.TheVariants as got
use Rattle.rows.specs.declared.stage.Next.{Next}
use Rattle.rows.specs.declared.stage.Next.TheVariants as next
use Rattle.rows.specs.declared.stage.Note.{Note}
use Rattle.rows.specs.declared.stage.Note.TheVariants as note
use Rattle.rows.specs.declared.command.Effect.TheVariants as effect
use Rattle.rows.specs.declared.command.Call.{Call}
use Rattle.rows.specs.Table.{stages_of}
use Rattle.rows.specs.Readings.{Fed, Tok, Val, Noted}
use Rattle.rows.specs.Commands.{CommandAsk, More, Inner, Acts, ActsOn, Defines, Ends, Tells, Inserts, Relaxes}
use Rattle.rows.specs.Stages.{start, on_token, on_value, numbered_by, name}
use Rattle.rows.specs.Effects.{command_effect, as_definition}

-- STAGES

-- What comes of a stage: it asks for something; it has read this, or nothing that is kept, and these are for the next stage; it has
-- gathered a list, which is the last thing that a command reads, or that of a macro; or the command goes on as another.
pub data StageOutcome : Type 0 where
  Asks : CommandAsk → StageOutcome
  Takes : Datum → List Fed → StageOutcome
  Passes : List Fed → StageOutcome
  Gathers : List Token → StageOutcome
  Makes : List Token → StageOutcome
  Becomes : Call → List Fed → StageOutcome

-- the end of a command that was fed with what it didn't ask for, to which no run comes
abbrev pub impossible : StageOutcome
impossible = Asks Ends

abbrev pub comes : Next → List Fed → StageOutcome
comes (next.Takes d) fed = Takes d fed
comes next.Stops fed = Asks Ends
comes (next.Unassigned c) fed = Asks (Acts c effect.Unassigned)
comes (next.Becomes c) fed = Becomes c fed

abbrev pub due : Note → CommandAsk
due (note.Tells report back) = Tells report back
due (note.Inserts t report back) = Inserts t report back
due (note.Relaxes c n) = Relaxes c n

-- a note, and what comes behind it
abbrev pub noted : Note → Next → List Fed → StageOutcome
noted n m [] = Asks (due n)
noted n m (Noted ∷ fed) = comes m fed
noted n m (y ∷ fed) = impossible

-- the value of an inner reading, with its list
abbrev pub valued : Got → List Token → List Fed → StageOutcome
valued (got.Takes d) ts fed = Takes d fed
valued (got.Tells report m) ts fed = noted (note.Tells report false) m fed
valued got.Gathers ts fed = Gathers ts
valued got.Defines ts fed = Makes ts

-- an inner reading that begins with a token
abbrev pub inner : Stage → Phrase → List Fed → StageOutcome
inner s k [] = Asks (Inner k true)
inner s k (Val v ts ∷ fed) = valued (on_value s v) ts fed
inner s k (y ∷ fed) = impossible

-- a stage that is an inner reading, which begins with the token that the stage before it left, if there is one
abbrev pub begins : Stage → Phrase → List Fed → StageOutcome
begins s k [] = Asks (Inner k false)
begins s k (Tok x ∷ fed) = inner s k fed
begins s k (Val v ts ∷ fed) = valued (on_value s v) ts fed
begins s k (y ∷ fed) = impossible

-- the number of a register or of a character, whose location is read
abbrev pub numbers : Bank → List Fed → StageOutcome
numbers b [] = Asks (Inner phrase.Integer false)
numbers b (Val v ts ∷ fed) = valued (numbered_by b v) ts fed
numbers b (y ∷ fed) = impossible

-- a stage that looks at a token, `y`; `skipped` is what comes of those behind it, and `retried` what comes of them behind a note
abbrev pub met_with : Stage → (y : Fed) → Met → (skipped : Call → StageOutcome) → (retried : Note → StageOutcome) → List Fed → StageOutcome
met_with s y (met.Takes d) skipped retried fed = Takes d fed
met_with s y met.Passes skipped retried fed = Passes fed
met_with s y met.Leaves skipped retried fed = Passes (y ∷ fed)
met_with s y (met.Skips c) skipped retried fed = skipped c
met_with s y (met.Notes n m) skipped retried fed = noted n m fed
met_with s y (met.Retries n) skipped retried fed = retried n
met_with s y (met.Numbers b) skipped retried fed = numbers b fed
met_with s y (met.Begins k) skipped retried fed = inner s k fed
met_with s y (met.Becomes c) skipped retried fed = Becomes c fed

abbrev mutual
  pub looks : Stage → Call → Want → List Fed → StageOutcome
  looks s c want [] = Asks (More want)
  looks s c want (Tok x ∷ fed) = met_with s (Tok x) (on_token s c x) (λ d. looks s d want fed) (λ n. again s c want n fed) fed
  looks s c want (y ∷ fed) = impossible

  -- the stage is read again behind its note
  pub again : Stage → Call → Want → Note → List Fed → StageOutcome
  again s c want n [] = Asks (due n)
  again s c want n (Noted ∷ fed) = looks s c want fed
  again s c want n (y ∷ fed) = impossible

abbrev pub started : Stage → Call → Start → List Fed → StageOutcome
started s c (Looks want) fed = looks s c want fed
started s c (Begins k) fed = begins s k fed

-- ROWS

-- what a command asks for behind a stage; `turn` is what comes where it goes on as another
abbrev pub behind : (turn : Call → List Fed → CommandAsk) → Call → List Datum → (onward : List Datum → List Fed → CommandAsk) → StageOutcome → CommandAsk
behind turn c ds onward (Asks a) = a
behind turn c ds onward (Takes d fed) = onward (ds ++ d ∷ []) fed
behind turn c ds onward (Passes fed) = onward ds fed
behind turn c ds onward (Gathers ts) = ActsOn c (command_effect c ds) ts
behind turn c ds onward (Makes ts) = Defines (as_definition c) (name 0 ds) ts
behind turn c ds onward (Becomes d fed) = turn d fed

-- The stages are read one behind the other, each from what the one before it left; behind the last the command does what it does.
abbrev pub run : (turn : Call → List Fed → CommandAsk) → Call → List Stage → List Datum → List Fed → CommandAsk
run turn c [] ds fed = Acts c (command_effect c ds)
run turn c (s ∷ ss) ds fed = behind turn c ds (λ es more. run turn c ss es more) (started s c (start s c ds) fed)

-- A command goes on as another once: prefixes as the assignment behind them.
abbrev pub no_turn : Call → List Fed → CommandAsk
no_turn c fed = Ends

abbrev pub turned : Call → List Fed → CommandAsk
turned c fed = run no_turn c (stages_of c.head) [] fed

abbrev pub row : Call → List Fed → CommandAsk
row c fed = run turned c (stages_of c.head) [] fed
