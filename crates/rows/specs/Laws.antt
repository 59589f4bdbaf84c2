-- The laws of the rows, on which the machine's runs stand.
use Rattle.std.specs.Prelude.{ℕ, ◌<◌, ◌≡◌, ◌≢◌, Bool, true, false, List, [], ◌∷◌, ◌++◌}
use Rattle.rows.specs.declared.words.Phrase.{Phrase}
use Rattle.rows.specs.declared.words.Phrase.TheVariants.{Command, Definition}
use Rattle.rows.specs.declared.command.Call.{Call}
use Rattle.rows.specs.Readings.{Fed, Val, Noted, Ask, More, Inner, Defines, Tells, Inserts}
use Rattle.rows.specs.Commands.{command_ask}
use Rattle.rows.specs.Suiting.{AsksSuited}
use Rattle.rows.specs.Run.{row}

-- A COMMAND THAT WAS FED WITH NOTHING asks for a token or begins another reading: it doesn't end, and reports nothing.
abbrev pub Starts : Ask → Type 0
Starts (More want) = Unit {0}
Starts (Inner k begins) = Unit {0}
Starts a = ⊥

abbrev pub ReadingsStart : Type 0
ReadingsStart = (c : Call) → Starts (command_ask (row c []))

-- RANKS: a command begins only readings of a lower rank, so it begins no command.
abbrev pub rank : Phrase → ℕ
rank (Command c) = 1
rank k = 0

abbrev pub BeginsLower : ℕ → Ask → Type 0
BeginsLower n (Inner k begins) = rank k < n
BeginsLower n a = Unit {0}

abbrev pub ReadingsBeginLower : Type 0
ReadingsBeginLower = (c : Call) (fed : List Fed) → BeginsLower (rank (Command c)) (command_ask (row c fed))

-- NOTES: a report comes only where none was the last.
abbrev pub is_noted : Bool → List Fed → Bool
is_noted b [] = b
is_noted b (Noted ∷ fed) = is_noted true fed
is_noted b (x ∷ fed) = is_noted false fed

abbrev pub NotesOnce : Bool → Ask → Type 0
NotesOnce b (Tells report back) = b ≡ false
NotesOnce b (Inserts t report back) = b ≡ false
NotesOnce b a = Unit {0}

abbrev pub NotesAreSingle : Type 0
NotesAreSingle = (c : Call) (fed : List Fed) → NotesOnce (is_noted false fed) (command_ask (row c fed))

-- MACROS: a list that becomes a macro's has a token, where each value of a definition's reading has one.
abbrev pub HasBody : Ask → Type 0
HasBody (Defines c n ts) = ts ≢ []
HasBody a = Unit {0}

-- what a reading is fed with where it asks for this
abbrev pub Brings : Fed → Ask → Type 0
Brings (Val v ts) (Inner (Definition n expanded) begins) = ts ≢ []
Brings y a = Unit {0}

abbrev pub MacrosHaveBodies : Type 0
MacrosHaveBodies = (c : Call) (fed : List Fed) (y : Fed) → Brings y (command_ask (row c fed)) → HasBody (command_ask (row c fed)) → HasBody (command_ask (row c (fed ++ y ∷ [])))

-- LOCATIONS: what a command sets suits its location, and what it uses is there.
abbrev pub EffectsSuit : Type 0
EffectsSuit = (c : Call) (fed : List Fed) → AsksSuited (command_ask (row c fed))
