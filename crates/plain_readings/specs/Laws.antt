-- The laws of the readings, on which the machine's runs stand.
use Rattle.std.specs.Prelude.{ℕ, ◌+◌, ◌-◌, ◌<◌, ◌≤◌, ◌≡◌, ◌≢◌, Bool, true, false, List, [], ◌∷◌, ◌++◌, length, take, map, None}
use Rattle.tex_defs.specs.declared.Token.{Token}
use Rattle.tex_defs.specs.declared.Seen.{Seen}
use Rattle.tex_syntax.specs.declared.words.Want.TheVariants.{Copied, Unentered}
use Rattle.tex_syntax.specs.declared.words.Report.{Report}
use Rattle.tex_syntax.specs.declared.words.Report.TheVariants.{MissingNumber, IncompatibleUnits}
use Rattle.plain_tokens.specs.Puts.{grow_first}
use Rattle.conditionals.specs.declared.choice.Aim.{Aim}
use Rattle.conditionals.specs.declared.skip.Ender.{Ender}
use Rattle.conditionals.specs.Skipping.{ender_at, greatest_count, IsSkipped}
use Rattle.rows.specs.declared.words.Datum.TheVariants as datum
use Rattle.rows.specs.declared.words.Value.{Value}
use Rattle.rows.specs.declared.words.Value.TheVariants as value
use Rattle.rows.specs.declared.words.Phrase.{Phrase}
use Rattle.rows.specs.declared.words.Phrase.TheVariants.{Command, Integer, Factor, Dimension, Glue, Keyword, Text, Definition}
use Rattle.rows.specs.declared.command.Call.{Call}
use Rattle.rows.specs.declared.command.Effect.TheVariants.{Reach, StartInput}
use Rattle.rows.specs.Readings.{Fed, Tok, Noted, Verbatim, Ask, More, Inner, Done, Acts, ActsOn, Defines, Ends, Calls, Fails, RunsAway, Tells, Inserts, Puts, Fetches, Magnifies}
use Rattle.plain_readings.specs.Readings.{Kind, Reads, Spelling, FileName, Behind, Skips, ask, lists}

-- RANKS. A reading that was fed with nothing begins only readings of a lower rank.
abbrev pub rank : Kind → ℕ
rank (Reads (Command c)) = 4
rank (Reads (Glue mu)) = 3
rank (Reads (Dimension k)) = 2
rank (Reads Factor) = 1
rank (Reads k) = 0
rank k = 4

-- A READING THAT WAS FED WITH NOTHING asks for a token or begins another, not with a token; but for the token that waits behind another.
abbrev pub Starts : ℕ → Ask → Type 0
Starts n (More want) = Unit {0}
Starts n (Inner k begins) = (rank (Reads k) < n) × (begins ≡ false)
Starts n a = ⊥

abbrev pub IsRead : Kind → Type 0
IsRead (Behind c x) = ⊥
IsRead k = Unit {0}

abbrev pub ReadingsStart : Type 0
ReadingsStart = (k : Kind) → IsRead k → Starts (rank k) (ask k [])

-- Whatever it was fed with, it begins one of a lower rank; but an integer may begin another integer, the number of a register or of a character.
abbrev pub BeginsBy : Kind → Ask → Type 0
BeginsBy (Reads Integer) (Inner j begins) = j ≡ Integer
BeginsBy k (Inner j begins) = rank (Reads j) < rank k
BeginsBy k a = Unit {0}

abbrev pub ReadingsBeginLower : Type 0
ReadingsBeginLower = (k : Kind) (fed : List Fed) → BeginsBy k (ask k fed)

-- A TOKEN THAT A READING LOOKED AT begins an inner one only directly behind it.
abbrev pub is_met : Bool → List Fed → Bool
is_met b [] = b
is_met b (Tok x ∷ fed) = is_met true fed
is_met b (y ∷ fed) = is_met false fed

abbrev pub Lends : Bool → Ask → Type 0
Lends b (Inner k true) = b ≡ true
Lends b a = Unit {0}

abbrev pub TokensAreLent : Type 0
TokensAreLent = (k : Kind) (fed : List Fed) → Lends (is_met false fed) (ask k fed)

-- A TOKEN THAT IS GIVEN BACK. What gives back the last token comes directly behind a token: that one was fed to this very reading, and nothing since.
abbrev pub Returns : (met back : Bool) → Type 0
Returns met true = met ≡ true
Returns met false = Unit {0}

abbrev pub GivesBack : (met : Bool) → Ask → Type 0
GivesBack met (Done v back) = Returns met back
GivesBack met (Tells report back) = Returns met back
GivesBack met (Inserts t report back) = Returns met back
GivesBack met (RunsAway report) = met ≡ true
GivesBack met (ActsOn c (StartInput back) ts) = Returns met back
GivesBack met a = Unit {0}

-- What may come behind what a reading asked for: behind a report the note of it, and nothing behind an end; behind all else anything, asked for or not.
abbrev pub Comes : Ask → Fed → Type 0
Comes (Tells report back) Noted = Unit {0}
Comes (Tells report back) y = ⊥
Comes (Inserts t report back) Noted = Unit {0}
Comes (Inserts t report back) y = ⊥
Comes (Done v back) y = ⊥
Comes (Acts c e) y = ⊥
Comes (ActsOn c e ts) y = ⊥
Comes (Defines c n ts) y = ⊥
Comes Ends y = ⊥
Comes (Calls args) y = ⊥
Comes (Fails report) y = ⊥
Comes (RunsAway report) y = ⊥
Comes a y = Unit {0}

-- all that a reading was fed with came so, item by item, where it asks so
abbrev pub ComeInTurn : (asks : List Fed → Ask) → List Fed → Type 0
ComeInTurn asks [] = Unit {0}
ComeInTurn asks (y ∷ fed) = Comes (asks []) y × ComeInTurn (λ more. asks (y ∷ more)) fed

-- Of what came in turn the law holds, and what may come behind it comes in turn. The readings of a run are fed so, which is a law of its runs.
pub record TokensAreGivenBack : Type 0 where
  pub directly : (k : Kind) (fed : List Fed) → ComeInTurn (ask k) fed → GivesBack (is_met false fed) (ask k fed)
  pub in_turn : (k : Kind) (fed : List Fed) (y : Fed) → ComeInTurn (ask k) fed → Comes (ask k fed) y → ComeInTurn (ask k) (fed ++ y ∷ [])

-- VALUES. An integer's is a number, a factor's that and whether a point came, that of a dimension and of glue is one, a keyword's whether it was there,
-- and none of these holds a list; that of a text is its list, which may have no token, and that of a macro's list has one.
abbrev pub IsValue : Phrase → Value → List (List Token) → Type 0
IsValue Integer (value.Plain (datum.Number n)) [] = Unit {0}
IsValue Factor (value.Plain (datum.Factor n point)) [] = Unit {0}
IsValue (Dimension k) (value.Plain (datum.Dimension n order)) [] = Unit {0}
IsValue (Glue mu) (value.Plain (datum.Glue g)) [] = Unit {0}
IsValue (Keyword w) (value.Plain (datum.Found found)) [] = Unit {0}
IsValue (Text name expanded) value.List (ts ∷ []) = Unit {0}
IsValue (Definition name expanded) value.List (ts ∷ []) = ts ≢ []
IsValue k v held = ⊥

-- What has a value asks for a token or reports until it ends with it; an integer also begins another, the number of a register or of a
-- character, or asks for what stands at a location; so do a factor, a dimension, which begins a factor and keywords too and has the magnification
-- checked, and glue, which begins dimensions and keywords too. A keyword puts tokens back, five at most. Nothing else has a value.
abbrev pub GivesValue : Phrase → List (List Token) → Ask → Type 0
GivesValue k held (More want) = Unit {0}
GivesValue k held (Tells report back) = Unit {0}
GivesValue k held (Done v back) = IsValue k v held
GivesValue Integer held (Inner j begins) = (j ≡ Integer) × (begins ≡ false)
GivesValue Integer held (Fetches l) = Unit {0}
GivesValue Factor held (Inner j begins) = (j ≡ Integer) × (begins ≡ false)
GivesValue Factor held (Fetches l) = Unit {0}
GivesValue (Dimension k) held (Inner j begins) = rank (Reads j) < rank (Reads (Dimension k))
GivesValue (Dimension k) held (Fetches l) = Unit {0}
GivesValue (Dimension k) held Magnifies = Unit {0}
GivesValue (Glue mu) held (Inner j begins) = rank (Reads j) < rank (Reads (Glue mu))
GivesValue (Glue mu) held (Fetches l) = Unit {0}
GivesValue (Keyword w) held (Puts t more) = more ≤ 4
GivesValue k held a = ⊥

-- a command's: it comes to no value, asks neither for what stands at a location nor for the magnification, and puts no token back by itself
abbrev pub IsValueless : Ask → Type 0
IsValueless (Done v back) = ⊥
IsValueless (Fetches l) = ⊥
IsValueless Magnifies = ⊥
IsValueless (Puts t more) = ⊥
IsValueless a = Unit {0}

abbrev pub EndsAs : Kind → List (List Token) → Ask → Type 0
EndsAs (Reads (Command c)) held a = IsValueless a
EndsAs (Reads k) held a = GivesValue k held a
EndsAs k held a = IsValueless a

abbrev pub ValuesAreTheirs : Type 0
ValuesAreTheirs = (k : Kind) (fed : List Fed) → EndsAs k (lists k fed) (ask k fed)

-- NAMES. What `\csname` makes a name of, and `\input` a file's name, is the list that it holds.
abbrev pub Spells : Call → List (List Token) → Ask → Type 0
Spells c held (ActsOn d e ts) = (d ≡ c) × (held ≡ ts ∷ [])
Spells c held a = Unit {0}

pub record NamesAreHeld : Type 0 where
  pub names : (c : Call) (fed : List Fed) → Spells c (lists (Spelling c) fed) (ask (Spelling c) fed)
  pub files : (c : Call) (fed : List Fed) → Spells c (lists (FileName c) fed) (ask (FileName c) fed)

-- TOKENS THAT ENTER an expanded text as they stand: a reading that asks for one of its tokens has one list, to which such a token goes, and asks for
-- another so.
pub record TokensEnter : Type 0 where
  pub copies : (k : Kind) (fed : List Fed) (t : Token) → ask k fed ≡ More Copied → ask k (fed ++ Verbatim t ∷ []) ≡ More Copied
  pub listed : (k : Kind) (fed : List Fed) → ask k fed ≡ More Copied → length (lists k fed) ≡ 1
  pub grows : (k : Kind) (fed : List Fed) (t : Token) → ask k fed ≡ More Copied → lists k (fed ++ Verbatim t ∷ []) ≡ grow_first t (lists k fed)

-- NOTES. How many reports may come at once behind this one, in a dimension, at most: behind a number that is missing in mu, that this isn't mu, and behind
-- that, that a dimension is too large. (Behind what is fetched more may come.)
abbrev pub after : Report → ℕ
after MissingNumber = 2
after IncompatibleUnits = 1
after report = 0

-- how many may come at once
abbrev pub reports_due : Ask → ℕ
reports_due (Tells report back) = 1 + after report
reports_due (Inserts t report back) = 1 + after report
reports_due a = 0

-- a reading whose reports are single
abbrev pub IsSingle : Kind → Type 0
IsSingle (Reads (Dimension k)) = ⊥
IsSingle (Reads (Glue mu)) = ⊥
IsSingle k = Unit {0}

-- Behind the note of a report fewer are left, and none but in a dimension or in glue.
pub record NotesFall : Type 0 where
  pub falls : (k : Kind) (fed : List Fed) → reports_due (ask k (fed ++ Noted ∷ [])) ≤ reports_due (ask k fed) - 1
  pub single : (k : Kind) (fed : List Fed) → IsSingle k → reports_due (ask k (fed ++ Noted ∷ [])) ≡ 0

-- SKIPPED TEXT. In a text of fewer than 2^64 - 1 tokens, the ender of what is skipped is reached when it has been read, and a token more is asked for
-- where none ends it.
pub record SkippedTexts : Type 0 where
  pub reaches :
      (c : Call) (aim : Aim) (line : ℕ) (text : List Seen) (k : ℕ) (e : Ender) → length text < greatest_count → IsSkipped text k e →
      ask (Skips c aim line) (map Tok (take (k + 1) text)) ≡ Acts c (Reach aim e)
  pub goes_on :
      (c : Call) (aim : Aim) (line : ℕ) (text : List Seen) → length text < greatest_count → ((k : ℕ) → ender_at text k ≡ None) →
      ask (Skips c aim line) (map Tok text) ≡ More Unentered
