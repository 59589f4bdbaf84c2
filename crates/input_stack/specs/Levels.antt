-- What one level gives.
use Rattle.std.specs.Prelude.{◌≡◌, ℕ, ◌≤◌, List, [], ◌∷◌, Option, None, Some, Bool, false, map}
use Rattle.plain_tokens.specs.Lex as plain
use Rattle.line_lexer.specs.Answers.{rest_of, looks_of}
use Rattle.line_lexer.specs.declared.Ahead.{Ahead}
use Rattle.line_lexer.specs.declared.Ahead.TheVariants as ahead
use Rattle.tex_defs.specs.declared.Token.{Token}
use Rattle.token_lists.specs.Table.{Entry}
use Rattle.input_stack.specs.declared.reader.Reader.{Reader}
use Rattle.input_stack.specs.WholeLevel.{WholeLevel}
use Rattle.input_stack.specs.WholeLevel as level
use Rattle.input_stack.specs.declared.level.Source.{Source}
use Rattle.input_stack.specs.declared.level.Pulled.{Pulled}
use Rattle.input_stack.specs.declared.level.Pulled.TheVariants as pulled_as
use Rattle.input_stack.specs.Rest.{rest, number, IsAt}
use Rattle.input_stack.specs.Pulls.{LineGives, token_in}
use Rattle.input_stack.specs.Whole.{WholeCall}
use Rattle.input_stack.specs.Puts.{Item, Text, first, without_gaps, is_empty}
use Rattle.input_stack.specs.CallViews.{items_of, met_of, opens, CallGives, Closes}

pub record ListGives (table after_table : List (Option Entry)) (old new : List ℕ) (r : Reader) (after : WholeLevel) (result : Pulled) : Type 0 where
  pub reader : Reader
  pub token : Token
  pub is : after ≡ level.List reader
  pub same : number reader ≡ number r
  pub at_next : IsAt table reader
  pub gives : rest table r ≡ token ∷ rest table reader
  pub answer : result ≡ pulled_as.Token token
  pub bytes : new ≡ old
  pub lists : after_table ≡ table

pub record SourceGives (table after_table : List (Option Entry)) (categories old new : List ℕ) (s : Source) (after : WholeLevel) (result : Pulled) : Type 0 where
  pub source : Source
  pub is : after ≡ level.Source source
  pub gives : LineGives categories old new s source result
  pub lists : after_table ≡ table

-- a call's level closes
pub record CallCloses (table after_table : List (Option Entry)) (c : WholeCall) (after : WholeLevel) (result : Bool) : Type 0 where
  pub call : WholeCall
  pub is : after ≡ level.Call call
  pub closes : Closes table after_table c call result

-- a call hands an item on
pub record CallLevelGives (table after_table : List (Option Entry)) (old new : List ℕ) (c : WholeCall) (after : WholeLevel) (result : Pulled) : Type 0 where
  pub call : WholeCall
  pub is : after ≡ level.Call call
  pub item : Item
  pub left : List Item
  pub next : without_gaps (items_of table c) ≡ item ∷ left
  pub gives : CallGives table after_table c call item left
  pub answer : result ≡ pulled_as.Token (token_in item)
  pub bytes : new ≡ old

abbrev pub LevelPulls : (table after_table : List (Option Entry)) → (categories old new : List ℕ) → WholeLevel → WholeLevel → Pulled → Type 0
LevelPulls table after_table categories old new (level.List r) after result = ListGives table after_table old new r after result
LevelPulls table after_table categories old new (level.Call c) after result = CallLevelGives table after_table old new c after result
LevelPulls table after_table categories old new (level.Source s) after result = SourceGives table after_table categories old new s after result

-- the next item of a list or a call that is no gap
abbrev pub level_item : List (Option Entry) → WholeLevel → Option Item
level_item table (level.List r) = first (map Text (rest table r))
level_item table (level.Call c) = first (without_gaps (items_of table c))
level_item table (level.Source s) = None

-- of a list or a call nothing is left
abbrev pub is_level_finished : List (Option Entry) → WholeLevel → Bool
is_level_finished table (level.List r) = is_empty (map Text (rest table r))
is_level_finished table (level.Call c) = is_empty (items_of table c)
is_level_finished table (level.Source s) = false

-- of a list or a call nothing is left but gaps
abbrev pub is_level_passed : List (Option Entry) → WholeLevel → Bool
is_level_passed table (level.List r) = is_empty (map Text (rest table r))
is_level_passed table (level.Call c) = is_empty (without_gaps (items_of table c))
is_level_passed table (level.Source s) = false

-- The next item is handed on, no argument's level opens, and the lists and the bytes stay.
pub record HandsAtOnce (table : List (Option Entry)) (l l' : WholeLevel) (t : Token) : Type 0 where
  pub item : Item
  pub next : level_item table l ≡ Some item
  pub closed : opens (met_of item) ≡ false
  pub more : is_level_passed table l ≡ false
  pub pulls : (categories bytes : List ℕ) → LevelPulls table table categories bytes bytes l l' (pulled_as.Token t)

-- an argument's level on a call goes, where no token is left of it
abbrev pub LevelCloses : (table after_table : List (Option Entry)) → WholeLevel → WholeLevel → Bool → Type 0
LevelCloses table after_table (level.List r) after result = (after ≡ level.List r) × (after_table ≡ table) × (result ≡ false)
LevelCloses table after_table (level.Call c) after result = CallCloses table after_table c after result
LevelCloses table after_table (level.Source s) after result = (after ≡ level.Source s) × (after_table ≡ table) × (result ≡ false)

abbrev pub IsLevelInBuffer : WholeLevel → ℕ → Type 0
IsLevelInBuffer (level.List r) n = Unit {0}
IsLevelInBuffer (level.Call c) n = Unit {0}
IsLevelInBuffer (level.Source s) n = (s.line.at ≤ s.line.end) × (s.line.end ≤ n)

-- a token, where one is left
abbrev pub when_left : List Token → Option Ahead
when_left [] = None
when_left (t ∷ ts) = Some ahead.Token

abbrev pub when_met : Option Item → Option Ahead
when_met None = None
when_met (Some x) = Some ahead.Token

-- what this level gives, where it gives something
abbrev pub level_looks : List (Option Entry) → List ℕ → List ℕ → WholeLevel → Option Ahead
level_looks table categories bytes (level.List r) = when_left (rest table r)
level_looks table categories bytes (level.Call c) = when_met (first (without_gaps (items_of table c)))
level_looks table categories bytes (level.Source s) = Some (looks_of (plain.lexed categories s.line.state (rest_of bytes s.line)))

-- a list or a call is on top of which nothing is left but gaps
abbrev pub is_top_passed : List (Option Entry) → List WholeLevel → Bool
is_top_passed table [] = false
is_top_passed table (l ∷ ls) = is_level_passed table l
