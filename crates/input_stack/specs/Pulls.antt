-- What a pull gives, and what is pending then.
use Rattle.std.specs.Prelude.{◌≡◌, ℕ, ◌≤◌, List, [], ◌∷◌, take, drop, Option, None, Some, Bool, true, false, Result, Ok, Err, IfOk, IsOk}
use Rattle.tex_defs.specs.declared.Token.{Token}
use Rattle.tex_defs.specs.declared.Token.TheVariants.{EndPlaces}
use Rattle.tex_defs.specs.declared.Full.{Full}
use Rattle.world_io.specs.declared.traits.InId.{InId}
use Rattle.plain_tokens.specs.Lex as plain
use Rattle.input_stack.specs.Puts.{Item, Text, First, Later, Gap, next_item, pulled}
use Rattle.line_lexer.specs.declared.Lexed.{Lexed}
use Rattle.line_lexer.specs.declared.Lexed.TheVariants.{End}
use Rattle.line_lexer.specs.Answers.{rest_of, given, GoesOn, looks_of}
use Rattle.line_lexer.specs.declared.Ahead.{Ahead}
use Rattle.line_lexer.specs.declared.Ahead.TheVariants as ahead
use Rattle.input_stack.specs.declared.level.Source.{Source}
use Rattle.input_stack.specs.declared.level.Pulled.{Pulled}
use Rattle.input_stack.specs.declared.level.Pulled.TheVariants as pulled_as
use Rattle.input_stack.specs.Pending.{Pending, Below, with_puts, end_token_lists, room, used_levels}

abbrev pub token_in : Item → Token
token_in (Text t) = t
token_in (First n t) = t
token_in (Later n t) = t
token_in Gap = EndPlaces

-- at the end of its line a file asks for the next, and a line of `\read` is used up
abbrev pub end_of : Option InId → Pulled
end_of None = pulled_as.ReadEnd
end_of (Some id) = pulled_as.LineEnd

abbrev pub answer_of : Option InId → Lexed → Pulled
answer_of id End = end_of id
answer_of id x = pulled_as.Lexed x

-- A line gives what the lexer of lines says, by these category codes. Of the buffer only what is left of the line may
-- change.
pub record LineGives (categories old new : List ℕ) (s s' : Source) (result : Pulled) : Type 0 where
  pub lexed : Lexed
  pub answer : result ≡ answer_of s.id lexed
  pub same : s'.id ≡ s.id
  pub gives : given new s'.line.state (rest_of new s'.line) lexed ≡ plain.lexed categories s.line.state (rest_of old s.line)
  pub goes_on : GoesOn s.line s'.line lexed
  pub before : take s.line.at new ≡ take s.line.at old
  pub behind : drop s.line.end new ≡ drop s.line.end old

pub record LinePulls (categories old new : List ℕ) (b : Below) (rest left : List Below) (result : Pulled) : Type 0 where
  pub source : Source
  pub gives : LineGives categories old new b.source source result
  pub after : left ≡ record { source = source; puts = b.puts } ∷ rest

-- the innermost line, if there is one
abbrev pub PullsFrom : (categories old new : List ℕ) → List Below → List Below → Pulled → Type 0
PullsFrom categories old new [] after result = (result ≡ pulled_as.Bottom) × (after ≡ []) × (new ≡ old)
PullsFrom categories old new (b ∷ bs) after result = LinePulls categories old new b bs after result

-- an argument's first token needs one more level
abbrev pub refused_at : ℕ → Item → Pending → Option Full
refused_at size (Text t) p = None
refused_at size (First n t) p = room size (used_levels p)
refused_at size (Later n t) p = None
refused_at size Gap p = None

abbrev pub HandsOn : (old new : List ℕ) → Pending → Pending → Item → Option Full → Result Pulled Full → Type 0
HandsOn old new p p' x None result = (result ≡ Ok (pulled_as.Token (token_in x))) × (p' ≡ with_puts (pulled p.puts) p) × (new ≡ old)
HandsOn old new p p' x (Some full) result = (result ≡ Err full) × (p' ≡ end_token_lists p) × (new ≡ old)

abbrev pub PullsItem : ℕ → (categories old new : List ℕ) → Pending → Pending → Option Item → Result Pulled Full → Type 0
PullsItem size categories old new p p' (Some x) result = HandsOn old new p p' x (refused_at size x p) result
PullsItem size categories old new p p' None result = IfOk result (λ r. PullsFrom categories old new p.sources p'.sources r × (p'.puts ≡ [])) × IsOk result

-- The next item is handed on, or refused where it needs a level more than the size, else the innermost line gives
-- something, in a buffer that goes from `old` to `new`.
abbrev pub Pulls : ℕ → (categories old new : List ℕ) → Pending → Pending → Result Pulled Full → Type 0
Pulls size categories old new p p' result = PullsItem size categories old new p p' (next_item p.puts) result

-- the innermost line is used up
abbrev pub is_line_end : Result Pulled Full → Bool
is_line_end (Ok pulled_as.LineEnd) = true
is_line_end (Ok pulled_as.ReadEnd) = true
is_line_end x = false

-- what is left of the innermost line stands in a buffer of this length
abbrev pub IsInBuffer : List Below → ℕ → Type 0
IsInBuffer [] n = Unit {0}
IsInBuffer (b ∷ bs) n = (b.source.line.at ≤ b.source.line.end) × (b.source.line.end ≤ n)

abbrev pub line_looks : List ℕ → List ℕ → List Below → Ahead
line_looks categories bytes [] = ahead.End
line_looks categories bytes (b ∷ bs) = looks_of (plain.lexed categories b.source.line.state (rest_of bytes b.source.line))

abbrev pub item_looks : List ℕ → List ℕ → List Below → Option Item → Ahead
item_looks categories bytes bs (Some x) = ahead.Token
item_looks categories bytes bs None = line_looks categories bytes bs

-- what comes next: a token from a list, or what the line gives, nothing more where there is no line
abbrev pub looks : List ℕ → List ℕ → Pending → Ahead
looks categories bytes p = item_looks categories bytes p.sources (next_item p.puts)

-- what is next and what it leaves are the same
pub record Passes (p q : Pending) : Type 0 where
  pub next : next_item q.puts ≡ next_item p.puts
  pub pulled : pulled q.puts ≡ pulled p.puts
  pub sources : q.sources ≡ p.sources

-- the next item is handed on, and where there is none the innermost line gives something
abbrev pub PullsTop : (categories old new : List ℕ) → Pending → Pending → Option Item → Pulled → Type 0
PullsTop categories old new p q (Some x) result = (result ≡ pulled_as.Token (token_in x)) × (q ≡ with_puts (pulled p.puts) p) × (new ≡ old)
PullsTop categories old new p q None result = PullsFrom categories old new p.sources q.sources result × (q.puts ≡ [])
