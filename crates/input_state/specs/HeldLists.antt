-- The lists that are held, and the lines of the files beneath those in front.
use Rattle.std.specs.Prelude.{◌≡◌, ℕ, ◌+◌, ◌≤◌, List, [], ◌∷◌, ◌++◌, length, drop, Option, None, Some, Bool, true, false, is_some}
use Rattle.tex_defs.specs.declared.Token.{Token}
use Rattle.tex_defs.specs.declared.Full.{Full}
use Rattle.tex_defs.specs.declared.Sizes.{Sizes}
use Rattle.tex_defs.specs.declared.Table.TheVariants.{InputStackSize, ParameterStackSize}
use Rattle.plain_tokens.specs.declared.line_state.LineState.{LineState}
use Rattle.plain_tokens.specs.declared.line_state.LineState.TheVariants.{NewLine}
use Rattle.plain_tokens.specs.Lex as plain
use Rattle.plain_tokens.specs.Puts.{Put, put_levels, put_parameters, without_ended, without_gaps, passed, first_item}
use Rattle.plain_tokens.specs.Pending.{Pending, Source}
use Rattle.plain_tokens.specs.Tables.{Demand, refused, held_words}
use Rattle.save_stack.specs.declared.GroupKind.{GroupKind}
use Rattle.equivalents.specs.Groups.{Groups}
use Rattle.equivalents.specs.Holding.{lists_held, shared_words}
use Rattle.input_state.specs.Macros.{KeepsLists}
use Rattle.input_state.specs.Calls.{when_called, when_put}
use Rattle.input_state.specs.Callings.{Calling, call_lists}
use Rattle.line_lexer.specs.declared.Line.{Line}
use Rattle.input_state.specs.FileLeft.{FileLeft, innermost, progress_of}
use Rattle.line_lexer.specs.declared.Ahead.{Ahead}
use Rattle.line_lexer.specs.declared.Ahead.TheVariants as ahead
use Rattle.line_lexer.specs.Answers.{rest_of, looks_of}

-- A file that is begun, by what is left of its line, and the lists in front of what is beneath it.
pub record Covered : Type 0 where
  pub line : Line
  pub puts : List Put

-- the lists in front of the innermost line, the one that is being made, the call, the lists of other readings, and the files,
-- innermost first; what stands at all locations, what a closed group has still to give, and all lists by their numbers
pub record HeldLists : Type 0 where
  pub puts : List Put
  pub making : Option (List Token)
  pub call : Calling
  pub builds : List (List Token)
  pub below : List Covered
  pub sizes : Sizes
  pub groups : Groups
  pub closing : List Token
  pub ending : Option GroupKind
  pub lists : List (List Token)

-- the innermost of the lists that are gathered
abbrev pub first_list : List (List Token) → List Token
first_list [] = []
first_list (ts ∷ more) = ts

abbrev pub is_empty : List Token → Bool
is_empty [] = true
is_empty (t ∷ ts) = false

-- the list that is made
abbrev pub made : Option (List Token) → List Token
made None = []
made (Some ts) = ts

-- WHAT IS USED

-- all lists that are gathered, innermost first
abbrev pub gathered_held : HeldLists → List (List Token)
gathered_held s = call_lists s.call ++ s.builds

-- all lists in front, the innermost line's first
abbrev pub covered_puts : List Covered → List Put
covered_puts [] = []
covered_puts (b ∷ bs) = b.puts ++ covered_puts bs

abbrev pub puts_held : HeldLists → List Put
puts_held s = s.puts ++ covered_puts s.below

abbrev pub words_held : HeldLists → ℕ
words_held s = shared_words 0 (lists_held s.groups) (puts_held s) s.lists + held_words (puts_held s) s.making (gathered_held s)

-- MACROS

-- each shared list that is held then keeps its tokens
abbrev pub KeepsHeld : HeldLists → HeldLists → Type 0
KeepsHeld old new = KeepsLists (lists_held new.groups) (puts_held new) old.lists new.lists

-- the finished lists in front go
abbrev pub without_ended_held : HeldLists → HeldLists
without_ended_held s = record s { puts = without_ended s.puts }

-- a level more, beside those of the lists in front and of the files
abbrev pub level_held : HeldLists → Demand
level_held s = record { table = InputStackSize; used = put_levels (puts_held s) + length s.below; need = 1 }

-- why a macro's body or another list isn't put, once the finished lists in front have gone
abbrev pub call_refusal : Put → HeldLists → Option Full
call_refusal p s = refused s.sizes (when_called p.items (level_held (without_ended_held s)))

-- the arguments of a call
abbrev pub parameters_held : Put → HeldLists → Demand
parameters_held p s = record { table = ParameterStackSize; used = put_parameters (puts_held s); need = length p.arguments }

-- why a call with arguments isn't put, once the finished lists in front have gone: the arguments are asked for before the level
abbrev pub put_refusal : Put → HeldLists → Option Full
put_refusal p s = refused s.sizes (when_put p.items (parameters_held p (without_ended_held s) ∷ level_held (without_ended_held s) ∷ []))

-- WHAT IS PENDING

-- the rest of the innermost line, and its state
abbrev pub line_rest : List ℕ → List Covered → List ℕ
line_rest bytes [] = []
line_rest bytes (b ∷ bs) = rest_of bytes b.line

abbrev pub line_state : List Covered → LineState
line_state [] = NewLine
line_state (b ∷ bs) = b.line.state

-- these lists in front of these lines in a buffer, of these files
abbrev pub source_in : List ℕ → List Put → List Covered → List FileLeft → Source
source_in bytes puts below files = record {
  puts = puts;
  line = line_rest bytes below;
  lex = line_state below;
  whole = (innermost files).whole;
  rest = (innermost files).rest;
  file = progress_of files;
  number = (innermost files).number;
  ends = (innermost files).ends;
}

abbrev pub outer_in : List ℕ → List Covered → List FileLeft → List Source
outer_in bytes [] files = []
outer_in bytes (b ∷ bs) files = source_in bytes b.puts bs files ∷ outer_in bytes bs (drop 1 files)

-- with lines in this buffer, these files, and what came of one that isn't begun
abbrev pub pending_of : HeldLists → List ℕ → List FileLeft → Option (List ℕ) → Pending
pending_of s bytes files next = record {
  puts = s.puts;
  line = line_rest bytes s.below;
  lex = line_state s.below;
  whole = (innermost files).whole;
  rest = (innermost files).rest;
  file = progress_of files;
  number = (innermost files).number;
  ends = (innermost files).ends;
  outer = outer_in bytes s.below (drop 1 files);
  next = next;
}

-- The lines stand in a buffer before this place, each behind all that are beneath it.
abbrev pub AreInBuffer : List Covered → ℕ → Type 0
AreInBuffer [] n = Unit {0}
AreInBuffer (b ∷ bs) n = (b.line.at ≤ b.line.end) × (b.line.end ≤ n) × AreInBuffer bs b.line.at

-- the same line further on
pub record IsFurther (old new : Line) : Type 0 where
  pub forward : old.at ≤ new.at
  pub in_order : new.at ≤ new.end
  pub same_end : new.end ≡ old.end

-- the innermost line is further on, and all else is beneath it as it was
pub record AreFurther (b : Covered) (old new : List Covered) : Type 0 where
  pub line : Line
  pub further : IsFurther b.line line
  pub is : new ≡ record { line = line; puts = b.puts } ∷ old

abbrev pub GoFurther : List Covered → List Covered → Type 0
GoFurther [] new = new ≡ []
GoFurther (b ∷ bs) new = AreFurther b bs new

-- the list or the call in front has an item left that is no gap
abbrev pub has_item : List Put → Bool
has_item [] = false
has_item (p ∷ ps) = is_some (first_item (without_gaps p.items))

abbrev pub front_ahead : List ℕ → Pending → List Put → Ahead
front_ahead categories p [] = looks_of (plain.lexed categories p.lex p.line)
front_ahead categories p (x ∷ ps) = ahead.Token

-- what comes next from a list in front or from the line
abbrev pub ahead_of : List ℕ → Pending → Ahead
ahead_of categories p = front_ahead categories p (passed p.puts)

-- THE FILES

-- a file above all that is pending, at this line
abbrev pub opened_over : Line → HeldLists → HeldLists
opened_over line s = record s { puts = []; below = record { line = line; puts = s.puts } ∷ s.below }

-- the innermost file at this line
abbrev pub at_line : Line → List Covered → List Covered
at_line line [] = []
at_line line (b ∷ bs) = record { line = line; puts = b.puts } ∷ bs

-- the innermost file goes, with the lists in front of its line
abbrev pub puts_beneath : List Covered → List Put
puts_beneath [] = []
puts_beneath (b ∷ bs) = b.puts

abbrev pub over_held : HeldLists → HeldLists
over_held s = record s { puts = puts_beneath s.below; below = drop 1 s.below }
