-- What the levels of input give.
use Rattle.std.specs.Prelude.{Result, Ok, Err}
use Rattle.tex_defs.specs.declared.Full.{Full}
use Rattle.line_lexer.specs.declared.Lexed.TheVariants.{Invalid}
use Rattle.input_stack.specs.declared.level.Pulled.{Pulled}
use Rattle.input_stack.specs.declared.level.Pulled.TheVariants.{Token, Lexed}
use Rattle.input_state.specs.declared.answer.Pulled as answers
use Rattle.input_state.specs.declared.answer.Pulled.TheVariants as answer

-- a token, or something of a line
abbrev pub GivesMore : Result Pulled Full → Type 0
GivesMore (Ok (Token t)) = Unit {0}
GivesMore (Ok (Lexed l)) = Unit {0}
GivesMore r = ⊥

abbrev pub answer_of : Result Pulled Full → answers.Pulled
answer_of (Ok (Token t)) = answer.Token t
answer_of (Ok (Lexed Invalid)) = answer.Invalid
answer_of (Ok (Lexed l)) = answer.Lexeme l
answer_of r = answer.Nothing

-- the same, or a refusal
abbrev pub GivesOrRefuses : Result Pulled Full → Type 0
GivesOrRefuses (Ok g) = GivesMore (Ok g)
GivesOrRefuses (Err f) = Unit {0}

abbrev pub told : Result Pulled Full → Result answers.Pulled Full
told (Ok g) = Ok (answer_of (Ok g))
told (Err f) = Err f
