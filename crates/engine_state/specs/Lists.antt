-- The list of a location that enters an expanded text.
use Rattle.std.specs.Prelude.{List, [], ◌∷◌}
use Rattle.tex_defs.specs.declared.Token.{Token}
use Rattle.equivalents.specs.declared.values.Loc.{Loc}
use Rattle.rows.specs.Readings.{Verbatim}
use Rattle.plain_readings.specs.Readings.{Reading, fed_with}
use Rattle.reading_frames.specs.Stack.{AsksCopied}
use Rattle.input_state.specs.AtLocations.{location_tokens}
use Rattle.engine_state.specs.declared.engine.Engine.{Engine}
use Rattle.engine_state.specs.Book.{Book, with_work}
use Rattle.engine_state.specs.Steps.{asked}

-- the innermost of these readings is fed with these tokens
abbrev pub fed_list : List Token → List Reading → List Reading
fed_list [] work = work
fed_list (t ∷ ts) work = fed_list ts (fed_with (Verbatim t) work)

-- the innermost frame is an expanded text, into which lists are copied
abbrev pub Copies : Engine → Type 0
Copies e = AsksCopied (asked e)

-- the tokens of the list that stands at a location
abbrev pub location_list : Engine → Loc → List Token
location_list e l = location_tokens e.input.lists e.input.groups l

-- with the innermost reading fed with them
abbrev pub with_list : Engine → Loc → Book → Book
with_list e l book = with_work (fed_list (location_list e l) book.work) book
