-- What is left of a text: the rest of the present token's, and the texts of the tokens behind it.
use Rattle.std.specs.Prelude.{ℕ, ℤ, ◌-◌, ◌≤◌, ◌==◌, Bool, false, List, ◌++◌, length, Option, None, Some}
use Rattle.tex_defs.specs.declared.Token.{Token}
use Rattle.plain_tokens.specs.Printed.{Style, printed_by, printed_all, list_from, runaway_from}
use Rattle.token_show.specs.Views.{names_style, IsNamesView}
use Rattle.token_show.specs.declared.characters.Characters.TheInside.{Inside}

-- `room` is how many bytes more may be printed of a runaway text, with those of the present token; other texts have no bound
abbrev pub text_from : Style → Option ℕ → (places last : ℕ) → List ℕ → List Token → List ℕ
text_from style None places last piece ts = piece ++ list_from style places last ts
text_from style (Some room) places last piece ts = piece ++ runaway_from style (room - length (printed_all style piece)) places last ts

-- the room behind a printed character
abbrev pub room_after : Option ℕ → ℤ → ℕ → Option ℕ
room_after None newline c = None
room_after (Some room) newline c = Some (room - length (printed_by newline c))

-- no byte more may be printed
abbrev pub is_spent : Option ℕ → Bool
is_spent None = false
is_spent (Some room) = room == 0

-- what a `Characters` stands for
abbrev pub text_view : Inside → List ℕ
text_view a = text_from (names_style a.names) a.room a.places a.last a.piece a.walk

-- the names are strings of the pool, and there are at most nine parameter places
pub record IsText (a : Inside) : Type 0 where
  pub names : IsNamesView a.names
  pub few : a.places ≤ 9
