-- A walk along the list of the macro that a name means.
use Rattle.std.specs.Prelude.{◌≡◌, List, drop}
use Rattle.tex_defs.specs.declared.Token.{Token}
use Rattle.input_state.specs.Calls.{text_of}
use Rattle.input_state.specs.Stored.{Stored, KeepsShared}
use Rattle.input_state.specs.declared.walk.Walk.{Walk}

-- the tokens that are still to come: none where the name means no macro with a list
abbrev pub to_come : Stored → Walk → List Token
to_come s walk = drop walk.index (text_of s.lists s.groups.now.meanings walk.name)

-- where no name gets another meaning and each macro keeps its list, each walk goes on as before
abbrev pub WalksStay : Type 0
WalksStay = (old new : Stored) → KeepsShared old new → new.groups.now.meanings ≡ old.groups.now.meanings → (walk : Walk) → to_come new walk ≡ to_come old walk
