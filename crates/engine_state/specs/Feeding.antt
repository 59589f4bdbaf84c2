-- What the tokens that a frame gives do to the engine.
use Rattle.std.specs.Prelude.{◌≡◌, ◌≤◌, ◌+◌, ◌⊎◌, List, [], ◌∷◌, ◌++◌, Option, Some, None, IsSome, option_to_list}
use Rattle.tex_defs.specs.declared.Full.{Full}
use Rattle.tex_defs.specs.declared.Token.{Token}
use Rattle.plain_tokens.specs.Tables.{memory, refused}
use Rattle.reading_frames.specs.declared.ask.Grown.{Grown}
use Rattle.reading_frames.specs.declared.ask.Opening.{Opening}
use Rattle.reading_frames.specs.declared.frame.Frame.{Frame}
use Rattle.reading_frames.specs.Resumes.{token_count}
use Rattle.reading_frames.specs.Stack.{innermost_of}
use Rattle.reading_frames.specs.Frames.{opened_lists}
use Rattle.input_state.specs.Stored.{Stored, KeepsShared, words}
use Rattle.engine_state.specs.declared.engine.Engine.{Engine}
use Rattle.engine_state.specs.CutReadings.{with_token}

abbrev pub tokens_of : Grown → List Token
tokens_of g = option_to_list g.first ++ option_to_list g.second

-- the list on top, if there is one, gets all of these
abbrev pub with_tokens : Grown → List (List Token) → List (List Token)
with_tokens g lists = with_token g.second (with_token g.first lists)

-- There is room for these tokens on the list on top, if there is one: between them the input is this.
pub record TokensFit (g : Grown) (i : Stored) : Type 0 where
  pub between : Stored
  pub is : between ≡ record i { builds = with_token g.first i.builds; lists = between.lists }
  pub keeps : KeepsShared i between
  pub first : IsSome g.first → (i.builds ≡ [] → ⊥) → refused i.sizes (memory 1 (words i) ∷ []) ≡ None
  pub second : IsSome g.second → (between.builds ≡ [] → ⊥) → refused between.sizes (memory 1 (words between) ∷ []) ≡ None

-- One of them has no room; the one in front of it is there, if there is one.
pub record TokensCut (g : Grown) (full : Full) (e e' : Engine) : Type 0 where
  pub front : Option Token
  pub next : Token
  pub rest : List Token
  pub split : tokens_of g ≡ option_to_list front ++ next ∷ rest
  pub list : e.input.builds ≡ [] → ⊥
  pub fits : IsSome front → refused e.input.sizes (memory 1 (words e.input) ∷ []) ≡ None
  pub after : e' ≡ record e { input = record e.input { builds = with_token front e.input.builds; lists = e'.input.lists } }
  pub refused_then : refused e'.input.sizes (memory 1 (words e'.input) ∷ []) ≡ Some full

-- a reading that begins with these tokens has a list of its own
abbrev pub HasTop : Opening → Grown → Type 0
HasTop o g = 1 ≤ token_count g → (held : List (List Token)) → opened_lists o held ≡ [] ∷ held

-- the innermost frame, or there is room for two tokens
abbrev pub IsKept : Option Frame → Engine → Type 0
IsKept None e = (words e.input + 2 ≤ e.sizes.main_memory_size) ⊎ (innermost_of e.readings.frames ≡ None)
IsKept (Some f) e = innermost_of e.readings.frames ≡ Some f
