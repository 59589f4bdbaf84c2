-- A name that joins those that are entered.
use Rattle.std.specs.Prelude.{◌≡◌, ℕ, List, [], ◌∷◌, ◌++◌, Some, None}
use Rattle.tex_defs.specs.declared.Full.{Full}
use Rattle.equivalents.specs.Groups.{Groups, entered}
use Rattle.plain_tokens.specs.Tables.{new_name, refused}
use Rattle.name_table.specs.Strings.{Strings}
use Rattle.input_state.specs.Stored.{Stored}
use Rattle.engine_state.specs.declared.engine.Engine.{Engine}

-- with these names behind those that are entered
abbrev pub joined : Strings → List (List ℕ) → Strings
joined table new = record table { names = table.names ++ new }

-- they are undefined
abbrev pub all_entered : List (List ℕ) → Groups → Groups
all_entered [] g = g
all_entered (name ∷ names) g = all_entered names (entered g)

abbrev pub located : List (List ℕ) → Stored → Stored
located new i = record i { groups = all_entered new i.groups }

abbrev pub with_names : List (List ℕ) → Engine → Engine
with_names new e = record e { names = joined e.names new; input = located new e.input }

-- there is room for the name that joins them, if one does
abbrev pub EntryFits : Strings → List (List ℕ) → Type 0
EntryFits table [] = Unit {0}
EntryFits table (name ∷ names) = refused table.sizes (new_name name table.names table.others) ≡ None

-- one joins them, for which there is none
abbrev pub EntryRefused : Strings → List (List ℕ) → Full → Type 0
EntryRefused table [] full = ⊥
EntryRefused table (name ∷ names) full = refused table.sizes (new_name name table.names table.others) ≡ Some full
