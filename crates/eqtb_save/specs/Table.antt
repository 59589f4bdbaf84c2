-- The table as callers see it: the machine's groups, and what a closed group has still to give.
use Rattle.std.specs.Prelude.{◌≡◌, ℕ, ◌+◌, ◌<◌, ◌≤◌, ◌⊎◌, Bool, List, [], ◌∷◌, length, Option, None, Some, slice_index_or, slice_set, nat_lt, if◌then◌else◌}
use Rattle.tex_defs.specs.declared.Sizes.{Sizes}
use Rattle.tex_defs.specs.declared.Token.{Token}
use Rattle.tex_defs.specs.declared.Name.{Name}
use Rattle.save_stack.specs.declared.GroupKind.{GroupKind}
use Rattle.save_stack.specs.declared.Closed.{Closed}
use Rattle.save_stack.specs.declared.Closed.TheVariants.{After, Done}
use Rattle.save_stack.specs.Groups.{Stack, top}
use Rattle.plain_tokens.specs.Meanings.{fixed_locations, location}
use Rattle.equivalents.specs.declared.values.Loc.{Loc}
use Rattle.equivalents.specs.Locations.{V, locations_without_names, zero_value, category_of}
use Rattle.equivalents.specs.Groups.{Groups, depth, set_local, set_global, opened, with_token, closed, entered, tokens_after, current_group, first_groups}
use Rattle.equivalents.specs.Laws.{IsWhole}
use Rattle.meanings.specs.Kept.{IsPlaced}
use Rattle.eqtb_save.specs.Values.{categories_in}

pub record Table : Type 0 where
  pub groups : Groups
  -- the tokens of a closed group that are still to be given, in the order in which they are, and the group's kind
  pub closing : List Token
  pub ending : Option GroupKind
  pub sizes : Sizes

-- INITEX's table, where these primitives mean something
abbrev pub first_table : (knows : ℕ → Bool) → Sizes → Table
first_table knows sizes = record { groups = first_groups knows; closing = []; ending = None; sizes = sizes }

-- one more name of two or more characters may be entered
abbrev pub HasRoom : Table → Type 0
HasRoom t = length t.groups.now.meanings < fixed_locations + t.sizes.hash_size

-- the name may be assigned: it has a location, and if it has two or more characters, it was entered
abbrev pub IsAssignable : Table → Name → Type 0
IsAssignable t n = IsPlaced (location n) (length t.groups.now.meanings)

abbrev pub set_at : Table → Loc → V → Table
set_at t l v = record t { groups = set_local t.groups l v }

abbrev pub set_all : Table → Loc → V → Table
set_all t l v = record t { groups = set_global t.groups l v }

abbrev pub group_opened : Table → GroupKind → Table
group_opened t kind = record t { groups = opened t.groups kind }

abbrev pub name_entered : Table → Table
name_entered t = record t { groups = entered t.groups }

abbrev pub token_kept : Table → Token → Table
token_kept t token = record t { groups = with_token t.groups token }

-- THE END OF A GROUP

-- a group is open or being closed
abbrev pub CanClose : Table → Type 0
CanClose t = (0 < depth t.groups) ⊎ (t.ending ≡ None → ⊥)

-- the innermost group goes; its tokens are still to be given
abbrev pub begun_by : Option GroupKind → Table → Table
begun_by None t = t
begun_by (Some kind) t = record t { groups = closed t.groups; closing = tokens_after t.groups; ending = Some kind }

-- where none is being closed, one begins
abbrev pub closing_from : Option GroupKind → Table → Table
closing_from None t = begun_by (current_group t.groups) t
closing_from (Some kind) t = t

-- the next of its tokens, or its end
abbrev pub GivesNext : Closed → Table → Table → Type 0
GivesNext (After token) t u = (rest : List Token) × ((t.closing ≡ token ∷ rest) × (u ≡ record t { closing = rest }))
GivesNext (Done kind) t u = (t.closing ≡ []) × ((t.ending ≡ Some kind) × (u ≡ record t { closing = []; ending = None }))

abbrev pub Closes : Closed → Table → Table → Type 0
Closes r t u = GivesNext r (closing_from t.ending t) u

-- HOW IT IS KEPT

-- the category codes once a location was assigned
abbrev pub mirrored : List ℕ → List V → ℕ → List ℕ
mirrored categories m at = if nat_lt at 256 then slice_set categories at (category_of (slice_index_or m at zero_value)) else categories

pub record IsSound (categories : List ℕ) (s : Stack V) (closing : List Token) (room given : ℕ) (ending : Option GroupKind) (sizes : Sizes) : Type 0 where
  pub whole : IsWhole s
  pub codes : categories ≡ categories_in (top s.maps)
  pub save_size : s.size ≡ sizes.save_size
  pub most : s.most ≡ locations_without_names + fixed_locations + sizes.hash_size
  pub rooms : sizes.save_size ≤ room
  pub levels : length s.kinds ≤ sizes.grouping_levels
  pub idle : ending ≡ None → length closing ≤ given
