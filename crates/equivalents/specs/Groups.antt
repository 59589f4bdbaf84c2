-- The open groups: a whole map for each level, and the save book (The TeXbook, chapter 24; TeX: The Program, part 19).
use Rattle.std.specs.Prelude.{ℕ, ◌<◌, ◌+◌, ◌-◌, ◌++◌, Bool, ◌==◌, List, [], ◌∷◌, length, take, cond, nat_lt, if◌then◌else◌, Option, None, Some, replicate, slice_set, slice_index_or}
use Rattle.tex_defs.specs.declared.Token.{Token}
use Rattle.tex_defs.specs.declared.Table.TheVariants.{SaveSize, GroupingLevels}
use Rattle.tex_defs.specs.declared.Name.{Name}
use Rattle.tex_defs.specs.declared.Meaning.{Meaning}
use Rattle.plain_tokens.specs.Meanings.{location}
use Rattle.plain_tokens.specs.Tables.{Demand}
use Rattle.save_stack.specs.declared.GroupKind.{GroupKind}
use Rattle.save_stack.specs.declared.Saved.{Saved}
use Rattle.save_stack.specs.Groups.{top, below, add_top, held, undo_levels}
use Rattle.save_stack.specs.Closing.{kind_last}
use Rattle.equivalents.specs.declared.values.Loc.{Loc}
use Rattle.equivalents.specs.declared.values.Loc.TheVariants as loc
use Rattle.equivalents.specs.declared.values.Val.TheVariants as val
use Rattle.equivalents.specs.Locations.{V, index, IsInRow, locations_without_names}
use Rattle.equivalents.specs.Tables.{Tables, put, get, longer}
use Rattle.equivalents.specs.First.{first_tables}

-- outer maps, entries and tokens have the innermost first, kinds the outermost
pub record Groups : Type 0 where
  -- what holds now
  pub now : Tables
  -- what holds outside the innermost group, outside the one around it, and so on: a map for each open group
  pub outer : List Tables
  -- the level of each location's last assignment, by the locations' numbers; the outermost level is 0
  pub levels : List ℕ
  -- the saved values of each group, the last first
  pub entries : List (List (Saved V))
  -- the tokens that come after each group, the last first
  pub tokens : List (List Token)
  pub kinds : List GroupKind

abbrev pub depth : Groups → ℕ
depth g = length g.kinds

abbrev pub level_of : Groups → Loc → ℕ
level_of g l = slice_index_or g.levels (index l) 0

-- the location is one of its kind, and if it is a name's, that was entered
abbrev pub IsLocation : Groups → Loc → Type 0
IsLocation g (loc.Means n) = n < length g.now.meanings
IsLocation g l = IsInRow l

-- ASSIGNMENTS

abbrev pub put_all : List Tables → Loc → V → List Tables
put_all [] l v = []
put_all (m ∷ ms) l v = put m l v ∷ put_all ms l v

-- the location was last assigned at the present level
abbrev pub is_present : Groups → Loc → Bool
is_present g l = level_of g l == depth g

-- what is saved of a location
abbrev pub entry_for : Groups → Loc → Saved V
entry_for g l = record { loc = index l; value = get g.now l; level = level_of g l }

-- A local assignment changes the innermost map. It saves the old value with its level exactly where the location was last assigned at
-- another level than the present one.
abbrev pub set_local : Groups → Loc → V → Groups
set_local g l v = record g {
  now = put g.now l v;
  levels = slice_set g.levels (index l) (depth g);
  entries = cond (is_present g l) g.entries (add_top (entry_for g l) g.entries);
}

-- a global assignment changes every map, and saves nothing
abbrev pub set_global : Groups → Loc → V → Groups
set_global g l v = record g { now = put g.now l v; outer = put_all g.outer l v; levels = slice_set g.levels (index l) 0 }

abbrev pub set : (global : Bool) → Groups → Loc → V → Groups
set global g l v = cond global (set_global g l v) (set_local g l v)

-- What a name means is set at the name's location. A name without one is never assigned: the frozen names, but for `\inaccessible`, and what
-- wasn't entered.
abbrev pub placed : (count : ℕ) → Option ℕ → Option ℕ
placed count None = None
placed count (Some k) = if nat_lt k count then Some k else None

abbrev pub place_of : Groups → Name → Option ℕ
place_of g n = placed (length g.now.meanings) (location n)

abbrev pub set_placed : (global : Bool) → Groups → Option ℕ → Meaning (Option ℕ) → Groups
set_placed global g None m = g
set_placed global g (Some k) m = set global g (loc.Means k) (val.Meant m)

abbrev pub set_name : (global : Bool) → Groups → Name → Meaning (Option ℕ) → Groups
set_name global g n m = set_placed global g (place_of g n) m

-- GROUPS

-- a group opens with a copy of the map
abbrev pub opened : Groups → GroupKind → Groups
opened g kind = record g { outer = g.now ∷ g.outer; entries = [] ∷ g.entries; tokens = [] ∷ g.tokens; kinds = g.kinds ++ kind ∷ [] }

-- a token is kept for the end of the innermost group
abbrev pub with_token : Groups → Token → Groups
with_token g t = record g { tokens = add_top t g.tokens }

-- The innermost group goes: what held outside it holds again. Its saved values are taken back, the last first, so that each location has the level that it had, but
-- for one that was assigned globally by then.
abbrev pub uncovered : Tables → List Tables → Tables
uncovered m [] = m
uncovered m (n ∷ ns) = n

abbrev pub beneath : List Tables → List Tables
beneath [] = []
beneath (m ∷ ms) = ms

abbrev pub closed : Groups → Groups
closed g = record {
  now = uncovered g.now g.outer;
  outer = beneath g.outer;
  levels = undo_levels (top g.entries) g.levels;
  entries = below g.entries;
  tokens = below g.tokens;
  kinds = take (depth g - 1) g.kinds;
}

-- the tokens that come after the innermost group, the last first
abbrev pub tokens_after : Groups → List Token
tokens_after g = top g.tokens

-- the kind of the innermost open group (`cur_group` of *TeX: The Program*)
abbrev pub current_group : Groups → Option GroupKind
current_group g = kind_last g.kinds

-- NAMES

abbrev pub all_longer : List Tables → List Tables
all_longer [] = []
all_longer (m ∷ ms) = longer m ∷ all_longer ms

-- one name more, which is undefined in each map
abbrev pub entered : Groups → Groups
entered g = record g { now = longer g.now; outer = all_longer g.outer; levels = g.levels ++ 0 ∷ [] }

-- WHAT IS USED

-- the save size that is used: one for each open group, each saved value and each token that is kept
abbrev pub saves : Groups → ℕ
saves g = depth g + (held g.entries + held g.tokens)

abbrev pub save : Groups → Demand
save g = record { table = SaveSize; used = saves g; need = 1 }

-- what an assignment needs
abbrev pub set_demands : (global : Bool) → Groups → Loc → List Demand
set_demands global g l = cond global [] (cond (is_present g l) [] (save g ∷ []))

abbrev pub placed_demands : (global : Bool) → Groups → Option ℕ → List Demand
placed_demands global g None = []
placed_demands global g (Some k) = set_demands global g (loc.Means k)

abbrev pub name_demands : (global : Bool) → Groups → Name → List Demand
name_demands global g n = placed_demands global g (place_of g n)

-- what a group needs
abbrev pub group_demands : Groups → List Demand
group_demands g = save g ∷ record { table = GroupingLevels; used = depth g; need = 1 } ∷ []

-- what a token that is kept needs
abbrev pub token_demands : Groups → List Demand
token_demands g = save g ∷ []

-- INITEX's: no group is open
abbrev pub outermost : Tables → (count : ℕ) → Groups
outermost m count = record { now = m; outer = []; levels = replicate count 0; entries = []; tokens = []; kinds = [] }

abbrev pub first_groups : (knows : ℕ → Bool) → Groups
first_groups knows = outermost (first_tables knows) (locations_without_names + length (first_tables knows).meanings)
