-- Groups as callers see them: a whole map for the outermost level and one for each open group, and what is saved (The TeXbook, chapter
-- 24; TeX: The Program, part 19).
use Rattle.std.specs.Prelude.{◌≡◌, ℕ, ◌+◌, ◌<◌, List, [], ◌∷◌, length, Bool, ◌==◌, cond, slice_set, slice_index_or, sum_by, Option, None, Some, ◌++◌, false, slice_get, ◌-◌, replicate}
use Rattle.save_stack.specs.declared.Saved.{Saved}
use Rattle.tex_defs.specs.declared.Token.{Token}
use Rattle.save_stack.specs.declared.GroupKind.{GroupKind}
use Rattle.tex_defs.specs.declared.Full.{Full}
use Rattle.tex_defs.specs.declared.Table.TheVariants.{SaveSize}

-- maps, entries and tokens have the innermost first, kinds the outermost
pub record Stack (V : Type 0) : Type 0 where
  -- the value of each location, at each level
  pub maps : List (List V)
  -- the level of each location's last assignment: how many groups were open, and 0 after a global one
  pub levels : List ℕ
  -- the saved values of each group, the last first
  pub entries : List (List (Saved V))
  -- the tokens that come after each group, the last first
  pub tokens : List (List Token)
  pub kinds : List GroupKind
  -- how many entries the save stack may have
  pub size : ℕ
  -- how many locations there may be
  pub most : ℕ

abbrev pub depth : {V : Type 0} → Stack V → ℕ
depth s = length s.kinds

-- the innermost, and the others
abbrev pub top : {X : Type 0} → List (List X) → List X
top [] = []
top (x ∷ xs) = x

abbrev pub below : {X : Type 0} → List (List X) → List (List X)
below [] = []
below (x ∷ xs) = xs

abbrev pub level_at : List ℕ → ℕ → ℕ
level_at levels loc = slice_index_or levels loc 0

-- the location was last assigned at the present level
abbrev pub is_present : {V : Type 0} → Stack V → ℕ → Bool
is_present s loc = level_at s.levels loc == depth s

-- the items of all groups
abbrev pub held : {X : Type 0} → List (List X) → ℕ
held gs = sum_by length gs

-- the entries of the save stack: one for each open group, each saved value and each token that is kept
abbrev pub used : {V : Type 0} → Stack V → ℕ
used s = depth s + held s.entries + held s.tokens

-- a local assignment changes the innermost map
abbrev pub put_top : {V : Type 0} → List (List V) → ℕ → V → List (List V)
put_top [] loc v = []
put_top (m ∷ ms) loc v = slice_set m loc v ∷ ms

-- a global assignment changes every map
abbrev pub put_all : {V : Type 0} → List (List V) → ℕ → V → List (List V)
put_all [] loc v = []
put_all (m ∷ ms) loc v = slice_set m loc v ∷ put_all ms loc v

abbrev pub add_top : {X : Type 0} → X → List (List X) → List (List X)
add_top x [] = []
add_top x (g ∷ gs) = (x ∷ g) ∷ gs

abbrev pub set_top : {X : Type 0} → List X → List (List X) → List (List X)
set_top m [] = []
set_top m (x ∷ xs) = m ∷ xs

-- what stands at a location of a map
abbrev pub IsAt : {V : Type 0} → List V → ℕ → V → Type 0
IsAt {V} m loc x = (d : V) → x ≡ slice_index_or m loc d

abbrev pub old_value : {V : Type 0} → Stack V → ℕ → V → V
old_value s loc d = slice_index_or (top s.maps) loc d

-- what is saved of a location
abbrev pub entry_for : {V : Type 0} → Stack V → ℕ → V → Saved V
entry_for s loc d = record { loc = loc; value = old_value s loc d; level = level_at s.levels loc }

-- a local assignment, which saves the old value exactly where the location was last assigned at another level than the present one
abbrev pub defined : {V : Type 0} → Stack V → ℕ → V → Stack V
defined s loc v = record {
  maps = put_top s.maps loc v;
  levels = slice_set s.levels loc (depth s);
  entries = cond (is_present s loc) s.entries (add_top (entry_for s loc v) s.entries);
  tokens = s.tokens;
  kinds = s.kinds;
  size = s.size;
  most = s.most;
}

-- a global assignment, which makes the level outermost and saves nothing
abbrev pub gdefined : {V : Type 0} → Stack V → ℕ → V → Stack V
gdefined s loc v = record {
  maps = put_all s.maps loc v;
  levels = slice_set s.levels loc 0;
  entries = s.entries;
  tokens = s.tokens;
  kinds = s.kinds;
  size = s.size;
  most = s.most;
}

-- a group opens with a copy of the innermost map, with nothing saved and no tokens
abbrev pub opened : {V : Type 0} → Stack V → GroupKind → Stack V
opened s kind = record {
  maps = top s.maps ∷ s.maps;
  levels = s.levels;
  entries = [] ∷ s.entries;
  tokens = [] ∷ s.tokens;
  kinds = s.kinds ++ kind ∷ [];
  size = s.size;
  most = s.most;
}

abbrev pub with_token : {V : Type 0} → Stack V → Token → Stack V
with_token s token = record {
  maps = s.maps;
  levels = s.levels;
  entries = s.entries;
  tokens = add_top token s.tokens;
  kinds = s.kinds;
  size = s.size;
  most = s.most;
}

-- a saved value is taken back: where the location was assigned globally since then the saved value goes, else value and level are restored
abbrev pub back_values : {V : Type 0} → Saved V → List V → List ℕ → List V
back_values e t l = cond (level_at l e.loc == 0) t (slice_set t e.loc e.value)

abbrev pub back_levels : {V : Type 0} → Saved V → List ℕ → List ℕ
back_levels e l = cond (level_at l e.loc == 0) l (slice_set l e.loc e.level)

-- the value that goes then, with its location
abbrev pub dropped : {V : Type 0} → Saved V → List V → List ℕ → V
dropped e t l = cond (level_at l e.loc == 0) e.value (slice_index_or t e.loc e.value)

abbrev pub last_entry : {X : Type 0} → List (List X) → Option X
last_entry [] = None
last_entry ([] ∷ gs) = None
last_entry ((e ∷ es) ∷ gs) = Some e

abbrev pub but_last : {X : Type 0} → List (List X) → List (List X)
but_last [] = []
but_last ([] ∷ gs) = [] ∷ gs
but_last ((e ∷ es) ∷ gs) = es ∷ gs

abbrev pub took_back : {V : Type 0} → Option (Saved V) → Stack V → Stack V
took_back None s = s
took_back (Some e) s = record {
  maps = set_top (back_values e (top s.maps) s.levels) s.maps;
  levels = back_levels e s.levels;
  entries = but_last s.entries;
  tokens = s.tokens;
  kinds = s.kinds;
  size = s.size;
  most = s.most;
}

abbrev pub gone : {V : Type 0} → Option (Saved V) → Stack V → Option (ℕ × V)
gone None s = None
gone (Some e) s = Some (e.loc, dropped e (top s.maps) s.levels)

-- the levels once all saved values of a group are taken back
abbrev pub undo_levels : {V : Type 0} → List (Saved V) → List ℕ → List ℕ
undo_levels [] l = l
undo_levels (e ∷ es) l = undo_levels es (back_levels e l)

-- once all saved values of the innermost group are taken back its map is the one outside
abbrev pub restored : {V : Type 0} → Stack V → Stack V
restored s = record {
  maps = set_top (top (below s.maps)) s.maps;
  levels = undo_levels (top s.entries) s.levels;
  entries = set_top [] s.entries;
  tokens = s.tokens;
  kinds = s.kinds;
  size = s.size;
  most = s.most;
}

-- the kind of the innermost open group (`cur_group` of *TeX: The Program*)
abbrev pub current_group : {V : Type 0} → Stack V → Option GroupKind
current_group s = slice_get s.kinds (depth s - 1)

-- the value that a local assignment lets go: at the present level nothing is saved
abbrev pub replaced : {V : Type 0} → Stack V → ℕ → V → Option V
replaced s loc v = cond (is_present s loc) (Some (old_value s loc v)) None

-- a local assignment needs an entry exactly where it saves
abbrev pub Fits : {V : Type 0} → Stack V → ℕ → Type 0
Fits s loc = is_present s loc ≡ false → used s < s.size

-- the refusal of a save stack of which all entries are used
pub record IsSaveFull {V : Type 0} (f : Full) (s : Stack V) : Type 0 where
  pub full : used s ≡ s.size
  pub of_saves : f.table ≡ SaveSize
  pub count : f.used ≡ used s
  pub limit : f.size ≡ s.size

-- the refusal of a local assignment
pub record IsFullFor {V : Type 0} (f : Full) (s : Stack V) (loc : ℕ) : Type 0 where
  pub entry : is_present s loc ≡ false
  pub room : IsSaveFull f s

-- the outermost level alone
abbrev pub begun : {V : Type 0} → List V → (size most : ℕ) → Stack V
begun values size most = record {
  maps = values ∷ [];
  levels = replicate (length values) 0;
  entries = [];
  tokens = [];
  kinds = [];
  size = size;
  most = most;
}

-- one location more, which has the same value in each map and was assigned at the outermost level
abbrev pub each_longer : {V : Type 0} → List (List V) → V → List (List V)
each_longer [] v = []
each_longer (m ∷ ms) v = (m ++ v ∷ []) ∷ each_longer ms v

abbrev pub extended : {V : Type 0} → Stack V → V → Stack V
extended s v = record {
  maps = each_longer s.maps v;
  levels = s.levels ++ 0 ∷ [];
  entries = s.entries;
  tokens = s.tokens;
  kinds = s.kinds;
  size = s.size;
  most = s.most;
}
