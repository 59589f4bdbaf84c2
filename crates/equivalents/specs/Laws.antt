-- Laws of the tables and of the groups.
use Rattle.std.specs.Prelude.{◌≡◌, ◌≢◌, ℕ, ◌+◌, ◌<◌, ◌≤◌, ◌==◌, Bool, true, false, ℤ, pos, negsuc, Option, Some, List, [], ◌∷◌, length, map, replicate, codes, slice_set, slice_index_or, if◌then◌else◌}
use Rattle.prim_table.specs.Primitives.{integer_names, dimension_names, glue_names, token_names}
use Rattle.tex_defs.specs.declared.Token.{Token}
use Rattle.tex_defs.specs.declared.Name.{Name}
use Rattle.tex_defs.specs.declared.Name.TheVariants as name
use Rattle.tex_defs.specs.declared.Meaning.{Meaning}
use Rattle.tex_defs.specs.declared.Meaning.TheVariants as means
use Rattle.tex_defs.specs.declared.RegisterKind.TheVariants as register
use Rattle.plain_tokens.specs.Meanings.{location, name_meaning, primitive_count, first_meaning}
use Rattle.save_stack.specs.declared.GroupKind.{GroupKind}
use Rattle.save_stack.specs.declared.GroupKind.TheVariants.{Simple}
use Rattle.save_stack.specs.Groups.{Stack, top, defined, gdefined, opened as stack_opened, with_token as stack_with_token, extended, restored}
use Rattle.save_stack.specs.Closing.{closed as stack_closed}
use Rattle.equivalents.specs.declared.values.Loc.{Loc}
use Rattle.equivalents.specs.declared.values.Loc.TheVariants as loc
use Rattle.equivalents.specs.declared.values.CodeKind.TheVariants as code
use Rattle.equivalents.specs.declared.values.Val.TheVariants as val
use Rattle.equivalents.specs.Locations.{V, index, IsInRow, Suits}
use Rattle.equivalents.specs.Tables.{Tables, put, get}
use Rattle.equivalents.specs.First.{first_tables, global_definitions, escape_character, end_line_character, new_line_character}
use Rattle.equivalents.specs.Groups.{Groups, set_local, set_global, place_of, set_name, opened, with_token, closed, entered, saves, first_groups}
use Rattle.equivalents.specs.Flat.{tables_of, groups_of, EachIsSuited, EachHas}

-- An assignment changes what stands at its location and nothing else. So who reads category codes sees nothing of one to a name or to a register, and who reads
-- meanings nothing of one to a category code.
pub record OtherKindsStay : Type 0 where
  pub others : (m : Tables) (l k : Loc) (v : V) → l ≢ k → get (put m l v) k ≡ get m k
  pub codes : (m : Tables) (n : ℕ) (v : V) → (put m (loc.Means n) v).categories ≡ m.categories
  pub names : (m : Tables) (c : ℕ) (v : V) → (put m (loc.Code code.Category c) v).meanings ≡ m.meanings
  pub counts : (m : Tables) (n : ℕ) (v : V) → (put m (loc.Register register.Count n) v).categories ≡ m.categories
  pub opening : (g : Groups) (kind : GroupKind) → (opened g kind).now ≡ g.now

-- A group's end gives back what one local assignment in it changed, with its level, and keeps what a global one did. A local assignment changes no
-- map outside, so however many there were the end gives back the map.
pub record GroupsTakeBack : Type 0 where
  pub locals : (g : Groups) (kind : GroupKind) (l : Loc) (v : V) → (closed (set_local (opened g kind) l v)).now ≡ g.now
  pub outers : (g : Groups) (kind : GroupKind) (l : Loc) (v : V) → (closed (set_local (opened g kind) l v)).outer ≡ g.outer
  pub levels : (g : Groups) (kind : GroupKind) (l : Loc) (v : V) → (closed (set_local (opened g kind) l v)).levels ≡ g.levels
  pub inside : (g : Groups) (l : Loc) (v : V) → (set_local g l v).outer ≡ g.outer
  pub global_levels : (g : Groups) (kind : GroupKind) (l : Loc) (v : V) → (closed (set_global (opened g kind) l v)).levels ≡ slice_set g.levels (index l) 0
  pub globals : (g : Groups) (kind : GroupKind) (l : Loc) (v : V) → (closed (set_global (opened g kind) l v)).now ≡ put g.now l v
  pub empty : (g : Groups) (kind : GroupKind) → closed (opened g kind) ≡ g

-- ONE LIST OF VALUES. What an engine does to it is what the machine does to its groups.

-- all maps have the same locations, and there is one for each level
pub record IsWhole (s : Stack V) : Type 0 where
  pub suited : EachIsSuited s.maps
  pub maps : length s.maps ≡ 1 + length s.kinds
  pub located : length (top s.maps) ≡ length s.levels
  pub alike : EachHas (length s.levels) s.maps

pub record EngineIsMachine : Type 0 where
  -- a value that suits its location is found there
  pub finds : (cells : List V) (l : Loc) (v : V) → IsInRow l → index l < length cells → Suits l v → get (tables_of (slice_set cells (index l) v)) l ≡ v
  pub sets : (s : Stack V) (l : Loc) (v : V) → IsWhole s → IsInRow l → index l < length s.levels → groups_of (defined s (index l) v) ≡ set_local (groups_of s) l v
  pub sets_all : (s : Stack V) (l : Loc) (v : V) → IsWhole s → IsInRow l → groups_of (gdefined s (index l) v) ≡ set_global (groups_of s) l v
  pub opens : (s : Stack V) (kind : GroupKind) → IsWhole s → groups_of (stack_opened s kind) ≡ opened (groups_of s) kind
  pub keeps : (s : Stack V) (t : Token) → groups_of (stack_with_token s t) ≡ with_token (groups_of s) t
  pub closes : (s : Stack V) → IsWhole s → 0 < length s.kinds → groups_of (stack_closed (restored s)) ≡ closed (groups_of s)
  pub enters : (s : Stack V) → IsWhole s → groups_of (extended s (val.Meant means.Undefined)) ≡ entered (groups_of s)

-- and what it has then are groups again
pub record StaysWhole : Type 0 where
  pub sets : (s : Stack V) (l : Loc) (v : V) → IsWhole s → IsInRow l → index l < length s.levels → Suits l v → IsWhole (defined s (index l) v)
  pub sets_all : (s : Stack V) (l : Loc) (v : V) → IsWhole s → IsInRow l → index l < length s.levels → Suits l v → IsWhole (gdefined s (index l) v)
  pub opens : (s : Stack V) (kind : GroupKind) → IsWhole s → IsWhole (stack_opened s kind)
  pub keeps : (s : Stack V) (t : Token) → IsWhole s → IsWhole (stack_with_token s t)
  pub closes : (s : Stack V) → IsWhole s → 0 < length s.kinds → IsWhole (stack_closed (restored s))
  pub enters : (s : Stack V) → IsWhole s → IsWhole (extended s (val.Meant means.Undefined))

-- WHAT NAMES MEAN

-- a name's character is one of the 256
abbrev pub IsInRange : Name → Type 0
IsInRange (name.Active c) = c < 256
IsInRange (name.Single c) = c < 256
IsInRange n = Unit {0}

-- what a name means now, and in each map outside
abbrev pub meaning_now : Groups → Name → Meaning (Option ℕ)
meaning_now g n = name_meaning g.now.meanings n

abbrev pub meanings_outside : Groups → Name → List (Meaning (Option ℕ))
meanings_outside g n = map (λ m. name_meaning m.meanings n) g.outer

-- each of these maps has so many names' locations
abbrev pub EachNames : ℕ → List Tables → Type 0
EachNames count [] = Unit {0}
EachNames count (m ∷ ms) = (length m.meanings ≡ count) × EachNames count ms

-- all maps have the same names
abbrev pub AreAlike : Groups → Type 0
AreAlike g = EachNames (length g.now.meanings) g.outer

pub record NamesMean : Type 0 where
  -- two names never share a location
  pub apart : (a b : Name) (k : ℕ) → IsInRange a → IsInRange b → location a ≡ Some k → location b ≡ Some k → a ≡ b
  -- an assignment gives its name this meaning, local or global, and changes no other name's
  pub changes : (global : Bool) (g : Groups) (n : Name) (k : ℕ) (m : Meaning (Option ℕ)) → place_of g n ≡ Some k → meaning_now (set_name global g n m) n ≡ m
  pub others : (global : Bool) (g : Groups) (n other : Name) (m : Meaning (Option ℕ)) → IsInRange n → IsInRange other → n ≢ other → meaning_now (set_name global g n m) other ≡ meaning_now g other
  -- a local one changes nothing outside, and a global one does outside what it does now
  pub local : (g : Groups) (n : Name) (m : Meaning (Option ℕ)) → (set_name false g n m).outer ≡ g.outer
  pub outside : (g : Groups) (n : Name) (k : ℕ) (m : Meaning (Option ℕ)) → AreAlike g → place_of g n ≡ Some k → meanings_outside (set_name true g n m) n ≡ replicate (length g.outer) m
  pub others_outside : (global : Bool) (g : Groups) (n other : Name) (m : Meaning (Option ℕ)) → IsInRange n → IsInRange other → n ≢ other → meanings_outside (set_name global g n m) other ≡ meanings_outside g other
  pub alike : (s : Stack V) → IsWhole s → AreAlike (groups_of s)
  -- where a name is entered, each name means what it meant
  pub entering : (g : Groups) (n : Name) → meaning_now (entered g) n ≡ meaning_now g n
  pub entering_outside : (g : Groups) (n : Name) → meanings_outside (entered g) n ≡ meanings_outside g n
  -- INITEX's names: each primitive's, where that means something; the others are undefined
  pub primitives : (knows : ℕ → Bool) (n : ℕ) → 0 < n → n ≤ primitive_count → meaning_now (first_groups knows) (name.Word n) ≡ first_meaning knows n
  pub words : (knows : ℕ → Bool) (n : ℕ) → primitive_count < n → meaning_now (first_groups knows) (name.Word n) ≡ means.Undefined
  pub active : (knows : ℕ → Bool) (c : ℕ) → c < 256 → meaning_now (first_groups knows) (name.Active c) ≡ means.Undefined
  pub single : (knows : ℕ → Bool) (c : ℕ) → c < 256 → meaning_now (first_groups knows) (name.Single c) ≡ means.Undefined
  pub empty : (knows : ℕ → Bool) → meaning_now (first_groups knows) name.Empty ≡ means.Undefined

-- ROWS

abbrev pub count_one : Loc
count_one = loc.Register register.Count 1

abbrev pub number : ℕ → V
number n = val.Number (pos n)

abbrev pub start : Groups
start = first_groups (λ n. true)

abbrev pub inner : Groups
inner = set_local (set_global (set_local (opened (set_local start count_one (number 1)) Simple) count_one (number 2)) count_one (number 3)) count_one (number 4)

abbrev pub twice : Groups
twice = set_local (set_global (set_local (set_local (opened start Simple) count_one (number 2)) count_one (number 3)) count_one (number 4)) count_one (number 5)

-- computed over all of INITEX's locations
pub record Worked : Type 0 where
  -- \count1=1 {\count1=2 \global\count1=3 \count1=4 }: two values are saved, and 3 is left
  pub saved : saves inner ≡ 3
  pub inside : get inner.now count_one ≡ number 4
  pub global : get (closed inner).now count_one ≡ number 3
  pub gone : saves (closed inner) ≡ 0
  -- {\count1=2 \count1=3 \global\count1=4 \count1=5: one group and two saved values
  pub entries : saves twice ≡ 3
  -- a third assignment at the same level saves nothing
  pub again : saves (set_local twice count_one (number 6)) ≡ 3

-- INITEX'S VALUES, with the names of parameters, computed. Parameters have the order of the primitives' names.

abbrev pub is_zero : ℤ → Bool
is_zero (pos n) = n == 0
is_zero (negsuc n) = false

-- those that aren't 0, with their names
abbrev pub named : List (List ℕ) → List ℤ → List (List ℕ × ℤ)
named [] values = []
named (n ∷ ns) [] = []
named (n ∷ ns) (v ∷ vs) = if is_zero v then named ns vs else (n, v) ∷ named ns vs

abbrev pub integer_name : ℕ → List ℕ
integer_name i = slice_index_or integer_names i []

pub record FirstValues : Type 0 where
  -- no name is without a place, nor a place without a name
  pub integer_places : (knows : ℕ → Bool) → length (first_tables knows).integers ≡ length integer_names
  pub dimension_places : (knows : ℕ → Bool) → length (first_tables knows).dimensions ≡ length dimension_names
  pub glue_places : (knows : ℕ → Bool) → length (first_tables knows).glues ≡ length glue_names
  pub token_places : (knows : ℕ → Bool) → length (first_tables knows).parameters ≡ length token_names
  -- what other definitions read stands at its name
  pub places : map integer_name (global_definitions ∷ escape_character ∷ end_line_character ∷ new_line_character ∷ []) ≡ codes "globaldefs" ∷ codes "escapechar" ∷ codes "endlinechar" ∷ codes "newlinechar" ∷ []
  -- the integer parameters that aren't 0
  pub integers : (knows : ℕ → Bool) → named integer_names (first_tables knows).integers ≡
      (codes "tolerance", pos 10000) ∷ (codes "mag", pos 1000) ∷ (codes "time", pos 720) ∷ (codes "day", pos 4) ∷ (codes "month", pos 7) ∷ (codes "year", pos 1776)
      ∷ (codes "maxdeadcycles", pos 25) ∷ (codes "hangafter", pos 1) ∷ (codes "escapechar", pos 92) ∷ (codes "endlinechar", pos 13) ∷ []
  -- \catcode`\\, \lccode`A, \uccode`z, \sfcode`Q, \mathcode`0, \mathcode`a, \delcode`. and \delcode`(
  pub characters : (knows : ℕ → Bool) → map (get (first_tables knows)) (loc.Code code.Category 92 ∷ loc.Code code.Lowercase 65 ∷ loc.Code code.Uppercase 122 ∷ loc.Code code.SpaceFactor 81 ∷ loc.Code code.Math 48 ∷ loc.Code code.Math 97 ∷ loc.Code code.Delimiter 46 ∷ loc.Code code.Delimiter 40 ∷ [])
      ≡ number 0 ∷ number 97 ∷ number 90 ∷ number 999 ∷ number 28720 ∷ number 29025 ∷ number 0 ∷ val.Number (negsuc 0) ∷ []
