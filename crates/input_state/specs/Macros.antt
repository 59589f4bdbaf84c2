-- Lists by their numbers, of which some are shared.
use Rattle.std.specs.Prelude.{◌≡◌, ℕ, ◌+◌, ◌<◌, ◌||◌, Bool, true, List, [], length, slice_index_or, Some}
use Rattle.tex_defs.specs.declared.Token.{Token}
use Rattle.plain_tokens.specs.Puts.{Put}
use Rattle.tex_defs.specs.declared.Name.{Name}
use Rattle.plain_tokens.specs.Meanings.{fixed_locations, location, is_listed}
use Rattle.plain_tokens.specs.Tables.{is_put}
use Rattle.equivalents.specs.declared.values.Loc.{Loc}
use Rattle.equivalents.specs.declared.values.Loc.TheVariants as loc
use Rattle.equivalents.specs.Groups.{Groups}

-- one more name of two or more characters may be entered
abbrev pub HasNameRoom : Groups → (hash_size : ℕ) → Type 0
HasNameRoom groups hash_size = length groups.now.meanings < fixed_locations + hash_size

-- the location of what a name means, which was entered
pub record IsPlaceOf (groups : Groups) (name : Name) (l : Loc) : Type 0 where
  pub number : ℕ
  pub is : l ≡ loc.Means number
  pub placed : location name ≡ Some number
  pub within : number < length groups.now.meanings

abbrev pub list_at : List (List Token) → ℕ → List Token
list_at lists id = slice_index_or lists id []

-- a location or a saved value holds this list, or it is in front, as itself or as a body
abbrev pub is_shared : ℕ → (held : List ℕ) → List Put → Bool
is_shared id held puts = is_listed held id || is_put id puts

-- each of these lists is as it was
pub record KeepsLists (held : List ℕ) (puts : List Put) (old new : List (List Token)) : Type 0 where
  pub tokens : (id : ℕ) → is_shared id held puts ≡ true → list_at new id ≡ list_at old id
