-- Lists of tokens that stand at locations: the registers of `\toks` and the token parameters (The TeXbook, chapter 24).
use Rattle.std.specs.Prelude.{◌≡◌, ◌≤◌, ℕ, ◌+◌, Bool, false, List, [], ◌∷◌, ◌++◌, length, Option, Some, None}
use Rattle.tex_defs.specs.declared.Full.{Full}
use Rattle.tex_defs.specs.declared.Token.{Token}
use Rattle.plain_tokens.specs.Meanings.{is_listed}
use Rattle.plain_tokens.specs.Puts.{Put, list_put, token_put}
use Rattle.plain_tokens.specs.Tables.{memory, refused}
use Rattle.equivalents.specs.declared.values.Loc.{Loc}
use Rattle.equivalents.specs.declared.values.Val.TheVariants as val
use Rattle.equivalents.specs.Groups.{Groups, set}
use Rattle.equivalents.specs.Holding.{lists_held, lists_outside}
use Rattle.equivalents.specs.Locations.{tokens_of}
use Rattle.equivalents.specs.Tables.{get}
use Rattle.input_state.specs.Macros.{list_at, is_shared}
use Rattle.input_state.specs.Stored.{Stored, words}

-- the number of the list that stands at a location, if one does
abbrev pub list_number : Groups → Loc → Option ℕ
list_number g l = tokens_of (get g.now l)

abbrev pub numbered_tokens : List (List Token) → Option ℕ → List Token
numbered_tokens lists None = []
numbered_tokens lists (Some id) = list_at lists id

-- its tokens
abbrev pub location_tokens : List (List Token) → Groups → Loc → List Token
location_tokens lists g l = numbered_tokens lists (list_number g l)

abbrev pub numbered_put : List (List Token) → Option ℕ → Put
numbered_put lists None = token_put []
numbered_put lists (Some id) = list_put id (list_at lists id)

-- what is put of it; no list is one without items
abbrev pub location_put : List (List Token) → Groups → Loc → Put
location_put lists g l = numbered_put lists (list_number g l)

-- This list is the location's now, of a number that no shared list had, in no group.
pub record SetsList (global : Bool) (groups new_groups : Groups) (puts : List Put) (lists new_lists : List (List Token)) (ts : List Token) (l : Loc) : Type 0 where
  pub id : ℕ
  pub free : is_shared id (lists_held groups) puts ≡ false
  pub outside : is_listed (lists_outside groups.outer) id ≡ false
  pub sets : new_groups ≡ set global groups l (val.Tokens (Some id))
  pub list : list_at new_lists id ≡ ts

-- the first of these lists gets tokens at its end
abbrev pub appended : List Token → List (List Token) → List (List Token)
appended ts [] = []
appended ts (us ∷ lists) = (us ++ ts) ∷ lists

-- a list that is being made gets tokens at its end
abbrev pub appended_made : List Token → Option (List Token) → Option (List Token)
appended_made ts None = None
appended_made ts (Some us) = Some (us ++ ts)

-- Of these tokens some, from the first on, are there, and the next one has no room: `grown` is the input with the ones that are there.
pub record AppendsShort (grown : List Token → Stored → Stored) (ts : List Token) (old new : Stored) (full : Full) : Type 0 where
  pub front : List Token
  pub next : Token
  pub rest : List Token
  pub split : ts ≡ front ++ next ∷ rest
  pub after : new ≡ record (grown front old) { lists = new.lists }
  pub fits : words old + length front ≤ old.sizes.main_memory_size
  pub refused_then : refused new.sizes (memory 1 (words new) ∷ []) ≡ Some full

abbrev pub with_appended : List Token → Stored → Stored
with_appended ts s = record s { builds = appended ts s.builds }

abbrev pub with_appended_made : List Token → Stored → Stored
with_appended_made ts s = record s { making = appended_made ts s.making }
