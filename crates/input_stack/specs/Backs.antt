-- A token that is put back.
use Rattle.std.specs.Prelude.{◌≡◌, ℕ, ◌≤◌, List, [], ◌∷◌, Option, Some}
use Rattle.tex_defs.specs.declared.Token.{Token}
use Rattle.tex_defs.specs.declared.Full.{Full}
use Rattle.token_lists.specs.Ids.{id_of, build_id, IsBuilding}
use Rattle.token_lists.specs.Table.{Entry, tokens_at, holders_at, IsHeld}
use Rattle.token_lists.specs.Accounts.{holds}
use Rattle.token_lists.specs.Refusals.{IsFull}
use Rattle.input_stack.specs.declared.level.Begun.{Begun}
use Rattle.input_stack.specs.declared.level.Begun.TheVariants as begun
use Rattle.input_stack.specs.Pending.{Pending, put, plain_put, room}

-- how often what was made of a list holds the list of a number
abbrev pub begun_holds : Begun → ℕ → ℕ
begun_holds begun.Nothing h = 0
begun_holds (begun.Build b) h = holds (build_id b) h
begun_holds (begun.List r) h = holds (id_of r) h

-- it is held, or being built
abbrev pub IsBegun : List (Option Entry) → Begun → Type 0
IsBegun table begun.Nothing = Unit {0}
IsBegun table (begun.Build b) = IsBuilding table b
IsBegun table (begun.List r) = IsHeld table (id_of r)

-- each word of memory is used: none is left for the list's first word, or none for its token
abbrev pub LacksMemory : List (Option Entry) → Full → Begun → Type 0
LacksMemory table full begun.Nothing = IsFull full table
LacksMemory table full (begun.Build b) = IsFull full table × IsBuilding table b × (tokens_at table (build_id b) ≡ [])
LacksMemory table full (begun.List r) = ⊥

-- why a token isn't put back: memory comes before the levels
abbrev pub Refuses : List (Option Entry) → ℕ → ℕ → Token → Full → Begun → Type 0
Refuses table size used token full begun.Nothing = IsFull full table
Refuses table size used token full (begun.Build b) = IsFull full table × IsBuilding table b × (tokens_at table (build_id b) ≡ [])
Refuses table size used token full (begun.List r) = (room size used ≡ Some full) × IsHeld table (id_of r) × (tokens_at table (id_of r) ≡ token ∷ [])

-- a list of this one token is in front, whose number nothing else has
pub record PutsBack (old new : List (Option Entry)) (held : ℕ → ℕ) (before after : Pending) (token : Token) : Type 0 where
  pub list : ℕ
  pub tokens : tokens_at new list ≡ token ∷ []
  pub fresh : holders_at old list ≤ held list
  pub put : after ≡ put (plain_put list (token ∷ [])) before
