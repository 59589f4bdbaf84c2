-- What an assignment does to the lists of the memory.
use Rattle.std.proofs.Common.{◌≡◌, ℕ, zero, suc, ◌+◌, ◌≤◌, List, [], ◌∷◌, length, Option, None, Some, Bool, true, false, cond, refl, ap, arith, rules}
use Rattle.std.specs.Prelude.{slice_set}
use Rattle.std.proofs.lemmas.Bool.Decides.{nat_tests}
use Rattle.std.proofs.lemmas.List.{length-set}
use Rattle.tex_defs.specs.declared.RegisterKind.TheVariants as register
use Rattle.token_lists.specs.Table.{Entry, entry_at, holders_at, holders_of, one_less}
use Rattle.token_lists.specs.Accounts.{holds, Moves, Keeps}
use Rattle.meanings.specs.Holding.{list_holds, without_holder, Lasts}
use Rattle.equivalents.specs.declared.values.CodeKind.TheVariants as code
use Rattle.equivalents.specs.declared.values.Loc.{Loc}
use Rattle.equivalents.specs.declared.values.Loc.TheVariants as loc
use Rattle.equivalents.specs.declared.values.Val.TheVariants as val
use Rattle.equivalents.specs.Locations.{V, Suits, IsMeaning}
use Rattle.equivalents.specs.Tables.{Tables, get, put}
use Rattle.equivalents.specs.Groups.{Groups, is_present, set}
use Rattle.equivalents.specs.Holding.{value_list}
use Rattle.eqtb_save.specs.Table.{Table}
use Rattle.eqtb_save.specs.Holding.{val_holds, held, replaced_list}

-- A HOLDER LESS

entry_fewer : (o : Option Entry) → holders_of (one_less o) ≤ holders_of o
entry_fewer None = omega arith
entry_fewer (Some e) = search rules

entry_left : (o : Option Entry) → holders_of o ≤ holders_of (one_less o) + 1
entry_left None = omega arith
entry_left (Some e) = search rules

set_fewer : (table : List (Option Entry)) (id h : ℕ) → holders_at (slice_set table id (one_less (entry_at table id))) h ≤ holders_at table h
set_fewer [] id h = omega arith
set_fewer (o ∷ os) zero zero = entry_fewer o
set_fewer (o ∷ os) zero (suc h) = omega arith
set_fewer (o ∷ os) (suc id) zero = omega arith
set_fewer (o ∷ os) (suc id) (suc h) = set_fewer os id h

suc_holds : (n h : ℕ) → holds (suc n) (suc h) ≡ holds n h
suc_holds n h = grind (arith, nat_tests)

set_left : (table : List (Option Entry)) (id h : ℕ) → holders_at table h ≤ holders_at (slice_set table id (one_less (entry_at table id))) h + holds id h
set_left [] id h = omega arith
set_left (o ∷ os) zero zero = entry_left o
set_left (o ∷ os) zero (suc h) = omega arith
set_left (o ∷ os) (suc id) zero = omega arith
set_left (o ∷ os) (suc id) (suc h) = omega (arith, set_left os id h, suc_holds id h)

pub without_fewer : (o : Option ℕ) (old new : List (Option Entry)) → new ≡ without_holder o old → (h : ℕ) → holders_at new h ≤ holders_at old h
without_fewer None old new is h = omega (arith, ap (λ (t : List (Option Entry)). holders_at t h) is)
without_fewer (Some id) old new is h = omega (arith, ap (λ (t : List (Option Entry)). holders_at t h) is, set_fewer old id h)

without_left : (o : Option ℕ) (old new : List (Option Entry)) → new ≡ without_holder o old → (h : ℕ) → holders_at old h ≤ holders_at new h + list_holds o h
without_left None old new is h = omega (arith, ap (λ (t : List (Option Entry)). holders_at t h) is)
without_left (Some id) old new is h = omega (arith, ap (λ (t : List (Option Entry)). holders_at t h) is, set_left old id h)

pub without_length : (o : Option ℕ) (old new : List (Option Entry)) → new ≡ without_holder o old → length new ≡ length old
without_length None old new is = ap length is
without_length (Some id) old new is = rw is (length-set old id (one_less (entry_at old id)))

-- THE NEW VALUE IS HELD

replaced_within : (b : Bool) (g : Groups) (l : Loc) (h : ℕ) → list_holds (cond b (value_list (get g.now l)) None) h ≤ list_holds (value_list (get g.now l)) h
replaced_within true g l h = omega arith
replaced_within false g l h = omega arith

-- where the old one was
module _ (old new : List (Option Entry)) (t u : Table) (v : V) (place : Loc) (within : (h : ℕ) → val_holds (get t.groups.now place) h ≤ held t h) (moves : Moves old new (λ h. val_holds v h + held t h) (held u)) where
  pub stored_all : new ≡ without_holder (value_list (get t.groups.now place)) old → (h : ℕ) → val_holds v h ≤ held u h
  stored_all is h = omega (arith, moves h, without_left (value_list (get t.groups.now place)) old new is h, within h)

  pub stored_here : new ≡ without_holder (replaced_list t.groups place) old → (h : ℕ) → val_holds v h ≤ held u h
  stored_here is h = omega (arith, moves h, without_left (replaced_list t.groups place) old new is h, replaced_within (is_present t.groups place) t.groups place h, within h)

-- WHAT CHANGES

-- the table where a location has this value
abbrev pub placed_in : (global : Bool) → Table → Loc → V → Table
placed_in global t l v = record t { groups = set global t.groups l v }

-- The memory, where a table takes a value over that wasn't its own.
pub record Assigned (old new : List (Option Entry)) (t u : Table) (v : V) : Type 0 where
  pub moves : Moves old new (λ h. val_holds v h + held t h) (held u)
  pub keeps : Keeps old new (λ h. val_holds v h + held t h)
  pub lasting : Lasts old new
  pub fewer : (h : ℕ) → holders_at new h ≤ holders_at old h
  pub size : length new ≡ length old

-- no name means anything else where a value is no meaning
put_other : (m : Tables) (l : Loc) (v : V) → Suits l v → (IsMeaning v → ⊥) → (put m l v).meanings ≡ m.meanings
put_other m (loc.Code code.Category c) v suits other = refl
put_other m (loc.Code code.Lowercase c) v suits other = refl
put_other m (loc.Code code.Uppercase c) v suits other = refl
put_other m (loc.Code code.SpaceFactor c) v suits other = refl
put_other m (loc.Code code.Math c) v suits other = refl
put_other m (loc.Code code.Delimiter c) v suits other = refl
put_other m (loc.Integer i) v suits other = refl
put_other m (loc.Dimension i) v suits other = refl
put_other m (loc.Glue i) v suits other = refl
put_other m (loc.Register register.Count i) v suits other = refl
put_other m (loc.Register register.Dimen i) v suits other = refl
put_other m (loc.Register register.Skip i) v suits other = refl
put_other m (loc.Register register.Muskip i) v suits other = refl
put_other m (loc.Register register.Toks i) v suits other = refl
put_other m (loc.Tokens i) v suits other = refl
put_other m (loc.Means i) v suits other = absurd (other suits)

pub set_other : (global : Bool) (g : Groups) (l : Loc) (v : V) → Suits l v → (IsMeaning v → ⊥) → (set global g l v).now.meanings ≡ g.now.meanings
set_other true g l v suits other = put_other g.now l v suits other
set_other false g l v suits other = put_other g.now l v suits other

-- a location that takes one list takes each
pub list_suits : (l : Loc) (o : Option ℕ) → Suits l (val.Tokens None) → Suits l (val.Tokens o)
list_suits (loc.Code code.Category c) o suits = suits
list_suits (loc.Code code.Lowercase c) o suits = suits
list_suits (loc.Code code.Uppercase c) o suits = suits
list_suits (loc.Code code.SpaceFactor c) o suits = suits
list_suits (loc.Code code.Math c) o suits = suits
list_suits (loc.Code code.Delimiter c) o suits = suits
list_suits (loc.Integer i) o suits = suits
list_suits (loc.Dimension i) o suits = suits
list_suits (loc.Glue i) o suits = suits
list_suits (loc.Register register.Count i) o suits = suits
list_suits (loc.Register register.Dimen i) o suits = suits
list_suits (loc.Register register.Skip i) o suits = suits
list_suits (loc.Register register.Muskip i) o suits = suits
list_suits (loc.Register register.Toks i) o suits = suits
list_suits (loc.Tokens i) o suits = suits
list_suits (loc.Means i) o suits = suits
