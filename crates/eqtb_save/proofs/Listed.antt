-- What stands at a location is among what is held.
use Rattle.std.proofs.Common.{◌≡◌, ℕ, zero, suc, ◌+◌, ◌<◌, ◌≤◌, List, [], ◌∷◌, ◌++◌, get_or, Option, None, Some, ap, arith}
use Rattle.tex_defs.specs.declared.Name.{Name}
use Rattle.tex_defs.specs.declared.Meaning.{Meaning}
use Rattle.tex_defs.specs.declared.Meaning.TheVariants as means
use Rattle.tex_defs.specs.declared.RegisterKind.TheVariants as register
use Rattle.token_lists.specs.Holders.{times}
use Rattle.plain_tokens.specs.Meanings.{location, fixed_meaning, looked_up, name_meaning}
use Rattle.equivalents.specs.declared.values.CodeKind.TheVariants as code
use Rattle.equivalents.specs.declared.values.Loc.{Loc}
use Rattle.equivalents.specs.declared.values.Loc.TheVariants as loc
use Rattle.equivalents.specs.Tables.{get}
use Rattle.equivalents.specs.Groups.{Groups}
use Rattle.equivalents.specs.Holding.{list_of, value_list, lists_of, lists_of_meanings, lists_of_entries, lists_of_table, lists_held}
use Rattle.equivalents.proofs.Names.{fixed_unlisted}
use Rattle.meanings.specs.Holding.{list_holds, meaning_holds}
use Rattle.meanings.proofs.Counted.{holds_own}
use Rattle.eqtb_save.specs.Holding.{val_holds}
use Rattle.eqtb_save.specs.Laws.{OthersLeaveValues}
use Rattle.eqtb_save.proofs.Held.{times_with, times_append}

list_within : (h : ℕ) (xs : List (Option ℕ)) (k : ℕ) → list_holds (get_or xs k None) h ≤ times h (lists_of xs)
list_within h [] k = omega arith
list_within h (x ∷ xs) zero = omega (arith, times_with h x (lists_of xs))
list_within h (x ∷ xs) (suc k) = omega (arith, times_with h x (lists_of xs), list_within h xs k)

meaning_listed : (h : ℕ) (ms : List (Meaning (Option ℕ))) (k : ℕ) → meaning_holds (get_or ms k means.Undefined) h ≤ times h (lists_of_meanings ms)
meaning_listed h [] k = omega arith
meaning_listed h (m ∷ ms) zero = omega (arith, times_with h (list_of m) (lists_of_meanings ms))
meaning_listed h (m ∷ ms) (suc k) = omega (arith, times_with h (list_of m) (lists_of_meanings ms), meaning_listed h ms k)

looked_up_listed : (h : ℕ) (ms : List (Meaning (Option ℕ))) (o : Option ℕ) (fixed : Meaning (Option ℕ)) → list_of fixed ≡ None → meaning_holds (looked_up ms o fixed) h ≤ times h (lists_of_meanings ms)
looked_up_listed h ms None fixed free = omega (arith, ap (λ (l : Option ℕ). list_holds l h) free)
looked_up_listed h ms (Some k) fixed free = meaning_listed h ms k

module _ (g : Groups) (h : ℕ) where
  parts : times h (lists_held g) ≡ times h (lists_of g.now.toks) + (times h (lists_of g.now.parameters) + times h (lists_of_meanings g.now.meanings)) + times h (lists_of_entries g.entries)
  parts = omega (arith, times_append h (lists_of_table g.now) (lists_of_entries g.entries), times_append h (lists_of g.now.toks) (lists_of g.now.parameters ++ lists_of_meanings g.now.meanings), times_append h (lists_of g.now.parameters) (lists_of_meanings g.now.meanings))

  -- what stands at a location is held
  pub location_held : (l : Loc) → val_holds (get g.now l) h ≤ times h (lists_held g)
  location_held (loc.Code code.Category c) = omega arith
  location_held (loc.Code code.Lowercase c) = omega arith
  location_held (loc.Code code.Uppercase c) = omega arith
  location_held (loc.Code code.SpaceFactor c) = omega arith
  location_held (loc.Code code.Math c) = omega arith
  location_held (loc.Code code.Delimiter c) = omega arith
  location_held (loc.Integer i) = omega arith
  location_held (loc.Dimension i) = omega arith
  location_held (loc.Glue i) = omega arith
  location_held (loc.Register register.Count n) = omega arith
  location_held (loc.Register register.Dimen n) = omega arith
  location_held (loc.Register register.Skip n) = omega arith
  location_held (loc.Register register.Muskip n) = omega arith
  location_held (loc.Register register.Toks n) = omega (arith, list_within h g.now.toks n, parts)
  location_held (loc.Tokens i) = omega (arith, list_within h g.now.parameters i, parts)
  location_held (loc.Means n) = omega (arith, meaning_listed h g.now.meanings n, parts)

  -- what a name means is held
  pub name_held : (n : Name) → meaning_holds (name_meaning g.now.meanings n) h ≤ times h (lists_held g)
  name_held n = omega (arith, looked_up_listed h g.now.meanings (location n) (fixed_meaning n) (fixed_unlisted n), parts)

-- a location's list is held
pub location_some : (g : Groups) (l : Loc) (id : ℕ) → value_list (get g.now l) ≡ Some id → 0 < times id (lists_held g)
location_some g l id is = omega (arith, location_held g id l, ap (λ (o : Option ℕ). list_holds o id) is, holds_own id)

pub others_leave : OthersLeaveValues
others_leave = record {
  covered = λ t old new before after covers moves h. omega (arith, covers h, moves h);
  tokens = λ t old new before covers keeps l id is. keeps.tokens id (omega (arith, covers id, location_some t.groups l id is));
}
