-- The lists of what names mean are held by the names' locations.
use Rattle.std.proofs.Common.{◌≡◌, ℕ, zero, suc, ◌+◌, ◌<◌, ◌≤◌, List, [], ◌∷◌, ◌++◌, Option, None, Some, ap, arith}
use Rattle.std.specs.Prelude.{slice_index_or}
use Rattle.tex_defs.specs.declared.Name.{Name}
use Rattle.tex_defs.specs.declared.Meaning.{Meaning}
use Rattle.tex_defs.specs.declared.Meaning.TheVariants as means
use Rattle.plain_tokens.specs.Meanings.{location, fixed_meaning, looked_up, name_meaning}
use Rattle.meanings.specs.Holding.{list_holds, meaning_holds}
use Rattle.equivalents.specs.Groups.{Groups}
use Rattle.equivalents.specs.Holding.{list_of, with_list, lists_of, lists_of_meanings, lists_of_table, lists_of_entries, lists_held}
use Rattle.equivalents.proofs.Names.{fixed_unlisted}
use Rattle.input_stack.specs.Pending.{times}
use Rattle.input_stack.proofs.Kept.{holds_itself}
use Rattle.input_state.proofs.Counting.{times_cons, times_append}

with_times : (o : Option ℕ) (ns : List ℕ) (h : ℕ) → times h (with_list o ns) ≡ list_holds o h + times h ns
with_times None ns h = omega arith
with_times (Some n) ns h = times_cons h n ns

-- what stands at a location
cell_within : (ms : List (Meaning (Option ℕ))) (k h : ℕ) → meaning_holds (slice_index_or ms k means.Undefined) h ≤ times h (lists_of_meanings ms)
cell_within [] k h = omega arith
cell_within (m ∷ ms) zero h = omega (arith, with_times (list_of m) (lists_of_meanings ms) h)
cell_within (m ∷ ms) (suc k) h = omega (arith, cell_within ms k h, with_times (list_of m) (lists_of_meanings ms) h)

names_within : (g : Groups) (h : ℕ) → times h (lists_of_meanings g.now.meanings) ≤ times h (lists_held g)
names_within g h =
    omega (arith, times_append h (lists_of_table g.now) (lists_of_entries g.entries), times_append h (lists_of g.now.toks) (lists_of g.now.parameters ++ lists_of_meanings g.now.meanings), times_append h (lists_of g.now.parameters) (lists_of_meanings g.now.meanings))

pub location_within : (g : Groups) (k h : ℕ) → meaning_holds (slice_index_or g.now.meanings k means.Undefined) h ≤ times h (lists_held g)
location_within g k h = omega (arith, cell_within g.now.meanings k h, names_within g h)

looked_up_within : (g : Groups) (o : Option ℕ) (fixed : Meaning (Option ℕ)) (h : ℕ) → list_of fixed ≡ None → meaning_holds (looked_up g.now.meanings o fixed) h ≤ times h (lists_held g)
looked_up_within g None fixed h free = omega (arith, ap (λ (l : Option ℕ). list_holds l h) free)
looked_up_within g (Some k) fixed h free = location_within g k h

-- a macro's list
pub list_held : (g : Groups) (n : Name) (id : ℕ) → list_of (name_meaning g.now.meanings n) ≡ Some id → 0 < times id (lists_held g)
list_held g n id is =
    let one = ap (λ (l : Option ℕ). list_holds l id) is in
    omega (arith, looked_up_within g (location n) (fixed_meaning n) id (fixed_unlisted n), one, holds_itself id)
