-- The names' locations stand behind the others.
use Rattle.std.proofs.Common.{◌≡◌, ℕ, ◌+◌, ◌<◌, ◌≤◌, List, length, get_or, Option, None, Some, sym, ap, subst, ◌∙◌, arith, rules}
use Rattle.std.specs.Prelude.{MatchBool, MatchOption, IfSome, nat_lt}
use Rattle.std.proofs.lemmas.Bool.Decides.{nat_tests}
use Rattle.std.proofs.lemmas.List.{length-map, get_or-map, get_or_past}
use Rattle.tex_defs.specs.declared.Name.{Name}
use Rattle.tex_defs.specs.declared.Meaning.{Meaning}
use Rattle.tex_defs.specs.declared.Meaning.TheVariants as means
use Rattle.token_lists.specs.declared.ListRef.{ListRef}
use Rattle.save_stack.specs.Groups.{Stack, IsAt, top}
use Rattle.save_stack.specs.Mapped.{mapped}
use Rattle.plain_tokens.specs.Meanings.{location, fixed_meaning, name_meaning, looked_up}
use Rattle.equivalents.specs.declared.values.Loc.TheVariants as loc
use Rattle.equivalents.specs.declared.values.Val.TheVariants as val
use Rattle.equivalents.specs.Locations.{V, zero_value, meaning_of, IsMeaning}
use Rattle.equivalents.specs.Groups.{Groups}
use Rattle.equivalents.specs.Flat.{groups_of, AreSuited}
use Rattle.equivalents.specs.Laws.{IsWhole}
use Rattle.equivalents.proofs.Rows.{last_at}
use Rattle.equivalents.proofs.Whole.{top_suited}
use Rattle.token_lists.specs.Holders.{times}
use Rattle.equivalents.specs.Holding.{lists_held}
use Rattle.meanings.specs.Kept.{numbered_meaning}
use Rattle.meanings.specs.Holding.{meaning_holds}
use Rattle.eqtb_save.proofs.Held.{K}
use Rattle.eqtb_save.proofs.Listed.{name_held}
use Rattle.eqtb_save.proofs.Places.{top_mapped, names_last}
use Rattle.eqtb_save.specs.Values.{numbered_value}
use Rattle.eqtb_save.specs.Table.{Table, HasRoom}

now_suited : (s : Stack V) → IsWhole s → AreSuited (top s.maps)
now_suited s whole = top_suited s.maps whole.suited (omega (arith, whole.maps))

-- a value as it is seen
pub seen_at : (s : Stack K) (k : ℕ) (x : K) → IsAt (top s.maps) k x → k < length (top s.maps) → (d : V) → get_or (top (mapped numbered_value s).maps) k d ≡ numbered_value x
seen_at s k x at below d =
    ap (λ (m : List V). get_or m k d) (top_mapped s) ∙ get_or-map numbered_value (top s.maps) k x d below ∙ ap numbered_value (sym (at x))

-- a name that has no location, or whose location wasn't entered, means what it does without one
pub fixed_where_placed : (n : Name) (k : ℕ) → location n ≡ Some k → fixed_meaning n ≡ means.Undefined
fixed_where_placed n k is = search rules

-- a name whose location wasn't entered
pub past_names : (ms : List (Meaning (Option ℕ))) (n : Name) (k : ℕ) → location n ≡ Some k → length ms ≤ k → name_meaning ms n ≡ fixed_meaning n
past_names ms n k there past =
    ap (λ (o : Option ℕ). looked_up ms o (fixed_meaning n)) there ∙ get_or_past ms k means.Undefined past ∙ sym (fixed_where_placed n k there)

by_less : (a b : ℕ) → MatchBool (nat_lt a b) (a < b) (a < b → ⊥)
by_less a b = grind (arith, nat_tests)

pub has_room_by : (t : Table) (count size : ℕ) → count ≡ length t.groups.now.meanings → size ≡ t.sizes.hash_size → MatchBool (nat_lt count (514 + size)) (HasRoom t) (HasRoom t → ⊥)
has_room_by t count size counted sized = rw (counted, sized) (by_less _ _)

-- WHAT STANDS AT A NAME'S LOCATION

module _ (s : Stack K) (whole : IsWhole (mapped numbered_value s)) (g : Groups) (is : groups_of (mapped numbered_value s) ≡ g) (n : Name) (k : ℕ) (there : location n ≡ Some k) (placed : k < length g.now.meanings) where
  abbrev cells : List V
  cells = top (mapped numbered_value s).maps

  pub within : 2918 + k < length s.levels
  within = omega (arith, names_last (mapped numbered_value s) whole, ap (λ (x : Groups). length x.now.meanings) is, placed)

  module _ (x : K) (at : IsAt (top s.maps) (2918 + k) x) where
    below : 2918 + k < length cells
    below = omega (arith, within, whole.located)

    found_at : (d : V) → get_or cells (2918 + k) d ≡ numbered_value x
    found_at d = seen_at s (2918 + k) x at (omega (arith, below, ap (λ (m : List V). length m) (top_mapped s), length-map (top s.maps) numbered_value)) d

    found : name_meaning g.now.meanings n ≡ meaning_of (numbered_value x)
    found =
        ap (λ (y : Groups). name_meaning y.now.meanings n) (sym is)
        ∙ ap (λ (o : Option ℕ). looked_up (groups_of (mapped numbered_value s)).now.meanings o (fixed_meaning n)) there
        ∙ last_at meaning_of cells 2918 k means.Undefined (numbered_value x) below
        ∙ ap meaning_of (found_at (numbered_value x))

    found_meaning : IsMeaning (numbered_value x)
    found_meaning = subst (λ (v : V). IsMeaning v) (found_at zero_value) ((now_suited (mapped numbered_value s) whole).suits (loc.Means k) tt below)

-- the meaning that was found, if one was
meant_is : {B : Type 0} (now : B → Meaning (Option ListRef)) (o : Option B) (v : V) (m : Meaning (Option ℕ)) (fixed : Meaning (Option ℕ)) → IsMeaning v → m ≡ meaning_of v → MatchOption o (IsMeaning v → ⊥) (λ b. v ≡ val.Meant (numbered_meaning (now b))) → MatchOption o (m ≡ fixed) (λ b. m ≡ numbered_meaning (now b))
meant_is now None v m fixed means is from = absurd (from means)
meant_is now (Some b) v m fixed means is from = is ∙ ap meaning_of from

meant_held : {B : Type 0} (now : B → Meaning (Option ListRef)) (o : Option B) (g : Groups) (n : Name) (fixed : Meaning (Option ℕ)) → MatchOption o (name_meaning g.now.meanings n ≡ fixed) (λ b. name_meaning g.now.meanings n ≡ numbered_meaning (now b)) → IfSome o (λ b. (h : ℕ) → meaning_holds (numbered_meaning (now b)) h ≤ times h (lists_held g))
meant_held now None g n fixed is = tt
meant_held now (Some b) g n fixed is = λ h. subst (λ (m : Meaning (Option ℕ)). meaning_holds m h ≤ times h (lists_held g)) is (name_held g h n)

module _ (s : Stack K) (whole : IsWhole (mapped numbered_value s)) (g : Groups) (is : groups_of (mapped numbered_value s) ≡ g) (n : Name) (k : ℕ) (there : location n ≡ Some k) (placed : k < length g.now.meanings) (x : K) (at : IsAt (top s.maps) (2918 + k) x) {B : Type 0} (now : B → Meaning (Option ListRef)) (o : Option B) (found_o : MatchOption o (IsMeaning (numbered_value x) → ⊥) (λ b. numbered_value x ≡ val.Meant (numbered_meaning (now b)))) where
  pub cell_meaning : MatchOption o (name_meaning g.now.meanings n ≡ fixed_meaning n) (λ b. name_meaning g.now.meanings n ≡ numbered_meaning (now b))
  cell_meaning = meant_is now o (numbered_value x) (name_meaning g.now.meanings n) (fixed_meaning n) (found_meaning s whole g is n k there placed x at) (found s whole g is n k there placed x at) found_o

  pub cell_held : IfSome o (λ b. (h : ℕ) → meaning_holds (numbered_meaning (now b)) h ≤ times h (lists_held g))
  cell_held = meant_held now o g n (fixed_meaning n) cell_meaning
