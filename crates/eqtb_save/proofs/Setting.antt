-- Assignments: what they do to the groups, what they let go, and where they are refused.
use Rattle.std.proofs.Common.{◌≡◌, ℕ, ◌<◌, List, [], ◌∷◌, length, Bool, true, false, cond, set, get_or, Option, None, Some, refl, sym, ap, ap₂, ◌∙◌, subst, arith}
use Rattle.std.proofs.lemmas.List.{get_or_default}
use Rattle.std.proofs.lemmas.Option.{none-some, same_Some}
use Rattle.tex_defs.specs.declared.Full.{Full}
use Rattle.tex_defs.specs.declared.Sizes.{Sizes}
use Rattle.tex_defs.specs.declared.Token.{Token}
use Rattle.plain_tokens.specs.Tables.{refused}
use Rattle.save_stack.specs.declared.GroupKind.{GroupKind}
use Rattle.save_stack.specs.Groups.{Stack, IsFullFor, Fits, top, put_top, put_all, is_present, old_value, replaced, defined, gdefined}
use Rattle.save_stack.specs.Mapped.{mapped}
use Rattle.save_stack.proofs.Mapped.{defined_as, gdefined_as}
use Rattle.equivalents.specs.declared.values.Loc.{Loc}
use Rattle.equivalents.specs.Locations.{V, IsInRow, index, Suits}
use Rattle.equivalents.specs.Tables.{get}
use Rattle.equivalents.specs.Groups as machine
use Rattle.equivalents.specs.Groups.{Groups, IsLocation, save, saves, set_demands, set_local, set_global}
use Rattle.equivalents.specs.Flat.{groups_of}
use Rattle.equivalents.specs.Holding.{value_list}
use Rattle.equivalents.specs.Laws.{IsWhole}
use Rattle.equivalents.proofs.Joins as joins
use Rattle.equivalents.proofs.Whole as wholes
use Rattle.eqtb_save.specs.Values.{numbered_value, categories_in}
use Rattle.eqtb_save.specs.Holding.{replaced_list}
use Rattle.eqtb_save.specs.Table.{Table, IsSound, mirrored}
use Rattle.eqtb_save.proofs.Codes.{noted_set}
use Rattle.eqtb_save.proofs.Held.{K}
use Rattle.eqtb_save.proofs.Kept.{mk}
use Rattle.eqtb_save.proofs.Opening.{save_fits, no_entry, used_is}
use Rattle.eqtb_save.proofs.Places.{in_row, placed, read, top_count}

-- REFUSALS

fits_if : (sizes : Sizes) (g : Groups) (b : Bool) → (b ≡ false → saves g < sizes.save_size) → refused sizes (cond b [] (save g ∷ [])) ≡ None
fits_if sizes g true room = refl
fits_if sizes g false room = save_fits sizes g [] (room refl)

module _ (s : Stack K) (g : Groups) (view : groups_of (mapped numbered_value s) ≡ g) (l : Loc) (k : ℕ) (k_is : k ≡ index l) where
  pub present_is : machine.is_present g l ≡ is_present s k
  present_is = ap (λ (x : Groups). machine.is_present x l) (sym view) ∙ ap (λ (j : ℕ). is_present s j) (sym k_is)

  module _ (sizes : Sizes) (sized : s.size ≡ sizes.save_size) where
    pub set_fits : Fits s k → refused sizes (set_demands false g l) ≡ None
    set_fits room = fits_if sizes g (machine.is_present g l) (λ e. omega (arith, room (sym present_is ∙ e), used_is sizes s g view sized, sized))

    pub present_fits : is_present s k ≡ true → refused sizes (set_demands false g l) ≡ None
    present_fits is = ap (λ (b : Bool). refused sizes (cond b [] (save g ∷ []))) (present_is ∙ is)

    pub set_refused : (f : Full) → IsFullFor f s k → refused sizes (set_demands false g l) ≡ Some f
    set_refused f is = ap (λ (b : Bool). refused sizes (cond b [] (save g ∷ []))) (present_is ∙ is.entry) ∙ no_entry sizes s g view sized [] f is.room

-- WHAT IS LET GO

some_if : {X : Type 0} (b : Bool) (x y : X) → Some y ≡ cond b (Some x) None → (b ≡ true) × (y ≡ x)
some_if true x y e = (refl, same_Some y x e)
some_if false x y e = absurd (none-some y (sym e))

absent_if : {X : Type 0} (b : Bool) (x : X) → None ≡ cond b (Some x) None → b ≡ false
absent_if true x e = absurd (none-some x e)
absent_if false x e = refl

module _ (s : Stack K) (g : Groups) (view : groups_of (mapped numbered_value s) ≡ g) (whole : IsWhole (mapped numbered_value s)) (l : Loc) (within : IsLocation g l) (k : ℕ) (k_is : k ≡ index l) (v : K) where
  pub old_is : (y : K) → y ≡ old_value s k v → numbered_value y ≡ get g.now l
  old_is y is =
      let here : index l < length (top s.maps) = omega (arith, top_count s whole, placed (mapped numbered_value s) g view whole l within) in
      read s g view whole l y within (λ d. is ∙ ap (λ (j : ℕ). get_or (top s.maps) j v) k_is ∙ get_or_default (top s.maps) (index l) v d here)

  pub let_go : (y : K) → Some y ≡ replaced s k v → value_list (numbered_value y) ≡ replaced_list g l
  let_go y is =
      let found = some_if (is_present s k) (old_value s k v) y is in
      ap value_list (old_is y found.1) ∙ sym (ap (λ (b : Bool). cond b (value_list (get g.now l)) None) (present_is s g view l k k_is ∙ found.0))

  pub nothing_goes : None ≡ replaced s k v → replaced_list g l ≡ None
  nothing_goes is = ap (λ (b : Bool). cond b (value_list (get g.now l)) None) (present_is s g view l k k_is ∙ absent_if (is_present s k) (old_value s k v) is)

-- THE GROUPS

top_put : (ms : List (List V)) (k : ℕ) (v : V) → top (put_top ms k v) ≡ set (top ms) k v
top_put [] k v = refl
top_put (m ∷ ms) k v = refl

top_put_all : (ms : List (List V)) (k : ℕ) (v : V) → top (put_all ms k v) ≡ set (top ms) k v
top_put_all [] k v = refl
top_put_all (m ∷ ms) k v = refl

noted_at : (cs : List ℕ) (m m' : List V) (k : ℕ) (v : V) → cs ≡ categories_in m → m' ≡ set m k v → mirrored cs m' k ≡ categories_in m'
noted_at cs m m' k v is set_is = subst (λ (x : List V). mirrored cs x k ≡ categories_in x) (sym set_is) (noted_set cs m k v is)

-- where what was mirrored is that of a map in which the location was set
sound_with : (cs cs' : List ℕ) (s s' : Stack V) (closing : List Token) (room given : ℕ) (ending : Option GroupKind) (sizes : Sizes) (k : ℕ) (v : V) → IsSound cs s closing room given ending sizes →
    IsWhole s' → top s'.maps ≡ set (top s.maps) k v → cs' ≡ mirrored cs (top s'.maps) k → s'.size ≡ s.size → s'.most ≡ s.most → s'.kinds ≡ s.kinds → IsSound cs' s' closing room given ending sizes
sound_with cs cs' s s' closing room given ending sizes k v is whole set_is codes sized most kinds = record {
  whole = whole;
  codes = codes ∙ noted_at cs (top s.maps) (top s'.maps) k v is.codes set_is;
  save_size = sized ∙ is.save_size;
  most = most ∙ is.most;
  rooms = is.rooms;
  levels = omega (arith, is.levels, ap (λ (ks : List GroupKind). length ks) kinds);
  idle = is.idle;
}

module _ (s s' : Stack K) (g : Groups) (view : groups_of (mapped numbered_value s) ≡ g) (whole : IsWhole (mapped numbered_value s)) (l : Loc) (within : IsLocation g l) (k : ℕ) (k_is : k ≡ index l) (v : K) where
  abbrev old : Stack V
  old = mapped numbered_value s

  at_row : IsInRow l
  at_row = in_row g l within

  module _ (d : s' ≡ defined s k v) where
    pub defined_view : mapped numbered_value s' ≡ defined old (index l) (numbered_value v)
    defined_view = ap (λ (x : Stack K). mapped numbered_value x) d ∙ defined_as numbered_value s k v ∙ ap (λ (j : ℕ). defined old j (numbered_value v)) k_is

    pub defined_whole : Suits l (numbered_value v) → IsWhole (mapped numbered_value s')
    defined_whole suits = subst IsWhole (sym defined_view) (wholes.sets old whole l (numbered_value v) at_row suits)

    pub defined_groups : groups_of (mapped numbered_value s') ≡ set_local g l (numbered_value v)
    defined_groups =
        ap groups_of defined_view ∙ joins.sets old whole l (numbered_value v) at_row (placed old g view whole l within) ∙ ap (λ (x : Groups). set_local x l (numbered_value v)) view

    pub defined_sound : (cs cs' : List ℕ) (closing : List Token) (room given : ℕ) (ending : Option GroupKind) (sizes : Sizes) → IsSound cs old closing room given ending sizes → Suits l (numbered_value v) → cs' ≡ mirrored cs (top (mapped numbered_value s').maps) k → IsSound cs' (mapped numbered_value s') closing room given ending sizes
    defined_sound cs cs' closing room given ending sizes is suits codes =
        sound_with cs cs' old (mapped numbered_value s') closing room given ending sizes k (numbered_value v) is (defined_whole suits)
        (ap (λ (x : Stack V). top x.maps) defined_view ∙ top_put old.maps (index l) (numbered_value v) ∙ ap (λ (j : ℕ). set (top old.maps) j (numbered_value v)) (sym k_is)) codes
        (ap (λ (x : Stack K). x.size) d) (ap (λ (x : Stack K). x.most) d) (ap (λ (x : Stack K). x.kinds) d)

  module _ (d : s' ≡ gdefined s k v) where
    pub gdefined_view : mapped numbered_value s' ≡ gdefined old (index l) (numbered_value v)
    gdefined_view = ap (λ (x : Stack K). mapped numbered_value x) d ∙ gdefined_as numbered_value s k v ∙ ap (λ (j : ℕ). gdefined old j (numbered_value v)) k_is

    pub gdefined_whole : Suits l (numbered_value v) → IsWhole (mapped numbered_value s')
    gdefined_whole suits = subst IsWhole (sym gdefined_view) (wholes.sets_all old whole l (numbered_value v) at_row suits)

    pub gdefined_groups : groups_of (mapped numbered_value s') ≡ set_global g l (numbered_value v)
    gdefined_groups = ap groups_of gdefined_view ∙ joins.sets_all old l (numbered_value v) at_row ∙ ap (λ (x : Groups). set_global x l (numbered_value v)) view

    pub gdefined_sound : (cs cs' : List ℕ) (closing : List Token) (room given : ℕ) (ending : Option GroupKind) (sizes : Sizes) → IsSound cs old closing room given ending sizes → Suits l (numbered_value v) → cs' ≡ mirrored cs (top (mapped numbered_value s').maps) k → IsSound cs' (mapped numbered_value s') closing room given ending sizes
    gdefined_sound cs cs' closing room given ending sizes is suits codes =
        sound_with cs cs' old (mapped numbered_value s') closing room given ending sizes k (numbered_value v) is (gdefined_whole suits)
        (ap (λ (x : Stack V). top x.maps) gdefined_view ∙ top_put_all old.maps (index l) (numbered_value v) ∙ ap (λ (j : ℕ). set (top old.maps) j (numbered_value v)) (sym k_is)) codes
        (ap (λ (x : Stack K). x.size) d) (ap (λ (x : Stack K). x.most) d) (ap (λ (x : Stack K). x.kinds) d)

-- the table, where only the groups change
pub with_groups : (g g' : Groups) (closing : List Token) (ending : Option GroupKind) (sizes : Sizes) (t : Table) → mk g closing ending sizes ≡ t → (f : Groups → Groups) → g' ≡ f t.groups → mk g' closing ending sizes ≡ record t { groups = f t.groups }
with_groups g g' closing ending sizes t view f is = ap₂ (λ (x : Groups) (u : Table). record u { groups = x }) is view

-- nothing changed
pub still_sound : (s s' : Stack K) (cs : List ℕ) (closing : List Token) (room given : ℕ) (ending : Option GroupKind) (sizes : Sizes) → IsSound cs (mapped numbered_value s) closing room given ending sizes → s' ≡ s → IsSound cs (mapped numbered_value s') closing room given ending sizes
still_sound s s' cs closing room given ending sizes is same = subst (λ (x : Stack K). IsSound cs (mapped numbered_value x) closing room given ending sizes) (sym same) is

pub still_table : (s s' : Stack K) (closing : List Token) (ending : Option GroupKind) (sizes : Sizes) (t : Table) → mk (groups_of (mapped numbered_value s)) closing ending sizes ≡ t → s' ≡ s → mk (groups_of (mapped numbered_value s')) closing ending sizes ≡ t
still_table s s' closing ending sizes t view same = ap (λ (x : Stack K). mk (groups_of (mapped numbered_value x)) closing ending sizes) same ∙ view
