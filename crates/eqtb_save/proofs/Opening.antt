-- A group opens, or a token is kept for its end.
use Rattle.std.proofs.Common.{◌≡◌, ℕ, ◌+◌, ◌<◌, ◌≤◌, List, [], ◌∷◌, length, Bool, Option, None, Some, refl, sym, ap, ◌∙◌, subst, arith}
use Rattle.std.specs.Prelude.{Result, Ok, Err, OnOk, OnErr, IfErr, MatchResult, if◌then◌else◌}
use Rattle.std.proofs.lemmas.Bool.{le-leb, lt-leb}
use Rattle.std.proofs.lemmas.List.{length-append}
use Rattle.tex_defs.specs.declared.Full.{Full}
use Rattle.tex_defs.specs.declared.Sizes.{Sizes}
use Rattle.tex_defs.specs.declared.Table.TheVariants.{GroupingLevels}
use Rattle.tex_defs.specs.declared.Token.{Token}
use Rattle.plain_tokens.specs.Tables.{Demand, full, refused}
use Rattle.save_stack.specs.declared.GroupKind.{GroupKind}
use Rattle.save_stack.specs.Groups.{Stack, IsSaveFull, top, used, opened, with_token}
use Rattle.save_stack.specs.Mapped.{mapped}
use Rattle.save_stack.proofs.Mapped.{used_as, opened_as}
use Rattle.equivalents.specs.Locations.{V}
use Rattle.equivalents.specs.Groups.{Groups, depth, save, saves, group_demands, token_demands}
use Rattle.equivalents.specs.Flat.{groups_of}
use Rattle.equivalents.specs.Laws.{IsWhole}
use Rattle.equivalents.proofs.Joins.{opens as opens_groups}
use Rattle.equivalents.proofs.Whole.{opens, keeps}
use Rattle.eqtb_save.specs.Values.{numbered_value, categories_in}
use Rattle.eqtb_save.specs.Table.{Table, IsSound, group_opened, token_kept}
use Rattle.eqtb_save.proofs.Held.{K}
use Rattle.eqtb_save.proofs.Kept.{mk}

-- REFUSALS

module _ (sizes : Sizes) (g : Groups) where
  pub save_fits : (ds : List Demand) → saves g < sizes.save_size → refused sizes (save g ∷ ds) ≡ refused sizes ds
  save_fits ds fits = ap (λ (b : Bool). if b then refused sizes ds else Some (full sizes (save g))) (le-leb (saves g + 1) sizes.save_size (omega (arith, fits)))

  pub save_full : (ds : List Demand) → sizes.save_size ≤ saves g → refused sizes (save g ∷ ds) ≡ Some (full sizes (save g))
  save_full ds all = ap (λ (b : Bool). if b then refused sizes ds else Some (full sizes (save g))) (lt-leb (saves g + 1) sizes.save_size (omega (arith, all)))

  abbrev pub group : Demand
  group = record { table = GroupingLevels; used = depth g; need = 1 }

  pub group_fits : saves g < sizes.save_size → depth g < sizes.grouping_levels → refused sizes (group_demands g) ≡ None
  group_fits fits few = save_fits (group ∷ []) fits ∙ ap (λ (b : Bool). if b then None else Some (full sizes group)) (le-leb (depth g + 1) sizes.grouping_levels (omega (arith, few)))

  pub group_full : saves g < sizes.save_size → sizes.grouping_levels ≤ depth g → refused sizes (group_demands g) ≡ Some (full sizes group)
  group_full fits all = save_fits (group ∷ []) fits ∙ ap (λ (b : Bool). if b then None else Some (full sizes group)) (lt-leb (depth g + 1) sizes.grouping_levels (omega (arith, all)))

-- the refusal that the groups below give is the machine's
module _ (sizes : Sizes) (s : Stack K) (g : Groups) (view : groups_of (mapped numbered_value s) ≡ g) (sized : s.size ≡ sizes.save_size) where
  pub used_is : used s ≡ saves g
  used_is = omega (arith, used_as numbered_value s, ap (λ (x : Groups). saves x) view)

  pub full_is : (f : Full) → IsSaveFull f s → full sizes (save g) ≡ f
  full_is f is = sym (λ i. record { table = is.of_saves i; used = (is.count ∙ used_is) i; size = (is.limit ∙ sized) i })

  pub no_entry : (ds : List Demand) (f : Full) → IsSaveFull f s → refused sizes (save g ∷ ds) ≡ Some f
  no_entry ds f is = save_full sizes g ds (omega (arith, is.full, used_is, sized)) ∙ ap (λ (x : Full). let o : Option Full = Some x in o) (full_is f is)

  pub token_refused : (r : Result Unit Full) → OnOk r (used s < s.size) → IfErr r (λ f. IsSaveFull f s) → MatchResult r (λ _. refused sizes (token_demands g) ≡ None) (λ f. refused sizes (token_demands g) ≡ Some f)
  token_refused (Ok u) room is = save_fits sizes g [] (omega (arith, room, used_is, sized))
  token_refused (Err f) room is = no_entry [] f is

  -- as many groups are open as may be
  pub no_level : saves g < sizes.save_size → (n : ℕ) → length s.kinds ≡ n → n ≡ sizes.grouping_levels → refused sizes (group_demands g) ≡ Some (record { table = GroupingLevels; used = n; size = n })
  no_level fits n deep all =
      let deep' : depth g ≡ n = sym (ap (λ (x : Groups). depth x) view) ∙ deep in
      group_full sizes g fits (omega (arith, deep', all)) ∙ (λ i. let o : Option Full = Some (record { table = GroupingLevels; used = deep' i; size = sym all i }) in o)

  pub group_refused : (r : Result Unit Full) → OnOk r (used s < s.size) → IfErr r (λ f. IsSaveFull f s) → length s.kinds < sizes.grouping_levels → MatchResult r (λ _. refused sizes (group_demands g) ≡ None) (λ f. refused sizes (group_demands g) ≡ Some f)
  group_refused (Ok u) room is few = group_fits sizes g (omega (arith, room, used_is, sized)) (omega (arith, few, ap (λ (x : Groups). depth x) view))
  group_refused (Err f) room is few = no_entry (group sizes g ∷ []) f is

-- SOUNDNESS

-- where the innermost map stays
sound_with : (cs : List ℕ) (s s' : Stack V) (closing : List Token) (room given : ℕ) (ending : Option GroupKind) (sizes : Sizes) → IsSound cs s closing room given ending sizes →
    IsWhole s' → top s.maps ≡ top s'.maps → s'.size ≡ s.size → s'.most ≡ s.most → length s'.kinds ≤ sizes.grouping_levels → IsSound cs s' closing room given ending sizes
sound_with cs s s' closing room given ending sizes is whole same sized most deep = record {
  whole = whole;
  codes = is.codes ∙ ap categories_in same;
  save_size = sized ∙ is.save_size;
  most = most ∙ is.most;
  rooms = is.rooms;
  levels = deep;
  idle = is.idle;
}

module _ (cs : List ℕ) (s s' : Stack K) (closing : List Token) (room given : ℕ) (ending : Option GroupKind) (sizes : Sizes) (is : IsSound cs (mapped numbered_value s) closing room given ending sizes) where
  opened_sound : (kind : GroupKind) → s' ≡ opened s kind → length s.kinds < sizes.grouping_levels → IsSound cs (mapped numbered_value s') closing room given ending sizes
  opened_sound kind o few =
      let view : mapped numbered_value s' ≡ opened (mapped numbered_value s) kind = ap (λ (x : Stack K). mapped numbered_value x) o ∙ opened_as numbered_value s kind in
      subst (λ (x : Stack V). IsSound cs x closing room given ending sizes) (sym view)
      (sound_with cs (mapped numbered_value s) (opened (mapped numbered_value s) kind) closing room given ending sizes is (opens (mapped numbered_value s) is.whole kind) refl refl refl (omega (arith, few, length-append s.kinds (kind ∷ []))))

  token_sound : (t : Token) → s' ≡ with_token s t → IsSound cs (mapped numbered_value s') closing room given ending sizes
  token_sound t k =
      subst (λ (x : Stack K). IsSound cs (mapped numbered_value x) closing room given ending sizes) (sym k)
      (sound_with cs (mapped numbered_value s) (with_token (mapped numbered_value s) t) closing room given ending sizes is (keeps (mapped numbered_value s) is.whole t) refl refl refl is.levels)

  still_sound : s' ≡ s → IsSound cs (mapped numbered_value s') closing room given ending sizes
  still_sound same = subst (λ (x : Stack K). IsSound cs (mapped numbered_value x) closing room given ending sizes) (sym same) is

  pub opened_or_same : (kind : GroupKind) (r : Result Unit Full) → OnOk r (s' ≡ opened s kind) → OnErr r (s' ≡ s) → length s.kinds < sizes.grouping_levels → IsSound cs (mapped numbered_value s') closing room given ending sizes
  opened_or_same kind (Ok u) o e few = opened_sound kind o few
  opened_or_same kind (Err f) o e few = still_sound e

  pub kept_or_same : (t : Token) (r : Result Unit Full) → OnOk r (s' ≡ with_token s t) → OnErr r (s' ≡ s) → IsSound cs (mapped numbered_value s') closing room given ending sizes
  kept_or_same t (Ok u) o e = token_sound t o
  kept_or_same t (Err f) o e = still_sound e

-- THE TABLE

module _ (s s' : Stack K) (closing : List Token) (ending : Option GroupKind) (sizes : Sizes) (t : Table) (view : mk (groups_of (mapped numbered_value s)) closing ending sizes ≡ t) where
  abbrev after : Table
  after = mk (groups_of (mapped numbered_value s')) closing ending sizes

  pub same_table : (r : Result Unit Full) → OnErr r (s' ≡ s) → OnErr r (after ≡ t)
  same_table (Ok u) e = tt
  same_table (Err f) e = ap (λ (x : Stack K). mk (groups_of (mapped numbered_value x)) closing ending sizes) e ∙ view

  pub kept_table : (token : Token) (r : Result Unit Full) → OnOk r (s' ≡ with_token s token) → OnOk r (after ≡ token_kept t token)
  kept_table token (Ok u) o = ap (λ (x : Stack K). mk (groups_of (mapped numbered_value x)) closing ending sizes) o ∙ ap (λ (u : Table). token_kept u token) view
  kept_table token (Err f) o = tt

  pub opened_table : (kind : GroupKind) (r : Result Unit Full) → IsWhole (mapped numbered_value s) → OnOk r (s' ≡ opened s kind) → OnOk r (after ≡ group_opened t kind)
  opened_table kind (Ok u) whole o =
      ap (λ (x : Stack K). mk (groups_of (mapped numbered_value x)) closing ending sizes) o
      ∙ ap (λ (g : Groups). mk g closing ending sizes) (ap (λ (x : Stack V). groups_of x) (opened_as numbered_value s kind) ∙ opens_groups (mapped numbered_value s) whole kind)
      ∙ ap (λ (u : Table). group_opened u kind) view
  opened_table kind (Err f) whole o = tt
