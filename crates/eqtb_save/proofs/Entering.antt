-- One name more, which is undefined.
use Rattle.std.proofs.Common.{◌≡◌, ℕ, ◌+◌, ◌<◌, ◌≤◌, List, [], ◌∷◌, ◌++◌, length, Option, refl, sym, ap, subst, ◌∙◌, arith}
use Rattle.tex_defs.specs.declared.Meaning.{Meaning}
use Rattle.tex_defs.specs.declared.Meaning.TheVariants as means
use Rattle.tex_defs.specs.declared.Sizes.{Sizes}
use Rattle.tex_defs.specs.declared.Token.{Token}
use Rattle.token_lists.specs.Holders.{times}
use Rattle.save_stack.specs.declared.GroupKind.{GroupKind}
use Rattle.save_stack.specs.Groups.{Stack, top, extended, each_longer}
use Rattle.save_stack.specs.Mapped.{mapped}
use Rattle.save_stack.proofs.Mapped.{extended_as}
use Rattle.equivalents.specs.declared.values.Val.TheVariants as val
use Rattle.equivalents.specs.Locations.{V}
use Rattle.equivalents.specs.Groups.{Groups, entered}
use Rattle.equivalents.specs.Flat.{groups_of}
use Rattle.equivalents.specs.Holding.{list_of, with_list, lists_of, lists_of_meanings, lists_of_entries, lists_held}
use Rattle.equivalents.specs.Laws.{IsWhole}
use Rattle.equivalents.proofs.Joins.{enters}
use Rattle.equivalents.proofs.Whole as whole
use Rattle.eqtb_save.specs.Values.{numbered_value, categories_in}
use Rattle.eqtb_save.specs.Table.{Table, IsSound, HasRoom, name_entered}
use Rattle.eqtb_save.proofs.Codes.{codes_push}
use Rattle.eqtb_save.proofs.Held.{K}
use Rattle.eqtb_save.proofs.Places.{names_last}

abbrev undefined : V
undefined = val.Meant means.Undefined

abbrev table : Groups → List Token → Option GroupKind → Sizes → Table
table g closing ending sizes = record { groups = g; closing = closing; ending = ending; sizes = sizes }

-- it holds nothing
undefined_last : (ms : List (Meaning (Option ℕ))) → lists_of_meanings (ms ++ means.Undefined ∷ []) ≡ lists_of_meanings ms
undefined_last [] = refl
undefined_last (m ∷ ms) = ap (λ (xs : List ℕ). with_list (list_of m) xs) (undefined_last ms)

pub entered_holds : (g : Groups) (h : ℕ) → times h (lists_held (entered g)) ≡ times h (lists_held g)
entered_holds g h = ap (λ (xs : List ℕ). times h ((lists_of g.now.toks ++ (lists_of g.now.parameters ++ xs)) ++ lists_of_entries g.entries)) (undefined_last g.now.meanings)

-- no category code is new
top_longer : (ms : List (List V)) → 256 ≤ length (top ms) → categories_in (top (each_longer ms undefined)) ≡ categories_in (top ms)
top_longer [] within = refl
top_longer (m ∷ ms) within = codes_push m undefined within

pub room_for_one : (s : Stack V) (t : Table) → groups_of s ≡ t.groups → IsWhole s → s.most ≡ 2918 + 514 + t.sizes.hash_size → HasRoom t → length s.levels < s.most
room_for_one s t is whole most room = omega (arith, names_last s whole, ap (λ (x : Groups). length x.now.meanings) is, most, room)

module _ (s s' : Stack K) (is : IsWhole (mapped numbered_value s)) (d : s' ≡ extended s (val.Meant means.Undefined)) where
  view : mapped numbered_value s' ≡ extended (mapped numbered_value s) undefined
  view = ap (λ (x : Stack K). mapped numbered_value x) d ∙ extended_as numbered_value s (val.Meant means.Undefined)

  pub entered_groups : (g : Groups) → groups_of (mapped numbered_value s) ≡ g → groups_of (mapped numbered_value s') ≡ entered g
  entered_groups g now = ap (λ (x : Stack V). groups_of x) view ∙ enters (mapped numbered_value s) is ∙ ap entered now

  pub entered_table : (closing : List Token) (ending : Option GroupKind) (sizes : Sizes) (t : Table) → table (groups_of (mapped numbered_value s)) closing ending sizes ≡ t → table (groups_of (mapped numbered_value s')) closing ending sizes ≡ name_entered t
  entered_table closing ending sizes t now = ap (λ (g : Groups). table g closing ending sizes) (entered_groups _ refl) ∙ ap (λ (u : Table). name_entered u) now

  pub entered_sound : (cs : List ℕ) (closing : List Token) (room given : ℕ) (ending : Option GroupKind) (sizes : Sizes) → IsSound cs (mapped numbered_value s) closing room given ending sizes → IsSound cs (mapped numbered_value s') closing room given ending sizes
  entered_sound cs closing room given ending sizes sound = subst (λ (x : Stack V). IsSound cs x closing room given ending sizes) (sym view) (record {
    whole = whole.enters (mapped numbered_value s) is;
    codes = sound.codes ∙ sym (top_longer (mapped numbered_value s).maps (omega (arith, names_last (mapped numbered_value s) is, is.located)));
    save_size = sound.save_size;
    most = sound.most;
    rooms = sound.rooms;
    levels = sound.levels;
    idle = sound.idle;
  })
