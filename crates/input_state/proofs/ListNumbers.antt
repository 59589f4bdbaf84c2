-- The lists that are gathered, by their numbers.
use Rattle.std.proofs.Common.{◌≡◌, ℕ, ◌-◌, ◌<◌, List, [], length, get_or, map, reverse, Option, sym, ap, ◌∙◌, subst, arith}
use Rattle.std.specs.Prelude.{All, option_to_list}
use Rattle.std.proofs.lemmas.List.{get_or-map, get_or-reverse, length-map, length-reverse}
use Rattle.std.proofs.lemmas.List.Elements.{All-get_or}
use Rattle.tex_defs.specs.declared.Token.{Token}
use Rattle.token_lists.specs.declared.Build.{Build}
use Rattle.token_lists.specs.Ids.{build_id, IsBuilding}
use Rattle.token_lists.specs.Table.{Entry, tokens_at, IsHeld}
use Rattle.input_state.specs.Macros.{list_at}
use Rattle.input_state.specs.HeldViews.{text, all_builds}
use Rattle.input_state.proofs.Sharing.{all_right}

module _ (table : List (Option Entry)) (items : List Build) (v : List (List Token)) (is : map (text table) (reverse items) ≡ v) (k : ℕ) (below : k < length v) where
  pub in_items : k < length items
  in_items = omega (arith, below, ap length is, length-map (reverse items) (text table), length-reverse items)

  module _ (count size : ℕ) (counted : count ≡ size) (sized : size ≡ length items) (b : Build) (there : b ≡ get_or items (count - 1 - k) b) where
    at_number : get_or (reverse items) k b ≡ b
    at_number =
        get_or-reverse items k b in_items
        ∙ ap (λ (n : ℕ). get_or items (n - 1 - k) b) (sym (counted ∙ sized))
        ∙ sym there

    pub number_held : (making : Option Build) → All (IsBuilding table) (all_builds making items) → IsHeld table (build_id b)
    number_held making all =
        let one = All-get_or (IsBuilding table) (reverse items) k b (omega (arith, in_items, length-reverse items)) (all_right table (option_to_list making) (reverse items) all) in
        let building : IsBuilding table b = subst (λ (x : Build). IsBuilding table x) at_number one in
        omega (arith, building.sole)

    pub number_tokens : tokens_at table (build_id b) ≡ list_at v k
    number_tokens =
        sym (ap (text table) at_number)
        ∙ sym (get_or-map (text table) (reverse items) k b [] (omega (arith, in_items, length-reverse items)))
        ∙ ap (λ (ts : List (List Token)). list_at ts k) is
