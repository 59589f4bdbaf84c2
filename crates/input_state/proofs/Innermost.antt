-- The innermost list that is gathered stands last.
use Rattle.std.proofs.Common.{◌≡◌, ℕ, suc, ◌-◌, ◌<◌, ◌≤◌, List, [], ◌∷◌, ◌++◌, length, take, get_or, map, reverse, Option, sym, ap, ◌∙◌, subst, take_all, arith}
use Rattle.std.proofs.Math.Seq.{take-suc}
use Rattle.std.specs.Prelude.{All, option_to_list}
use Rattle.std.proofs.lemmas.List.Elements.{All-head}
use Rattle.tex_defs.specs.declared.Token.{Token}
use Rattle.token_lists.specs.declared.Build.{Build}
use Rattle.token_lists.specs.Ids.{build_id, IsBuilding}
use Rattle.token_lists.specs.Table.{Entry, tokens_at, IsHeld}
use Rattle.input_state.specs.HeldLists.{first_list}
use Rattle.input_state.specs.HeldViews.{text, all_builds}
use Rattle.input_state.proofs.Sharing.{all_right}
use Rattle.input_state.proofs.ListViews.{reverse_push}

pub some_build : (table : List (Option Entry)) (items : List Build) (v : List (List Token)) → map (text table) (reverse items) ≡ v → (v ≡ [] → ⊥) → 0 < length items
some_build table [] v is some = absurd (some (sym is))
some_build table (b ∷ bs) v is some = omega arith

module _ (items : List Build) (count size : ℕ) (counted : count ≡ size) (sized : size ≡ length items) (some : 0 < length items) where
  pub count_some : 1 ≤ count
  count_some = omega arith

  pub last_below : count - 1 < size
  last_below = omega arith

  module _ (b : Build) (is : b ≡ get_or items (count - 1) b) where
    pub last_is : items ≡ take (count - 1) items ++ b ∷ []
    last_is =
        sym (take_all (suc (count - 1)) items (omega arith))
        ∙ take-suc items (count - 1) b (omega arith)
        ∙ ap (λ (x : Build). take (count - 1) items ++ x ∷ []) (sym is)

    pub last_held : (table : List (Option Entry)) (making : Option Build) → All (IsBuilding table) (all_builds making items) → IsHeld table (build_id b)
    last_held table making all =
        let front = take (count - 1) items in
        let building = All-head (IsBuilding table) b (reverse front) (subst (All (IsBuilding table)) (reverse_push items front b last_is) (all_right table (option_to_list making) (reverse items) all)) in
        omega (arith, building.sole)

    pub last_tokens : (table : List (Option Entry)) (v : List (List Token)) → map (text table) (reverse items) ≡ v → tokens_at table (build_id b) ≡ first_list v
    last_tokens table v all = ap (λ (bs : List Build). first_list (map (text table) bs)) (sym (reverse_push items (take (count - 1) items) b last_is)) ∙ ap first_list all
