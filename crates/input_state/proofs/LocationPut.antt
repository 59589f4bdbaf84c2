-- A list that stands at a location is put in front.
use Rattle.std.proofs.Common.{◌≡◌, ℕ, List, [], map, Option, Some, true, sym, ap, ap₂, ◌∙◌}
use Rattle.tex_defs.specs.declared.Token.{Token}
use Rattle.tex_defs.specs.declared.Sizes.{Sizes}
use Rattle.plain_tokens.specs.Puts as plain
use Rattle.token_lists.specs.declared.Build.{Build}
use Rattle.token_lists.specs.Table.{Entry, tokens_at}
use Rattle.token_lists.specs.Accounts.{holds}
use Rattle.equivalents.specs.declared.values.Loc.{Loc}
use Rattle.input_stack.specs.Puts.{Text}
use Rattle.input_stack.specs.CallViews.{Shares}
use Rattle.input_stack.specs.Pending.{Pending, put, listed_put, shared_put, refusal}
use Rattle.input_stack.specs.View.{pending}
use Rattle.input_stack.specs.declared.stack.InputStack.{InputStack}
use Rattle.input_state.specs.HeldLists.{HeldLists, call_refusal}
use Rattle.input_state.specs.HeldViews.{Named, texts, front, lists_of, all_builds, IsSound}
use Rattle.input_state.specs.AtLocations.{list_number, numbered_put, location_put}
use Rattle.input_state.proofs.Fronts.{texts_are}
use Rattle.input_state.proofs.Sharing.{text_at}
use Rattle.input_state.proofs.SharedPut.{shared_refused}
use Rattle.input_state.proofs.CallKept.{shared_stands}

module _ (old mid : List (Option Entry)) (s : InputStack) (making : Option Build) (gathered : List Build) (m : Named) (sizes : Sizes) (capacity : ℕ) (sound : IsSound old s making gathered m sizes capacity) (k : ℕ) (shares : Shares old mid (holds k)) where
  still : pending mid s ≡ pending old s
  still = (shared_stands old mid s (all_builds making gathered) m k sound.shared shares).1

  pub standing_now : (now : Pending) → now ≡ put (shared_put k (tokens_at mid k)) (pending mid s) → now ≡ put (listed_put true k (tokens_at old k)) (pending old s)
  standing_now now after = after ∙ ap₂ (λ (ts : List Token) (p : Pending). put (shared_put k ts) p) (shares.tokens k) still

  module _ (v : HeldLists) (is : lists_of old (pending old s) making gathered m sizes ≡ v) (l : Loc) (at : list_number m.table.groups l ≡ Some k) where
    pub standing_is : front old (listed_put true k (tokens_at old k)) ≡ location_put v.lists v.groups l
    standing_is =
        ap (λ (xs : List plain.Item). let p : plain.Put = record { list = plain.Macro k; arguments = []; items = xs } in p) (texts_are (tokens_at old k))
        ∙ ap (plain.list_put k) (sym (text_at old k))
        ∙ ap (numbered_put (texts old)) (sym at)
        ∙ ap (λ (w : HeldLists). location_put w.lists w.groups l) is

    pub standing_refused : refusal s.size (map Text (tokens_at mid k)) (pending mid s) ≡ call_refusal (location_put v.lists v.groups l) v
    standing_refused =
        ap₂ (λ (ts : List Token) (p : Pending). refusal s.size (map Text ts) p) (shares.tokens k) still
        ∙ shared_refused old s making gathered m sizes capacity sound k (tokens_at old k) (location_put v.lists v.groups l) v standing_is is
