-- All stands after a pull.
use Rattle.std.proofs.Common.{◌≡◌, ℕ, List, [], map, reverse, Option, Result, sym, ap, ◌∙◌, subst}
use Rattle.tex_defs.specs.declared.Full.{Full}
use Rattle.tex_defs.specs.declared.Sizes.{Sizes}
use Rattle.token_lists.specs.declared.Build.{Build}
use Rattle.token_lists.specs.Table.{Entry}
use Rattle.token_lists.specs.Accounts.{Moves, Keeps}
use Rattle.equivalents.specs.Holding.{lists_held}
use Rattle.input_stack.specs.Puts.{Put, next_item}
use Rattle.input_stack.specs.Pending.{Pending, end_token_lists}
use Rattle.plain_tokens.specs.Puts as plain
use Rattle.input_state.proofs.Fronts.{fronts_settled}
use Rattle.input_stack.specs.Pulls.{Pulls}
use Rattle.input_stack.specs.CallViews.{opened}
use Rattle.input_stack.specs.View.{pending, held}
use Rattle.input_stack.specs.Stacks.{IsStack}
use Rattle.input_stack.specs.Lasting.{LastsBut}
use Rattle.input_stack.specs.declared.level.Pulled.{Pulled as Given}
use Rattle.input_stack.specs.declared.stack.InputStack.{InputStack}
use Rattle.input_state.specs.FileLeft.{FileLeft}
use Rattle.input_state.specs.HeldLists.{HeldLists, Covered, outer_in, AreInBuffer, GoFurther}
use Rattle.input_state.specs.Macros.{KeepsLists}
use Rattle.input_state.specs.HeldViews.{Named, calling_of, text, made_text, fronts, covers, texts, lists_of, all_builds, puts_in, AreFronts, IsSound}
use Rattle.input_state.proofs.Shares.{Fewer}
use Rattle.input_state.proofs.Sharing.{Moved}
use Rattle.input_state.proofs.Sources.{all_fronts}
use Rattle.input_state.proofs.ListViews.{held_lists, moved_view, macros_moved}
use Rattle.input_state.proofs.Sounds.{levels_moved, levels_sound}
use Rattle.input_state.proofs.Pulling.{pull_fronts, pull_fewer, pull_further, pull_outer}

module _ (old new : List (Option Entry)) (s t : InputStack) (making : Option Build) (gathered : List Build) (m : Named) (sizes : Sizes) (capacity : ℕ) (sound : IsSound old s making gathered m sizes capacity) (stands : IsStack new t) (moves : Moves old new (held s) (held t)) (keeps : Keeps old new (held s)) (lasting : LastsBut old new (opened (next_item (pending old s).puts))) (size : t.size ≡ s.size) (parameters : t.parameter_size ≡ s.parameter_size) (n : ℕ) (c b d : List ℕ) (r : Result Given Full) (pulls : Pulls n c b d (pending old s) (pending new t) r) where
  simple : AreFronts (puts_in (pending new t))
  simple = pull_fronts n c b d (pending old s) (pending new t) r pulls sound.shared.fronts

  few : Fewer (puts_in (pending new t)) (puts_in (pending old s))
  few = pull_fewer n c b d (pending old s) (pending new t) r pulls

  moved_now : Moved old new t m (all_builds making gathered)
  moved_now = levels_moved old new s t making gathered m sizes capacity (opened (next_item (pending old s).puts)) sound stands moves keeps lasting size parameters simple few

  pub pulled_sound : IsSound new t making gathered m sizes capacity
  pulled_sound = levels_sound old new s t making gathered m sizes capacity (opened (next_item (pending old s).puts)) sound stands moves keeps lasting size parameters simple few

  pub pulled_view : lists_of new (pending new t) making gathered m sizes ≡ record (lists_of old (pending new t) making gathered m sizes) { lists = texts new }
  pulled_view = moved_view old new t m sizes making gathered moved_now

  pub pulled_others : (v : HeldLists) → lists_of old (pending old s) making gathered m sizes ≡ v → lists_of new (pending new t) making gathered m sizes ≡ record v { puts = fronts new (pending new t).puts; below = covers new (pending new t).sources; lists = texts new }
  pulled_others v is =
      ap (λ (w : HeldLists). record w { puts = fronts new (pending new t).puts; below = covers new (pending new t).sources; lists = texts new }) pulled_view
      ∙ ap (λ (w : HeldLists). record w { puts = fronts new (pending new t).puts; below = covers new (pending new t).sources; lists = texts new }) is

  pub pulled_macros : (v : HeldLists) → lists_of old (pending old s) making gathered m sizes ≡ v → KeepsLists (lists_held m.table.groups) (all_fronts new (pending new t)) v.lists (texts new)
  pulled_macros v is = macros_moved old new t m sizes (all_builds making gathered) v.lists moved_now (ap (λ (w : HeldLists). w.lists) is)

  -- the lines are where they were, or further on
  pub pulled_further : (v : HeldLists) → lists_of old (pending old s) making gathered m sizes ≡ v → (l : ℕ) → AreInBuffer v.below l → GoFurther v.below (covers new (pending new t).sources)
  pulled_further v is l inside =
      let here : AreInBuffer (covers old (pending old s).sources) l = subst (λ (w : HeldLists). AreInBuffer w.below l) (sym is) inside in
      subst (λ (w : HeldLists). GoFurther w.below (covers new (pending new t).sources)) is
      (subst (GoFurther (covers old (pending old s).sources)) (sym moved_now.reheld.beneath) (pull_further old n c b d (pending old s) (pending new t) r l here pulls))

  pub pulled_outer : (v : HeldLists) → lists_of old (pending old s) making gathered m sizes ≡ v → (l : ℕ) → AreInBuffer v.below l → (fs : List FileLeft) → outer_in d (covers new (pending new t).sources) fs ≡ outer_in b v.below fs
  pulled_outer v is l inside fs =
      let here : AreInBuffer (covers old (pending old s).sources) l = subst (λ (w : HeldLists). AreInBuffer w.below l) (sym is) inside in
      ap (λ (bs : List Covered). outer_in d bs fs) moved_now.reheld.beneath
      ∙ pull_outer old n c b d (pending old s) (pending new t) r l fs pulls here
      ∙ ap (λ (w : HeldLists). outer_in b w.below fs) is

  -- nothing was read
  pub refused_view : (v : HeldLists) → lists_of old (pending old s) making gathered m sizes ≡ v → pending new t ≡ end_token_lists (pending old s) → lists_of new (pending new t) making gathered m sizes ≡ record v { puts = plain.without_ended v.puts; lists = texts new }
  refused_view v is after =
      pulled_view
      ∙ ap (λ (p : Pending). record (lists_of old p making gathered m sizes) { lists = texts new }) after
      ∙ ap (λ (ps : List plain.Put). held_lists ps (made_text old making) (calling_of old m.call) (map (text old) (reverse gathered)) (covers old (pending old s).sources) m.table sizes (texts new)) (fronts_settled old (pending old s).puts)
      ∙ ap (λ (w : HeldLists). record w { puts = plain.without_ended w.puts; lists = texts new }) is

  -- no list is left in front
  pub passed_view : (v : HeldLists) → lists_of old (pending old s) making gathered m sizes ≡ v → (pending new t).puts ≡ [] → lists_of new (pending new t) making gathered m sizes ≡ record v { puts = []; below = covers new (pending new t).sources; lists = texts new }
  passed_view v is none =
      pulled_others v is
      ∙ ap (λ (ps : List Put). let w : HeldLists = record v { puts = fronts new ps; below = covers new (pending new t).sources; lists = texts new } in w) none
