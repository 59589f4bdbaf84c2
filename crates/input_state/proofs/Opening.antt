-- A file gets its level, above all that is pending.
use Rattle.std.proofs.Common.{◌≡◌, ℕ, List, [], ◌∷◌, Option, Result, Ok, Err, sym, ap, ◌∙◌, subst}
use Rattle.std.specs.Prelude.{OnOk, OnErr}
use Rattle.tex_defs.specs.declared.Full.{Full}
use Rattle.tex_defs.specs.declared.Sizes.{Sizes}
use Rattle.plain_tokens.specs.Puts as plain
use Rattle.token_lists.specs.declared.Build.{Build}
use Rattle.token_lists.specs.Table.{Entry}
use Rattle.token_lists.specs.Accounts.{Moves, Keeps, none}
use Rattle.line_lexer.specs.declared.Line.{Line}
use Rattle.world_io.specs.declared.traits.InId.{InId}
use Rattle.equivalents.specs.Holding.{lists_held}
use Rattle.input_stack.specs.Puts.{Put, without_ended}
use Rattle.input_stack.specs.Pending.{Pending, end_token_lists, open_over}
use Rattle.input_stack.specs.View.{pending, held}
use Rattle.input_stack.specs.Stacks.{IsStack}
use Rattle.input_stack.specs.Lasting.{Lasts}
use Rattle.input_stack.specs.declared.stack.InputStack.{InputStack}
use Rattle.input_state.specs.HeldLists.{HeldLists, Covered, opened_over}
use Rattle.input_state.specs.Macros.{KeepsLists}
use Rattle.input_state.specs.HeldViews.{Named, fronts, covers, puts_in, texts, lists_of, all_builds, AreFronts, IsSound}
use Rattle.input_state.proofs.Sources.{all_fronts}
use Rattle.input_state.proofs.Fronts.{fronts_settled}
use Rattle.input_state.proofs.Shares.{Fewer, fewer_settle}
use Rattle.input_state.proofs.Levels.{simple_settled}
use Rattle.input_state.proofs.Sharing.{Moved}
use Rattle.input_state.proofs.ListViews.{moved_view, macros_moved}
use Rattle.input_state.proofs.Sounds.{levels_moved, levels_sound, lasts_none}

module _ (old new : List (Option Entry)) (s t : InputStack) (making : Option Build) (gathered : List Build) (m : Named) (sizes : Sizes) (capacity : ℕ) (sound : IsSound old s making gathered m sizes capacity) (stands : IsStack new t) (moves : Moves old new (held s) (held t)) (keeps : Keeps old new (held s)) (lasts : Lasts old new) (size : t.size ≡ s.size) (parameters : t.parameter_size ≡ s.parameter_size) (v : HeldLists) (is : lists_of old (pending old s) making gathered m sizes ≡ v) (settled_already : plain.without_ended v.puts ≡ v.puts) (id : Option InId) (line : Line) (r : Result Unit Full) (ok : OnOk r (pending new t ≡ open_over id line (end_token_lists (pending old s)))) (err : OnErr r (pending new t ≡ end_token_lists (pending old s))) where
  -- the lists in front of all lines are those that were
  same_puts : (x : Result Unit Full) → OnOk x (pending new t ≡ open_over id line (end_token_lists (pending old s))) → OnErr x (pending new t ≡ end_token_lists (pending old s)) → puts_in (pending new t) ≡ puts_in (end_token_lists (pending old s))
  same_puts (Ok u) after refused = ap puts_in after
  same_puts (Err f) after refused = ap puts_in refused

  open_simple : AreFronts (puts_in (pending new t))
  open_simple = subst AreFronts (sym (same_puts r ok err)) (simple_settled (pending old s) sound.shared.fronts)

  open_fewer : Fewer (puts_in (pending new t)) (puts_in (pending old s))
  open_fewer = subst (λ (ps : List Put). Fewer ps (puts_in (pending old s))) (sym (same_puts r ok err)) (fewer_settle (pending old s))

  moved_now : Moved old new t m (all_builds making gathered)
  moved_now = levels_moved old new s t making gathered m sizes capacity none sound stands moves keeps (lasts_none old new lasts) size parameters open_simple open_fewer

  pub open_sound : IsSound new t making gathered m sizes capacity
  open_sound = levels_sound old new s t making gathered m sizes capacity none sound stands moves keeps (lasts_none old new lasts) size parameters open_simple open_fewer

  pub open_macros : KeepsLists (lists_held m.table.groups) (all_fronts new (pending new t)) v.lists (texts new)
  open_macros = macros_moved old new t m sizes (all_builds making gathered) v.lists moved_now (ap (λ (w : HeldLists). w.lists) is)

  -- the finished lists are gone already
  quiet : fronts old (without_ended (pending old s).puts) ≡ v.puts
  quiet = fronts_settled old (pending old s).puts ∙ ap (λ (w : HeldLists). plain.without_ended w.puts) is ∙ settled_already

  -- the lists are as they were, in front of what is pending then
  open_view : lists_of new (pending new t) making gathered m sizes ≡ record v { puts = fronts old (pending new t).puts; below = covers old (pending new t).sources; lists = texts new }
  open_view =
      moved_view old new t m sizes making gathered moved_now
      ∙ ap (λ (w : HeldLists). record w { puts = fronts old (pending new t).puts; below = covers old (pending new t).sources; lists = texts new }) is

  below_is : covers old (pending old s).sources ≡ v.below
  below_is = ap (λ (w : HeldLists). w.below) is

  opened_view : pending new t ≡ open_over id line (end_token_lists (pending old s)) → ◌≡◌ {A = HeldLists} (record v { puts = fronts old (pending new t).puts; below = covers old (pending new t).sources; lists = texts new }) (record (opened_over line v) { lists = texts new })
  opened_view after =
      ap (λ (p : Pending). let w : HeldLists = record v { puts = fronts old p.puts; below = covers old p.sources; lists = texts new } in w) after
      ∙ ap (λ (ps : List plain.Put). let w : HeldLists = record v { puts = []; below = record { line = line; puts = ps } ∷ covers old (pending old s).sources; lists = texts new } in w) quiet
      ∙ ap (λ (bs : List Covered). let w : HeldLists = record v { puts = []; below = record { line = line; puts = v.puts } ∷ bs; lists = texts new } in w) below_is

  closed_view : pending new t ≡ end_token_lists (pending old s) → ◌≡◌ {A = HeldLists} (record v { puts = fronts old (pending new t).puts; below = covers old (pending new t).sources; lists = texts new }) (record v { lists = texts new })
  closed_view after =
      ap (λ (p : Pending). let w : HeldLists = record v { puts = fronts old p.puts; below = covers old p.sources; lists = texts new } in w) after
      ∙ ap (λ (ps : List plain.Put). let w : HeldLists = record v { puts = ps; below = covers old (pending old s).sources; lists = texts new } in w) quiet
      ∙ ap (λ (bs : List Covered). let w : HeldLists = record v { below = bs; lists = texts new } in w) below_is

  ok_by : (x : Result Unit Full) → OnOk x (pending new t ≡ open_over id line (end_token_lists (pending old s))) → OnOk x (lists_of new (pending new t) making gathered m sizes ≡ record (opened_over line v) { lists = texts new })
  ok_by (Ok u) after = open_view ∙ opened_view after
  ok_by (Err f) after = tt

  err_by : (x : Result Unit Full) → OnErr x (pending new t ≡ end_token_lists (pending old s)) → OnErr x (lists_of new (pending new t) making gathered m sizes ≡ record v { lists = texts new })
  err_by (Ok u) after = tt
  err_by (Err f) after = open_view ∙ closed_view after

  pub open_ok : OnOk r (lists_of new (pending new t) making gathered m sizes ≡ record (opened_over line v) { lists = texts new })
  open_ok = ok_by r ok

  pub open_err : OnErr r (lists_of new (pending new t) making gathered m sizes ≡ record v { lists = texts new })
  open_err = err_by r err
