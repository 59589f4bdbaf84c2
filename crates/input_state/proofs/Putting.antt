-- The list that was made is put in front.
use Rattle.std.proofs.Common.{◌≡◌, ℕ, ◌+◌, ◌<◌, ◌≤◌, List, [], false, ◌∷◌, map, reverse, Option, None, Some, refl, sym, ap, ◌∙◌, subst, arith}
use Rattle.std.proofs.lemmas.Option.{none-some}
use Rattle.tex_defs.specs.declared.Token.{Token}
use Rattle.tex_defs.specs.declared.Full.{Full}
use Rattle.tex_defs.specs.declared.Sizes.{Sizes}
use Rattle.plain_tokens.specs.Puts as plain
use Rattle.plain_tokens.specs.Tables.{refused}
use Rattle.token_lists.specs.declared.Build.{Build}
use Rattle.token_lists.specs.Ids.{build_id}
use Rattle.token_lists.specs.Table.{Entry, tokens_at, holders_at}
use Rattle.token_lists.specs.Accounts.{holds, Moves, Keeps}
use Rattle.equivalents.specs.Holding.{lists_held}
use Rattle.eqtb_save.specs.Holding as eqtb
use Rattle.input_stack.specs.Puts.{Text}
use Rattle.input_stack.specs.Pending.{Pending, times, put, plain_put, refusal, room, used_levels}
use Rattle.input_stack.specs.View.{pending, held}
use Rattle.input_stack.specs.Stacks.{IsStack}
use Rattle.input_stack.specs.Lasting.{Lasts}
use Rattle.input_stack.specs.declared.stack.InputStack.{InputStack}
use Rattle.input_state.specs.HeldLists.{HeldLists, made, level_held}
use Rattle.input_state.specs.Macros.{KeepsLists}
use Rattle.input_state.specs.HeldViews.{Named, calling_of, fronts, text, texts, covers, lists_of, all_builds, built, owns, cells_of, puts_in, AreFronts, IsApart, IsDefined, IsShared, IsSound}
use Rattle.input_state.proofs.Counting.{times_cons}
use Rattle.input_state.proofs.Shares.{apart_fewer, fewer_put_in}
use Rattle.input_state.proofs.Sources.{all_fronts}
use Rattle.input_state.proofs.Sounds.{sized_now}
use Rattle.input_state.proofs.Fronts.{token_front, fronts_put}
use Rattle.input_state.proofs.Levels.{levels_used, simple_put, listed_is}
use Rattle.input_state.proofs.CallStays.{call_stays}
use Rattle.input_state.proofs.Sharing.{Moved, moved, built_cons}
use Rattle.input_state.proofs.ListViews.{held_lists, moved_view, macros_moved}
use Rattle.input_state.proofs.Refusing.{levels_refused}

module _ (old new : List (Option Entry)) (s t : InputStack) (a : Build) (gathered : List Build) (m : Named) (sizes : Sizes) (n capacity : ℕ) (making : Option Build) (some : making ≡ Some a) (sound : IsSound old s making gathered m sizes capacity) (same : n ≡ build_id a) where
  shared_now : IsShared old s (a ∷ reverse gathered) m
  shared_now = subst (λ (x : Option Build). IsShared old s (all_builds x gathered) m) some sound.shared

  -- the list that was made is held, beside the lists of the levels
  pub put_held : (h : ℕ) → holds n h + held s h ≤ holders_at old h
  put_held h = omega (arith, shared_now.counted h, built_cons a (reverse gathered) h, ap (λ (k : ℕ). holds k h) same)

  module _ (stands : IsStack new t) (after : pending new t ≡ put (plain_put n (tokens_at old n)) (pending old s)) (moves : Moves old new (λ h. holds n h + held s h) (held t)) (keeps : Keeps old new (λ h. holds n h + held s h)) (lasts : Lasts old new) (size : t.size ≡ s.size) (parameters : t.parameter_size ≡ s.parameter_size) where
    own_now : (h : ℕ) → built (a ∷ []) h ≡ holds n h
    own_now h = omega (arith, built_cons a [] h, ap (λ (k : ℕ). holds k h) same)

    -- the list that was built is the level's
    apart_first : IsApart (plain_put n (tokens_at old n) ∷ puts_in (pending old s)) (reverse gathered) m
    apart_first = record {
      sole = λ h. omega (arith, shared_now.apart.sole h, built_cons a (reverse gathered) h, ap (λ (k : ℕ). holds k h) same, times_cons h n (owns (puts_in (pending old s))));
      apart = λ h more. shared_now.apart.apart h (omega (arith, more, built_cons a (reverse gathered) h, ap (λ (k : ℕ). holds k h) same, times_cons h n (owns (puts_in (pending old s)))));
    }

    apart_now : IsApart (puts_in (pending new t)) (reverse gathered) m
    apart_now = subst (λ (p : Pending). IsApart (puts_in p) (reverse gathered) m) (sym after) (apart_fewer _ _ (reverse gathered) m (fewer_put_in (plain_put n (tokens_at old n)) (pending old s)) apart_first)

    macros_now : (h : ℕ) → 0 < eqtb.held m.table h → IsDefined (tokens_at new h)
    macros_now h more = subst IsDefined (sym (lasts.tokens h (omega (arith, more, moves h, shared_now.counted h, built_cons a (reverse gathered) h, ap (λ (k : ℕ). holds k h) same)))) (shared_now.all_lists h more)

    moved_now : Moved old new t m (reverse gathered)
    moved_now =
        moved old new s t m m (a ∷ []) (reverse gathered) shared_now stands
        (subst (λ (p : Pending). AreFronts (puts_in p)) (sym after) (simple_put (plain_put n (tokens_at old n)) (pending old s) (listed_is false n (tokens_at old n)) sound.shared.fronts))
        apart_now
        (λ h some. sound.shared.listed h (omega (arith, (fewer_put_in (plain_put n (tokens_at old n)) (pending old s)).cells h, subst (λ (p : Pending). 0 < times h (cells_of (puts_in p))) after some)))
        (λ h. omega (arith, moves h, own_now h))
        (record { tokens = λ h l. keeps.tokens h (omega (arith, l, own_now h)); places = λ h l. keeps.places h (omega (arith, l, own_now h)) })
        lasts.tokens macros_now (λ h. refl)

    pub put_sound : (now : Option Build) → now ≡ None → IsSound new t now gathered m sizes capacity
    put_sound now none = record {
      shared = subst (λ (x : Option Build). IsShared new t (all_builds x gathered) m) (sym none) moved_now.reheld.shared;
      sized = sized_now old new s t m sizes capacity capacity sound.sized lasts.size size parameters refl;
      call =
          let now = moved_now.reheld.shared.counted in
          let there : (h : ℕ) → 0 < eqtb.held m.table h → holds n h + held s h < holders_at old h = λ h some. omega (arith, some, shared_now.counted h, built_cons a (reverse gathered) h, ap (λ (k : ℕ). holds k h) same) in
          call_stays old new m.table m.table m.call refl moved_now.called (record { tokens = λ h some. keeps.tokens h (there h some); places = λ h some. keeps.places h (there h some) })
          (record { covers = λ h. omega (arith, now h); outside = λ h some. omega (arith, now h, some) }) sound.call;
    }

    pub put_view : (now : Option Build) (v : HeldLists) → now ≡ None → lists_of old (pending old s) making gathered m sizes ≡ v → plain.without_ended v.puts ≡ v.puts →
        lists_of new (pending new t) now gathered m sizes ≡ record v { puts = plain.with_put (plain.token_put (made v.making)) v.puts; making = None; lists = texts new }
    put_view now v none is settled_already =
        let was : lists_of old (pending old s) (Some a) gathered m sizes ≡ v = ap (λ (x : Option Build). lists_of old (pending old s) x gathered m sizes) (sym some) ∙ is in
        let ps = (pending old s).puts in
        let quiet : plain.without_ended (fronts old ps) ≡ fronts old ps = ap (λ (w : HeldLists). plain.without_ended w.puts) was ∙ settled_already ∙ sym (ap (λ (w : HeldLists). w.puts) was) in
        let tokens : tokens_at old n ≡ text old a = ap (tokens_at old) same in
        ap (λ (x : Option Build). lists_of new (pending new t) x gathered m sizes) none
        ∙ moved_view old new t m sizes None gathered moved_now
        ∙ ap (λ (p : Pending). record (lists_of old p None gathered m sizes) { lists = texts new }) after
        ∙ ap (λ (qs : List plain.Put). held_lists qs None (calling_of old m.call) (map (text old) (reverse gathered)) (covers old (pending old s).sources) m.table sizes (texts new)) (fronts_put old (plain_put n (tokens_at old n)) ps quiet ∙ ap (λ (x : plain.Put). plain.with_put x (fronts old ps)) (token_front old n (tokens_at old n) refl ∙ ap plain.token_put tokens))
        ∙ ap (λ (w : HeldLists). record w { puts = plain.with_put (plain.token_put (made w.making)) w.puts; making = None; lists = texts new }) was

    pub put_macros : (v : HeldLists) → lists_of old (pending old s) making gathered m sizes ≡ v → KeepsLists (lists_held m.table.groups) (all_fronts new (pending new t)) v.lists (texts new)
    put_macros v is = macros_moved old new t m sizes (reverse gathered) v.lists moved_now (ap (λ (w : HeldLists). w.lists) is)

  refusal_none : (ts : List Token) (p : Pending) (size : ℕ) → room size (used_levels p) ≡ None → refusal size (map Text ts) p ≡ None
  refusal_none [] p size none = refl
  refusal_none (x ∷ xs) p size none = none

  -- the levels have room
  pub put_fits : (v : HeldLists) (f : Full) → lists_of old (pending old s) making gathered m sizes ≡ v → refused v.sizes (level_held v ∷ []) ≡ None → refusal s.size (map Text (tokens_at old n)) (pending old s) ≡ Some f → ⊥
  put_fits v f is fits refuses =
      let none = levels_refused sizes (used_levels (pending old s)) _ s.size (levels_used old (pending old s)) sound.sized.levels ∙ ap (λ (w : HeldLists). refused w.sizes (level_held w ∷ [])) is ∙ fits in
      none-some f (sym (refusal_none (tokens_at old n) (pending old s) s.size none) ∙ refuses)
