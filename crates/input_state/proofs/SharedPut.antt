-- A list that is shared is put in front: it has a holder more.
use Rattle.std.proofs.Common.{◌≡◌, ℕ, ◌+◌, ◌<◌, List, [], ◌∷◌, map, reverse, length, Option, true, inl, inr, refl, sym, ap, ◌∙◌, subst, arith}
use Rattle.std.proofs.lemmas.Bool.{cases_eq}
use Rattle.tex_defs.specs.declared.Token.{Token}
use Rattle.tex_defs.specs.declared.Sizes.{Sizes}
use Rattle.plain_tokens.specs.Puts as plain
use Rattle.plain_tokens.specs.Tables.{refused}
use Rattle.token_lists.specs.declared.Build.{Build}
use Rattle.token_lists.specs.Table.{Entry, tokens_at, holders_at}
use Rattle.token_lists.specs.Accounts.{holds, Moves, Keeps}
use Rattle.eqtb_save.specs.Holding as eqtb
use Rattle.equivalents.specs.Holding.{lists_held}
use Rattle.input_stack.specs.Puts.{Put, Text, put_in_front}
use Rattle.input_stack.specs.CallViews.{Shares}
use Rattle.input_stack.specs.Pending.{Pending, put, listed_put, times, refusal, room, used_levels}
use Rattle.input_stack.specs.View.{pending, held}
use Rattle.input_stack.specs.Stacks.{IsStack}
use Rattle.input_stack.specs.Lasting.{Lasts}
use Rattle.input_stack.specs.declared.stack.InputStack.{InputStack}
use Rattle.input_state.specs.HeldLists.{HeldLists, covered_puts, call_refusal, level_held}
use Rattle.input_state.specs.Macros.{KeepsLists}
use Rattle.input_state.specs.Calls.{called, when_called}
use Rattle.input_state.specs.HeldViews.{Named, calling_of, text, made_text, texts, front, fronts, plain_item, covers, lists_of, all_builds, bodies, cells_of, puts_in, AreFronts, IsApart, IsDefined, IsSound}
use Rattle.input_state.proofs.Counting.{times_cons, holds_other}
use Rattle.input_state.proofs.Shares.{apart_fewer, fewer_put_in}
use Rattle.input_state.proofs.Levels.{listed_is, simple_put, levels_used}
use Rattle.input_state.proofs.CallStays.{call_stays}
use Rattle.input_state.proofs.Sharing.{Moved, moved}
use Rattle.input_state.proofs.ListViews.{held_lists, moved_view, macros_moved}
use Rattle.input_state.proofs.Sounds.{sized_now}
use Rattle.input_state.proofs.Refusing.{levels_refused}
use Rattle.input_state.proofs.Sources.{all_fronts}
use Rattle.input_state.proofs.Settling.{settled_levels_in}
use Rattle.input_state.proofs.Fronts.{fronts_settled}

-- WHAT IS REFUSED

module _ (old : List (Option Entry)) (s : InputStack) (making : Option Build) (gathered : List Build) (m : Named) (sizes : Sizes) (capacity : ℕ) (sound : IsSound old s making gathered m sizes capacity) where
  was : HeldLists
  was = lists_of old (pending old s) making gathered m sizes

  level_refused : room s.size (used_levels (pending old s)) ≡ refused sizes (level_held (record was { puts = plain.without_ended was.puts }) ∷ [])
  unfolding was
  level_refused = levels_refused sizes (used_levels (pending old s)) _ s.size (levels_used old (pending old s) ∙ sym (ap (λ (n : ℕ). n + length (covers old (pending old s).sources)) (settled_levels_in (fronts old (pending old s).puts) (covered_puts (covers old (pending old s).sources))))) sound.sized.levels

  by_items : (ts : List Token) → refusal s.size (map Text ts) (pending old s) ≡ refused sizes (when_called (map plain_item (map Text ts)) (level_held (record was { puts = plain.without_ended was.puts })))
  by_items [] = refl
  by_items (t ∷ ts) = level_refused

  pub shared_refused : (k : ℕ) (us : List Token) (p : plain.Put) (v : HeldLists) → front old (listed_put true k us) ≡ p → lists_of old (pending old s) making gathered m sizes ≡ v → refusal s.size (map Text us) (pending old s) ≡ call_refusal p v
  unfolding was
  shared_refused k us p v what is =
      by_items us
      ∙ ap (λ (q : plain.Put). call_refusal q (lists_of old (pending old s) making gathered m sizes)) what
      ∙ ap (call_refusal p) is

-- IT IS PUT

fronts_called : (table : List (Option Entry)) (n : ℕ) (us : List Token) (ps : List Put) → fronts table (put_in_front (listed_put true n us) ps) ≡ called (front table (listed_put true n us)) (fronts table ps)
fronts_called table n [] ps = refl
fronts_called table n (u ∷ us) ps = ap (λ (qs : List plain.Put). front table (listed_put true n (u ∷ us)) ∷ qs) (fronts_settled table ps)

module _ (old mid new : List (Option Entry)) (s t : InputStack) (making : Option Build) (gathered : List Build) (m : Named) (sizes : Sizes) (capacity : ℕ) (sound : IsSound old s making gathered m sizes capacity) (k : ℕ) (us : List Token) (is_held : 0 < eqtb.held m.table k) (shares : Shares old mid (holds k)) (stands : IsStack new t) (now : pending new t ≡ put (listed_put true k us) (pending old s)) (moves : Moves mid new (λ h. holds k h + held s h) (held t)) (keeps : Keeps mid new (λ h. holds k h + held s h)) (lasts : Lasts mid new) (size : t.size ≡ s.size) (parameters : t.parameter_size ≡ s.parameter_size) where
  bs : List Build
  bs = all_builds making gathered

  x : Put
  x = listed_put true k us

  -- the list is read once more
  apart_first : IsApart (x ∷ puts_in (pending old s)) bs m
  unfolding x bs
  apart_first = record {
    sole = λ h. sound.shared.apart.sole h;
    apart = λ h more. elim (cases_eq h k) [
      | inl is ↦
          let none = sound.shared.apart.apart h more in
          absurd (omega (arith, none, ap (eqtb.held m.table) is, is_held))
      | inr other ↦ omega (arith, sound.shared.apart.apart h more, times_cons h k (bodies (puts_in (pending old s))), holds_other k h (λ e. other (sym e)))
    ];
  }

  apart_now : IsApart (puts_in (pending new t)) bs m
  unfolding x
  apart_now = subst (λ (p : Pending). IsApart (puts_in p) bs m) (sym now) (apart_fewer (puts_in (put x (pending old s))) (x ∷ puts_in (pending old s)) bs m (fewer_put_in x (pending old s)) apart_first)

  simple_now : AreFronts (puts_in (pending new t))
  simple_now = subst (λ (p : Pending). AreFronts (puts_in p)) (sym now) (simple_put (listed_put true k us) (pending old s) (listed_is true k us) sound.shared.fronts)

  macros_now : (h : ℕ) → 0 < eqtb.held m.table h → IsDefined (tokens_at new h)
  macros_now h more =
      let there : 0 < holders_at new h = omega (arith, more, moves h, shares.holders h, sound.shared.counted h) in
      subst IsDefined (sym (lasts.tokens h there ∙ shares.tokens h)) (sound.shared.all_lists h more)

  moved_now : Moved old new t m bs
  unfolding bs
  moved_now =
      moved old new s t m m [] (all_builds making gathered) sound.shared stands simple_now apart_now
      (λ h some. sound.shared.listed h (omega (arith, (fewer_put_in (listed_put true k us) (pending old s)).cells h, subst (λ (p : Pending). 0 < times h (cells_of (puts_in p))) now some)))
      (λ h. omega (arith, moves h, shares.holders h))
      (record {
        tokens = λ h l. keeps.tokens h (omega (arith, l, shares.holders h)) ∙ shares.tokens h;
        places = λ h l. keeps.places h (omega (arith, l, shares.holders h)) ∙ shares.places h;
      })
      (λ h some. lasts.tokens h some ∙ shares.tokens h) macros_now (λ h. refl)

  pub shared_sound : IsSound new t making gathered m sizes capacity
  unfolding bs
  shared_sound = record {
    shared = moved_now.reheld.shared;
    sized = sized_now old new s t m sizes capacity capacity sound.sized (lasts.size ∙ shares.size) size parameters refl;
    call =
        let now = moved_now.reheld.shared.counted in
        let there : (h : ℕ) → 0 < eqtb.held m.table h → holds k h + held s h < holders_at mid h = λ h some. omega (arith, some, shares.holders h, sound.shared.counted h) in
        call_stays old new m.table m.table m.call refl moved_now.called (record { tokens = λ h some. keeps.tokens h (there h some) ∙ shares.tokens h; places = λ h some. keeps.places h (there h some) ∙ shares.places h })
        (record { covers = λ h. omega (arith, now h); outside = λ h some. omega (arith, now h, some) }) sound.call;
  }

  module _ (v : HeldLists) (is : lists_of old (pending old s) making gathered m sizes ≡ v) where
    pub shared_macros : KeepsLists (lists_held m.table.groups) (all_fronts new (pending new t)) v.lists (texts new)
    shared_macros = macros_moved old new t m sizes bs v.lists moved_now (ap (λ (w : HeldLists). w.lists) is)

    pub shared_view : (p : plain.Put) → front old (listed_put true k us) ≡ p → lists_of new (pending new t) making gathered m sizes ≡ record v { puts = called p v.puts; lists = texts new }
    unfolding bs
    shared_view p what =
        let ps = (pending old s).puts in
        moved_view old new t m sizes making gathered moved_now
        ∙ ap (λ (q : Pending). record (lists_of old q making gathered m sizes) { lists = texts new }) now
        ∙ ap (λ (qs : List plain.Put). held_lists qs (made_text old making) (calling_of old m.call) (map (text old) (reverse gathered)) (covers old (pending old s).sources) m.table sizes (texts new)) (fronts_called old k us ps ∙ ap (λ (q : plain.Put). called q (fronts old ps)) what)
        ∙ ap (λ (w : HeldLists). record w { puts = called p w.puts; lists = texts new }) is
