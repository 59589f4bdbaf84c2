-- A macro is called: its list has a holder more, or the call is refused.
use Rattle.std.proofs.Common.{◌≡◌, ℕ, ◌+◌, ◌<◌, ◌≤◌, ◌^◌, List, [], ◌∷◌, map, take, length, Option, None, Some, true, cond, refl, sym, ap, ap₂, ◌∙◌, subst, arith}
use Rattle.std.specs.Prelude.{sum_by, nat_le}
use Rattle.std.proofs.lemmas.List.Sums.{sum_by-cons}
use Rattle.tex_defs.specs.declared.Token.{Token}
use Rattle.tex_defs.specs.declared.Name.{Name}
use Rattle.tex_defs.specs.declared.Full.{Full}
use Rattle.tex_defs.specs.declared.Sizes.{Sizes}
use Rattle.plain_tokens.specs.Meanings.{name_meaning}
use Rattle.plain_tokens.specs.Puts as plain
use Rattle.token_lists.specs.declared.Build.{Build}
use Rattle.token_lists.specs.declared.ListRef.{ListRef}
use Rattle.token_lists.specs.Ids.{id_of}
use Rattle.token_lists.specs.Table.{Entry, tokens_at, holders_at, IsHeld}
use Rattle.token_lists.specs.Accounts.{holds, none, Moves, Keeps}
use Rattle.macro_args.specs.declared.args.Args.{Args}
use Rattle.macro_args.specs.Args.{args_hold}
use Rattle.eqtb_save.specs.Holding as eqtb
use Rattle.equivalents.specs.Holding.{list_of, lists_held}
use Rattle.input_stack.specs.Puts.{Put, Item, Text, used_arguments, open_arguments, when_some}
use Rattle.input_stack.specs.Calls.{Argument, call_put, substituted, body_of}
use Rattle.input_stack.specs.CallViews.{argument_in, arguments_in, Shares}
use Rattle.input_stack.specs.Pushes.{pushed_holds, call_refused}
use Rattle.input_stack.specs.Pending as stack
use Rattle.input_stack.specs.Pending.{Pending, Below, end_token_lists, put, listed_put, used_parameters, used_levels, parameters_full, either, room}
use Rattle.input_stack.specs.View.{pending, held, innermost}
use Rattle.input_stack.proofs.ListsEnded.{arguments_are}
use Rattle.input_stack.proofs.Wholes.{arguments_count}
use Rattle.input_stack.specs.Stacks.{IsStack}
use Rattle.input_stack.specs.Lasting.{Lasts}
use Rattle.input_stack.specs.declared.stack.InputStack.{InputStack}
use Rattle.input_stack.proofs.Helds.{others}
use Rattle.input_stack.proofs.Bounds.{held_few}
use Rattle.input_stack.proofs.Kept.{holds_itself}
use Rattle.input_state.specs.HeldLists.{HeldLists, call_refusal}
use Rattle.input_state.specs.Macros.{KeepsLists}
use Rattle.input_state.specs.Calls.{called_put, called}
use Rattle.input_state.specs.HeldViews.{Named, texts, front, lists_of, all_builds, IsShared, IsSound}
use Rattle.input_state.proofs.Ranges.{hash_greatest, save_greatest, input_greatest, parameters_greatest}
use Rattle.input_stack.proofs.CallItems.{without_arguments}
use Rattle.input_state.proofs.Sharing.{text_at}
use Rattle.input_state.proofs.Sounds.{settled_sound, settled_view, settled_macros}
use Rattle.input_state.proofs.Refusing.{le_test}
use Rattle.input_state.proofs.Sources.{all_fronts}
use Rattle.input_state.proofs.Calling.{listed_call, plain_call, put_of_name}
use Rattle.input_state.proofs.SharedPut.{shared_refused, shared_sound, shared_macros, shared_view}

-- the holders of a list can be counted
pub countable_now : (table : List (Option Entry)) (s : InputStack) (making : Option Build) (gathered : List Build) (m : Named) (sizes : Sizes) (capacity : ℕ) → IsSound table s making gathered m sizes capacity → ((h : ℕ) → eqtb.held m.table h ≤ eqtb.most_holders m.table) → (k : ℕ) → holders_at table k + 1 < 2 ^ 32
countable_now table s making gathered m sizes capacity sound bounded k =
    let h = sound.shared in
    let z = sound.sized in
    omega (arith, h.counted k, held_few s k h.stands.fits, h.apart.sole k, bounded k, ap (λ (w : Sizes). w.hash_size + w.save_size) z.equivalents, z.levels, z.parameters, hash_greatest sizes z.ranges, save_greatest sizes z.ranges, input_greatest sizes z.ranges, parameters_greatest sizes z.ranges)

-- THE PARAMETERS THAT ARE USED FIT

used_one : (xs : List Item) (n : ℕ) → when_some xs n ≤ n
used_one [] n = omega arith
used_one (x ∷ xs) n = omega arith

front_within : (ps : List Put) → used_arguments ps ≤ open_arguments ps
front_within [] = omega arith
front_within (p ∷ ps) = omega (arith, front_within ps, used_one p.items (length p.arguments), sum_by-cons (λ (x : Put). when_some x.items (length x.arguments)) p ps, sum_by-cons (λ (x : Put). length x.arguments) p ps)

below_within : (bs : List Below) → sum_by (λ (b : Below). used_arguments b.puts) bs ≤ sum_by (λ (b : Below). open_arguments b.puts) bs
below_within [] = omega arith
below_within (b ∷ bs) = omega (arith, below_within bs, front_within b.puts, sum_by-cons (λ (x : Below). used_arguments x.puts) b bs, sum_by-cons (λ (x : Below). open_arguments x.puts) b bs)

pub parameters_within : (table : List (Option Entry)) (s : InputStack) → IsStack table s → used_parameters (pending table s) ≤ s.parameter_size
parameters_within table s stands =
    omega (arith, front_within (pending table s).puts, below_within (pending table s).sources, arguments_are table (innermost s), arguments_count s stands.fits, stands.fits.few)

-- THE SHARE

module _ (old mid : List (Option Entry)) (s : InputStack) (bs : List Build) (m : Named) (k : ℕ) (shared : IsShared old s bs m) (shares : Shares old mid (holds k)) where
  pub shared_stands : IsStack mid s × (pending mid s ≡ pending old s)
  shared_stands =
      others s old mid none (holds k) shared.stands (λ h. omega (arith, shared.counted h)) (λ h. omega (arith, shares.holders h))
      (record { tokens = λ h l. shares.tokens h; places = λ h l. shares.places h })

-- WHAT IS REFUSED

module _ (old mid : List (Option Entry)) (s : InputStack) (making : Option Build) (gathered : List Build) (m : Named) (sizes : Sizes) (capacity : ℕ) (sound : IsSound old s making gathered m sizes capacity) (body : ListRef) (shares : Shares old mid (holds (id_of body))) (args : Args) (few : args.count ≡ 0) (v : HeldLists) (is : lists_of old (pending old s) making gathered m sizes ≡ v) (name : Name) (list_is : list_of (name_meaning m.table.groups.now.meanings name) ≡ Some (id_of body)) where
  us : List Token
  us = body_of (tokens_at old (id_of body))

  pub no_arguments : arguments_in mid args ≡ []
  no_arguments = ap (λ (n : ℕ). map (argument_in mid) (take n args.lists)) few

  -- the body that is put
  pub put_is : front old (listed_put true (id_of body) (body_of (tokens_at old (id_of body)))) ≡ called_put v.lists (name_meaning v.groups.now.meanings name)
  put_is =
      plain_call old (id_of body) (tokens_at old (id_of body))
      ∙ ap (λ (ts : List Token). plain.call_put (id_of body) ts []) (sym (text_at old (id_of body)))
      ∙ sym (put_of_name (texts old) (name_meaning m.table.groups.now.meanings name) (id_of body) list_is)
      ∙ ap (λ (w : HeldLists). called_put w.lists (name_meaning w.groups.now.meanings name)) is

  items_are : substituted (arguments_in mid args) (body_of (tokens_at mid (id_of body))) ≡ map Text us
  unfolding us
  items_are = ap₂ (λ (xs : List (Option Argument)) (ts : List Token). substituted xs (body_of ts)) no_arguments (shares.tokens (id_of body)) ∙ without_arguments (body_of (tokens_at old (id_of body)))

  parameters_fit : cond (nat_le (used_parameters (pending old s) + 0) s.parameter_size) None (Some (parameters_full (used_parameters (pending old s)) s.parameter_size)) ≡ None
  parameters_fit = ap (λ b. cond b None (Some (parameters_full (used_parameters (pending old s)) s.parameter_size))) (le_test (used_parameters (pending old s) + 0) s.parameter_size (omega (arith, parameters_within old s sound.shared.stands)))

  -- there is room for no arguments
  by_items : (ts : List Token) → stack.call_refusal s.size s.parameter_size 0 (map Text ts) (pending old s) ≡ stack.refusal s.size (map Text ts) (pending old s)
  by_items [] = refl
  by_items (t ∷ ts) = ap (λ (o : Option Full). either o (room s.size (used_levels (pending old s)))) parameters_fit

  pub refusal_is : call_refused s mid body args ≡ call_refusal (called_put v.lists (name_meaning v.groups.now.meanings name)) v
  unfolding us
  refusal_is =
      ap (λ (n : ℕ). stack.call_refusal s.size s.parameter_size n (substituted (arguments_in mid args) (body_of (tokens_at mid (id_of body)))) (pending mid s)) few
      ∙ ap₂ (λ (xs : List Item) (p : Pending). stack.call_refusal s.size s.parameter_size 0 xs p) items_are (shared_stands old mid s (all_builds making gathered) m (id_of body) sound.shared shares).1
      ∙ by_items (body_of (tokens_at old (id_of body)))
      ∙ shared_refused old s making gathered m sizes capacity sound (id_of body) (body_of (tokens_at old (id_of body))) (called_put v.lists (name_meaning v.groups.now.meanings name)) v put_is is

-- THE BODY IS PUT

module _ (old mid new : List (Option Entry)) (s t : InputStack) (making : Option Build) (gathered : List Build) (m : Named) (sizes : Sizes) (capacity : ℕ) (sound : IsSound old s making gathered m sizes capacity) (body : ListRef) (is_meant : 0 < eqtb.held m.table (id_of body)) (shares : Shares old mid (holds (id_of body))) (args : Args) (few : args.count ≡ 0) (free : (h : ℕ) → args_hold args h ≡ 0) (stands : IsStack new t) (after : pending new t ≡ put (call_put (id_of body) (tokens_at mid (id_of body)) (arguments_in mid args)) (pending mid s)) (moves : Moves mid new (λ h. pushed_holds body args h + held s h) (held t)) (keeps : Keeps mid new (λ h. pushed_holds body args h + held s h)) (lasts : Lasts mid new) (size : t.size ≡ s.size) (parameters : t.parameter_size ≡ s.parameter_size) where
  body_tokens : List Token
  body_tokens = body_of (tokens_at old (id_of body))

  no_cells : arguments_in mid args ≡ []
  no_cells = ap (λ (n : ℕ). map (argument_in mid) (take n args.lists)) few

  now : pending new t ≡ put (listed_put true (id_of body) body_tokens) (pending old s)
  unfolding body_tokens
  now =
      after
      ∙ ap₂ (λ (ts : List Token) (xs : List (Option Argument)). put (call_put (id_of body) ts xs) (pending mid s)) (shares.tokens (id_of body)) no_cells
      ∙ ap₂ put (listed_call (id_of body) (tokens_at old (id_of body))) (shared_stands old mid s (all_builds making gathered) m (id_of body) sound.shared shares).1

  moves_put : Moves mid new (λ h. holds (id_of body) h + held s h) (held t)
  moves_put h = omega (arith, moves h, free h)

  keeps_put : Keeps mid new (λ h. holds (id_of body) h + held s h)
  keeps_put = record { tokens = λ h l. keeps.tokens h (omega (arith, l, free h)); places = λ h l. keeps.places h (omega (arith, l, free h)) }

  pub call_sound : IsSound new t making gathered m sizes capacity
  call_sound = shared_sound old mid new s t making gathered m sizes capacity sound (id_of body) body_tokens is_meant shares stands now moves_put keeps_put lasts size parameters

  module _ (v : HeldLists) (is : lists_of old (pending old s) making gathered m sizes ≡ v) where
    pub call_macros : KeepsLists (lists_held m.table.groups) (all_fronts new (pending new t)) v.lists (texts new)
    call_macros = shared_macros old mid new s t making gathered m sizes capacity sound (id_of body) body_tokens is_meant shares stands now moves_put keeps_put lasts size parameters v is

    pub call_view : (name : Name) → list_of (name_meaning m.table.groups.now.meanings name) ≡ Some (id_of body) → lists_of new (pending new t) making gathered m sizes ≡ record v { puts = called (called_put v.lists (name_meaning v.groups.now.meanings name)) v.puts; lists = texts new }
    unfolding body_tokens
    call_view name list_is =
        shared_view old mid new s t making gathered m sizes capacity sound (id_of body) (body_of (tokens_at old (id_of body))) is_meant shares stands now moves_put keeps_put lasts size parameters v is (called_put v.lists (name_meaning v.groups.now.meanings name)) (put_is old mid s making gathered m sizes capacity sound body shares args few v is name list_is)

-- THE LIST IS GIVEN BACK

-- the holder that is handed back is counted
pub back_held : (old mid new : List (Option Entry)) (s t : InputStack) (bs : List Build) (m : Named) (body back : ListRef) → IsShared old s bs m → Shares old mid (holds (id_of body)) → back ≡ body → Moves mid new (held s) (held t) → IsHeld new (id_of back)
back_held old mid new s t bs m body back shared shares same moves =
    let k = id_of body in
    let here : 0 < holders_at new k = omega (arith, moves k, shares.holders k, shared.counted k, holds_itself k) in
    subst (λ (r : ListRef). IsHeld new (id_of r)) (sym same) here

module _ (old mid new last : List (Option Entry)) (s t : InputStack) (making : Option Build) (gathered : List Build) (m : Named) (sizes : Sizes) (capacity : ℕ) (sound : IsSound old s making gathered m sizes capacity) (body back : ListRef) (shares : Shares old mid (holds (id_of body))) (same : back ≡ body) (stands : IsStack new t) (after : pending new t ≡ end_token_lists (pending mid s)) (moves : Moves mid new (held s) (held t)) (keeps : Keeps mid new (held s)) (lasts : Lasts mid new) (gives : Moves new last (holds (id_of back)) none) (leaves : Keeps new last (holds (id_of back))) (lets : Lasts new last) (size : t.size ≡ s.size) (parameters : t.parameter_size ≡ s.parameter_size) where
  own : (h : ℕ) → holds (id_of back) h ≡ holds (id_of body) h
  own h = ap (λ (r : ListRef). holds (id_of r) h) same

  last_stands : IsStack last t × (pending last t ≡ pending new t)
  last_stands = others t new last (holds (id_of back)) none stands (λ h. omega (arith, own h, moves h, shares.holders h, sound.shared.counted h)) gives leaves

  moves_now : Moves old last (held s) (held t)
  moves_now h = omega (arith, moves h, gives h, own h, shares.holders h)

  keeps_now : Keeps old last (held s)
  keeps_now = record {
    tokens = λ h l. leaves.tokens h (omega (arith, l, own h, moves h, shares.holders h)) ∙ keeps.tokens h (omega (arith, l, shares.holders h)) ∙ shares.tokens h;
    places = λ h l. leaves.places h (omega (arith, l, own h, moves h, shares.holders h)) ∙ keeps.places h (omega (arith, l, shares.holders h)) ∙ shares.places h;
  }

  lasts_now : Lasts old last
  lasts_now = record {
    size = lets.size ∙ lasts.size ∙ shares.size;
    fewer = λ h. omega (arith, gives h, own h, lasts.fewer h, shares.holders h);
    tokens = λ h some. lets.tokens h some ∙ lasts.tokens h (omega (arith, some, lets.fewer h)) ∙ shares.tokens h;
  }

  after_now : pending last t ≡ end_token_lists (pending old s)
  after_now = last_stands.1 ∙ after ∙ ap end_token_lists (shared_stands old mid s (all_builds making gathered) m (id_of body) sound.shared shares).1

  pub refused_sound : IsSound last t making gathered m sizes capacity
  refused_sound = settled_sound old last s t making gathered m sizes capacity sound last_stands.0 moves_now keeps_now lasts_now size parameters after_now

  pub refused_view : (v : HeldLists) → lists_of old (pending old s) making gathered m sizes ≡ v → lists_of last (pending last t) making gathered m sizes ≡ record v { puts = plain.without_ended v.puts; lists = texts last }
  refused_view v is = settled_view old last s t making gathered m sizes capacity sound last_stands.0 moves_now keeps_now lasts_now size parameters after_now v is

  pub refused_macros : (v : HeldLists) → lists_of old (pending old s) making gathered m sizes ≡ v → KeepsLists (lists_held m.table.groups) (all_fronts last (pending last t)) v.lists (texts last)
  refused_macros v is = settled_macros old last s t making gathered m sizes capacity sound last_stands.0 moves_now keeps_now lasts_now size parameters after_now v is
