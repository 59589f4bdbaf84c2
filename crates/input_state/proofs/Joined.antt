-- What is said of the lists that are held, of all that is stored.
use Rattle.std.proofs.Common.{◌≡◌, ℕ, ◌+◌, ◌≤◌, List, [], ◌∷◌, ◌++◌, length, Option, None, Some, Result, true, refl, sym, ap, ap₂, ◌∙◌, subst}
use Rattle.std.specs.Prelude.{Bool, MatchResult, option_to_list}
use Rattle.tex_defs.specs.declared.Token.{Token}
use Rattle.tex_defs.specs.declared.Full.{Full}
use Rattle.tex_defs.specs.declared.Name.{Name}
use Rattle.plain_tokens.specs.Puts.{Put, put_parameters, with_put, token_put}
use Rattle.plain_tokens.specs.Pending.{all_puts}
use Rattle.plain_tokens.specs.Tables.{Demand, memory, level, refused, held_words, is_put}
use Rattle.tex_defs.specs.declared.Table.TheVariants.{ParameterStackSize}
use Rattle.token_lists.specs.Table.{Entry}
use Rattle.equivalents.specs.declared.values.Loc.{Loc}
use Rattle.equivalents.specs.Groups.{Groups}
use Rattle.equivalents.specs.Holding.{lists_held, shared_words}
use Rattle.input_state.specs.FileLeft.{FilesLeft}
use Rattle.input_state.specs.HeldLists as held
use Rattle.input_state.specs.HeldLists.{HeldLists, KeepsHeld, words_held, covered_puts, puts_held, without_ended_held, level_held, gathered_held, pending_of}
use Rattle.input_state.specs.InputViews.{stored_of, IsTied}
use Rattle.input_state.specs.Stored.{Stored, KeepsShared, words, call_refusal, put_refusal}
use Rattle.input_state.specs.Counted.{HaveHolders, AreCounted}
use Rattle.input_state.specs.Macros.{KeepsLists}
use Rattle.input_state.specs.Calls.{Defines, when_called, when_put}
use Rattle.input_state.specs.HeldAppends.{HeldShort}
use Rattle.input_state.specs.AtLocations.{SetsList, AppendsShort}
use Rattle.input_state.proofs.Files.{keeps_twice}
use Rattle.input_state.proofs.Rooms.{all_puts_are, level_is, rooms_length}

-- MACROS

module _ (h now : HeldLists) (b d : List ℕ) (f g : FilesLeft) (s : Stored) (is : stored_of h b f ≡ s) where
  pub keeps : KeepsHeld h now → KeepsShared s (stored_of now d g)
  keeps k =
      subst (λ (ps : List Put). KeepsLists (lists_held now.groups) ps s.lists now.lists) (sym (all_puts_are now d g.files g.next))
      (subst (λ (v : Stored). KeepsLists (lists_held now.groups) (puts_held now) v.lists now.lists) is k)

-- WORDS AND DEMANDS

pub refused_same : {T : Type 0} (r : Result T Full) (o p : Option Full) → o ≡ p → MatchResult r (λ _. o ≡ None) (λ full. o ≡ Some full) → MatchResult r (λ _. p ≡ None) (λ full. p ≡ Some full)
refused_same r o p same why = subst (λ (q : Option Full). MatchResult r (λ _. q ≡ None) (λ full. q ≡ Some full)) same why

module _ (h : HeldLists) (b : List ℕ) (f : FilesLeft) (s : Stored) (is : stored_of h b f ≡ s) where
  pub words_are_held : words_held h ≡ words s
  words_are_held =
      sym (ap (λ (ps : List Put). shared_words 0 (lists_held h.groups) ps h.lists + held_words ps h.making (gathered_held h)) (all_puts_are h b f.files f.next)) ∙ ap words is

  -- so many words more
  pub memory_refused : (n : ℕ) → refused h.sizes (memory n (words_held h) ∷ []) ≡ refused s.sizes (memory n (words s) ∷ [])
  memory_refused n = ap (λ (w : ℕ). refused h.sizes (memory n w ∷ [])) words_are_held ∙ ap (λ (v : Stored). refused v.sizes (memory n (words s) ∷ [])) is

  -- the lists are counted
  pub counted : (table : List (Option Entry)) → HaveHolders table (lists_held h.groups) (puts_held h) (option_to_list h.making ++ gathered_held h) → AreCounted table s
  counted table k =
      subst (AreCounted table) is (subst (λ (ps : List Put). HaveHolders table (lists_held h.groups) ps (option_to_list h.making ++ gathered_held h)) (sym (all_puts_are h b f.files f.next)) k)

  pub defined : (global : Bool) (groups : Groups) (lists : List (List Token)) (ts : List Token) (name : Name) (long outer : Bool) →
      Defines global h.groups groups (puts_held h) h.lists lists ts name long outer → Defines global s.groups groups (all_puts s.pending) s.lists lists ts name long outer
  defined global groups lists ts name long outer k =
      subst (λ (v : Stored). Defines global v.groups groups (all_puts v.pending) v.lists lists ts name long outer) is
      (subst (λ (ps : List Put). Defines global h.groups groups ps h.lists lists ts name long outer) (sym (all_puts_are h b f.files f.next)) k)

  pub listed : (global : Bool) (groups : Groups) (lists : List (List Token)) (ts : List Token) (l : Loc) →
      SetsList global h.groups groups (puts_held h) h.lists lists ts l → SetsList global s.groups groups (all_puts s.pending) s.lists lists ts l
  listed global groups lists ts l k =
      subst (λ (v : Stored). SetsList global v.groups groups (all_puts v.pending) v.lists lists ts l) is
      (subst (λ (ps : List Put). SetsList global h.groups groups ps h.lists lists ts l) (sym (all_puts_are h b f.files f.next)) k)

  module _ (tied : IsTied h b f) where
    same_length : length f.files ≡ length h.below
    same_length = rooms_length h.below f.files tied.lines

    pub level_refused : refused h.sizes (level_held h ∷ []) ≡ refused s.sizes (level s.pending ∷ [])
    level_refused = ap (λ (d : Demand). refused h.sizes (d ∷ [])) (sym (level_is h b f.files f.next same_length)) ∙ ap (λ (v : Stored). refused v.sizes (level v.pending ∷ [])) is

    -- the same, once the finished lists in front have gone
    settled_level : level (pending_of (without_ended_held h) b f.files f.next) ≡ level_held (without_ended_held h)
    settled_level = level_is (without_ended_held h) b f.files f.next same_length

    pub call_refused : (p : Put) → held.call_refusal p h ≡ call_refusal p s
    call_refused p = ap (λ (d : Demand). refused h.sizes (when_called p.items d)) (sym settled_level) ∙ ap (call_refusal p) is

    parameters_are : (n : ℕ) → ◌≡◌ {A = Demand} (record { table = ParameterStackSize; used = put_parameters (puts_held (without_ended_held h)); need = n }) (record { table = ParameterStackSize; used = put_parameters (all_puts (pending_of (without_ended_held h) b f.files f.next)); need = n })
    parameters_are n = ap (λ (ps : List Put). let d : Demand = record { table = ParameterStackSize; used = put_parameters ps; need = n } in d) (sym (all_puts_are (without_ended_held h) b f.files f.next))

    pub put_refused : (p : Put) → held.put_refusal p h ≡ put_refusal p s
    put_refused p =
        ap₂ (λ (d e : Demand). refused h.sizes (when_put p.items (d ∷ e ∷ []))) (parameters_are (length p.arguments)) (sym settled_level)
        ∙ ap (put_refusal p) is

-- LISTS THAT GET TOKENS

module _ (h now : HeldLists) (b : List ℕ) (f : FilesLeft) (held_grown : List Token → HeldLists → HeldLists) (grown : List Token → Stored → Stored) (same : (front : List Token) (lists : List (List Token)) → stored_of (record (held_grown front h) { lists = lists }) b f ≡ record (grown front (stored_of h b f)) { lists = lists }) where
  pub stops_short : (ts : List Token) (full : Full) → HeldShort held_grown ts h now full → AppendsShort grown ts (stored_of h b f) (stored_of now b f) full
  stops_short ts full k = record {
    front = k.front;
    next = k.next;
    rest = k.rest;
    split = k.split;
    after = ap (λ (w : HeldLists). stored_of w b f) k.after ∙ same k.front now.lists;
    fits = subst (λ (n : ℕ). n + length k.front ≤ h.sizes.main_memory_size) (words_are_held h b f (stored_of h b f) refl) k.fits;
    refused_then = subst (λ (n : ℕ). refused now.sizes (memory 1 n ∷ []) ≡ Some full) (words_are_held now b f (stored_of now b f) refl) k.refused_then;
  }

-- THE LIST THAT IS MADE

-- a list of tokens in front is no macro's
made_put : (id : ℕ) (ts : List Token) (ps qs : List Put) → is_put id (with_put (token_put ts) ps ++ qs) ≡ true → is_put id (ps ++ qs) ≡ true
made_put id [] ps qs is = is
made_put id (t ∷ ts) ps qs is = is

pub made_keeps : (h mid now : HeldLists) (b : List ℕ) (f : FilesLeft) (s : Stored) (ts : List Token) → stored_of h b f ≡ s → KeepsHeld h mid → KeepsHeld mid now → now ≡ record mid { puts = with_put (token_put ts) mid.puts; making = None; lists = now.lists } → KeepsShared s (stored_of now b f)
made_keeps h mid now b f s ts is first second now_is =
    keeps_twice s (stored_of mid b f) (stored_of now b f) (keeps h mid b b f f s is first) (keeps mid now b b f f (stored_of mid b f) refl second) (ap (λ (w : HeldLists). w.groups) now_is)
    (λ id put.
    let here : is_put id (puts_held now) ≡ true = sym (ap (is_put id) (all_puts_are now b f.files f.next)) ∙ put in
    let there : is_put id (with_put (token_put ts) mid.puts ++ covered_puts mid.below) ≡ true = sym (ap (λ (w : HeldLists). is_put id (puts_held w)) now_is) ∙ here in
    ap (is_put id) (all_puts_are mid b f.files f.next) ∙ made_put id ts mid.puts (covered_puts mid.below) there)
