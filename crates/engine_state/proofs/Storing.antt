-- The macros that the input holds keep their numbers.
use Rattle.std.proofs.Common.{◌≡◌, ℕ, zero, suc, ◌+◌, ◌<◌, ◌≤◌, Bool, List, [], ◌∷◌, length, Option, None, inl, inr, refl, sym, ap, ◌∙◌, subst, true, arith}
use Rattle.std.specs.Prelude.{slice_index_or}
use Rattle.std.proofs.lemmas.Bool.{cases_lt}
use Rattle.std.proofs.lemmas.List.{get_or_past}
use Rattle.tex_defs.specs.declared.Token.{Token}
use Rattle.tex_defs.specs.declared.Full.{Full}
use Rattle.tex_defs.specs.declared.Sizes.{Sizes}
use Rattle.plain_tokens.specs.Puts.{Put, token_put}
use Rattle.plain_tokens.specs.Pending.{Pending, end_token_lists, put_front, all_puts}
use Rattle.plain_tokens.specs.Meanings.{is_listed}
use Rattle.plain_tokens.specs.Tables.{is_put, held_words, memory, refused}
use Rattle.conditionals.specs.Open.{Stack as Conditions}
use Rattle.equivalents.specs.Groups.{Groups}
use Rattle.equivalents.specs.Holding.{lists_held, shared_words}
use Rattle.plain_machine.specs.Demands.{words}
use Rattle.plain_machine.specs.Numbers.{IsHeld, Tied, groups_of}
use Rattle.plain_machine.specs.Plan.{reports_room}
use Rattle.plain_machine.proofs.MacroWords.{all_words_tied}
use Rattle.plain_machine.proofs.Renumbering.{all_puts_of}
use Rattle.plain_machine.proofs.Ties.{put_settle, put_put_front, held_more}
use Rattle.name_table.specs.Strings.{Strings}
use Rattle.input_state.specs.Callings.{Calling}
use Rattle.input_state.specs.Stored.{Stored, KeepsShared, gathered, words as stored_words}
use Rattle.engine_state.specs.declared.engine.Engine.{Engine}
use Rattle.engine_state.specs.Book.{Book, AreBodies}
use Rattle.engine_state.specs.Stands.{IsSized, IsSound, SameStore, SameBut, SameElse, state_of}

-- WHAT STAYS OF THE INPUT

pub store_same : (i : Stored) → SameStore i i
store_same i = record { sizes = refl; groups = refl; closing = refl; ending = refl; puts = λ n h. h; lists = record { tokens = λ n h. refl } }

pub store_is : (i j : Stored) → j ≡ i → SameStore i j
store_is i j is = subst (λ (x : Stored). SameStore i x) (sym is) (store_same i)

-- what is held then was held
pub held_back : (i j : Stored) → SameStore i j → (n : ℕ) → IsHeld n (lists_held j.groups) (all_puts j.pending) → IsHeld n (lists_held i.groups) (all_puts i.pending)
held_back i j s n h = held_more n (lists_held j.groups) (lists_held i.groups) (all_puts j.pending) (all_puts i.pending) (λ a. subst (λ (g : Groups). is_listed (lists_held g) n ≡ true) s.groups a) (s.puts n) h

pub store_join : (i j k : Stored) → SameStore i j → SameStore j k → SameStore i k
store_join i j k a b = record {
  sizes = b.sizes ∙ a.sizes;
  groups = b.groups ∙ a.groups;
  closing = b.closing ∙ a.closing;
  ending = b.ending ∙ a.ending;
  puts = λ n h. a.puts n (b.puts n h);
  lists = record { tokens = λ n h. b.lists.tokens n h ∙ a.lists.tokens n (held_back j k b n h) };
}

-- no macro's body is put
pub store_with : (i j : Stored) (p : Pending) (making : Option (List Token)) (gathered : List (List Token)) (buffer : List ℕ) →
    j ≡ record i { pending = p; making = making; builds = gathered; buffer = buffer; lists = j.lists } → ((n : ℕ) → is_put n (all_puts p) ≡ true → is_put n (all_puts i.pending) ≡ true) → KeepsShared i j → SameStore i j
store_with i j p making gathered buffer is fewer all_lists = record {
  sizes = ap (λ (x : Stored). x.sizes) is;
  groups = ap (λ (x : Stored). x.groups) is;
  closing = ap (λ (x : Stored). x.closing) is;
  ending = ap (λ (x : Stored). x.ending) is;
  puts = λ n h. fewer n (subst (λ (x : Stored). is_put n (all_puts x.pending) ≡ true) is h);
  lists = all_lists;
}

pub store_gathered : (i j : Stored) (gathered : List (List Token)) → j ≡ record i { builds = gathered; lists = j.lists } → KeepsShared i j → SameStore i j
store_gathered i j gathered is all_lists = store_with i j i.pending i.making gathered i.buffer is (λ n h. h) all_lists

-- the call is another one
pub store_call : (i j : Stored) (k : Calling) → j ≡ record i { call = k; lists = j.lists } → KeepsShared i j → SameStore i j
store_call i j k is all_lists = record {
  sizes = ap (λ (x : Stored). x.sizes) is;
  groups = ap (λ (x : Stored). x.groups) is;
  closing = ap (λ (x : Stored). x.closing) is;
  ending = ap (λ (x : Stored). x.ending) is;
  puts = λ n h. subst (λ (x : Stored). is_put n (all_puts x.pending) ≡ true) is h;
  lists = all_lists;
}

-- its scanner alone
pub store_scan : (i j : Stored) (k : Calling) → j ≡ record i { call = k } → SameStore i j
store_scan i j k is = subst (λ (x : Stored). SameStore i x) (sym is) (record { sizes = refl; groups = refl; closing = refl; ending = refl; puts = λ n h. h; lists = record { tokens = λ n h. refl } })

pub store_making : (i j : Stored) (making : Option (List Token)) → j ≡ record i { making = making; lists = j.lists } → KeepsShared i j → SameStore i j
store_making i j making is all_lists = store_with i j i.pending making i.builds i.buffer is (λ n h. h) all_lists

pub store_settled : (i j : Stored) → j ≡ record i { pending = end_token_lists i.pending; lists = j.lists } → KeepsShared i j → SameStore i j
store_settled i j is all_lists = store_with i j (end_token_lists i.pending) i.making i.builds i.buffer is (λ n h. put_settle n i.pending h) all_lists

own_put : (n : ℕ) (ts : List Token) (p : Pending) → is_put n (all_puts (put_front (token_put ts) p)) ≡ true → is_put n (all_puts p) ≡ true
own_put n ts p h = elim (put_put_front n (token_put ts) p h) [
  | inl a ↦ cc
  | inr a ↦ a
]

pub store_put : (i j : Stored) (ts : List Token) → j ≡ record i { pending = put_front (token_put ts) i.pending; making = None; lists = j.lists } → KeepsShared i j → SameStore i j
store_put i j ts is all_lists = store_with i j (put_front (token_put ts) i.pending) None i.builds i.buffer is (λ n h. own_put n ts i.pending h) all_lists

-- THE MACROS

pub body_at : (all_lists : List (List Token)) (k : ℕ) → AreBodies all_lists → k < length all_lists → slice_index_or all_lists k [] ≡ [] → ⊥
body_at [] k h below none = omega (arith, below)
body_at (ts ∷ all_lists) zero h below none = h.0 none
body_at (ts ∷ all_lists) (suc k) h below none = body_at all_lists k h.1 (omega (arith, below)) none

-- a list that has a token is there
pub inside_by : (lists : List (List Token)) (n : ℕ) → (slice_index_or lists n [] ≡ [] → ⊥) → n < length lists
inside_by lists n some = elim (cases_lt n (length lists)) [
  | inl below ↦ below
  | inr past ↦ absurd (some (get_or_past lists n [] past))
]

module _ (number : ℕ → ℕ) (all_lists : List (List Token)) where
  pub tied_store : (i j : Stored) → AreBodies all_lists → SameStore i j → Tied number all_lists (lists_held i.groups) (all_puts i.pending) i.lists → Tied number all_lists (lists_held j.groups) (all_puts j.pending) j.lists
  tied_store i j bodies s t = record {
    inside = λ n h. inside_by j.lists n (λ none. body_at all_lists (number n) bodies (t.within n (held_back i j s n h)) (tokens n h ∙ none));
    within = λ n h. t.within n (held_back i j s n h);
    tokens = tokens;
    apart = λ n m h k e. t.apart n m (held_back i j s n h) (held_back i j s m k) e;
  } where
    tokens : (n : ℕ) → IsHeld n (lists_held j.groups) (all_puts j.pending) → slice_index_or all_lists (number n) [] ≡ slice_index_or j.lists n []
    tokens n h = t.tokens n (held_back i j s n h) ∙ sym (s.lists.tokens n h)

-- WHAT STAYS OF THE ENGINE

pub sized_still : (sizes : Sizes) (e e' : Engine) → e'.sizes ≡ e.sizes → e'.readings.size ≡ e.readings.size → e'.conditionals ≡ e.conditionals → e'.names ≡ e.names → e'.reports ≡ e.reports → SameStore e.input e'.input → IsSized sizes e → IsSized sizes e'
sized_still sizes e e' own depth conditionals names reports store h = record {
  few_reports = omega (arith, reports, h.few_reports);
  own = own ∙ h.own;
  readings = depth ∙ h.readings;
  conditionals = ap (λ (c : Conditions). c.size) conditionals ∙ h.conditionals;
  input = store.sizes ∙ h.input;
  names = ap (λ (n : Strings). n.sizes) names ∙ h.names;
  located = ap (λ (g : Groups). length g.now.meanings) store.groups ∙ h.located ∙ ap (λ (n : Strings). 514 + length n.names) (sym names);
}

-- others stand open, in as much room, and a name of a file is read or not
pub sized_but : (sizes : Sizes) (e : Engine) (k : Conditions) (naming : Bool) → k.size ≡ e.conditionals.size → IsSized sizes e → IsSized sizes (record e { conditionals = k; naming = naming })
sized_but sizes e k naming size h = record {
  few_reports = h.few_reports;
  own = h.own;
  readings = h.readings;
  conditionals = size ∙ h.conditionals;
  input = h.input;
  names = h.names;
  located = h.located;
}

-- the count of reports changed
pub counted_here : (sizes : Sizes) (e : Engine) (n : ℕ) → n ≤ reports_room → IsSized sizes e → IsSized sizes (record e { reports = n })
counted_here sizes e n few h = record {
  few_reports = few;
  own = h.own;
  readings = h.readings;
  conditionals = h.conditionals;
  input = h.input;
  names = h.names;
  located = h.located;
}

module _ (sizes : Sizes) (e e' : Engine) (number : ℕ → ℕ) (all_lists : List (List Token)) where
  pub sound_sized : IsSized sizes e' → SameStore e.input e'.input → IsSound sizes e number all_lists → IsSound sizes e' number all_lists
  sound_sized sized store h = record {
    sized = sized;
    tied = tied_store number all_lists e.input e'.input h.bodies store h.tied;
    bodies = h.bodies;
  }

  pub sound_still : e'.sizes ≡ e.sizes → e'.readings.size ≡ e.readings.size → e'.conditionals ≡ e.conditionals → e'.names ≡ e.names → e'.reports ≡ e.reports → SameStore e.input e'.input → IsSound sizes e number all_lists → IsSound sizes e' number all_lists
  sound_still own depth conditionals names reports store h = sound_sized (sized_still sizes e e' own depth conditionals names reports store h.sized) store h

-- but for the lists that readings hold
pub same_lists : (e e' : Engine) (i : Stored) (gathered : List (List Token)) → SameElse e e' → i ≡ record e.input { builds = gathered; lists = i.lists } → KeepsShared e.input i → e'.input ≡ i → SameBut e e'
same_lists e e' i gathered others is kept same = record {
  others = others;
  pending = ap (λ (x : Stored). x.pending) same ∙ ap (λ (x : Stored). x.pending) is;
  making = ap (λ (x : Stored). x.making) same ∙ ap (λ (x : Stored). x.making) is;
  call = ap (λ (x : Stored). x.call) same ∙ ap (λ (x : Stored). x.call) is;
  store = subst (λ (x : Stored). SameStore e.input x) (sym same) (store_gathered e.input i gathered is kept);
}

-- the words that are used are the machine's
pub words_are : (sizes : Sizes) (e : Engine) (book : Book) → IsSound sizes e book.number book.all_lists → words (state_of e book) ≡ stored_words e.input
words_are sizes e book h =
    ap (λ (ps : List Put). shared_words 0 (lists_held (groups_of book.number e.input.groups)) ps book.all_lists + held_words ps e.input.making (gathered e.input)) (all_puts_of book.number e.input.pending)
    ∙ all_words_tied book.number book.all_lists e.input.groups (all_puts e.input.pending) e.input.lists e.input.making (gathered e.input) h.tied

-- so many words more, by the machine and by the input
pub words_more : (sizes : Sizes) (e : Engine) (book : Book) (need : ℕ) (o : Option Full) → IsSound sizes e book.number book.all_lists →
    refused e.input.sizes (memory need (stored_words e.input) ∷ []) ≡ o → refused sizes (memory need (words (state_of e book)) ∷ []) ≡ o
words_more sizes e book need o sound h =
    ap (λ (n : ℕ). refused sizes (memory need n ∷ [])) (words_are sizes e book sound) ∙ (ap (λ (s : Sizes). refused s (memory need (stored_words e.input) ∷ [])) (sym sound.sized.input) ∙ h)
