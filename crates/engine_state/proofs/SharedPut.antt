-- A list that other parts may hold too is put in front: a macro's, or that of a location.
use Rattle.std.proofs.Common.{◌≡◌, ℕ, List, [], ◌∷◌, ◌++◌, refl, sym, ap, subst, ◌∙◌, Bool, true}
use Rattle.std.specs.Prelude.{Option, Some, None, ◌||◌}
use Rattle.tex_defs.specs.declared.Full.{Full}
use Rattle.tex_defs.specs.declared.Sizes.{Sizes}
use Rattle.tex_defs.specs.Places.{World}
use Rattle.plain_tokens.specs.Meanings.{is_listed}
use Rattle.plain_tokens.specs.Pending.{Pending, put_front, end_token_lists, with_puts, all_puts}
use Rattle.plain_tokens.specs.Puts.{Item, Put, Macro, put_top, without_ended}
use Rattle.plain_tokens.specs.Tables.{Demand, level, refused, is_put}
use Rattle.equivalents.specs.Holding.{lists_held}
use Rattle.plain_machine.specs.declared.broken.Broken.TheVariants as broken
use Rattle.plain_machine.specs.States.{State, Move, ListsEnded, Called, made}
use Rattle.plain_machine.specs.Demands.{refusal}
use Rattle.plain_machine.specs.Numbers.{pending_of, put_of as numbered}
use Rattle.plain_machine.specs.Plan.{body_put}
use Rattle.plain_machine.specs.Does.{Did}
use Rattle.plain_machine.proofs.Doing.{did_join, did_one, did_none}
use Rattle.plain_machine.proofs.Renumbering.{settle_of, put_front_of, level_of}
use Rattle.plain_machine.proofs.Ties.{tied_settled, tied_put}
use Rattle.input_state.specs.Calls.{after_call, called_top, when_called}
use Rattle.input_state.specs.Stored.{KeepsShared, call_refusal}
use Rattle.engine_state.specs.declared.engine.Engine.{Engine}
use Rattle.engine_state.specs.Book.{Book}
use Rattle.engine_state.specs.Stands.{IsSound, Stands, SameStore, state_of}
use Rattle.engine_state.specs.Rules.{Cuts}
use Rattle.engine_state.proofs.CallKept.{frames_kept}
use Rattle.engine_state.proofs.Cutting.{later_cuts, full_cuts}
use Rattle.engine_state.proofs.Joining.{quiet_here}
use Rattle.engine_state.proofs.AtLocations.{list_frames}
use Rattle.engine_state.proofs.Storing.{sound_still, store_making}

-- no list is refused
none_refused : (full : Full) → None ≡ Some full → ⊥
none_refused full h = cc

-- the lists of the memory have changed alone
pub lists_store : (e1 e2 : Engine) → e2 ≡ record e1 { input = record e1.input { lists = e2.input.lists } } → KeepsShared e1.input e2.input → SameStore e1.input e2.input
lists_store e1 e2 now all_lists = store_making e1.input e2.input e1.input.making (ap (λ (y : Engine). y.input) now) all_lists

pub lists_sound : (sizes : Sizes) (e1 e2 : Engine) (book : Book) → e2 ≡ record e1 { input = record e1.input { lists = e2.input.lists } } → KeepsShared e1.input e2.input → IsSound sizes e1 book.number book.all_lists → IsSound sizes e2 book.number book.all_lists
lists_sound sizes e1 e2 book now all_lists sound =
    sound_still sizes e1 e2 book.number book.all_lists (ap (λ (y : Engine). y.sizes) now) (ap (λ (y : Engine). y.readings.size) now) (ap (λ (y : Engine). y.conditionals) now) (ap (λ (y : Engine). y.names) now) (ap (λ (y : Engine). y.reports) now) (lists_store e1 e2 now all_lists) sound

-- lists in front are others, and the readings stand as they did
pub pending_stands : (sizes : Sizes) (e e2 : Engine) (book : Book) (p : Pending) → e2 ≡ record e { input = record e.input { pending = p; lists = e2.input.lists } } → IsSound sizes e2 book.number book.all_lists → Stands sizes e book → Stands sizes e2 book
pending_stands sizes e e2 book p is sound st = record {
  sound = sound;
  idle = ap (λ (x : Engine). x.input.making) is ∙ st.idle;
  readings = frames_kept e e2 book.work (list_frames e e2 p is) st.readings;
  uncalled = ap (λ (x : Engine). x.input.call) is ∙ st.uncalled;
}

module _ (sizes : Sizes) (e : Engine) (book : Book) (sound : IsSound sizes e book.number book.all_lists) (id : ℕ) (p : Put) (is : p.list ≡ Macro id) (held : is_listed (lists_held e.input.groups) id ≡ true) where
  abbrev P : Put
  P = numbered book.number p

  abbrev settled_state : State
  settled_state = record (state_of e book) { pending = end_token_lists (pending_of book.number e.input.pending) }

  did_settled : (w : World) → Did sizes (state_of e book) settled_state w w (ListsEnded ∷ [])
  did_settled w = did_one sizes ListsEnded (state_of e book) settled_state w w refl refl (quiet_here ListsEnded w tt)

  -- what is asked for
  level_asked : (o : Option Full) (x : Item) (xs : List Item) → p.items ≡ x ∷ xs → call_refusal p e.input ≡ o → refusal sizes (Called P) settled_state ≡ o
  level_asked o x xs some refuses =
      ap (λ (q : Pending). refused sizes (level q ∷ [])) (settle_of book.number e.input.pending)
      ∙ ap (λ (d : Demand). refused sizes (d ∷ [])) (level_of book.number (end_token_lists e.input.pending))
      ∙ ap (λ (s : Sizes). refused s (level (end_token_lists e.input.pending) ∷ [])) (sym sound.sized.input)
      ∙ sym (ap (λ (ys : List Item). refused e.input.sizes (when_called ys (level (end_token_lists e.input.pending)))) some) ∙ refuses

  -- there is no room for it
  pub shared_cuts : (e2 : Engine) (w : World) (full : Full) (more : List Move) → e2 ≡ record e { input = record e.input { pending = end_token_lists e.input.pending; lists = e2.input.lists } } → call_refusal p e.input ≡ Some full →
      Cuts sizes (state_of e book) e2 book w w (body_put P p.items ++ more) (broken.Full full)
  shared_cuts e2 w full more after refuses = by_items p.items refl where
    by_items : (xs : List Item) → p.items ≡ xs → Cuts sizes (state_of e book) e2 book w w (body_put P xs ++ more) (broken.Full full)
    by_items [] none = absurd (none_refused full (sym (ap (λ (ys : List Item). refused e.input.sizes (when_called ys (level (end_token_lists e.input.pending)))) none) ∙ refuses))
    by_items (x ∷ xs) some =
        later_cuts sizes _ settled_state e2 book w w w (ListsEnded ∷ []) (Called P ∷ more) (broken.Full full) (did_settled w)
        (full_cuts sizes settled_state e2 book w (Called P) more full (broken.Full full) refl (level_asked (Some full) x xs some refuses)
        (ap (λ (q : Pending). record (state_of e book) { pending = q }) (settle_of book.number e.input.pending) ∙ ap (λ (y : Engine). state_of y book) (sym after)))

  -- one without items changes nothing
  pending_same : p.items ≡ [] → after_call p e.input.pending ≡ e.input.pending
  pending_same none = ap (λ (xs : List Item). with_puts (called_top p xs e.input.pending.puts) e.input.pending) none

  pending_put : (x : Item) (xs : List Item) → p.items ≡ x ∷ xs → after_call p e.input.pending ≡ put_front p (end_token_lists e.input.pending)
  pending_put x xs some =
      ap (λ (ys : List Item). with_puts (called_top p ys e.input.pending.puts) e.input.pending) some
      ∙ sym (ap (λ (ys : List Item). with_puts (put_top p ys (without_ended e.input.pending.puts)) e.input.pending) some)

  -- the engine with it in front, its lists as they were
  abbrev putting : Engine
  putting = record e { input = record e.input { pending = put_front p (end_token_lists e.input.pending) } }

  putting_sound : IsSound sizes putting book.number book.all_lists
  putting_sound = record {
    sized = record { few_reports = sound.sized.few_reports; own = sound.sized.own; readings = sound.sized.readings; conditionals = sound.sized.conditionals; input = sound.sized.input; names = sound.sized.names; located = sound.sized.located };
    tied = tied_put book.number book.all_lists (lists_held e.input.groups) (end_token_lists e.input.pending) e.input.lists (tied_settled book.number book.all_lists (lists_held e.input.groups) e.input.pending e.input.lists sound.tied) id p is (ap (λ (b : Bool). b || is_put id (all_puts (end_token_lists e.input.pending))) held);
    bodies = sound.bodies;
  }

  module _ (e2 : Engine) (after : e2 ≡ record e { input = record e.input { pending = after_call p e.input.pending; lists = e2.input.lists } }) (all_lists : KeepsShared e.input e2.input) where
    -- nothing has changed
    same_now : p.items ≡ [] → e2 ≡ record e { input = record e.input { lists = e2.input.lists } }
    same_now none = after ∙ ap (λ (q : Pending). record e { input = record e.input { pending = q; lists = e2.input.lists } }) (pending_same none)

    put_now : (x : Item) (xs : List Item) → p.items ≡ x ∷ xs → e2 ≡ record putting { input = record putting.input { lists = e2.input.lists } }
    put_now x xs some = after ∙ ap (λ (q : Pending). record e { input = record e.input { pending = q; lists = e2.input.lists } }) (pending_put x xs some)

    put_state : (x : Item) (xs : List Item) → p.items ≡ x ∷ xs → made (Called P) settled_state ≡ state_of e2 book
    put_state x xs some =
        ap (λ (q : Pending). record (state_of e book) { pending = put_front P q }) (settle_of book.number e.input.pending)
        ∙ ap (λ (q : Pending). record (state_of e book) { pending = q }) (put_front_of book.number p (end_token_lists e.input.pending))
        ∙ ap (λ (y : Engine). state_of y book) (sym (put_now x xs some))

    pub shared_did : (w : World) → call_refusal p e.input ≡ None → Did sizes (state_of e book) (state_of e2 book) w w (body_put P p.items)
    shared_did w fits = by_items p.items refl where
      by_items : (xs : List Item) → p.items ≡ xs → Did sizes (state_of e book) (state_of e2 book) w w (body_put P xs)
      by_items [] none = subst (λ (y : Engine). Did sizes (state_of e book) (state_of y book) w w []) (sym (same_now none)) (did_none sizes (state_of e book) w)
      by_items (x ∷ xs) some =
          did_join sizes _ _ _ w w w (ListsEnded ∷ []) (Called P ∷ []) (did_settled w)
          (did_one sizes (Called P) _ _ w w (level_asked None x xs some fits) (put_state x xs some) (quiet_here (Called P) w tt))

    pub shared_sound : IsSound sizes e2 book.number book.all_lists
    shared_sound = by_items p.items refl where
      by_items : (xs : List Item) → p.items ≡ xs → IsSound sizes e2 book.number book.all_lists
      by_items [] none = lists_sound sizes e e2 book (same_now none) all_lists sound
      by_items (x ∷ xs) some = lists_sound sizes putting e2 book (put_now x xs some) (record { tokens = all_lists.tokens }) putting_sound
