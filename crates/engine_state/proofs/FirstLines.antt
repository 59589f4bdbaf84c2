-- A file that was opened is begun, or its first line has no room; a file is to end.
use Rattle.std.proofs.Common.{◌≡◌, ℕ, List, [], ◌∷◌, refl, sym, ap, ◌∙◌, subst, true}
use Rattle.std.specs.Prelude.{Option, Some, None, IsSome}
use Rattle.tex_defs.specs.declared.Full.{Full}
use Rattle.tex_defs.specs.declared.Sizes.{Sizes}
use Rattle.tex_defs.specs.Places.{World}
use Rattle.plain_tokens.specs.Lines.{first_line}
use Rattle.plain_tokens.specs.Puts.{Put as PutList}
use Rattle.plain_tokens.specs.Pending.{Pending, end_token_lists, with_begun, with_end, ending, all_puts}
use Rattle.plain_tokens.specs.Tables.{is_put, next_file, refused}
use Rattle.equivalents.specs.Parameters.{end_of_line}
use Rattle.plain_machine.specs.declared.broken.Broken.TheVariants as broken
use Rattle.plain_machine.specs.States.{ListsEnded, FirstTaken, FileEnds}
use Rattle.plain_machine.specs.Demands.{refusal}
use Rattle.plain_machine.specs.Numbers.{pending_of}
use Rattle.plain_machine.specs.Plan.{ruled}
use Rattle.plain_machine.specs.Does.{Did}
use Rattle.plain_machine.proofs.Doing.{did_join, did_one}
use Rattle.plain_machine.proofs.Renumbering.{settle_of, with_begun_of, next_file_of}
use Rattle.plain_machine.proofs.Settling.{settled_twice}
use Rattle.plain_machine.proofs.Ties.{put_with_begun}
use Rattle.input_state.specs.Stored.{Stored, KeepsShared}
use Rattle.engine_state.specs.declared.engine.Engine.{Engine}
use Rattle.engine_state.specs.Book.{Book}
use Rattle.engine_state.specs.Calls.{AllStand}
use Rattle.engine_state.specs.Stands.{SameStore, state_of}
use Rattle.engine_state.specs.Rules.{Cuts}
use Rattle.engine_state.proofs.Cutting.{later_cuts, full_cuts}
use Rattle.engine_state.proofs.Joining.{quiet_here}
use Rattle.engine_state.proofs.Pulling.{at_settled, at_behind, did_settled, stands_now}
use Rattle.engine_state.proofs.Storing.{store_with, store_join, store_settled}

-- THE INPUT

-- the finished lists in front go
module _ (e : Engine) (i : Stored) (first : i ≡ record e.input { pending = end_token_lists e.input.pending; lists = i.lists }) where
  pub settled_input : i.pending ≡ end_token_lists e.input.pending
  settled_input = ap (λ (x : Stored). x.pending) first

  -- none are left to go
  pub settled_stays : end_token_lists i.pending ≡ i.pending
  settled_stays = subst (λ (p : Pending). end_token_lists p ≡ p) (sym settled_input) (ap (λ (ps : List PutList). record e.input.pending { puts = ps }) (settled_twice e.input.pending.puts))

  pub settled_needs : (o : Option Full) → refused i.sizes (next_file i.pending) ≡ o → refused e.input.sizes (next_file (end_token_lists e.input.pending)) ≡ o
  settled_needs o is = ap (λ (x : Stored). refused x.sizes (next_file x.pending)) (sym first) ∙ is

-- and then a file is begun or not
module _ (e : Engine) (i j : Stored) (first : i ≡ record e.input { pending = end_token_lists e.input.pending; lists = i.lists }) (second : j ≡ record i { pending = j.pending; buffer = j.buffer; lists = j.lists }) where
  pub begun_others : j ≡ record e.input { pending = j.pending; buffer = j.buffer; lists = j.lists }
  begun_others = second ∙ ap (λ (x : Stored). record x { pending = j.pending; buffer = j.buffer; lists = j.lists }) first

  begun_store : ((n : ℕ) → is_put n (all_puts j.pending) ≡ true → is_put n (all_puts i.pending) ≡ true) → KeepsShared e.input i → KeepsShared i j → SameStore e.input j
  begun_store fewer kept keeps = store_join e.input i j (store_settled e.input i first kept) (store_with i j j.pending i.making i.builds j.buffer second fewer keeps)

  module _ (kept : KeepsShared e.input i) (keeps : KeepsShared i j) (sizes : Sizes) (book : Book) where
    pub begun_stands : j.pending ≡ with_end (end_of_line i.groups.now) (with_begun i.pending) → AllStand sizes e book → AllStand sizes (record e { input = j }) book
    begun_stands is st =
        stands_now sizes e j begun_others book
        (begun_store (λ n put. put_with_begun n i.pending (subst (λ (p : Pending). is_put n (all_puts p) ≡ true) is put)) kept keeps) st

    pub unbegun_stands : j.pending ≡ i.pending → AllStand sizes e book → AllStand sizes (record e { input = j }) book
    unbegun_stands is st =
        stands_now sizes e j begun_others book (begun_store (λ n put. subst (λ (p : Pending). is_put n (all_puts p) ≡ true) is put) kept keeps) st

  pub begun_pending : j.pending ≡ with_end (end_of_line i.groups.now) (with_begun i.pending) → j.pending ≡ with_end (end_of_line e.input.groups.now) (with_begun (end_token_lists e.input.pending))
  begun_pending is = is ∙ ap (λ (x : Stored). with_end (end_of_line x.groups.now) (with_begun x.pending)) first

-- THE MOVES

module _ (sizes : Sizes) (e : Engine) (j : Stored) (others : j ≡ record e.input { pending = j.pending; buffer = j.buffer; lists = j.lists }) (book : Book) (w : World) where
  abbrev begun : Engine
  begun = record e { input = j }

  -- the first line needs as much as to the machine
  line_needs : (line : List ℕ) (o : Option Full) → refused e.input.sizes (next_file (end_token_lists e.input.pending)) ≡ o → e.input.sizes ≡ sizes → refusal sizes (FirstTaken line) (at_settled sizes e j others book w) ≡ o
  line_needs line o needs sized =
      ap (λ (p : Pending). refused sizes (next_file p)) (settle_of book.number e.input.pending)
      ∙ (ap (refused sizes) (next_file_of book.number (end_token_lists e.input.pending)) ∙ (ap (λ (x : Sizes). refused x (next_file (end_token_lists e.input.pending))) (sym sized) ∙ needs))

  onto : j.pending ≡ with_end (end_of_line e.input.groups.now) (with_begun (end_token_lists e.input.pending)) → pending_of book.number j.pending ≡ with_end (end_of_line e.input.groups.now) (with_begun (end_token_lists (pending_of book.number e.input.pending)))
  onto is =
      ap (pending_of book.number) is
      ∙ ap (with_end (end_of_line e.input.groups.now)) (sym (with_begun_of book.number (end_token_lists e.input.pending)) ∙ ap with_begun (sym (settle_of book.number e.input.pending)))

  -- it is taken
  pub first_did : (o : Option (List ℕ)) → IsSome o → j.pending ≡ with_end (end_of_line e.input.groups.now) (with_begun (end_token_lists e.input.pending)) → refused e.input.sizes (next_file (end_token_lists e.input.pending)) ≡ None → e.input.sizes ≡ sizes →
      Did sizes (state_of e book) (state_of begun book) w w (ruled (state_of e book) o)
  first_did None some is needs sized = absurd cc
  first_did (Some bytes) some is needs sized =
      did_join sizes _ (at_settled sizes e j others book w) _ w w w (ListsEnded ∷ []) (FirstTaken (first_line bytes) ∷ []) (did_settled sizes e j others book w)
      (did_one sizes (FirstTaken (first_line bytes)) _ _ w w (line_needs (first_line bytes) None needs sized) (at_behind sizes e j others book w _ (onto is)) (quiet_here (FirstTaken (first_line bytes)) w tt))

  -- or has no room
  pub first_cuts : (o : Option (List ℕ)) (full : Full) → IsSome o → j.pending ≡ end_token_lists e.input.pending → refused e.input.sizes (next_file (end_token_lists e.input.pending)) ≡ Some full → e.input.sizes ≡ sizes →
      Cuts sizes (state_of e book) begun book w w (ruled (state_of e book) o) (broken.Full full)
  first_cuts None full some is needs sized = absurd cc
  first_cuts (Some bytes) full some is needs sized =
      later_cuts sizes _ (at_settled sizes e j others book w) begun book w w w (ListsEnded ∷ []) (FirstTaken (first_line bytes) ∷ []) (broken.Full full) (did_settled sizes e j others book w)
      (full_cuts sizes (at_settled sizes e j others book w) begun book w (FirstTaken (first_line bytes)) [] full (broken.Full full) refl (line_needs (first_line bytes) (Some full) needs sized)
      (at_behind sizes e j others book w _ (ap (pending_of book.number) is ∙ sym (settle_of book.number e.input.pending))))

-- A FILE IS TO END

module _ (e : Engine) (j : Stored) (is : j ≡ record e.input { pending = ending e.input.pending }) where
  ended_others : j ≡ record e.input { pending = j.pending; buffer = j.buffer; lists = j.lists }
  ended_others = subst (λ (x : Stored). x ≡ record e.input { pending = x.pending; buffer = x.buffer; lists = x.lists }) (sym is) refl

  ended_store : SameStore e.input j
  ended_store = subst (λ (x : Stored). SameStore e.input x) (sym is) (record { sizes = refl; groups = refl; closing = refl; ending = refl; puts = λ n h. h; lists = record { tokens = λ n h. refl } })

  pub ended_stands : (sizes : Sizes) (book : Book) → AllStand sizes e book → AllStand sizes (record e { input = j }) book
  ended_stands sizes book st = stands_now sizes e j ended_others book ended_store st

  pub ended_did : (sizes : Sizes) (w : World) (book : Book) → Did sizes (state_of e book) (state_of (record e { input = j }) book) w w (FileEnds ∷ [])
  ended_did sizes w book = did_one sizes FileEnds _ _ w w refl (ap (λ (x : Stored). state_of (record e { input = x }) book) (sym is)) (quiet_here FileEnds w tt)
