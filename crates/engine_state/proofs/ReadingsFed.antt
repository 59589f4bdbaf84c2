-- A reading that is fed, with a token or the note that its report was written.
use Rattle.std.proofs.Common.{◌≡◌, ◌≤◌, ◌<◌, ◌+◌, ◌^◌, ℕ, List, [], ◌∷◌, ◌++◌, length, drop, map, arith, refl, sym, ap, ◌∙◌, subst, inl, inr, append_assoc}
use Rattle.std.specs.Prelude.{Option, Some, None, option_to_list}
use Rattle.std.proofs.lemmas.List.{append_cancel_right}
use Rattle.std.proofs.lemmas.List.Sums.{sum_by-cons, sum_by-append}
use Rattle.plain_tokens.specs.Tables.{list_words, lists_words}
use Rattle.input_state.specs.Callings.{NotCalling, call_lists}
use Rattle.reading_frames.proofs.Braces.{few_groups}
use Rattle.tex_defs.specs.declared.Sizes.{Sizes}
use Rattle.tex_defs.specs.declared.Full.{Full}
use Rattle.tex_defs.specs.declared.Seen.{Seen}
use Rattle.tex_defs.specs.declared.Token.{Token}
use Rattle.tex_defs.specs.Places.{World}
use Rattle.rows.specs.Readings.{Fed, Tok, Noted}
use Rattle.plain_readings.specs.Readings.{Kind, Reads, Spelling, FileName, Behind, Skips, Arguments, Reading, lists, fed_with}
use Rattle.plain_machine.specs.declared.broken.Broken.{Broken}
use Rattle.plain_machine.specs.declared.broken.Broken.TheVariants as broken
use Rattle.plain_machine.specs.States.{State, Move, Grows, Feeds, last_with}
use Rattle.plain_machine.specs.Plan.{feeding, feeding_kind, noting, noting_kind, grown_and_fed, grown_to, first_list}
use Rattle.plain_machine.specs.Does.{Did}
use Rattle.plain_machine.proofs.Doing.{did_join, did_one}
use Rattle.input_state.specs.Stored.{KeepsShared, words as stored_words}
use Rattle.list_builder.specs.Stages.{cell_count}
use Rattle.reading_frames.specs.Views.{put, on_top, top_list}
use Rattle.reading_frames.specs.Resumes.{token_count}
use Rattle.reading_frames.specs.Stack.{Stack, innermost_count, innermost_groups, innermost_of, with_innermost, lists_beneath}
use Rattle.reading_frames.specs.Frames as frames
use Rattle.reading_frames.specs.Frames.{AreShallow}
use Rattle.reading_frames.specs.declared.ask.Grown.{Grown}
use Rattle.reading_frames.specs.declared.frame.Frame.{Frame}
use Rattle.engine_state.specs.declared.engine.Engine.{Engine}
use Rattle.engine_state.specs.Book.{Book, with_work}
use Rattle.engine_state.specs.Feeding.{tokens_of, with_tokens, IsKept, TokensFit, TokensCut}
use Rattle.engine_state.specs.CutReadings.{AsFed, CutsIn, MayLead, with_token}
use Rattle.engine_state.specs.Calls.{IsAsFar, open_call_of}
use Rattle.engine_state.specs.Stands.{Stands, state_of}
use Rattle.engine_state.proofs.Cutting.{cuts_by}
use Rattle.engine_state.proofs.FramesHeld.{held_top, has_top, count_top, framed_top, stands_new, same_with, framed_with}
use Rattle.engine_state.proofs.Joining.{quiet_here}
use Rattle.engine_state.proofs.ReadingsOpened.{by_stack}
use Rattle.engine_state.proofs.TokensTaken.{listed, on_top_same, all_did, tokens_cut, no_cut}

-- THE MOVES

feeding_is : (k : Kind) (fed : List Fed) (x : Seen) → frames.IsOther k → feeding_kind k fed x ≡ grown_and_fed k fed (Tok x)
feeding_is (Reads k) fed x h = refl
feeding_is (Spelling c) fed x h = refl
feeding_is (FileName c) fed x h = refl
feeding_is (Behind c y) fed x h = refl
feeding_is (Skips c aim line) fed x h = refl
feeding_is (Arguments name long number text) fed x h = absurd h

noting_is : (k : Kind) (fed : List Fed) → frames.IsOther k → noting_kind k fed ≡ grown_and_fed k fed Noted
noting_is (Reads k) fed h = refl
noting_is (Spelling c) fed h = refl
noting_is (FileName c) fed h = refl
noting_is (Behind c y) fed h = refl
noting_is (Skips c aim line) fed h = refl
noting_is (Arguments name long number text) fed h = absurd h

behind_all : (ts us : List Token) → drop (length ts) (ts ++ us) ≡ us
behind_all [] us = refl
behind_all (t ∷ ts) us = behind_all ts us

nothing_behind : (ts : List Token) → drop (length ts) ts ≡ []
nothing_behind [] = refl
nothing_behind (t ∷ ts) = nothing_behind ts

grown_two : (a b : Option Token) (l : List (List Token)) → (1 ≤ cell_count a + cell_count b → l ≡ [] → ⊥) → drop (length (first_list l)) (first_list (put b (put a l))) ≡ option_to_list a ++ option_to_list b
grown_two None None [] h = refl
grown_two None None (ts ∷ l) h = nothing_behind ts
grown_two None (Some t) [] h = absurd (h (omega arith) refl)
grown_two (Some t) b [] h = absurd (h (omega arith) refl)
grown_two None (Some u) (ts ∷ l) h = behind_all ts (u ∷ [])
grown_two (Some t) None (ts ∷ l) h = behind_all ts (t ∷ [])
grown_two (Some t) (Some u) (ts ∷ l) h = ap (drop (length ts)) (append_assoc ts (t ∷ []) (u ∷ [])) ∙ behind_all ts (t ∷ u ∷ [])

put_over : (a b : Option Token) (l rest : List (List Token)) → (1 ≤ cell_count a + cell_count b → l ≡ [] → ⊥) → put b (put a (l ++ rest)) ≡ put b (put a l) ++ rest
put_over None None l rest h = refl
put_over None (Some t) [] rest h = absurd (h (omega arith) refl)
put_over (Some t) b [] rest h = absurd (h (omega arith) refl)
put_over None (Some u) (ts ∷ l) rest h = refl
put_over (Some t) None (ts ∷ l) rest h = refl
put_over (Some t) (Some u) (ts ∷ l) rest h = refl

pub few_one : (n m : ℕ) (l : List (List Token)) → length l ≡ n → n ≡ 1 → l ≡ [] → ⊥
few_one n m l e one none = omega (arith, e, one, ap (λ (x : List (List Token)). length x) none)

module _ (fs fs' : List Frame) (g : Grown) (y : Fed)
    (stands : (held : List (List Token)) (work : List Reading) → frames.AreFramesOf None fs held work → frames.AreFramesOf None fs' (on_top g held) (fed_with y work))
    (others : (held : List (List Token)) → lists_beneath fs' (on_top g held) ≡ lists_beneath fs held)
    (own : 1 ≤ token_count g → innermost_count fs ≡ 1) where
  module _ (held : List (List Token)) (r : Reading) (rs : List Reading) (st : frames.AreFramesOf None fs held (r ∷ rs)) where
    some_list : 1 ≤ token_count g → lists r.kind r.fed ≡ [] → ⊥
    some_list some none = few_one (innermost_count fs) 0 (lists r.kind r.fed) (count_top fs held r rs st) (own some) none

    lists_grow : lists r.kind (r.fed ++ y ∷ []) ≡ on_top g (lists r.kind r.fed)
    lists_grow = append_cancel_right (lists r.kind (r.fed ++ y ∷ [])) (on_top g (lists r.kind r.fed)) (lists_beneath fs held)
        (ap (λ (l : List (List Token)). lists r.kind (r.fed ++ y ∷ []) ++ l) (sym (others held)) ∙ (held_top fs' (on_top g held) (fed_with y (r ∷ rs)) (stands held (r ∷ rs) st)
        ∙ (ap (λ (l : List (List Token)). on_top g l) (sym (held_top fs held (r ∷ rs) st)) ∙ put_over g.first g.second (lists r.kind r.fed) (lists_beneath fs held) some_list)))

    moves_are : grown_and_fed r.kind r.fed y ≡ map Grows (tokens_of g) ++ Feeds y ∷ []
    moves_are =
        ap (λ (l : List (List Token)). grown_to (first_list (lists r.kind r.fed)) (first_list l) ++ Feeds y ∷ []) lists_grow
        ∙ ap (λ (ts : List Token). map Grows ts ++ Feeds y ∷ []) (grown_two g.first g.second (lists r.kind r.fed) some_list)

  has_some : (held : List (List Token)) (work : List Reading) → frames.AreFramesOf None fs held work → 1 ≤ token_count g → held ≡ [] → ⊥
  has_some held work st some none = has_top fs held work st (own some) none

pub feeding_moves : (fs : List Frame) (held : List (List Token)) (r : Reading) (rs : List Reading) (x : Seen) → frames.AreFramesOf None fs held (r ∷ rs) → feeding r x ≡ grown_and_fed r.kind r.fed (Tok x)
feeding_moves fs held r rs x st = feeding_is r.kind r.fed x (framed_top fs held r rs st)

pub noting_moves : (fs : List Frame) (held : List (List Token)) (r : Reading) (rs : List Reading) → frames.AreFramesOf None fs held (r ∷ rs) → noting r ≡ grown_and_fed r.kind r.fed Noted
noting_moves fs held r rs st = noting_is r.kind r.fed (framed_top fs held r rs st)

-- THE FRAME THAT IS PUT BACK

put_back : (o : Option Frame) (fs gs : List Frame) → o ≡ innermost_of fs → drop 1 gs ≡ drop 1 fs → length gs ≡ length fs → with_innermost o gs ≡ fs
put_back o [] [] is rest count = rw is refl
put_back o [] (g ∷ gs) is rest count = absurd (omega (arith, count))
put_back o (f ∷ fs) [] is rest count = absurd (omega (arith, count))
put_back o (f ∷ fs) (g ∷ gs) is rest count = rw is (ap (λ (l : List Frame). f ∷ l) rest)

stack_same : (s t : Stack) → s.frames ≡ t.frames → s.size ≡ t.size → s ≡ t
stack_same s t a b = ap (λ (fs : List Frame). record { frames = fs; size = s.size }) a ∙ ap (λ (n : ℕ). record { frames = t.frames; size = n }) b

-- THE ENGINE

abbrev pub fed_engine : Engine → Stack → Fed → (held lists : List (List Token)) → Engine
fed_engine e stack y held lists = record e { readings = stack; last = last_with y e.last; input = record e.input { builds = held; lists = lists } }

abbrev pub restored : Option Frame → Engine → Engine
restored o e = record e { readings = record { frames = with_innermost o e.readings.frames; size = e.readings.size } }

module _ (sizes : Sizes) (e : Engine) (stack : Stack) (g : Grown) (y : Fed)
    (stands : (held : List (List Token)) (work : List Reading) → frames.AreFramesOf None e.readings.frames held work → frames.AreFramesOf None stack.frames (on_top g held) (fed_with y work))
    (shallow : (held : List (List Token)) → AreShallow e.readings.frames held → AreShallow stack.frames (on_top g held))
    (others : (held : List (List Token)) → lists_beneath stack.frames (on_top g held) ≡ lists_beneath e.readings.frames held)
    (own : 1 ≤ token_count g → innermost_count e.readings.frames ≡ 1) (size : stack.size ≡ e.readings.size) where
  grown_held : (book : Book) → Stands sizes e book → with_tokens g e.input.builds ≡ on_top g e.input.builds
  grown_held book st = on_top_same g e.input.builds (has_some e.readings.frames stack.frames g y stands others own e.input.builds book.work st.readings.frames)

  pub feeds_stands : (e' : Engine) (book : Book) → e' ≡ fed_engine e stack y (with_tokens g e.input.builds) e'.input.lists → KeepsShared e.input e'.input → Stands sizes e book → Stands sizes e' (with_work (fed_with y book.work) book)
  feeds_stands e' book is kept st =
      subst (λ (x : Engine). Stands sizes x (with_work (fed_with y book.work) book)) (sym is)
      (still (stands_new sizes e (framed_with e stack (with_tokens g e.input.builds) e'.input.lists) book (fed_with y book.work) stack.frames (on_top g e.input.builds)
      (same_with e (framed_with e stack (with_tokens g e.input.builds) e'.input.lists) stack (with_tokens g e.input.builds) refl size (subst (λ (x : Engine). KeepsShared e.input x.input) is kept)) refl (grown_held book st) st
      (stands e.input.builds book.work st.readings.frames) (shallow e.input.builds st.readings.shallow))) where
        still : Stands sizes (framed_with e stack (with_tokens g e.input.builds) e'.input.lists) (with_work (fed_with y book.work) book) → Stands sizes (fed_engine e stack y (with_tokens g e.input.builds) e'.input.lists) (with_work (fed_with y book.work) book)
        still h = record { sound = record { sized = record { few_reports = h.sound.sized.few_reports; own = h.sound.sized.own; readings = h.sound.sized.readings; conditionals = h.sound.sized.conditionals; input = h.sound.sized.input; names = h.sound.sized.names; located = h.sound.sized.located }; tied = h.sound.tied; bodies = h.sound.bodies }; idle = h.idle; readings = record { frames = h.readings.frames; shallow = h.readings.shallow }; uncalled = h.uncalled }

  module _ (book : Book) (r : Reading) (rs : List Reading) (st : Stands sizes e (with_work (r ∷ rs) book)) where
    pub moves : grown_and_fed r.kind r.fed y ≡ map Grows (tokens_of g) ++ Feeds y ∷ []
    moves = moves_are e.readings.frames stack.frames g y stands others own e.input.builds r rs st.readings.frames

    some : 1 ≤ token_count g → e.input.builds ≡ [] → ⊥
    some h none = has_some e.readings.frames stack.frames g y stands others own e.input.builds (r ∷ rs) st.readings.frames h none

    pub feeds_did : (e' : Engine) (w : World) → e' ≡ fed_engine e stack y (with_tokens g e.input.builds) e'.input.lists → TokensFit g e.input →
        Did sizes (state_of e (with_work (r ∷ rs) book)) (state_of e' (with_work (fed_with y (r ∷ rs)) book)) w w (grown_and_fed r.kind r.fed y)
    feeds_did e' w is fits =
        subst (λ (ms : List Move). Did sizes (state_of e (with_work (r ∷ rs) book)) (state_of e' (with_work (fed_with y (r ∷ rs)) book)) w w ms) (sym moves)
        (did_join sizes (state_of e (with_work (r ∷ rs) book)) (state_of (listed e (with_tokens g e.input.builds) e'.input.lists) (with_work (r ∷ rs) book)) (state_of e' (with_work (fed_with y (r ∷ rs)) book)) w w w (map Grows (tokens_of g)) (Feeds y ∷ [])
        (all_did sizes (with_work (r ∷ rs) book) w e (listed e (with_tokens g e.input.builds) e'.input.lists) g fits some refl st.uncalled st.sound)
        (did_one sizes (Feeds y) (state_of (listed e (with_tokens g e.input.builds) e'.input.lists) (with_work (r ∷ rs) book)) (state_of e' (with_work (fed_with y (r ∷ rs)) book)) w w refl
        (ap (λ (x : Engine). state_of x (with_work (fed_with y (r ∷ rs)) book)) (sym is)) (quiet_here (Feeds y) w tt)))

    -- with room for two tokens none is cut off
    pub feeds_fit : {A : Type 0} → (e2 : Engine) (full : Full) → stored_words e.input + 2 ≤ e.sizes.main_memory_size → KeepsShared e.input e2.input → TokensCut g full (record e { readings = stack }) e2 → A
    feeds_fit e2 full room all_lists cut = absurd (no_cut sizes (with_work (r ∷ rs) book) g full (record e { readings = stack }) e2 (by_stack sizes e (with_work (r ∷ rs) book) stack size st.sound) all_lists cut (omega (arith, room, few g.first g.second))) where
      few : (a b : Option Token) → cell_count a + cell_count b ≤ 2
      few None None = omega arith
      few None (Some t) = omega arith
      few (Some t) None = omega arith
      few (Some t) (Some u) = omega arith

    lead_by : (full : Full) (o : Option Token) → MayLead (broken.Full full) o
    lead_by full None = tt
    lead_by full (Some t) = tt

    -- the memory is full: the frame is put back
    pub feeds_cut : (o : Option Frame) (e2 : Engine) (full : Full) (w : World) → IsKept o e → drop 1 stack.frames ≡ drop 1 e.readings.frames → length stack.frames ≡ length e.readings.frames → KeepsShared e.input e2.input →
        TokensCut g full (record e { readings = stack }) e2 →
        CutsIn sizes (state_of e (with_work (r ∷ rs) book)) (record e2 { readings = record { frames = with_innermost o e2.readings.frames; size = e2.readings.size } }) w w (grown_and_fed r.kind r.fed y) (broken.Full full)
    feeds_cut o e2 full w kept rest count all_lists cut = record {
      book' = with_work (r ∷ rs) book;
      cuts = cuts_by sizes (state_of e (with_work (r ∷ rs) book)) (restored o e2) (with_work (r ∷ rs) book) w w (map Grows (tokens_of g) ++ Feeds y ∷ []) (grown_and_fed r.kind r.fed y) (broken.Full full) moves
          (tokens_cut sizes (with_work (r ∷ rs) book) w e (restored o e2) g full (Feeds y) st.uncalled st.sound all_lists cut_back);
      near = record {
        lists = e.input.builds;
        front = cut.front;
        grown = ap (λ (x : Engine). x.input.builds) cut.after;
        leads = lead_by full cut.front;
        call = None;
        at = AsFed (record { text = []; call = ap (open_call_of []) (sym none); far = subst (IsAsFar []) (sym none) tt });
        stand = subst (λ (x : Stack). frames.AreFramesOf None x.frames e.input.builds (r ∷ rs)) (sym back_is) st.readings.frames;
      };
    } where
      none : e2.input.call ≡ NotCalling
      none = ap (λ (x : Engine). x.input.call) cut.after ∙ st.uncalled

      stack_is : e2.readings ≡ stack
      stack_is = ap (λ (x : Engine). x.readings) cut.after

      full_kept : (p : Option Frame) → IsKept p e → p ≡ innermost_of e.readings.frames
      full_kept (Some f) h = sym h
      full_kept None (inl room) = feeds_fit e2 full room all_lists cut
      full_kept None (inr none) = sym none

      back_is : (restored o e2).readings ≡ e.readings
      back_is =
          ap (λ (x : Stack). record { frames = with_innermost o x.frames; size = x.size }) stack_is
          ∙ stack_same (record { frames = with_innermost o stack.frames; size = stack.size }) e.readings (put_back o e.readings.frames stack.frames (full_kept o kept) rest count) size

      cut_back : TokensCut g full e (restored o e2)
      cut_back = record {
        front = cut.front;
        next = cut.next;
        rest = cut.rest;
        split = cut.split;
        list = cut.list;
        fits = cut.fits;
        after = ap (λ (x : Engine). record x { readings = (restored o e2).readings }) cut.after ∙ ap (λ (x : Stack). record e { readings = x; input = record e.input { builds = with_token cut.front e.input.builds; lists = e2.input.lists } }) back_is;
        refused_then = cut.refused_then;
      }

-- the words that are used are fewer than the groups that can't be counted
top_words : (l : List (List Token)) → length (top_list l) ≤ lists_words l
top_words [] = omega arith
top_words (ts ∷ l) = omega (arith, sum_by-cons list_words ts l)

pub many_groups : {A : Type 0} → (sizes : Sizes) (e : Engine) (book : Book) (w : ℕ) → w ≡ stored_words e.input → w < 4294967296 → Stands sizes e book → 2 ^ 64 ≤ innermost_groups e.readings.frames + 1 → A
many_groups sizes e book w is small st many =
    absurd (omega (
      arith,
      is,
      small,
      many,
      few_groups e.readings.frames e.input.builds st.readings.shallow,
      top_words e.input.builds,
      sum_by-append list_words (call_lists e.input.call) e.input.builds,
    ))

-- the same moves
pub moves_did : (sizes : Sizes) (s s' : State) (w : World) (ms ns : List Move) → ms ≡ ns → Did sizes s s' w w ns → Did sizes s s' w w ms
moves_did sizes s s' w ms ns is h = subst (λ (x : List Move). Did sizes s s' w w x) (sym is) h

pub moves_in : (sizes : Sizes) (s : State) (e' : Engine) (w : World) (ms ns : List Move) (b : Broken) → ms ≡ ns → CutsIn sizes s e' w w ns b → CutsIn sizes s e' w w ms b
moves_in sizes s e' w ms ns b is h = subst (λ (x : List Move). CutsIn sizes s e' w w x b) (sym is) h
