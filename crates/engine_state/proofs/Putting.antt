-- A token that is put in front, and a string that is kept; where a reading reports.
use Rattle.std.proofs.Common.{◌≡◌, ℕ, List, [], ◌∷◌, ◌++◌, length, drop, map, refl, sym, ap, ◌∙◌, append_assoc, subst, arith}
use Rattle.std.specs.Prelude.{Option, Some, None, Bool, true, false}
use Rattle.tex_syntax.specs.declared.words.Report.{Report}
use Rattle.tex_syntax.specs.declared.words.Outcome.{Outcome}
use Rattle.tex_defs.specs.declared.Token.{Token}
use Rattle.tex_defs.specs.declared.Seen.{Seen}
use Rattle.tex_defs.specs.declared.Sizes.{Sizes}
use Rattle.tex_defs.specs.declared.Full.{Full}
use Rattle.tex_defs.specs.Places.{World, Transcript}
use Rattle.plain_tokens.specs.Puts.{Item, Put as PutList, token_put, without_ended, unless_ended, grown_by}
use Rattle.plain_tokens.specs.Pending.{Pending, end_token_lists, put_front}
use Rattle.plain_tokens.specs.Tables.{Demand, refused, memory, level, string}
use Rattle.plain_state.specs.Reports.{report_bytes}
use Rattle.rows.specs.Readings.{Fed, Noted}
use Rattle.plain_readings.specs.Readings.{Kind, Reads, Spelling, FileName, Arguments, Behind, Skips, Reading, fed_with, lists}
use Rattle.plain_machine.specs.declared.broken.Broken.{Broken}
use Rattle.plain_machine.specs.declared.broken.Broken.TheVariants as broken
use Rattle.plain_machine.specs.States.{State, Move, ListsEnded, Kept, Grows, Feeds, ListBegun, ListGrown, Put, Written, Reported, made}
use Rattle.plain_machine.specs.Demands.{refusal}
use Rattle.plain_machine.specs.Plan.{Page, put_one, put_inserted, given_back, reported, report_noted, noting, noting_kind, grown_and_fed, first_list}
use Rattle.plain_machine.specs.Numbers.{pending_of}
use Rattle.plain_machine.specs.Runs.{steps}
use Rattle.plain_machine.specs.Does.{Did}
use Rattle.plain_machine.proofs.Doing.{did_join, did_one}
use Rattle.plain_machine.proofs.Joins.{steps_join}
use Rattle.plain_machine.proofs.Renumbering.{settle_of, put_front_of, level_of}
use Rattle.name_table.specs.Strings.{Strings, other_refusal}
use Rattle.world_io.specs.Contents.{FilesTold, SinkTold, world}
use Rattle.input_state.specs.Stored.{Stored, KeepsShared, words as stored_words}
use Rattle.input_state.specs.HeldLists.{made as made_list}
use Rattle.reading_frames.specs.Stack.{Stack}
use Rattle.engine_state.specs.declared.engine.Engine.{Engine}
use Rattle.engine_state.specs.Book.{Book, with_work}
use Rattle.engine_state.specs.Stands.{SameFrames, Counts, IsSized, IsSound, Stands, SameStore, state_of, page_of, own_style}
use Rattle.engine_state.specs.Rules.{world_of, Cuts, Went, Reports, Halts}
use Rattle.engine_state.proofs.Uncalled.{all_of}
use Rattle.engine_state.proofs.Cutting.{cuts_by, later_cuts, full_cuts}
use Rattle.engine_state.proofs.Joining.{IsQuiet, quiet_here, column_went, went_by, halts_on, halts_least}
use Rattle.engine_state.proofs.Storing.{store_join, store_making, store_settled, store_put, sound_still, words_more}

-- a string for which there is no room
pub kept_cuts : (sizes : Sizes) (e : Engine) (names : Strings) (book : Book) (w : World) (bytes : List ℕ) (more : List Move) (full : Full) →
    IsSized sizes e → names ≡ e.names → other_refusal e.names bytes ≡ Some full → Cuts sizes (state_of e book) (record e { names = names }) book w w (Kept bytes ∷ more) (broken.Full full)
kept_cuts sizes e names book w bytes more full sized same r =
    full_cuts sizes (state_of e book) (record e { names = names }) book w (Kept bytes) more full (broken.Full full) refl
    (subst (λ (x : Sizes). refused x (string bytes e.names.names e.names.others) ≡ Some full) sized.names r)
    (ap (λ (n : Strings). state_of (record e { names = n }) book) (sym same))

-- THE LIST THAT IS MADE

twice_top : (p : PutList) (xs : List Item) (ps : List PutList) → p.items ≡ xs → without_ended (without_ended ps) ≡ without_ended ps → without_ended (unless_ended p xs (without_ended ps) ps) ≡ unless_ended p xs (without_ended ps) ps
twice_top p [] ps is h = h
twice_top p (x ∷ xs) ps is h = ap (λ (ys : List Item). unless_ended p ys (without_ended ps) ps) is

settled_twice : (ps : List PutList) → without_ended (without_ended ps) ≡ without_ended ps
settled_twice [] = refl
settled_twice (p ∷ ps) = twice_top p p.items ps refl (settled_twice ps)

-- the finished lists in front have gone already
pub settled_still : (p q : Pending) → q ≡ end_token_lists p → q ≡ end_token_lists q
settled_still p q e = subst (λ (x : Pending). x ≡ end_token_lists x) (sym e) (ap (λ (ps : List PutList). record p { puts = ps }) (sym (settled_twice p.puts)))

-- one of its moves, on the input alone
module _ (sizes : Sizes) (e : Engine) (i i' : Stored) (book : Book) (w : World) where
  moved : (m : Move) → refusal sizes m (state_of (record e { input = i }) book) ≡ None → made m (state_of (record e { input = i }) book) ≡ state_of (record e { input = i' }) book → IsQuiet m →
      Did sizes (state_of (record e { input = i }) book) (state_of (record e { input = i' }) book) w w (m ∷ [])
  moved m fits is q = did_one sizes m _ _ w w fits is (quiet_here m w q)

-- The list of one token: begun, grown and put, each on the input before it.
module _ (sizes : Sizes) (e : Engine) (t : Token) (book : Book) (w : World) (counts : Counts sizes e book)
    (i1 i2 i3 : Stored) (a1 : i1 ≡ record e.input { pending = end_token_lists e.input.pending; lists = i1.lists }) (k1 : KeepsShared e.input i1) where
  abbrev pub with_input : Stored → Engine
  with_input i = record e { input = i }

  abbrev pub at : Stored → State
  at i = state_of (with_input i) book

  done_settled : Did sizes (at e.input) (at i1) w w (ListsEnded ∷ [])
  done_settled = moved sizes e e.input i1 book w ListsEnded refl (ap (λ (p : Pending). record (at e.input) { pending = p }) (settle_of book.number e.input.pending) ∙ ap at (sym a1)) tt

  store1 : SameStore e.input i1
  store1 = store_settled e.input i1 a1 k1

  sound_in : (i : Stored) → SameStore e.input i → IsSound sizes (with_input i) book.number book.all_lists
  sound_in i store = sound_still sizes e (with_input i) book.number book.all_lists refl refl refl refl refl store counts.sound

  -- the list isn't begun
  pub begin_cuts : (new : Stored) (full : Full) (rest : List Move) → new ≡ i1 → refused i1.sizes (memory 1 (stored_words i1) ∷ []) ≡ Some full →
      Cuts sizes (at e.input) (with_input new) book w w (ListsEnded ∷ ListBegun ∷ rest) (broken.Full full)
  begin_cuts new full rest same r =
      later_cuts sizes _ (at i1) (with_input new) book w w w (ListsEnded ∷ []) (ListBegun ∷ rest) (broken.Full full) done_settled
      (full_cuts sizes (at i1) (with_input new) book w ListBegun rest full (broken.Full full) refl (words_more sizes (with_input i1) book 1 (Some full) (sound_in i1 store1) r) (ap at (sym same)))

  module _ (a2 : i2 ≡ record i1 { making = Some []; lists = i2.lists }) (k2 : KeepsShared i1 i2) (f1 : refused i1.sizes (memory 1 (stored_words i1) ∷ []) ≡ None) where
    done_begun : Did sizes (at e.input) (at i2) w w (ListsEnded ∷ ListBegun ∷ [])
    done_begun = did_join sizes _ _ _ w w w (ListsEnded ∷ []) (ListBegun ∷ []) done_settled
        (moved sizes e i1 i2 book w ListBegun (words_more sizes (with_input i1) book 1 None (sound_in i1 store1) f1) (ap at (sym a2)) tt)

    store2 : SameStore e.input i2
    store2 = store_join e.input i1 i2 store1 (store_making i1 i2 (Some []) a2 k2)

    -- the list doesn't grow
    pub grow_cuts : (new : Stored) (full : Full) (rest : List Move) → new ≡ i2 → refused i2.sizes (memory 1 (stored_words i2) ∷ []) ≡ Some full →
        Cuts sizes (at e.input) (with_input new) book w w (ListsEnded ∷ ListBegun ∷ ListGrown t ∷ rest) (broken.Full full)
    grow_cuts new full rest same r =
        later_cuts sizes _ (at i2) (with_input new) book w w w (ListsEnded ∷ ListBegun ∷ []) (ListGrown t ∷ rest) (broken.Full full) done_begun
        (full_cuts sizes (at i2) (with_input new) book w (ListGrown t) rest full (broken.Full full) refl (words_more sizes (with_input i2) book 1 (Some full) (sound_in i2 store2) r) (ap at (sym same)))

    module _ (a3 : i3 ≡ record i2 { making = grown_by t i2.making; lists = i3.lists }) (k3 : KeepsShared i2 i3) (f2 : refused i2.sizes (memory 1 (stored_words i2) ∷ []) ≡ None) where
      done_grown : Did sizes (at e.input) (at i3) w w (ListsEnded ∷ ListBegun ∷ ListGrown t ∷ [])
      done_grown = did_join sizes _ _ _ w w w (ListsEnded ∷ ListBegun ∷ []) (ListGrown t ∷ []) done_begun
          (moved sizes e i2 i3 book w (ListGrown t) (words_more sizes (with_input i2) book 1 None (sound_in i2 store2) f2) (ap at (sym a3)) tt)

      store3 : SameStore e.input i3
      store3 = store_join e.input i2 i3 store2 (store_making i2 i3 (grown_by t i2.making) a3 k3)

      level_at : (o : Option Full) → refused i3.sizes (level i3.pending ∷ []) ≡ o → refused sizes (level (pending_of book.number i3.pending) ∷ []) ≡ o
      level_at o r = ap (λ (d : Demand). refused sizes (d ∷ [])) (level_of book.number i3.pending) ∙ ap (λ (x : Sizes). refused x (level i3.pending ∷ [])) (sym (sound_in i3 store3).sized.input) ∙ r

      -- there is no level for it
      pub put_cuts : (new : Stored) (full : Full) (rest : List Move) → new ≡ record i3 { lists = new.lists } → refused i3.sizes (level i3.pending ∷ []) ≡ Some full →
          Cuts sizes (at e.input) (with_input new) book w w (put_one t ++ rest) (broken.Full full)
      put_cuts new full rest same r =
          later_cuts sizes _ (at i3) (with_input new) book w w w (ListsEnded ∷ ListBegun ∷ ListGrown t ∷ []) (Put (t ∷ []) ∷ rest) (broken.Full full) done_grown
          (full_cuts sizes (at i3) (with_input new) book w (Put (t ∷ [])) rest full (broken.Full full) refl (level_at (Some full) r) (ap at (sym same)))

      -- and it is put
      pub done_put : (i4 : Stored) → i4 ≡ record i3 { pending = put_front (token_put (made_list i3.making)) i3.pending; making = None; lists = i4.lists } → refused i3.sizes (level i3.pending ∷ []) ≡ None →
          Did sizes (at e.input) (at i4) w w (put_one t)
      done_put i4 a4 f3 =
          let full : made_list i3.making ≡ t ∷ [] = ap made_list (ap (λ (i : Stored). i.making) a3 ∙ ap (grown_by t) (ap (λ (i : Stored). i.making) a2)) in
          did_join sizes _ _ _ w w w (ListsEnded ∷ ListBegun ∷ ListGrown t ∷ []) (Put (t ∷ []) ∷ []) done_grown
          (moved sizes e i3 i4 book w (Put (t ∷ [])) (level_at None f3)
          (ap (λ (p : Pending). record (at i3) { pending = p; making = None }) (put_front_of book.number (token_put (t ∷ [])) i3.pending)
          ∙ ap (λ (ts : List Token). at (record i3 { pending = put_front (token_put ts) i3.pending; making = None })) (sym full) ∙ ap at (sym a4)) tt)

-- what the input keeps behind each of these
module _ (i i1 i2 i3 : Stored) (a1 : i1 ≡ record i { pending = end_token_lists i.pending; lists = i1.lists }) (k1 : KeepsShared i i1) where
  pub begun_store : (new : Stored) → new ≡ i1 → SameStore i new
  begun_store new same = subst (SameStore i) (sym same) (store_settled i i1 a1 k1)

  module _ (a2 : i2 ≡ record i1 { making = Some []; lists = i2.lists }) (k2 : KeepsShared i1 i2) where
    pub grown_store : (new : Stored) → new ≡ i2 → SameStore i new
    grown_store new same = subst (SameStore i) (sym same) (store_join i i1 i2 (store_settled i i1 a1 k1) (store_making i1 i2 (Some []) a2 k2))

    module _ (t : Token) (a3 : i3 ≡ record i2 { making = grown_by t i2.making; lists = i3.lists }) (k3 : KeepsShared i2 i3) where
      made_store : SameStore i i3
      made_store = store_join i i2 i3 (grown_store i2 refl) (store_making i2 i3 (grown_by t i2.making) a3 k3)

      pub unput_store : (new : Stored) → new ≡ record i3 { lists = new.lists } → KeepsShared i3 new → SameStore i new
      unput_store new same k4 = store_join i i3 new made_store (store_making i3 new i3.making same k4)

      pub put_store : (new : Stored) → new ≡ record i3 { pending = put_front (token_put (made_list i3.making)) i3.pending; making = None; lists = new.lists } → KeepsShared i3 new → SameStore i new
      put_store new same k4 = store_join i i3 new made_store (store_put i3 new (made_list i3.making) same k4)

-- the readings are counted as before
pub counts_still : (sizes : Sizes) (e e1 : Engine) (book : Book) → SameFrames e e1 → IsSound sizes e1 book.number book.all_lists → Counts sizes e book → Counts sizes e1 book
counts_still sizes e e1 book same sound h = record {
  sound = sound;
  depth = omega (arith, h.depth, ap (λ (r : Stack). length r.frames) same.readings);
}

-- BACK

pub given_true : (back : Bool) (last : Seen) → back ≡ true → given_back back last ≡ put_one last.token
given_true back last is = rw is refl

-- no step

pub back_none : (back : Bool) (last : Seen) → steps (given_back back last) ≡ 0
back_none false last = refl
back_none true last = refl

-- THE INNERMOST READING REPORTS

-- no step
grows_none : (ts : List Token) → steps (map Grows ts) ≡ 0
grows_none [] = refl
grows_none (t ∷ ts) = omega (arith, grows_none ts)

grown_none : (k : Kind) (fed : List Fed) → steps (grown_and_fed k fed Noted) ≡ 0
grown_none k fed =
    let ts = drop (length (first_list (lists k fed))) (first_list (lists k (fed ++ Noted ∷ []))) in
    steps_join (map Grows ts) (Feeds Noted ∷ []) ∙ omega (arith, grows_none ts)

noting_kind_none : (k : Kind) (fed : List Fed) → steps (noting_kind k fed) ≡ 0
noting_kind_none (Arguments name long number ts) fed = refl
noting_kind_none (Reads k) fed = grown_none (Reads k) fed
noting_kind_none (Spelling c) fed = grown_none (Spelling c) fed
noting_kind_none (FileName c) fed = grown_none (FileName c) fed
noting_kind_none (Behind c x) fed = grown_none (Behind c x) fed
noting_kind_none (Skips c aim line) fed = grown_none (Skips c aim line) fed

noting_none : (r : Reading) → steps (noting r) ≡ 0
noting_none r = noting_kind_none r.kind r.fed

-- the innermost frame goes on
pub noted_frame : (sizes : Sizes) (e e1 : Engine) (w : World) (book : Book) (r : Reading) (rs : List Reading) → Did sizes (state_of e (with_work (r ∷ rs) book)) (state_of e1 (with_work (fed_with Noted (r ∷ rs)) book)) w w (noting r) →
    Stands sizes e1 (with_work (fed_with Noted (r ∷ rs)) book) → Went sizes (state_of e (with_work (r ∷ rs) book)) e1 w w (noting r) 0
noted_frame sizes e e1 w book r rs did st = record { book' = with_work (fed_with Noted (r ∷ rs)) book; stands = all_of sizes e1 (with_work (fed_with Noted (r ∷ rs)) book) st; did = did; count = noting_none r }

inserted_none : (o : Option Token) → steps (put_inserted o) ≡ 0
inserted_none None = refl
inserted_none (Some t) = refl

pub inserted_is : (o : Option Token) (t : Token) → o ≡ Some t → put_inserted o ≡ put_one t
inserted_is None t is = cc
inserted_is (Some u) t is = ap put_inserted is

-- a token is given back, and another inserted
abbrev pub fronts : Option Token → Bool → Seen → List Move
fronts inserted back last = given_back back last ++ put_inserted inserted

fronts_none : (inserted : Option Token) (back : Bool) (last : Seen) → steps (fronts inserted back last) ≡ 0
fronts_none inserted back last = steps_join (given_back back last) (put_inserted inserted) ∙ omega (arith, back_none back last, inserted_none inserted)

told_is : (page : Page) (report : Report) (inserted : Option Token) (back : Bool) (r : Reading) → report_noted page report inserted back r ≡ fronts inserted back page.last ++ reported page report (noting r)
told_is page report inserted back r = sym (append_assoc (given_back back page.last) (put_inserted inserted) (reported page report (noting r)))

module _ (sizes : Sizes) (e : Engine) (f : FilesTold) (s0 : SinkTold) (book : Book) (r : Reading) (rs : List Reading) (report : Report) (inserted : Option Token) (back : Bool) where
  -- already the token that is given back has no room
  pub told_first : (e1 : Engine) (b : Broken) → e1.in_line ≡ e.in_line →
      Cuts sizes (state_of e (with_work (r ∷ rs) book)) e1 (with_work (r ∷ rs) book) (world_of f s0 e) (world_of f s0 e) (given_back back e.last ++ (put_inserted inserted ++ reported (page_of e book) report (noting r))) b →
      Cuts sizes (state_of e (with_work (r ∷ rs) book)) e1 (with_work (r ∷ rs) book) (world_of f s0 e) (world_of f s0 e1) (report_noted (page_of e book) report inserted back r) b
  told_first e1 b column h =
      (subst (λ (x : Bool). Cuts sizes (state_of e (with_work (r ∷ rs) book)) e1 (with_work (r ∷ rs) book) (world_of f s0 e) (world f s0 x) (given_back back e.last ++ (put_inserted inserted ++ reported (page_of e book) report (noting r))) b) (sym column) h)

  -- or the one that is inserted
  pub told_second : (e1 e2 : Engine) (b : Broken) → e2.in_line ≡ e.in_line → Did sizes (state_of e (with_work (r ∷ rs) book)) (state_of e1 (with_work (r ∷ rs) book)) (world_of f s0 e) (world_of f s0 e) (given_back back e.last) →
      Cuts sizes (state_of e1 (with_work (r ∷ rs) book)) e2 (with_work (r ∷ rs) book) (world_of f s0 e) (world_of f s0 e) (put_inserted inserted ++ reported (page_of e book) report (noting r)) b →
      Cuts sizes (state_of e (with_work (r ∷ rs) book)) e2 (with_work (r ∷ rs) book) (world_of f s0 e) (world_of f s0 e2) (report_noted (page_of e book) report inserted back r) b
  told_second e1 e2 b column given h =
      told_first e2 b column (later_cuts sizes _ (state_of e1 (with_work (r ∷ rs) book)) e2 (with_work (r ∷ rs) book) _ _ _ (given_back back e.last) (put_inserted inserted ++ reported (page_of e book) report (noting r)) b given h)

  -- behind both
  module _ (e1 e2 : Engine) (s2 : SinkTold) (page : page_of e1 book ≡ page_of e book) (front : Did sizes (state_of e (with_work (r ∷ rs) book)) (state_of e1 (with_work (r ∷ rs) book)) (world_of f s0 e) (world_of f s0 e) (fronts inserted back e.last)) where
    on_page : Reports sizes (state_of e1 (with_work (r ∷ rs) book)) (state_of e2 (with_work (r ∷ rs) book)) (world_of f s0 e1) (world_of f s2 e2) (page_of e1 book) report (noting r) →
        Reports sizes (state_of e1 (with_work (r ∷ rs) book)) (state_of e2 (with_work (r ∷ rs) book)) (world_of f s0 e) (world_of f s2 e2) (page_of e book) report (noting r)
    on_page rep = subst (λ (p : Page). Reports sizes (state_of e1 (with_work (r ∷ rs) book)) (state_of e2 (with_work (r ∷ rs) book)) (world f s0 p.in_line) (world_of f s2 e2) p report (noting r)) page rep

    abbrev written : List Move
    written = Written Transcript (report_bytes (own_style e) e.in_line e.input.pending.number report) ∷ Reported ∷ []

    whole_is : Reports sizes (state_of e1 (with_work (r ∷ rs) book)) (state_of e2 (with_work (r ∷ rs) book)) (world_of f s0 e) (world_of f s2 e2) (page_of e book) report (noting r) → report_noted (page_of e book) report inserted back r ≡ fronts inserted back e.last ++ (written ++ noting r)
    whole_is h = told_is (page_of e book) report inserted back r ∙ ap (λ (x : List Move). fronts inserted back e.last ++ x) h.moves

    pub told_went : (e3 : Engine) → Reports sizes (state_of e1 (with_work (r ∷ rs) book)) (state_of e2 (with_work (r ∷ rs) book)) (world_of f s0 e1) (world_of f s2 e2) (page_of e1 book) report (noting r) → e3.in_line ≡ e2.in_line →
        Went sizes (state_of e2 (with_work (r ∷ rs) book)) e3 (world_of f s2 e2) (world_of f s2 e2) (noting r) 0 →
        Went sizes (state_of e (with_work (r ∷ rs) book)) e3 (world_of f s0 e) (world_of f s2 e3) (report_noted (page_of e book) report inserted back r) 0
    told_went e3 rep column noted =
        let h = on_page rep in
        let noted' : Went sizes (state_of e2 (with_work (r ∷ rs) book)) e3 (world_of f s2 e2) (world_of f s2 e3) (noting r) 0 = column_went sizes _ e3 f s2 e2.in_line (noting r) 0 column noted in
        went_by sizes _ e3 _ _ (fronts inserted back e.last ++ (written ++ noting r)) _ 0 (whole_is h) (record {
          book' = noted'.book';
          stands = noted'.stands;
          did = did_join sizes _ _ _ _ _ _ (fronts inserted back e.last) (written ++ noting r) front (did_join sizes _ _ _ _ _ _ written (noting r) h.did noted'.did);
          count = steps_join (fronts inserted back e.last) (written ++ noting r) ∙ omega (arith, fronts_none inserted back e.last, steps_join written (noting r), noting_none r);
        })

    pub told_halts : (o : Outcome) → e1.reports ≡ e.reports → Halts sizes (state_of e1 (with_work (r ∷ rs) book)) e2 (with_work (r ∷ rs) book) (world_of f s0 e1) (world_of f s2 e2) (reported (page_of e1 book) report (noting r)) o 0 →
        Halts sizes (state_of e (with_work (r ∷ rs) book)) e2 (with_work (r ∷ rs) book) (world_of f s0 e) (world_of f s2 e2) (report_noted (page_of e book) report inserted back r) o 1
    told_halts o counted halts =
        let h : Halts sizes (state_of e1 (with_work (r ∷ rs) book)) e2 (with_work (r ∷ rs) book) (world_of f s0 e) (world_of f s2 e2) (reported (page_of e book) report (noting r)) o 0 =
        subst (λ (p : Page). Halts sizes (state_of e1 (with_work (r ∷ rs) book)) e2 (with_work (r ∷ rs) book) (world f s0 p.in_line) (world_of f s2 e2) (reported p report (noting r)) o 0) page halts in
        subst (λ (ms : List Move). Halts sizes (state_of e (with_work (r ∷ rs) book)) e2 (with_work (r ∷ rs) book) (world_of f s0 e) (world_of f s2 e2) ms o 1) (sym (told_is (page_of e book) report inserted back r))
        (halts_least sizes _ e2 (with_work (r ∷ rs) book) _ _ _ o 0 1 (omega arith)
        (halts_on sizes (state_of e (with_work (r ∷ rs) book)) (state_of e1 (with_work (r ∷ rs) book)) e2 (with_work (r ∷ rs) book) _ _ _ (fronts inserted back e.last) (reported (page_of e book) report (noting r)) o 0 0 counted front (fronts_none inserted back e.last) h))

    pub told_cuts : (b : Broken) → Cuts sizes (state_of e1 (with_work (r ∷ rs) book)) e2 (with_work (r ∷ rs) book) (world_of f s0 e1) (world_of f s2 e2) (reported (page_of e1 book) report (noting r)) b →
        Cuts sizes (state_of e (with_work (r ∷ rs) book)) e2 (with_work (r ∷ rs) book) (world_of f s0 e) (world_of f s2 e2) (report_noted (page_of e book) report inserted back r) b
    told_cuts b cuts =
        let h : Cuts sizes (state_of e1 (with_work (r ∷ rs) book)) e2 (with_work (r ∷ rs) book) (world_of f s0 e) (world_of f s2 e2) (reported (page_of e book) report (noting r)) b =
        subst (λ (p : Page). Cuts sizes (state_of e1 (with_work (r ∷ rs) book)) e2 (with_work (r ∷ rs) book) (world f s0 p.in_line) (world_of f s2 e2) (reported p report (noting r)) b) page cuts in
        cuts_by sizes _ e2 (with_work (r ∷ rs) book) _ _ _ _ b (told_is (page_of e book) report inserted back r) (later_cuts sizes _ _ e2 (with_work (r ∷ rs) book) _ _ _ (fronts inserted back e.last) (reported (page_of e book) report (noting r)) b front h)
