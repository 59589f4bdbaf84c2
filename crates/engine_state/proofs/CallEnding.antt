-- A call that ends.
use Rattle.std.proofs.Common.{◌≡◌, ℕ, Bool, List, [], ◌∷◌, ◌++◌, length, drop, refl, sym, ap, subst, ◌∙◌, arith}
use Rattle.std.specs.Prelude.{Option, Some, None}
use Rattle.tex_syntax.specs.declared.words.Report.{Report}
use Rattle.tex_syntax.specs.declared.words.Outcome.{Outcome}
use Rattle.tex_defs.specs.declared.Sizes.{Sizes}
use Rattle.tex_defs.specs.declared.Token.{Token}
use Rattle.tex_defs.specs.Places.{World, Transcript}
use Rattle.rows.specs.Readings as reading
use Rattle.plain_state.specs.Reports.{report_bytes}
use Rattle.plain_readings.specs.Readings.{Reading, lists}
use Rattle.plain_machine.specs.States.{State, Move, Closed, Written, Reported, made}
use Rattle.plain_machine.specs.Plan.{answered, failed, reported}
use Rattle.plain_machine.specs.Does.{Did}
use Rattle.plain_machine.specs.Runs.{steps}
use Rattle.plain_machine.proofs.Doing.{did_join, did_one}
use Rattle.plain_machine.proofs.Joins.{steps_join}
use Rattle.world_io.specs.Contents.{FilesTold, SinkTold, world}
use Rattle.input_state.specs.Callings.{Calling, NotCalling, Gathering, Stopped, Gathered, call_lists, call_in}
use Rattle.input_state.specs.Stored.{Stored, KeepsShared, gathered}
use Rattle.input_state.specs.declared.answer.Call.{Call}
use Rattle.engine_state.specs.declared.engine.Engine.{Engine}
use Rattle.engine_state.specs.Book.{Book, with_work}
use Rattle.engine_state.specs.Calls.{asks_of, open_call_of, AllStand, ReadingsStand}
use Rattle.engine_state.specs.Clauses.{DoesInnermost}
use Rattle.engine_state.proofs.CallsKnown.{CallStands, ReadingsBy, split}
use Rattle.engine_state.proofs.Uncalled.{uncalled_stand}
use Rattle.reading_frames.specs.Frames.{AreFramesOf, AreShallow}
use Rattle.reading_frames.specs.Resumes.{below}
use Rattle.reading_frames.specs.Stack.{reading_ended}
use Rattle.reading_frames.specs.Views.{Lists}
use Rattle.reading_frames.specs.declared.frame.Frame.{Frame}
use Rattle.engine_state.specs.Stands.{IsSized, SameFrames, SameOthers, SameStore, OnlyColumn, state_of, page_of, own_style}
use Rattle.engine_state.specs.Rules.{world_of, plan_of, Went, Halts, Reports}
use Rattle.engine_state.proofs.CallKept.{all_still, open_still}
use Rattle.engine_state.proofs.Joining.{quiet_here, went_by, went_on, halts_least}
use Rattle.engine_state.proofs.AtLocations.{column_all}
use Rattle.engine_state.proofs.Reporting.{input_sound, others_sound}
use Rattle.engine_state.proofs.Storing.{sound_still, store_call, store_is}

-- the call is the innermost reading
pub here : (sizes : Sizes) (e : Engine) (book : Book) (c : Call) (r : Reading) (rs : List Reading) → call_in e.input.call ≡ Some c → AllStand sizes e (with_work (r ∷ rs) book) → ReadingsBy (Some c) e book.number (r ∷ rs)
here sizes e book c r rs is st = subst (λ (x : Option Call). ReadingsBy x e book.number (r ∷ rs)) is (split e book.number (r ∷ rs) st.all)

-- a rule of a call, by what it asks for
pub by_call : (sizes : Sizes) (e : Engine) (c : Call) (P : Book → List Move → Type 0) → call_in e.input.call ≡ Some c →
    ((book : Book) (r : Reading) (rs : List Reading) → AllStand sizes e (with_work (r ∷ rs) book) → CallStands e book.number c r → P (with_work (r ∷ rs) book) (answered (state_of e (with_work (r ∷ rs) book)) (r ∷ rs) r (asks_of c e.input.call))) →
    (book : Book) → AllStand sizes e book → P book (plan_of e book)
by_call sizes e c P is h book st = at book.work st (subst (λ (x : Option Call). ReadingsBy x e book.number book.work) is (split e book.number book.work st.all)) where
  at : (work : List Reading) → AllStand sizes e (with_work work book) → ReadingsBy (Some c) e book.number work → P (with_work work book) (plan_of e (with_work work book))
  at [] st k = absurd k
  at (r ∷ rs) st k = subst (λ (x : reading.Ask). P (with_work (r ∷ rs) book) (answered (state_of e (with_work (r ∷ rs) book)) (r ∷ rs) r x)) k.asked (h book r rs st k)

behind_all : {A : Type 0} (xs ys : List A) → drop (length xs) (xs ++ ys) ≡ ys
behind_all [] ys = refl
behind_all (x ∷ xs) ys = behind_all xs ys

-- its lists go
pub lists_gone : (i : Stored) (held : List (List Token)) → held ≡ call_lists i.call → drop (length held) (gathered i) ≡ i.builds
lists_gone i held is = ap (λ (l : List (List Token)). drop (length l) (gathered i)) is ∙ behind_all (call_lists i.call) i.builds

-- the frames beneath a call
beneath : (text : List Token) (k : Calling) (c : Call) (fs : List Frame) (held : Lists) (r : Reading) (rs : List Reading) → call_in k ≡ Some c → AreFramesOf (open_call_of text k) fs held (r ∷ rs) → AreShallow fs held → AreFramesOf None (drop 1 fs) held rs × AreShallow (drop 1 fs) held
beneath text k c [] held r rs is h s = absurd h
beneath text NotCalling c (f ∷ fs) held r rs is h s = absurd cc
beneath text (Gathering name scan) c (f ∷ fs) held r rs is h s = (h.1, subst (λ (x : Frame). AreShallow fs (below x held)) h.0.apart s.1)
beneath text (Stopped name why scan) c (f ∷ fs) held r rs is h s = (h.1, subst (λ (x : Frame). AreShallow fs (below x held)) h.0.apart s.1)
beneath text (Gathered name args) c (f ∷ fs) held r rs is h s = (h.1, subst (λ (x : Frame). AreShallow fs (below x held)) h.0.apart s.1)

-- they stand as they did
pub ended_stand : (e e2 : Engine) (number : ℕ → ℕ) (c : Call) (r : Reading) (rs : List Reading) → call_in e.input.call ≡ Some c → e2.readings ≡ reading_ended e.readings → e2.input.builds ≡ e.input.builds → e2.input.call ≡ NotCalling →
    ReadingsStand e number (r ∷ rs) → ReadingsStand e2 number rs
ended_stand e e2 number c r rs is readings lists none h =
    let b = beneath h.readings.text e.input.call c e.readings.frames e.input.builds r rs is h.readings.frames.frames h.readings.frames.shallow in
    uncalled_stand e2 number rs none (open_still None (record e { readings = reading_ended e.readings }) e2 rs readings lists (record { frames = b.0; shallow = b.1 }))

-- the engine without its call
module _ (sizes : Sizes) (e e2 : Engine) (book : Book) (r : Reading) (rs : List Reading) (c : Call) (is : call_in e.input.call ≡ Some c) (st : AllStand sizes e (with_work (r ∷ rs) book))
    (after : e2 ≡ record e { readings = reading_ended e.readings; input = record e.input { call = NotCalling; lists = e2.input.lists } }) (all_lists : KeepsShared e.input e2.input) where
  abbrev ended : Engine
  ended = record e { readings = reading_ended e.readings; input = record e.input { call = NotCalling; lists = e2.input.lists } }

  store : SameStore e.input e2.input
  store = store_call e.input e2.input NotCalling (ap (λ (x : Engine). x.input) after) all_lists

  k : ReadingsBy (Some c) e book.number (r ∷ rs)
  k = here sizes e book c r rs is st

  pub closed_stands : AllStand sizes e2 (with_work rs book)
  closed_stands = record {
    sound = sound_still sizes e e2 book.number book.all_lists (ap (λ (x : Engine). x.sizes) after) (ap (λ (x : Engine). x.readings.size) after) (ap (λ (x : Engine). x.conditionals) after) (ap (λ (x : Engine). x.names) after) (ap (λ (x : Engine). x.reports) after) store st.sound;
    idle = ap (λ (x : Engine). x.input.making) after ∙ st.idle;
    all = ended_stand e e2 book.number c r rs is (ap (λ (x : Engine). x.readings) after) (ap (λ (x : Engine). x.input.builds) after) (ap (λ (x : Engine). x.input.call) after) st.all;
  }

  closed_state : made Closed (state_of e (with_work (r ∷ rs) book)) ≡ state_of e2 (with_work rs book)
  closed_state =
      ap (λ (l : List (List Token)). record (state_of e (with_work (r ∷ rs) book)) { work = rs; gathered = l }) (lists_gone e.input (lists r.kind r.fed) k.holds)
      ∙ ap (λ (x : Engine). state_of x (with_work rs book)) (sym after)

  -- whatever the world is
  pub closed_here : (s : State) (w v : World) (ms : List Move) → Did sizes s (state_of e (with_work (r ∷ rs) book)) w v ms → steps ms ≡ 0 → Went sizes s e2 w v (ms ++ Closed ∷ []) 0
  closed_here s w v ms d none = record {
    book' = with_work rs book;
    stands = closed_stands;
    did = did_join sizes _ _ _ w _ _ ms (Closed ∷ []) d (did_one sizes Closed _ _ _ _ refl closed_state (quiet_here Closed v tt));
    count = steps_join ms (Closed ∷ []) ∙ omega (arith, none);
  }

  pub closed_went : (s : State) (f : FilesTold) (told : SinkTold) (w : World) (ms : List Move) → Did sizes s (state_of e (with_work (r ∷ rs) book)) w (world_of f told e) ms → steps ms ≡ 0 →
      Went sizes s e2 w (world_of f told e2) (ms ++ Closed ∷ []) 0
  closed_went s f told w ms d none =
      subst (λ (b : Bool). Went sizes s e2 w (world f told b) (ms ++ Closed ∷ []) 0) (sym (ap (λ (x : Engine). x.in_line) after)) (closed_here s w (world_of f told e) ms d none)

-- A REPORT ALONE, AND THE END

-- the report is written
pub reported_stands : (sizes : Sizes) (e e1 : Engine) (book : Book) → SameFrames e e1 → e1.input ≡ e.input → (IsSized sizes e → IsSized sizes e1) → AllStand sizes e book → AllStand sizes e1 book
reported_stands sizes e e1 book same input sized st =
    all_still sizes e e1 book same (store_is e.input e1.input input) (input_sound sizes e e1 book input sized st.sound) (ap (λ (i : Stored). i.making) input ∙ st.idle) st

pub failed_went : (sizes : Sizes) (e e1 e2 : Engine) (book : Book) (r : Reading) (rs : List Reading) (f : FilesTold) (s0 s1 : SinkTold) (report : Report) → AllStand sizes e (with_work (r ∷ rs) book) →
    SameFrames e e1 → e1.input ≡ e.input → (IsSized sizes e → IsSized sizes e1) → DoesInnermost (Unit {0}) Went e1 e2 (λ _. Closed ∷ []) 0 → e2.in_line ≡ e1.in_line →
    Reports sizes (state_of e (with_work (r ∷ rs) book)) (state_of e1 (with_work (r ∷ rs) book)) (world_of f s0 e) (world_of f s1 e1) (page_of e book) report (Closed ∷ []) →
    Went sizes (state_of e (with_work (r ∷ rs) book)) e2 (world_of f s0 e) (world_of f s1 e2) (failed (page_of e book) report) 0
failed_went sizes e e1 e2 book r rs f s0 s1 report st same input sized ends column h =
    let written : List Move = Written Transcript (report_bytes (own_style e) e.in_line e.input.pending.number report) ∷ Reported ∷ [] in
    let s : State = state_of e (with_work (r ∷ rs) book) in
    went_by sizes s e2 _ _ (written ++ Closed ∷ []) (failed (page_of e book) report) 0 h.moves
    (subst (λ (b : Bool). Went sizes s e2 (world_of f s0 e) (world f s1 b) (written ++ Closed ∷ []) 0) (sym column)
    (went_on sizes s _ e2 _ _ _ written (Closed ∷ []) 0 0 h.did refl (ends sizes _ book r rs tt (reported_stands sizes e e1 (with_work (r ∷ rs) book) same input sized st))))

pub failed_halts : (sizes : Sizes) (e e1 : Engine) (book : Book) (w w' : World) (report : Report) (o : Outcome) → Halts sizes (state_of e book) e1 book w w' (reported (page_of e book) report (Closed ∷ [])) o 0 →
    Halts sizes (state_of e book) e1 book w w' (failed (page_of e book) report) o 1
failed_halts sizes e e1 book w w' report o h = halts_least sizes _ e1 book w w' _ o 0 1 (omega arith) h

-- WHAT STAYS

-- it has written
pub written_stands : (sizes : Sizes) (e e1 : Engine) (book : Book) → OnlyColumn e e1 → AllStand sizes e book → AllStand sizes e1 book
written_stands sizes e e1 book only st = column_all sizes e e1 book only st

-- it has put a token in front
pub put_stands : (sizes : Sizes) (e e1 : Engine) (book : Book) → SameFrames e e1 → SameOthers e e1 → SameStore e.input e1.input → e1.input.making ≡ None → AllStand sizes e book → AllStand sizes e1 book
put_stands sizes e e1 book same others store idle st = all_still sizes e e1 book same store (others_sound sizes e e1 book others store st.sound) idle st
