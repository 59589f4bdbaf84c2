-- A call that is fed with a token for which the main memory has no room.
use Rattle.std.proofs.Common.{Result, Ok, Err, ◌≡◌, ℕ, zero, suc, ◌+◌, ◌<◌, ◌≤◌, List, [], ◌∷◌, ◌++◌, length, drop, map, refl, sym, ap, subst, ◌∙◌, append_assoc, length-append, arith}
use Rattle.std.proofs.lemmas.List.{length-drop}
use Rattle.std.proofs.lemmas.List.Sums.{sum_by-cons, sum_by-append}
use Rattle.std.proofs.Math.Seq.{drop-append_seam}
use Rattle.std.specs.Prelude.{Option, Some, None, IfErr, OnErr, option_map, option_to_list, unwrap_or}
use Rattle.tex_defs.specs.declared.Full.{Full}
use Rattle.tex_defs.specs.declared.Name.{Name}
use Rattle.tex_defs.specs.declared.Seen.{Seen}
use Rattle.tex_defs.specs.declared.Sizes.{Sizes}
use Rattle.tex_defs.specs.declared.Token.{Token}
use Rattle.tex_defs.specs.Places.{World}
use Rattle.plain_tokens.specs.Arguments as call
use Rattle.plain_tokens.specs.Arguments.{Answer, arguments_in, work_in}
use Rattle.plain_readings.specs.Readings as reading
use Rattle.plain_tokens.specs.Puts.{list_of_tokens}
use Rattle.rows.specs.Readings.{Tok}
use Rattle.plain_readings.specs.Readings.{Reading}
use Rattle.plain_machine.specs.declared.broken.Broken.TheVariants as broken
use Rattle.plain_machine.specs.States.{State, Move, Grows, Feeds, Completed, Opened}
use Rattle.plain_tokens.specs.Tables.{list_words, lists_words, memory, refused}
use Rattle.plain_machine.specs.Demands.{refusal, words}
use Rattle.plain_machine.specs.Plan.{feeding, argument_fed, grown_to, opened}
use Rattle.plain_machine.specs.Does.{Did}
use Rattle.input_state.specs.declared.answer.CallEnd.{CallEnd}
use Rattle.input_state.specs.declared.answer.CallEnd.TheVariants as end
use Rattle.macro_call.specs.Growths.{target_by, target_of}
use Rattle.macro_call.specs.PlainScans.{Scan, resume_scan, scan_work, with_work as with_list}
use Rattle.macro_call.specs.Scans.{args_with}
use Rattle.macro_call.specs.Stages.{Stage}
use Rattle.macro_call.specs.declared.ask.CallAsk.{CallAsk}
use Rattle.macro_call.specs.declared.ask.CallAsk.TheVariants as ask
use Rattle.input_state.specs.declared.answer.Call.{Call}
use Rattle.std.proofs.lemmas.Option.{same_Some}
use Rattle.reading_frames.specs.Frames.{OpenCall, AreFramesOf, IsGathered}
use Rattle.input_state.specs.CallFeeds.{call_work, CutTo, CutShort, IsCut, InGrowth, Between, IsCutInGrowth, IsCutBetween}
use Rattle.input_state.specs.Callings as calls
use Rattle.input_state.specs.Callings.{Calling, call_lists, last_first, call_in, scan_asks}
use Rattle.input_state.specs.Calls.{text_of}
use Rattle.input_state.specs.Macros.{list_at}
use Rattle.input_state.specs.Stored.{KeepsShared, words as stored_words}
use Rattle.engine_state.specs.declared.engine.Engine.{Engine}
use Rattle.engine_state.specs.Book.{Book, with_work}
use Rattle.engine_state.specs.Calls.{AllStand, HasRead}
use Rattle.engine_state.proofs.CallsIn.{open_call}
use Rattle.engine_state.proofs.CallsKnown.{CallStands, Gathers, Taking, lists_of}
use Rattle.engine_state.proofs.CallsFed.{ScanStands, frames_fed}
use Rattle.engine_state.specs.CutReadings.{Within, Behind, CutOff, CutScan, FramesAtCut, CutsIn}
use Rattle.engine_state.specs.Stands.{IsSound, OpenFrames, SameStore, state_of}
use Rattle.engine_state.proofs.CallEnding.{here as here_call}
use Rattle.engine_state.proofs.CallFeeding.{scanner, scanner_stands, text_is, answer_to, feeding_is, growth_is, lists_before}
use Rattle.engine_state.proofs.CallFeedingMoves.{fed_reading, state_at, other_words, words_at, last_more, grows_did, feeds_did, whole_did}
use Rattle.engine_state.proofs.Cutting.{later_cuts, full_cuts, cuts_by}
use Rattle.engine_state.proofs.Storing.{sound_still, store_call, words_are, words_more}

-- THE MOVES of a token in a place begin with those that go into the list in work
abbrev behind_growth : Seen → (complete : List (List Token)) → Option (List Token) → List Move
behind_growth x (a ∷ more) next = Feeds (Tok x) ∷ Completed a ∷ opened next
behind_growth x [] next = Feeds (Tok x) ∷ []

none_left : (n : ℕ) → drop n (unwrap_or {T = List Token} None []) ≡ []
none_left zero = refl
none_left (suc n) = refl

grows_first : (x : Seen) (was : List Token) (complete : List (List Token)) (next : Option (List Token)) →
    argument_fed x (Some was) complete next ≡ map Grows (drop (length was) (target_by complete next)) ++ behind_growth x complete next
grows_first x was (a ∷ more) next = refl
grows_first x was [] None = ap (λ (ts : List Token). map Grows ts ++ Feeds (Tok x) ∷ []) (sym (none_left (length was)))
grows_first x was [] (Some after) = refl

-- the lists of a call whose list in work has some tokens more
abbrev cut_lists : (was front : List Token) → (args : List (List Token)) → List (List Token)
cut_lists was front args = (was ++ front) ∷ last_first args []

maps_join : (ts us : List Token) (rest : List Move) → map Grows (ts ++ us) ++ rest ≡ map Grows ts ++ (map Grows us ++ rest)
maps_join [] us rest = refl
maps_join (t ∷ ts) us rest = ap (λ (ms : List Move). Grows t ∷ ms) (maps_join ts us rest)

-- the list in work is this one
work_with : (scan : Scan) (o : Option Stage) (was list : List Token) → scan.present ≡ o → scan_work scan ≡ Some was → scan_work (with_list scan list) ≡ Some list
work_with scan None was list is some = let none : scan_work scan ≡ None = ap (option_map (λ (s : Stage). s.list)) is in cc (none, some)
work_with scan (Some s) was list is some =
    ap (λ (o : Option Stage). option_map (λ (s : Stage). s.list) (option_map (λ (s : Stage). record { list = list; from = s.from; matched = s.matched; depth = s.depth }) o)) is

-- an argument of which a token was held back has as many words as the list in work with the tokens that go into it
arg_words : (was arg : List Token) (args : List (List Token)) → 0 < length (drop (length was) arg) → lists_words (list_of_tokens arg ++ args) ≡ lists_words (was ∷ args) + length (drop (length was) arg)
arg_words was [] args some = omega (arith, some, length-drop {A = Token} (length was) [])
arg_words was (t ∷ ts) args some = omega (arith, some, length-drop {A = Token} (length was) (t ∷ ts), sum_by-cons list_words (t ∷ ts) args, sum_by-cons list_words was args)

module _ (sizes : Sizes) (e e2 : Engine) (book : Book) (r : Reading) (rs : List Reading) (name : Name) (x : Seen) (full : Full) (w : World) (is : call_in e.input.call ≡ Some (open_call name)) (st : AllStand sizes e (with_work (r ∷ rs) book))
    (behind : e2 ≡ record e { last = e2.last; input = record e.input { call = e2.input.call; lists = e2.input.lists } }) (all_lists : KeepsShared e.input e2.input)
    (within : stored_words e2.input ≤ e2.input.sizes.main_memory_size) (refuses : refused e2.input.sizes (memory 1 (stored_words e2.input) ∷ []) ≡ Some full) where
  abbrev W : Book
  W = with_work (r ∷ rs) book

  h : CallStands e book.number (open_call name) r
  h = here_call sizes e book (open_call name) r rs is st

  abbrev text : List Token
  text = list_at e.input.lists h.id

  abbrev k : Taking name h.long text r.fed e.input.call
  k = scanner e book.number name r h

  abbrev a : Answer
  a = answer_to e book.number name r x h

  abbrev complete : List (List Token)
  complete = drop (length k.scan.args) (arguments_in a)

  store : SameStore e.input e2.input
  store = store_call e.input e2.input e2.input.call (ap (λ (y : Engine). y.input) behind) all_lists

  sound : IsSound sizes e2 book.number book.all_lists
  sound = sound_still sizes e e2 book.number book.all_lists (ap (λ (y : Engine). y.sizes) behind) (ap (λ (y : Engine). y.readings.size) behind) (ap (λ (y : Engine). y.conditionals) behind) (ap (λ (y : Engine). y.names) behind) (ap (λ (y : Engine). y.reports) behind) store st.sound

  start : state_at (state_of e W) (r ∷ rs) e.last (lists_of k.scan.args (scan_work k.scan) ++ e.input.builds) ≡ state_of e W
  start = ap (λ (l : List (List Token)). record (state_of e W) { gathered = l ++ e.input.builds }) (sym (lists_before e book.number name r x h))

  -- the engine stands for this state
  finish : (q : Reading) (lists : List (List Token)) → call_lists e2.input.call ≡ lists → state_at (state_of e W) (q ∷ rs) e2.last (lists ++ e.input.builds) ≡ state_of e2 (with_work (q ∷ rs) book)
  finish q lists same =
      ap (λ (l : List (List Token)). record (state_of e W) { work = q ∷ rs; last = e2.last; gathered = l ++ e.input.builds }) (sym same)
      ∙ ap (λ (y : Engine). state_of y (with_work (q ∷ rs) book)) (sym behind)

  -- the words that it then has are within the memory's size
  room : (q : Reading) (lists : List (List Token)) → call_lists e2.input.call ≡ lists → other_words (state_of e W) + lists_words (lists ++ e.input.builds) ≤ sizes.main_memory_size
  room q lists same =
      let own : e2.input.sizes.main_memory_size ≡ sizes.main_memory_size = ap (λ (s : Sizes). s.main_memory_size) sound.sized.input in
      let used : other_words (state_of e W) + lists_words (lists ++ e.input.builds) ≡ stored_words e2.input =
      sym (words_at (state_of e W) (q ∷ rs) e2.last (lists ++ e.input.builds)) ∙ ap words (finish q lists same) ∙ words_are sizes e2 (with_work (q ∷ rs) book) sound in
      omega (arith, own, used, within)

  -- a word more has no room
  no_more : (q : Reading) (lists : List (List Token)) → call_lists e2.input.call ≡ lists → refused sizes (memory 1 (words (state_at (state_of e W) (q ∷ rs) e2.last (lists ++ e.input.builds))) ∷ []) ≡ Some full
  no_more q lists same =
      ap (λ (u : State). refused sizes (memory 1 (words u) ∷ [])) (finish q lists same) ∙ words_more sizes e2 (with_work (q ∷ rs) book) 1 (Some full) sound refuses

  k_stands : ScanStands e book.number name text k.scan r rs
  k_stands = scanner_stands e book.number name r rs h st.all

  -- in front of the token the call has read so far
  read : HasRead ask.More k.scan (resume_scan text k.scan [])
  read = subst (λ (asked : CallAsk). HasRead asked k.scan (resume_scan text k.scan [])) (ap (λ (c : Call). c.ask) (same_Some (record { name = name; ask = scan_asks k.scan }) (open_call name) (sym (ap call_in k.is) ∙ is))) k_stands.far

  -- the frames, where they stand for this call
  frames_near : (q : Reading) (c : OpenCall) (next : Scan) → OpenFrames (Some c) e (q ∷ rs) → e2.input.call ≡ calls.Stopped c.name end.Full next → CutScan c.name text next c q.kind q.fed → FramesAtCut (broken.Full full) e2 (q ∷ rs)
  frames_near q c next open_now now cut = record {
    lists = e2.input.builds;
    front = None;
    grown = refl;
    leads = tt;
    call = Some c;
    at = CutOff (record { full = full; is_full = refl; text = text; next = next; stopped = now; at = cut });
    stand = subst (λ (y : Engine). AreFramesOf (Some c) y.readings.frames y.input.builds (q ∷ rs)) (sym behind) open_now.frames;
  }

  -- the first moves are done, and the next one has no room
  cut_at : (q : Reading) (lists : List (List Token)) (done : List Move) (m : Move) (rest : List Move) → FramesAtCut (broken.Full full) e2 (q ∷ rs) → call_lists e2.input.call ≡ lists →
      argument_fed x (scan_work k.scan) complete (work_in a) ≡ done ++ m ∷ rest →
      Did sizes (state_at (state_of e W) (r ∷ rs) e.last (lists_of k.scan.args (scan_work k.scan) ++ e.input.builds)) (state_at (state_of e W) (q ∷ rs) e2.last (lists ++ e.input.builds)) w w done →
      refusal sizes m (state_at (state_of e W) (q ∷ rs) e2.last (lists ++ e.input.builds)) ≡ Some full →
      CutsIn sizes (state_of e W) e2 w w (feeding r x) (broken.Full full)
  cut_at q lists done m rest near same moves did no_room = record {
    book' = with_work (q ∷ rs) book;
    cuts = cuts_by sizes _ e2 (with_work (q ∷ rs) book) w w (done ++ m ∷ rest) (feeding r x) (broken.Full full) (feeding_is e book.number name r x h ∙ moves)
        (later_cuts sizes (state_of e W) (state_at (state_of e W) (q ∷ rs) e2.last (lists ++ e.input.builds)) e2 (with_work (q ∷ rs) book) w w w done (m ∷ rest) (broken.Full full)
        (subst (λ (u : State). Did sizes u (state_at (state_of e W) (q ∷ rs) e2.last (lists ++ e.input.builds)) w w done) start did)
        (full_cuts sizes _ e2 (with_work (q ∷ rs) book) w m rest full (broken.Full full) refl no_room (finish q lists same)));
    near = near;
  }

  -- WITHIN A GROWTH
  growth_cut : (next : Scan) → ((was : List Token) → call_work e2.input.call ≡ Some was → e2.last ≡ e.last) → e2.input.call ≡ calls.Stopped name end.Full next → IsCutInGrowth text x.token k.scan next → CutsIn sizes (state_of e W) e2 w w (feeding r x) (broken.Full full)
  growth_cut next unfed now c = by_behind c.behind refl c.some where
    same : call_lists e2.input.call ≡ (cut_lists c.was c.front k.scan.args)
    same = ap call_lists now ∙ ap (λ (s : Scan). option_to_list (scan_work s) ++ last_first s.args []) c.after
        ∙ ap (λ (o : Option (List Token)). option_to_list o ++ last_first k.scan.args []) (work_with k.scan k.scan.present c.was (c.was ++ c.front) refl c.before)

    whole : drop (length c.was) (target_by complete (work_in a)) ≡ c.front ++ c.behind
    whole = ap (λ (o : Option (List Token)). drop (length (unwrap_or o [])) (target_by complete (work_in a))) (sym c.before) ∙ sym (growth_is e book.number name r x h) ∙ c.whole

    near : FramesAtCut (broken.Full full) e2 (r ∷ rs)
    near = frames_near r (record { name = name; text = text; answers = resume_scan text k.scan }) next k_stands.frames now (Within (record { scan = k.scan; seen = x; call = refl; read = read; cut = c }))

    last : e2.last ≡ e.last
    last = unfed (c.was ++ c.front) (ap call_work now ∙ ap scan_work c.after ∙ work_with k.scan k.scan.present c.was (c.was ++ c.front) refl c.before)

    moves : argument_fed x (scan_work k.scan) complete (work_in a) ≡ map Grows c.front ++ (map Grows c.behind ++ behind_growth x complete (work_in a))
    moves = ap (λ (o : Option (List Token)). argument_fed x o complete (work_in a)) c.before ∙ grows_first x c.was complete (work_in a)
        ∙ ap (λ (ts : List Token). map Grows ts ++ behind_growth x complete (work_in a)) whole ∙ maps_join c.front c.behind (behind_growth x complete (work_in a))

    fits : other_words (state_of e W) + lists_words (c.was ∷ (last_first k.scan.args [] ++ e.input.builds)) + length c.front ≤ sizes.main_memory_size
    fits = omega (arith, room r (cut_lists c.was c.front k.scan.args) same, sum_by-cons list_words (c.was ++ c.front) (last_first k.scan.args [] ++ e.input.builds), sum_by-cons list_words c.was (last_first k.scan.args [] ++ e.input.builds), length-append c.was c.front)

    did : Did sizes (state_at (state_of e W) (r ∷ rs) e.last (lists_of k.scan.args (scan_work k.scan) ++ e.input.builds)) (state_at (state_of e W) (r ∷ rs) e2.last ((cut_lists c.was c.front k.scan.args) ++ e.input.builds)) w w (map Grows c.front)
    did = subst (λ (y : Seen). Did sizes (state_at (state_of e W) (r ∷ rs) e.last (lists_of k.scan.args (scan_work k.scan) ++ e.input.builds)) (state_at (state_of e W) (r ∷ rs) y ((cut_lists c.was c.front k.scan.args) ++ e.input.builds)) w w (map Grows c.front)) (sym last)
        (subst (λ (o : Option (List Token)). Did sizes (state_at (state_of e W) (r ∷ rs) e.last (lists_of k.scan.args o ++ e.input.builds)) (state_at (state_of e W) (r ∷ rs) e.last ((cut_lists c.was c.front k.scan.args) ++ e.input.builds)) w w (map Grows c.front)) (sym c.before)
        (grows_did sizes (state_of e W) w c.front c.was (last_first k.scan.args [] ++ e.input.builds) (r ∷ rs) e.last (λ some. fits)))

    by_behind : (ts : List Token) → c.behind ≡ ts → 0 < length ts → CutsIn sizes (state_of e W) e2 w w (feeding r x) (broken.Full full)
    by_behind [] left some = absurd (omega (arith, some))
    by_behind (t ∷ ts) left some =
        cut_at r (cut_lists c.was c.front k.scan.args) (map Grows c.front) (Grows t) (map Grows ts ++ behind_growth x complete (work_in a)) near same
        (moves ∙ ap (λ (us : List Token). map Grows c.front ++ (map Grows us ++ behind_growth x complete (work_in a))) left) did (no_more r (cut_lists c.was c.front k.scan.args) same)

  -- IN FRONT OF A PLACE
  between_cut : (next : Scan) → (call_work e2.input.call ≡ None → e2.last ≡ x) → e2.input.call ≡ calls.Stopped name end.Full next → IsCutBetween text x.token k.scan next → CutsIn sizes (state_of e W) e2 w w (feeding r x) (broken.Full full)
  between_cut next fed now c = by_present k.scan.present refl where
    q : Reading
    q = fed_reading r x

    near : FramesAtCut (broken.Full full) e2 (q ∷ rs)
    near =
        let g : Gathers h.long text k.scan r.fed = k.gathers in
        let behind_token : List call.Fed → Answer = λ fed. resume_scan text k.scan (call.Tok x.token ∷ fed) in
        frames_near q (record { name = name; text = text; answers = behind_token }) next (frames_fed name text (resume_scan text k.scan) behind_token (Tok x) (λ fed. refl) e r rs k_stands.frames) now (Behind (record {
          scan = k.scan;
          before = r.fed;
          seen = x;
          gathers = subst (λ (kind : reading.Kind). IsGathered (record { name = name; text = text; answers = resume_scan text k.scan }) kind r.fed) (sym h.kind) (refl, refl, g.goes_on);
          read = read;
          last = refl;
          call = refl;
          cut = c;
        }))

    last : e2.last ≡ x
    last = fed (ap call_work now ∙ ap (option_map (λ (s : Stage). s.list)) c.none)

    -- what is answered is due
    due_args : arguments_in a ≡ next.args
    due_args = ap arguments_in c.due

    due_work : work_in a ≡ Some []
    due_work = ap work_in c.due

    lists_now : call_lists e2.input.call ≡ last_first next.args []
    lists_now = ap call_lists now ∙ ap (λ (o : Option Stage). option_to_list (option_map (λ (s : Stage). s.list) o) ++ last_first next.args []) c.none

    moves : (o : Option (List Token)) (args : List (List Token)) → scan_work k.scan ≡ o → next.args ≡ args → argument_fed x (scan_work k.scan) complete (work_in a) ≡ argument_fed x o (drop (length k.scan.args) args) (Some [])
    moves o args work same =
        ap (λ (o : Option (List Token)). argument_fed x o complete (work_in a)) work
        ∙ ap (λ (us : List (List Token)). argument_fed x o (drop (length k.scan.args) us) (work_in a)) (due_args ∙ same)
        ∙ ap (λ (u : Option (List Token)). argument_fed x o (drop (length k.scan.args) args) u) due_work

    -- the first place
    by_first : scan_work k.scan ≡ None → next.args ≡ k.scan.args → CutsIn sizes (state_of e W) e2 w w (feeding r x) (broken.Full full)
    by_first none same =
        let bare : k.scan.args ≡ [] = k.has_work none in
        let lists : call_lists e2.input.call ≡ [] = lists_now ∙ ap (λ (us : List (List Token)). last_first us []) (same ∙ bare) in
        let had : lists_of k.scan.args (scan_work k.scan) ≡ [] = ap (λ (o : Option (List Token)). lists_of k.scan.args o) none ∙ ap (λ (us : List (List Token)). lists_of us None) bare in
        cut_at q [] (Feeds (Tok x) ∷ []) Opened [] near lists (moves None k.scan.args none same)
        (subst (λ (y : Seen). Did sizes (state_at (state_of e W) (r ∷ rs) e.last (lists_of k.scan.args (scan_work k.scan) ++ e.input.builds)) (state_at (state_of e W) (q ∷ rs) y e.input.builds) w w (Feeds (Tok x) ∷ [])) (sym last)
        (subst (λ (l : List (List Token)). Did sizes (state_at (state_of e W) (r ∷ rs) e.last (l ++ e.input.builds)) (state_at (state_of e W) (q ∷ rs) x e.input.builds) w w (Feeds (Tok x) ∷ [])) (sym had) (feeds_did sizes (state_of e W) w r rs e.last x e.input.builds)))
        (no_more q [] lists)

    -- a further one
    by_next : (was arg : List Token) → scan_work k.scan ≡ Some was → next.args ≡ k.scan.args ++ arg ∷ [] → CutsIn sizes (state_of e W) e2 w w (feeding r x) (broken.Full full)
    by_next was arg work same =
        let args : List (List Token) = last_first k.scan.args [] in
        let lists : call_lists e2.input.call ≡ list_of_tokens arg ++ args = lists_now ∙ ap (λ (us : List (List Token)). last_first us []) same ∙ last_more k.scan.args arg [] in
        let had : lists_of k.scan.args (scan_work k.scan) ≡ was ∷ args = ap (lists_of k.scan.args) work in
        let within_size = room q (list_of_tokens arg ++ args) lists in
        cut_at q (list_of_tokens arg ++ args) (grown_to was arg ++ (Feeds (Tok x) ∷ Completed arg ∷ [])) Opened [] near lists
        (moves (Some was) (k.scan.args ++ arg ∷ []) work same ∙ ap (λ (us : List (List Token)). argument_fed x (Some was) us (Some [])) (drop-append_seam k.scan.args (arg ∷ [])) ∙ sym (append_assoc (grown_to was arg) (Feeds (Tok x) ∷ Completed arg ∷ []) (Opened ∷ [])))
        (subst (λ (y : Seen). Did sizes (state_at (state_of e W) (r ∷ rs) e.last (lists_of k.scan.args (scan_work k.scan) ++ e.input.builds)) (state_at (state_of e W) (q ∷ rs) y ((list_of_tokens arg ++ args) ++ e.input.builds)) w w (grown_to was arg ++ (Feeds (Tok x) ∷ Completed arg ∷ []))) (sym last)
        (subst (λ (l : List (List Token)). Did sizes (state_at (state_of e W) (r ∷ rs) e.last (l ++ e.input.builds)) (state_at (state_of e W) (q ∷ rs) x ((list_of_tokens arg ++ args) ++ e.input.builds)) w w (grown_to was arg ++ (Feeds (Tok x) ∷ Completed arg ∷ []))) (sym had)
        (whole_did sizes (state_of e W) w r rs e.last x arg was args e.input.builds
        (λ some. omega (arith, within_size, arg_words was arg args some, sum_by-append list_words (list_of_tokens arg ++ args) e.input.builds, sum_by-append list_words (was ∷ args) e.input.builds)))))
        (no_more q (list_of_tokens arg ++ args) lists)

    by_present : (o : Option Stage) → k.scan.present ≡ o → CutsIn sizes (state_of e W) e2 w w (feeding r x) (broken.Full full)
    by_present None present = by_first (ap (option_map (λ (s : Stage). s.list)) present) (c.args ∙ ap (λ (o : Option Stage). args_with o k.scan.args (target_of (resume_scan text k.scan []) a)) present)
    by_present (Some s) present =
        by_next s.list (target_of (resume_scan text k.scan []) a) (ap (option_map (λ (s : Stage). s.list)) present) (c.args ∙ ap (λ (o : Option Stage). args_with o k.scan.args (target_of (resume_scan text k.scan []) a)) present)

  -- THE CALL
  module _ (fed : call_work e2.input.call ≡ None → e2.last ≡ x) (unfed : (was : List Token) → call_work e2.input.call ≡ Some was → e2.last ≡ e.last) where
    by_new : (c : Calling) → e2.input.call ≡ c → CutTo text x.token name k.scan c → CutsIn sizes (state_of e W) e2 w w (feeding r x) (broken.Full full)
    by_new calls.NotCalling now c = absurd c
    by_new (calls.Gathering n next) now c = absurd c
    by_new (calls.Stopped n why next) now c = by_cut c.2 where
      own : e2.input.call ≡ calls.Stopped name end.Full next
      own = now ∙ ap (λ (m : Name). calls.Stopped m why next) c.0 ∙ ap (λ (y : CallEnd). calls.Stopped name y next) c.1

      by_cut : IsCut text x.token k.scan next → CutsIn sizes (state_of e W) e2 w w (feeding r x) (broken.Full full)
      by_cut (InGrowth g) = growth_cut next unfed own g
      by_cut (Between b) = between_cut next fed own b
    by_new (calls.Gathered n args) now c = absurd c

    pub fed_cut : CutShort (text_of e.input.lists e.input.groups.now.meanings) x.token e.input.call e2.input.call → CutsIn sizes (state_of e W) e2 w w (feeding r x) (broken.Full full)
    fed_cut short =
        let at : CutShort (text_of e.input.lists e.input.groups.now.meanings) x.token (calls.Gathering name k.scan) e2.input.call = subst (λ (c : Calling). CutShort (text_of e.input.lists e.input.groups.now.meanings) x.token c e2.input.call) k.is short in
        by_new e2.input.call refl (subst (λ (ts : List Token). CutTo ts x.token name k.scan e2.input.call) (text_is e book.number name r h) at)

-- the token has no room
pub cuts_if : (o : Result Unit Full) (e e2 : Engine) (x : Seen) →
    e2 ≡ record e { last = e2.last; input = record e.input { call = e2.input.call; lists = e2.input.lists } } → KeepsShared e.input e2.input → stored_words e2.input ≤ e2.input.sizes.main_memory_size →
    IfErr o (λ full. refused e2.input.sizes (memory 1 (stored_words e2.input) ∷ []) ≡ Some full) → OnErr o (call_work e2.input.call ≡ None → e2.last ≡ x) → OnErr o ((was : List Token) → call_work e2.input.call ≡ Some was → e2.last ≡ e.last) →
    OnErr o (CutShort (text_of e.input.lists e.input.groups.now.meanings) x.token e.input.call e2.input.call) →
    IfErr o (λ full. (sizes : Sizes) (w : World) (book : Book) (r : Reading) (rs : List Reading) (name : Name) → call_in e.input.call ≡ Some (open_call name) → AllStand sizes e (with_work (r ∷ rs) book) →
    CutsIn sizes (state_of e (with_work (r ∷ rs) book)) e2 w w (feeding r x) (broken.Full full))
cuts_if (Ok u) e e2 x others keeps within refuses fed unfed cut = tt
cuts_if (Err full) e e2 x others keeps within refuses fed unfed cut = λ sizes w book r rs name is st.
    fed_cut sizes e e2 book r rs name x full w is st others keeps within refuses fed unfed cut
