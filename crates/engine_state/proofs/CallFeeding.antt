-- A call that is fed with a token goes on behind it.
use Rattle.std.proofs.Common.{Result, Ok, Err, ◌≡◌, ℕ, ◌+◌, ◌≤◌, List, [], ◌∷◌, ◌++◌, length, drop, refl, sym, ap, append_assoc, subst, ◌∙◌, arith}
use Rattle.std.specs.Prelude.{Option, Some, OnOk, unwrap_or}
use Rattle.tex_defs.specs.declared.Full.{Full}
use Rattle.tex_defs.specs.declared.Name.{Name}
use Rattle.tex_defs.specs.declared.Seen.{Seen}
use Rattle.tex_defs.specs.declared.Sizes.{Sizes}
use Rattle.tex_defs.specs.declared.Token.{Token}
use Rattle.tex_defs.specs.Places.{World}
use Rattle.plain_tokens.specs.Arguments as call
use Rattle.plain_tokens.specs.Arguments.{Answer, arguments_in, work_in}
use Rattle.rows.specs.Readings.{Fed, Tok}
use Rattle.plain_readings.specs.Calls.{call_fed, gathered}
use Rattle.plain_readings.specs.Readings as reading
use Rattle.plain_readings.specs.Readings.{Reading}
use Rattle.plain_machine.specs.States.{State, Move}
use Rattle.plain_tokens.specs.Tables.{lists_words}
use Rattle.plain_machine.specs.Demands.{words}
use Rattle.plain_machine.specs.Plan.{feeding, feeding_kind, argument_fed}
use Rattle.plain_machine.specs.Does.{Did}
use Rattle.macro_call.specs.ArgumentLaws.{IsClosed}
use Rattle.macro_call.specs.Growths.{target_by}
use Rattle.macro_call.specs.declared.ask.CallAsk.{CallAsk}
use Rattle.macro_call.specs.declared.ask.CallAsk.TheVariants as ask
use Rattle.macro_call.specs.PlainScans.{resume_scan, scan_work}
use Rattle.input_state.specs.CallFeeds.{Comes, Feeds, scan_growth, growth}
use Rattle.input_state.specs.Callings as calls
use Rattle.input_state.specs.Callings.{Calling, asks_as, call_lists, call_in, ended_asks, scan_asks}
use Rattle.input_state.specs.Calls.{macro_text, text_of}
use Rattle.input_state.specs.Macros.{list_at}
use Rattle.input_state.specs.Stored.{KeepsShared, words as stored_words}
use Rattle.engine_state.specs.declared.engine.Engine.{Engine}
use Rattle.engine_state.specs.Book.{Book, with_work}
use Rattle.engine_state.specs.Calls.{AllStand, IsAsFar, IsEnded, IsMacroOf, ReadingsStand, ended_answer, open_call_of}
use Rattle.engine_state.proofs.CallsIn.{open_call}
use Rattle.engine_state.proofs.CallsFed.{ScanStands, fed_stand, scan_stands}
use Rattle.engine_state.proofs.CallsKnown.{CallStands, Gathers, Taking, lists_of, lists_by}
use Rattle.engine_state.specs.Stands.{IsSound, SameStore, state_of}
use Rattle.engine_state.specs.Rules.{Went}
use Rattle.engine_state.proofs.CallEnding.{here as here_call}
use Rattle.engine_state.proofs.CallFeedingAnswers.{ended_closed, ended_so, in_front, lists_after, read_after, says_is, scan_turn, stays}
use Rattle.engine_state.proofs.CallFeedingMoves.{fed_reading, turn_leads, state_at, other_words, words_at}
use Rattle.plain_machine.specs.Runs.{steps}
use Rattle.plain_machine.proofs.Pulls.{pulls, steps_pull, kind_none}
use Rattle.engine_state.proofs.Storing.{sound_still, store_call, words_are}

-- moves that pull nothing are no steps
pub no_steps : (ms : List Move) → pulls ms ≡ 0 → steps ms ≡ 0
no_steps ms h = omega (arith, h, steps_pull ms)

-- the scanner of the call that takes tokens, over the list of its macro
pub scanner : (e : Engine) (number : ℕ → ℕ) (name : Name) (r : Reading) (h : CallStands e number (open_call name) r) → Taking name h.long (list_at e.input.lists h.id) r.fed e.input.call
scanner e number name r h = h.at

-- its list is the macro's
pub text_is : (e : Engine) (number : ℕ → ℕ) (name : Name) (r : Reading) (h : CallStands e number (open_call name) r) → text_of e.input.lists e.input.groups.now.meanings name ≡ list_at e.input.lists h.id
text_is e number name r h = ap (macro_text e.input.lists) h.meaning

-- over its list it stands as the relation has it
pub scanner_stands : (e : Engine) (number : ℕ → ℕ) (name : Name) (r : Reading) (rs : List Reading) (h : CallStands e number (open_call name) r) → ReadingsStand e number (r ∷ rs) → ScanStands e number name (list_at e.input.lists h.id) (scanner e number name r h).scan r rs
scanner_stands e number name r rs h all =
    let k : Taking name h.long (list_at e.input.lists h.id) r.fed e.input.call = scanner e number name r h in
    let s : ScanStands e number name all.readings.text k.scan r rs = scan_stands e number name k.scan r rs k.is all in
    let m : IsMacroOf e number all.readings.text name r.kind = s.macro in
    subst (λ (ts : List Token). ScanStands e number name ts k.scan r rs) (m.list ∙ sym (ap (macro_text e.input.lists) m.meaning) ∙ text_is e number name r h) s

-- THE MOVES

module _ (e : Engine) (number : ℕ → ℕ) (name : Name) (r : Reading) (x : Seen) (h : CallStands e number (open_call name) r) where
  abbrev ts : List Token
  ts = list_at e.input.lists h.id

  abbrev t : Taking name h.long ts r.fed e.input.call
  t = scanner e number name r h

  abbrev pub answer_to : Answer
  answer_to = resume_scan ts t.scan (call.Tok x.token ∷ [])

  now_front : gathered h.long ts r.fed ≡ resume_scan ts t.scan []
  now_front = in_front h.long ts t.scan r.fed t.gathers

  pub now_after : gathered h.long ts (r.fed ++ Tok x ∷ []) ≡ answer_to
  now_after = let g : Gathers h.long ts t.scan r.fed = t.gathers in g.goes_on (Tok x ∷ [])

  pub feeding_is : feeding r x ≡ argument_fed x (scan_work t.scan) (drop (length t.scan.args) (arguments_in answer_to)) (work_in answer_to)
  feeding_is =
      let g : Gathers h.long ts t.scan r.fed = t.gathers in
      ap (λ (k : reading.Kind). feeding_kind k r.fed x) h.kind
      ∙ ap (λ (a : Answer). argument_fed x (work_in (gathered h.long ts r.fed)) (drop (length (arguments_in (gathered h.long ts r.fed))) (arguments_in a)) (work_in a)) now_after
      ∙ ap (λ (o : Option (List Token)). argument_fed x o (drop (length (arguments_in (gathered h.long ts r.fed))) (arguments_in answer_to)) (work_in answer_to)) g.work
      ∙ ap (λ (args : List (List Token)). argument_fed x (scan_work t.scan) (drop (length args) (arguments_in answer_to)) (work_in answer_to)) g.args

  pub growth_is : scan_growth ts x.token t.scan ≡ drop (length (unwrap_or (scan_work t.scan) [])) (target_by (drop (length t.scan.args) (arguments_in answer_to)) (work_in answer_to))
  growth_is =
      let g : Gathers h.long ts t.scan r.fed = t.gathers in
      let work : work_in (resume_scan ts t.scan []) ≡ scan_work t.scan = sym (ap work_in now_front) ∙ g.work in
      let args : arguments_in (resume_scan ts t.scan []) ≡ t.scan.args = sym (ap arguments_in now_front) ∙ g.args in
      ap (λ (o : Option (List Token)). drop (length (unwrap_or o [])) (target_by (drop (length (arguments_in (resume_scan ts t.scan []))) (arguments_in answer_to)) (work_in answer_to))) work
      ∙ ap (λ (us : List (List Token)). drop (length (unwrap_or (scan_work t.scan) [])) (target_by (drop (length us) (arguments_in answer_to)) (work_in answer_to))) args

  -- as the input says it
  pub growth_now : growth (text_of e.input.lists e.input.groups.now.meanings) x.token e.input.call ≡ drop (length (unwrap_or (scan_work t.scan) [])) (target_by (drop (length t.scan.args) (arguments_in answer_to)) (work_in answer_to))
  growth_now =
      ap (growth (text_of e.input.lists e.input.groups.now.meanings) x.token) t.is
      ∙ ap (λ (text : List Token). scan_growth text x.token t.scan) (text_is e number name r h)
      ∙ growth_is

  pub lists_before : call_lists e.input.call ≡ lists_of t.scan.args (scan_work t.scan)
  lists_before = ap call_lists t.is

-- THE CALL GOES ON

module _ (sizes : Sizes) (e e2 : Engine) (book : Book) (r : Reading) (rs : List Reading) (name : Name) (x : Seen) (is : call_in e.input.call ≡ Some (open_call name)) (st : AllStand sizes e (with_work (r ∷ rs) book))
    (behind : e2 ≡ record e { last = x; input = record e.input { call = e2.input.call; lists = e2.input.lists } }) (all_lists : KeepsShared e.input e2.input)
    (comes : Feeds (text_of e.input.lists e.input.groups.now.meanings) x.token e.input.call e2.input.call) where
  abbrev W : Book
  W = with_work (r ∷ rs) book

  h : CallStands e book.number (open_call name) r
  h = here_call sizes e book (open_call name) r rs is st

  abbrev text : List Token
  text = list_at e.input.lists h.id

  abbrev k : Taking name h.long text r.fed e.input.call
  k = scanner e book.number name r h

  abbrev a : Answer
  a = answer_to e book.number name r x h

  came : Comes text x.token name k.scan e2.input.call
  came =
      let at : Feeds (text_of e.input.lists e.input.groups.now.meanings) x.token (calls.Gathering name k.scan) e2.input.call = subst (λ (c : Calling). Feeds (text_of e.input.lists e.input.groups.now.meanings) x.token c e2.input.call) k.is comes in
      subst (λ (ts : List Token). Comes ts x.token name k.scan e2.input.call) (text_is e book.number name r h) at

  store : SameStore e.input e2.input
  store = store_call e.input e2.input e2.input.call (ap (λ (y : Engine). y.input) behind) all_lists

  sound : IsSound sizes e2 book.number book.all_lists
  sound = sound_still sizes e e2 book.number book.all_lists (ap (λ (y : Engine). y.sizes) behind) (ap (λ (y : Engine). y.readings.size) behind) (ap (λ (y : Engine). y.conditionals) behind) (ap (λ (y : Engine). y.names) behind) (ap (λ (y : Engine). y.reports) behind) store st.sound

  -- the reading behind the token
  abbrev fed : Reading
  fed = fed_reading r x

  abbrev W' : Book
  W' = with_work (fed ∷ rs) book

  k_stands : ScanStands e book.number name text k.scan r rs
  k_stands = scanner_stands e book.number name r rs h st.all

  -- what follows an end changes nothing
  ends : (b : Answer) → a ≡ b → IsClosed b → (more : List Fed) → resume_scan text k.scan (call.Tok x.token ∷ call_fed more) ≡ b
  ends b is closed more =
      let g : Gathers h.long text k.scan r.fed = k.gathers in
      sym (ap (gathered h.long text) (append_assoc r.fed (Tok x ∷ []) more) ∙ g.goes_on (Tok x ∷ more)) ∙ stays h.long text (r.fed ++ Tok x ∷ []) b (now_after e book.number name r x h ∙ is) closed more

  -- the call goes on
  fed_to : (new : Calling) (answers : List call.Fed → Answer) (asked : CallAsk) → e2.input.call ≡ new → open_call_of text new ≡ Some (record { name = name; text = text; answers = answers }) → call_in new ≡ asks_as name asked →
      ((more : List Fed) → resume_scan text k.scan (call.Tok x.token ∷ call_fed more) ≡ answers (call_fed more)) → IsAsFar text new → ReadingsStand e2 book.number (fed ∷ rs)
  fed_to = fed_stand e e2 book.number name text k.scan r rs (Tok x) k_stands (ap (λ (y : Engine). y.readings) behind) (ap (λ (y : Engine). y.input.builds) behind) store

  all_behind : (new : Calling) → e2.input.call ≡ new → Comes text x.token name k.scan new → ReadingsStand e2 book.number (fed ∷ rs)
  all_behind calls.NotCalling now c = absurd c
  all_behind (calls.Gathering n next) now c =
      fed_to (calls.Gathering name next) (resume_scan text next) (scan_asks next) (now ∙ ap (λ (m : Name). calls.Gathering m next) c.0) refl refl
      (λ more. c.1.same (call_fed more)) (read_after text k.scan x k_stands.far (scan_asks next) next c.1.stands (resume_scan text next []) (c.1.same []))
  all_behind (calls.Stopped n why next) now c =
      let ended : IsEnded why = ended_so why c.1.closed in
      let is : a ≡ ended_answer why next = says_is (ended_asks why) next a c.1.stands.says in
      fed_to (calls.Stopped name why next) (λ fed. ended_answer why next) (ended_asks why) (now ∙ ap (λ (m : Name). calls.Stopped m why next) c.0) refl refl
      (ends (ended_answer why next) is (ended_closed why next ended)) (ended, read_after text k.scan x k_stands.far (ended_asks why) next c.1.stands (ended_answer why next) is)
  all_behind (calls.Gathered n args) now c =
      fed_to (calls.Gathered name args) (λ fed. call.Called args) ask.Gathered (now ∙ ap (λ (m : Name). calls.Gathered m args) c.0) refl refl (ends (call.Called args) c.1 tt) tt

  fed_stands : AllStand sizes e2 W'
  fed_stands = record { sound = sound; idle = ap (λ (y : Engine). y.input.making) behind ∙ st.idle; all = all_behind e2.input.call refl came }

  -- the states before and behind
  start : state_at (state_of e W) (r ∷ rs) e.last (lists_of k.scan.args (scan_work k.scan) ++ e.input.builds) ≡ state_of e W
  start = ap (λ (l : List (List Token)). record (state_of e W) { gathered = l ++ e.input.builds }) (sym (lists_before e book.number name r x h))

  finish : state_at (state_of e W) (fed ∷ rs) x (lists_by a ++ e.input.builds) ≡ state_of e2 W'
  finish =
      ap (λ (l : List (List Token)). record (state_of e W) { work = fed ∷ rs; last = x; gathered = l ++ e.input.builds }) (sym (lists_after text k.scan x name e2.input.call came))
      ∙ ap (λ (y : Engine). state_of y W') (sym behind)

  -- the machine's words
  words_before : other_words (state_of e W) + lists_words (lists_of k.scan.args (scan_work k.scan) ++ e.input.builds) ≡ stored_words e.input
  words_before = sym (words_at (state_of e W) (r ∷ rs) e.last (lists_of k.scan.args (scan_work k.scan) ++ e.input.builds)) ∙ ap words start ∙ words_are sizes e W st.sound

  words_behind : other_words (state_of e W) + lists_words (lists_by a ++ e.input.builds) ≡ stored_words e2.input
  words_behind = sym (words_at (state_of e W) (fed ∷ rs) x (lists_by a ++ e.input.builds)) ∙ ap words finish ∙ words_are sizes e2 W' sound

  pub fed_went : (w : World) → stored_words e.input + length (growth (text_of e.input.lists e.input.groups.now.meanings) x.token e.input.call) ≤ e.input.sizes.main_memory_size → stored_words e2.input ≤ e2.input.sizes.main_memory_size →
      Went sizes (state_of e W) e2 w w (feeding r x) 0
  fed_went w fits within =
      let own : e.input.sizes.main_memory_size ≡ sizes.main_memory_size = ap (λ (s : Sizes). s.main_memory_size) st.sound.sized.input in
      let own2 : e2.input.sizes.main_memory_size ≡ sizes.main_memory_size = ap (λ (s : Sizes). s.main_memory_size) sound.sized.input in
      let grows = ap (length {A = Token}) (growth_now e book.number name r x h) in
      record {
        book' = W';
        stands = fed_stands;
        did = subst (λ (ms : List Move). Did sizes (state_of e W) (state_of e2 W') w w ms) (sym (feeding_is e book.number name r x h))
            (subst (λ (u : State). Did sizes u (state_of e2 W') w w (argument_fed x (scan_work k.scan) (drop (length k.scan.args) (arguments_in a)) (work_in a))) start
            (subst (λ (u : State). Did sizes (state_at (state_of e W) (r ∷ rs) e.last (lists_of k.scan.args (scan_work k.scan) ++ e.input.builds)) u w w (argument_fed x (scan_work k.scan) (drop (length k.scan.args) (arguments_in a)) (work_in a))) finish
            (turn_leads sizes (state_of e W) w r rs e.last x k.scan.args (scan_work k.scan) a e.input.builds (scan_turn h.long text k.scan r.fed x k.has_work k.gathers) (omega (arith, fits, own, grows, words_before)) (omega (arith, within, own2, words_behind)))));
        count = no_steps (feeding r x) (kind_none r.kind r.fed x);
      }

-- the token is taken
pub went_if : (o : Result Unit Full) (e e2 : Engine) (x : Seen) →
    e2 ≡ record e { last = e2.last; input = record e.input { call = e2.input.call; lists = e2.input.lists } } → OnOk o (e2.last ≡ x) → KeepsShared e.input e2.input →
    OnOk o (Feeds (text_of e.input.lists e.input.groups.now.meanings) x.token e.input.call e2.input.call) →
    OnOk o (stored_words e.input + length (growth (text_of e.input.lists e.input.groups.now.meanings) x.token e.input.call) ≤ e.input.sizes.main_memory_size) →
    stored_words e2.input ≤ e2.input.sizes.main_memory_size →
    OnOk o ((sizes : Sizes) (w : World) (book : Book) (r : Reading) (rs : List Reading) (name : Name) → call_in e.input.call ≡ Some (open_call name) → AllStand sizes e (with_work (r ∷ rs) book) →
    Went sizes (state_of e (with_work (r ∷ rs) book)) e2 w w (feeding r x) 0)
went_if (Ok u) e e2 x others last keeps comes fits within = λ sizes w book r rs name is st.
    fed_went sizes e e2 book r rs name x is st (others ∙ ap (λ (y : Seen). record e { last = y; input = record e.input { call = e2.input.call; lists = e2.input.lists } }) last) keeps comes w fits within
went_if (Err full) e e2 x others last keeps comes fits within = tt
