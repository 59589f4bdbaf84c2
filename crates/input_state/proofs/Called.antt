-- A call begins and takes tokens.
use Rattle.std.proofs.Common.{◌≡◌, ℕ, ◌+◌, ◌<◌, ◌≤◌, List, [], ◌∷◌, length, drop, map, take, Bool, true, Option, None, Some, Result, Ok, Err, inl, inr, refl, sym, ap, ap₂, ◌∙◌, subst, arith}
use Rattle.std.specs.Prelude.{if◌then◌else◌, OnOk, IfErr, option_map}
use Rattle.std.proofs.lemmas.Option.{none-some, same_Some}
use Rattle.std.proofs.lemmas.List.Sums.{sum_by-append}
use Rattle.tex_defs.specs.declared.Token.{Token}
use Rattle.tex_defs.specs.declared.Name.{Name}
use Rattle.tex_defs.specs.declared.Full.{Full}
use Rattle.tex_defs.specs.declared.Sizes.{Sizes}
use Rattle.tex_defs.specs.declared.Meaning.{Meaning}
use Rattle.tex_defs.specs.declared.Meaning.TheVariants as means
use Rattle.plain_tokens.specs.declared.par_mode.ParMode.{ParMode}
use Rattle.plain_tokens.specs.Arguments.{Tok, arguments, begins_with_place, start_of}
use Rattle.plain_tokens.specs.Meanings.{name_meaning}
use Rattle.plain_tokens.specs.Tables.{lists_words, list_words, memory, refused}
use Rattle.token_lists.specs.declared.Build.{Build}
use Rattle.token_lists.specs.Table.{Entry, tokens_at}
use Rattle.token_lists.specs.Accounts.{none}
use Rattle.token_lists.specs.Refusals.{IsFull}
use Rattle.macro_args.specs.Args.{args_in, cell_tokens}
use Rattle.macro_call.specs.declared.present.Present.{Present}
use Rattle.macro_call.specs.declared.scan.ArgScan.{ArgScan}
use Rattle.macro_call.specs.declared.ask.CallAsk.{CallAsk}
use Rattle.macro_call.specs.declared.ask.CallAsk.TheVariants as ask
use Rattle.macro_call.specs.Stages.{stage_of}
use Rattle.macro_call.specs.PlainScans.{Scan, first_scan, resume_scan, with_work, places_left}
use Rattle.macro_call.specs.Scans.{Answers, asks_brace, IsCutShort, IsSound as IsSoundScan, IsInPlace, scan_of, scan_holds}
use Rattle.macro_call.proofs.Resumed.{has_lists}
use Rattle.eqtb_save.specs.Table.{Table}
use Rattle.equivalents.specs.Groups.{Groups}
use Rattle.equivalents.specs.Holding.{list_of}
use Rattle.input_stack.specs.View.{pending}
use Rattle.input_stack.specs.declared.stack.InputStack.{InputStack}
use Rattle.input_state.specs.HeldLists.{HeldLists, words_held}
use Rattle.input_state.specs.Macros.{list_at}
use Rattle.input_state.specs.Calls.{macro_text, text_of, begun_lists}
use Rattle.input_state.specs.Callings.{Calling, NotCalling, Gathering, Stopped, Gathered, asks_where, scan_asks, call_lists, scan_lists}
use Rattle.input_state.specs.CallFeeds.{Says, IsAnswer, Comes, Feeds, CutTo, CutShort, InGrowth, Between, growth, scan_growth, IsTaking}
use Rattle.input_state.specs.declared.answer.CallEnd.TheVariants as end
use Rattle.input_state.specs.Recalls.{Recalls}
use Rattle.input_state.specs.declared.gathering.Gathering as code
use Rattle.input_state.specs.declared.gathering.Gathering.TheVariants as call
use Rattle.input_state.specs.HeldViews.{Named, calling_of, texts, lists_of, IsCall, IsScanning, IsSound}
use Rattle.input_state.proofs.Sharing.{text_at}
use Rattle.input_state.proofs.Sounds.{full_now}
use Rattle.input_state.proofs.Growing.{begun_words, growth_fits}
use Rattle.input_state.proofs.Refusing.{memory_room}

-- THE MACRO'S LIST

pub text_by : (lists : List (List Token)) (m : Meaning (Option ℕ)) (id : ℕ) → list_of m ≡ Some id → macro_text lists m ≡ list_at lists id
text_by lists means.Undefined id is = absurd (none-some id is)
text_by lists means.RelaxMarked id is = absurd (none-some id is)
text_by lists (means.Char category code) id is = absurd (none-some id is)
text_by lists (means.CharGiven code) id is = absurd (none-some id is)
text_by lists (means.MathGiven code) id is = absurd (none-some id is)
text_by lists (means.Register r n) id is = absurd (none-some id is)
text_by lists (means.Prim number) id is = absurd (none-some id is)
text_by lists (means.Macro long outer None) id is = absurd (none-some id is)
text_by lists (means.Macro long outer (Some i)) id is = ap (list_at lists) (same_Some i id is)

own_text : (table : List (Option Entry)) (m : Table) (name : Name) (id : ℕ) → list_of (name_meaning m.groups.now.meanings name) ≡ Some id → tokens_at table id ≡ text_of (texts table) m.groups.now.meanings name
own_text table m name id is = sym (text_at table id) ∙ sym (text_by (texts table) (name_meaning m.groups.now.meanings name) id is)

pub named_text : (table : List (Option Entry)) (m : Table) (name : Name) (id : ℕ) (v : HeldLists) → list_of (name_meaning m.groups.now.meanings name) ≡ Some id → texts table ≡ v.lists → m.groups ≡ v.groups → tokens_at table id ≡ text_of v.lists v.groups.now.meanings name
named_text table m name id v is lists groups = own_text table m name id is ∙ ap₂ (λ (ls : List (List Token)) (g : Groups). text_of ls g.now.meanings name) lists groups

-- A CALL BEGINS

begun_one : (text : List Token) → begins_with_place text ≡ true → lists_words (begun_lists text) ≡ 1
begun_one text is = ap (λ (b : Bool). lists_words (if b then [] ∷ [] else [])) is

-- what is used with its first list
pub begun_fits : (v : HeldLists) (text : List Token) (name : Name) (mode : ParMode) (used : ℕ) → v.call ≡ NotCalling → used + lists_words (call_lists v.call) ≡ words_held v + lists_words (call_lists (Gathering name (first_scan text mode))) → used ≤ v.sizes.main_memory_size →
    refused v.sizes (memory (lists_words (begun_lists text)) (words_held v) ∷ []) ≡ None
begun_fits v text name mode used none all within =
    memory_room v.sizes (words_held v) (lists_words (begun_lists text)) (omega (arith, all, within, ap (λ (c : Calling). lists_words (call_lists c)) none, ap lists_words (begun_words text mode)))

pub begun_full : (v : HeldLists) (text : List Token) (f : Full) → begins_with_place text ≡ true → refused v.sizes (memory 1 (words_held v) ∷ []) ≡ Some f → refused v.sizes (memory (lists_words (begun_lists text)) (words_held v) ∷ []) ≡ Some f
begun_full v text f is full = ap (λ (n : ℕ). refused v.sizes (memory n (words_held v) ∷ [])) (begun_one text is) ∙ full

-- WHAT A SCANNER ANSWERS

-- The scanner stands over the list of this macro, which stays.
module _ (table after : List (Option Entry)) (id : ℕ) (name : Name) (scan next : ArgScan) (t : Token) (sound : IsSoundScan table id scan) where
  -- it asks for what it answers
  asking : (asks : CallAsk) → Answers table after id scan next t asks → scan_asks (scan_of after next) ≡ asks_where (asks_brace asks)
  asking asks a = ap asks_where a.braced

  -- and stands so
  standing_so : (asks : CallAsk) → asks_where (asks_brace asks) ≡ asks → Answers table after id scan next t asks → Says asks (scan_of after next) (resume_scan (tokens_at table id) (scan_of table scan) (Tok t ∷ [])) →
      IsAnswer (tokens_at table id) t (scan_asks (scan_of after next)) (scan_of table scan) (scan_of after next)
  standing_so asks is a says = subst (λ (b : CallAsk). IsAnswer (tokens_at table id) t b (scan_of table scan) (scan_of after next)) (sym (asking asks a ∙ is)) (record { says = says; args = a.args; work = a.work })

  more_comes : Answers table after id scan next t ask.More → Comes (tokens_at table id) t name (scan_of table scan) (Gathering name (scan_of after next))
  more_comes a = (
    refl,
    record {
      stands = standing_so ask.More refl a (sym a.answers);
      same = λ fed. (a.goes_on tt).same fed ∙ ap (λ (ts : List Token). resume_scan ts (scan_of after next) fed) (a.kept.tokens id sound.outside);
    },
  )

  brace_comes : Answers table after id scan next t ask.ExtraBrace → Comes (tokens_at table id) t name (scan_of table scan) (Gathering name (scan_of after next))
  brace_comes a = (
    refl,
    record {
      stands = standing_so ask.ExtraBrace refl a (sym a.answers);
      same = λ fed. (a.goes_on tt).same fed ∙ ap (λ (ts : List Token). resume_scan ts (scan_of after next) fed) (a.kept.tokens id sound.outside);
    },
  )

  mismatch_comes : Answers table after id scan next t ask.Mismatch → Comes (tokens_at table id) t name (scan_of table scan) (Stopped name end.Mismatch (scan_of after next))
  mismatch_comes a = (refl, record { stands = record { says = sym a.answers; args = a.args; work = a.work }; closed = refl })

  ended_comes : (silent : Bool) → Answers table after id scan next t (ask.ParEnded silent) → Comes (tokens_at table id) t name (scan_of table scan) (Stopped name (end.ParEnded silent) (scan_of after next))
  ended_comes silent a = (refl, record { stands = record { says = sym a.answers; args = a.args; work = a.work }; closed = refl })

  gathered_comes : Answers table after id scan next t ask.Gathered → Comes (tokens_at table id) t name (scan_of table scan) (Gathered name (args_in after next.args))
  gathered_comes a = (refl, sym a.answers)

  cut_comes : IsCutShort table after id scan next t → CutTo (tokens_at table id) t name (scan_of table scan) (Stopped name end.Full (scan_of after next))
  cut_comes c = (
    refl,
    refl,
    elim c.stage [
      | inl g ↦ InGrowth (record { was = g.was; front = g.part.front; behind = g.part.behind; before = g.before; whole = g.part.whole; some = g.part.some; after = g.scan ∙ ap (λ (ts : List Token). with_work (scan_of table scan) ts) g.part.grown })
      | inr b ↦ Between (record {
        none = ap (λ (p : Option Present). option_map (λ q. stage_of after q) p) b.none;
        mode = b.mode;
        unbraced = b.unbraced;
        args = b.args;
        due = b.due;
        same = λ fed. b.same fed ∙ ap (λ (ts : List Token). arguments next.mode (args_in after next.args) (places_left (args_in after next.args) (drop next.cursor.index ts)) fed) (c.kept.tokens id sound.outside);
      })
    ],
  )

-- A TOKEN IS FED

pub is_scanning : (table : List (Option Entry)) (k : code.Gathering) → IsTaking (calling_of table k) → IsScanning k
is_scanning table call.None is = is
is_scanning table (call.Gathers name scan) is = tt
is_scanning table (call.Stopped name why scan) is = is
is_scanning table (call.Gathered name args) is = is

growth_is : (text : Name → List Token) (here : List Token) (t : Token) (name : Name) (scan : Scan) (old : Calling) → old ≡ Gathering name scan → here ≡ text name → growth text t old ≡ scan_growth here t scan
growth_is text here t name scan old was same = ap (growth text t) was ∙ ap (λ (ts : List Token). scan_growth ts t scan) (sym same)

-- over the list of its name
pub same_sound : (table : List (Option Entry)) (m : Table) (name : Name) (id : ℕ) (scan : ArgScan) → list_of (name_meaning m.groups.now.meanings name) ≡ Some id → IsCall table m (call.Gathers name scan) → IsSoundScan table id scan
same_sound table m name id scan list is = subst (λ (k : ℕ). IsSoundScan table k scan) (same_Some is.id id (sym is.list ∙ list)) is.sound

-- What the scanner of a call answers is what the call comes to.
module _ (table after : List (Option Entry)) (m : Table) (k : code.Gathering) (id : ℕ) (name : Name) (scan next : ArgScan) (t : Token) (is : IsCall table m k) (was : k ≡ call.Gathers name scan) (list : list_of (name_meaning m.groups.now.meanings name) ≡ Some id) where
  standing : IsSoundScan table id scan
  standing = same_sound table m name id scan list (subst (IsCall table m) was is)

  said : (a b : CallAsk) → a ≡ b → Answers table after id scan next t a → Answers table after id scan next t b
  said a b says answers = subst (λ (c : CallAsk). Answers table after id scan next t c) says answers

  feeds : (l n : code.Gathering) → l ≡ n → Comes (tokens_at table id) t name (scan_of table scan) (calling_of after n) → Feeds (text_of (texts table) m.groups.now.meanings) t (calling_of table k) (calling_of after l)
  feeds l n now comes =
      subst (λ (g : code.Gathering). Feeds (text_of (texts table) m.groups.now.meanings) t (calling_of table g) (calling_of after l)) (sym was)
      (subst (λ (g : code.Gathering). Comes (text_of (texts table) m.groups.now.meanings name) t name (scan_of table scan) (calling_of after g)) (sym now)
      (subst (λ (ts : List Token). Comes ts t name (scan_of table scan) (calling_of after n)) (own_text table m name id list) comes))

  pub more_feeds : (a : CallAsk) → a ≡ ask.More → Answers table after id scan next t a → Feeds (text_of (texts table) m.groups.now.meanings) t (calling_of table k) (calling_of after (call.Gathers name next))
  more_feeds a says answers = feeds (call.Gathers name next) (call.Gathers name next) refl (more_comes table after id name scan next t standing (said a ask.More says answers))

  pub brace_feeds : (a : CallAsk) → a ≡ ask.ExtraBrace → Answers table after id scan next t a → Feeds (text_of (texts table) m.groups.now.meanings) t (calling_of table k) (calling_of after (call.Gathers name next))
  brace_feeds a says answers = feeds (call.Gathers name next) (call.Gathers name next) refl (brace_comes table after id name scan next t standing (said a ask.ExtraBrace says answers))

  module _ (l : code.Gathering) where
    pub mismatch_feeds : l ≡ call.Stopped name end.Mismatch next → (a : CallAsk) → a ≡ ask.Mismatch → Answers table after id scan next t a → Feeds (text_of (texts table) m.groups.now.meanings) t (calling_of table k) (calling_of after l)
    mismatch_feeds stops a says answers = feeds l (call.Stopped name end.Mismatch next) stops (mismatch_comes table after id name scan next t standing (said a ask.Mismatch says answers))

    pub ended_feeds : (silent : Bool) → l ≡ call.Stopped name (end.ParEnded silent) next → (a : CallAsk) → a ≡ ask.ParEnded silent → Answers table after id scan next t a → Feeds (text_of (texts table) m.groups.now.meanings) t (calling_of table k) (calling_of after l)
    ended_feeds silent stops a says answers = feeds l (call.Stopped name (end.ParEnded silent) next) stops (ended_comes table after id name scan next t standing silent (said a (ask.ParEnded silent) says answers))

    pub cut_feeds : l ≡ call.Stopped name end.Full next → IsCutShort table after id scan next t → CutShort (text_of (texts table) m.groups.now.meanings) t (calling_of table k) (calling_of after l)
    cut_feeds stops cut =
        subst (λ (g : code.Gathering). CutShort (text_of (texts table) m.groups.now.meanings) t (calling_of table g) (calling_of after l)) (sym was)
        (subst (λ (g : code.Gathering). CutTo (text_of (texts table) m.groups.now.meanings name) t name (scan_of table scan) (calling_of after g)) (sym stops)
        (subst (λ (ts : List Token). CutTo ts t name (scan_of table scan) (Stopped name end.Full (scan_of after next))) (own_text table m name id list)
        (cut_comes table after id name scan next t standing cut)))

  pub gathered_feeds : (l : code.Gathering) → l ≡ call.Gathered name next.args → (a : CallAsk) → a ≡ ask.Gathered → Answers table after id scan next t a → Feeds (text_of (texts table) m.groups.now.meanings) t (calling_of table k) (calling_of after l)
  gathered_feeds l has a says answers = feeds l (call.Gathered name next.args) has (gathered_comes table after id name scan next t standing (said a ask.Gathered says answers))

-- ROOM

no_present : (table : List (Option Entry)) (o : Option Present) → option_map (λ p. stage_of table p) o ≡ None → o ≡ None
no_present table None is = refl
no_present table (Some p) is = absurd (none-some (stage_of table p) (sym is))

in_front : (table : List (Option Entry)) (id : ℕ) (scan : ArgScan) → IsSoundScan table id scan → (scan_of table scan).present ≡ None → ((scan_of table scan).args ≡ []) × (0 < length (start_of (drop (scan_of table scan).at (tokens_at table id))))
in_front table id scan sound none =
    let h = subst (IsInPlace table id scan) (no_present table scan.present none) sound.in_place in
    (ap (λ (n : ℕ). map (λ cell. cell_tokens table cell) (take n scan.args.lists)) h.0, h.2)

-- without the call's lists
split_words : (v : HeldLists) → words_held v ≡ words_held (record v { call = NotCalling }) + lists_words (call_lists v.call)
split_words v = omega (arith, sum_by-append list_words (call_lists v.call) v.builds, sum_by-append list_words (call_lists NotCalling) v.builds)

module _ (table : List (Option Entry)) (id : ℕ) (scan : ArgScan) (sound : IsSoundScan table id scan) (name : Name) (v : HeldLists) (was : v.call ≡ Gathering name (scan_of table scan)) (t : Token) (new : Calling) (used size : ℕ) (all : used + lists_words (call_lists v.call) ≡ words_held v + lists_words (call_lists new)) (before : words_held v ≤ size) (within : used ≤ size) where
  fits_one : Comes (tokens_at table id) t name (scan_of table scan) new → words_held v + length (scan_growth (tokens_at table id) t (scan_of table scan)) ≤ size
  fits_one comes =
      let w = words_held (record v { call = NotCalling }) in
      let lists : lists_words (call_lists v.call) ≡ lists_words (scan_lists (scan_of table scan)) = ap (λ (c : Calling). lists_words (call_lists c)) was in
      let has = has_lists table id scan sound in
      let k = growth_fits (tokens_at table id) t name (scan_of table scan) new comes has.args has.work w size (omega (arith, split_words v, lists, before)) (omega (arith, split_words v, all, within)) (scan_of table scan).present refl (in_front table id scan sound) in
      omega (arith, k, split_words v, lists)

  pub fed_fits : (r : Result Unit Full) (grows : List Token) → grows ≡ scan_growth (tokens_at table id) t (scan_of table scan) → OnOk r (Comes (tokens_at table id) t name (scan_of table scan) new) → OnOk r (words_held v + length grows ≤ size)
  fed_fits (Ok u) grows is comes = omega (arith, fits_one comes, ap length is)
  fed_fits (Err f) grows is comes = tt

-- what is fed to a call that takes tokens has room
pub fed_room : (table : List (Option Entry)) (m : Table) (k : code.Gathering) (is : IsCall table m k) (v : HeldLists) → texts table ≡ v.lists → m.groups ≡ v.groups → calling_of table k ≡ v.call → (t : Token) (new : Calling) (used size : ℕ) → used + lists_words (call_lists v.call) ≡ words_held v + lists_words (call_lists new) → words_held v ≤ size → used ≤ size →
    (r : Result Unit Full) → OnOk r (Feeds (text_of (texts table) m.groups.now.meanings) t (calling_of table k) new) → OnOk r (words_held v + length (growth (text_of v.lists v.groups.now.meanings) t v.call) ≤ size)
fed_room table m k is v lists groups calls t new used size all before within (Err f) fed = tt
fed_room table m call.None is v lists groups calls t new used size all before within (Ok u) fed = absurd fed
fed_room table m (call.Stopped name why scan) is v lists groups calls t new used size all before within (Ok u) fed = absurd fed
fed_room table m (call.Gathered name args) is v lists groups calls t new used size all before within (Ok u) fed = absurd fed
fed_room table m (call.Gathers name scan) is v lists groups calls t new used size all before within (Ok u) fed =
    let text : tokens_at table is.id ≡ text_of v.lists v.groups.now.meanings name = named_text table m name is.id v is.list lists groups in
    let own : text_of (texts table) m.groups.now.meanings name ≡ tokens_at table is.id = sym (own_text table m name is.id is.list) in
    fed_fits table is.id scan is.sound name v (sym calls) t new used size all before within (Ok u) _ (growth_is (text_of v.lists v.groups.now.meanings) (tokens_at table is.id) t name (scan_of table scan) v.call (sym calls) text)
    (subst (λ (ts : List Token). Comes ts t name (scan_of table scan) new) own fed)

pub fed_full : (r : Result Unit Full) (table : List (Option Entry)) (s : InputStack) (making : Option Build) (gathered : List Build) (m : Named) (sizes : Sizes) (capacity : ℕ) → IsSound table s making gathered m sizes capacity → IfErr r (λ f. IsFull f table) →
    IfErr r (λ f. refused sizes (memory 1 (words_held (lists_of table (pending table s) making gathered m sizes)) ∷ []) ≡ Some f)
fed_full (Ok told) table s making gathered m sizes capacity sound is = tt
fed_full (Err f) table s making gathered m sizes capacity sound is = full_now table s making gathered m sizes capacity sound (lists_of table (pending table s) making gathered m sizes) refl f is

-- THE SCANNER STANDS OTHERWISE

pub stands_recalls : (table : List (Option Entry)) (m : Table) (name : Name) (scan next : ArgScan) → IsCall table m (call.Gathers name scan) → ((t : List (Option Entry)) (macro : ℕ) → IsSoundScan t macro scan → IsSoundScan t macro next) → scan_holds next ≡ scan_holds scan → Recalls table table m (call.Gathers name scan) (call.Gathers name next)
stands_recalls table m name scan next is sound same =
    let here : (h : ℕ) → scan_holds next h ≡ scan_holds scan h = λ h. ap (λ (f : ℕ → ℕ). f h) same in
    record {
      is = record { id = is.id; list = is.list; sound = sound table is.id is.sound };
      moves = λ h. omega (arith, here h);
      keeps = record { tokens = λ h l. refl; places = λ h l. refl };
      gains = record { others = λ h some. omega (arith, here h); fresh = λ h none. omega (arith, here h, is.sound.owns h, none) };
      size = refl;
    }
