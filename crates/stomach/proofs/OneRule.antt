-- One rule, over the whole state: of its readings, or of a file that was opened; and the reader that goes with it.
use Rattle.std.proofs.Common.{◌≡◌, ◌∙◌, ℕ, ◌+◌, ◌-◌, ◌≤◌, Bool, true, false, List, [], ◌∷◌, ◌++◌, length, refl, sym, ap, subst, arith}
use Rattle.std.proofs.lemmas.Bool.{false≢true}
use Rattle.std.proofs.lemmas.List.{append-nil}
use Rattle.std.proofs.lemmas.List.Sums.{sum_by-cons}
use Rattle.std.specs.Prelude.{◌||◌, ℤ, Option, None, Some, IsSome, Ok}
use Rattle.tex_syntax.specs.declared.words.Outcome.{Outcome}
use Rattle.tex_defs.specs.Places.{World}
use Rattle.tex_defs.specs.declared.Sizes.{Sizes}
use Rattle.plain_tokens.specs.Pending.{Pending, Source, end_token_lists, with_begun, with_end, source_of}
use Rattle.plain_tokens.specs.Tables.{Demand, file_levels, open_files}
use Rattle.plain_machine.specs.declared.broken.Broken.{Broken}
use Rattle.plain_machine.specs.declared.broken.Broken.TheVariants as broken
use Rattle.plain_machine.specs.States.{State, Move, ListsEnded, FileClosed}
use Rattle.plain_machine.specs.Plan.{plan, ruled}
use Rattle.plain_machine.specs.Does.{Did, Cut, Refuses}
use Rattle.plain_machine.specs.Runs.{made_all, steps}
use Rattle.plain_machine.specs.Extended as plain
use Rattle.plain_machine.specs.Extended.{Rests, closes, extended, next_extended, rests_before, IsFirstReady}
use Rattle.plain_machine.proofs.Beginning.{begins_did, begins_cut}
use Rattle.plain_machine.proofs.Doing.{plan_did, plan_cut, CutOff}
use Rattle.plain_machine.proofs.Renumbering.{text_level_of}
use Rattle.world_io.specs.Contents.{FilesTold, SinkTold}
use Rattle.line_reader.specs.Readers.{OpenReader, OpenReaders, MayLeave}
use Rattle.engine_state.specs.declared.engine.Engine.{Engine}
use Rattle.engine_state.specs.declared.outcome.Ruled.{Ruled}
use Rattle.engine_state.specs.declared.outcome.Ruled.TheVariants as ruled
use Rattle.engine_state.specs.Book.{Book}
use Rattle.engine_state.specs.Calls.{AllStand}
use Rattle.engine_state.specs.CutReadings.{FramesAtCut, CutsIn}
use Rattle.engine_state.specs.Rules.{IsMoment, world_of, plan_of, Cuts, Went}
use Rattle.engine_state.specs.Stands.{state_of}
use Rattle.engine_state.specs.Steps.{stepping, asks_now, asks_start}
use Rattle.gullet.proofs.Stepping as stepping
use Rattle.stomach.specs.Ahead.{Knows, is_opened, needs_step}
use Rattle.stomach.specs.Files.{AreGone}
use Rattle.stomach.specs.Halting.{DoesRuleIn, HaltsIn}
use Rattle.stomach.specs.Ran.{Came, CameOn, Stops, CutBy, RuledSo, step_count, whole_state}
use Rattle.stomach.specs.Read.{AreTied, ReadsTo}
use Rattle.stomach.proofs.CallSteps.{plan_steps}
use Rattle.stomach.proofs.FilesKept.{Counts, MayRefuse, count, one_if, counts_behind, gone_before, open_before, plan_counts}
use Rattle.stomach.proofs.Knowing.{first_known, is_known}
use Rattle.stomach.proofs.Reading.{reads_none, reads_map}
use Rattle.stomach.proofs.Running.{IsKnown, rule_went, rule_halts, rule_cut, same_moment, whole_moment}
use Rattle.stomach.proofs.Unread.{starts_same}

-- HOW MANY FILES ARE OPEN, in the machine's state

pub count_of : (e : Engine) (book : Book) → count (state_of e book) ≡ open_files e.input.pending
count_of e book = ap (λ (d : Demand). d.used) (text_level_of book.number e.input.pending)

-- neither of the first moves of a file's end is refused
settled_goes : (sizes : Sizes) (why : Broken) (m : Move) (at : State) → m ≡ ListsEnded → Refuses sizes why m at → ⊥
settled_goes sizes why m at is h = goes why (subst (λ (x : Move). Refuses sizes why x at) is h) where
  goes : (why : Broken) → Refuses sizes why ListsEnded at → ⊥
  goes (broken.Full full) k = absurd cc
  goes broken.WriteFault k = k
  goes broken.Want k = k

closed_goes : (sizes : Sizes) (why : Broken) (m : Move) (at : State) → m ≡ FileClosed → Refuses sizes why m at → ⊥
closed_goes sizes why m at is h = goes why (subst (λ (x : Move). Refuses sizes why x at) is h) where
  goes : (why : Broken) → Refuses sizes why FileClosed at → ⊥
  goes (broken.Full full) k = absurd cc
  goes broken.WriteFault k = k
  goes broken.Want k = k

none_refused : MayRefuse []
none_refused m tail is = absurd cc

some_refused : (sizes : Sizes) (why : Broken) (m : Move) (rest : List Move) (at : State) → Refuses sizes why m at → MayRefuse (m ∷ rest)
some_refused sizes why m rest at h n tail is = (λ e. settled_goes sizes why m at (same ∙ e) h, λ e. closed_goes sizes why m at (same ∙ e) h) where
  same : m ≡ n
  same = cc

moment_count : (why : Broken) (at s : State) → IsMoment why at s → count at ≡ count s
moment_count (broken.Full full) at s h = ap count h
moment_count broken.WriteFault at s h = ap count h
moment_count broken.Want at s h = ap count h

-- THE RULE AND THE READERS

-- what is known of the readers behind a rule by which one file fewer is open, or as many
abbrev pub ReadersBehind : (rs' : OpenReaders) (e e' : Engine) (all left : Rests) (book : Book) → Type 0
ReadersBehind rs' e e' all left book =
    open_files e.input.pending ≡ one_if (closes (plan_of e book)) + open_files e'.input.pending → (length rs'.readers ≡ open_files e'.input.pending) × ((lost : List ℕ) × (all ≡ rests_before lost (plan_of e book) left))

-- those of the files that ended were closed
pub readers_closed : (rs rs' : OpenReaders) (e e' : Engine) → (open_files e'.input.pending ≤ length rs.readers → length rs'.readers ≡ open_files e'.input.pending) → (all left : Rests) → AreGone all left (length rs.readers - length rs'.readers) → (book : Book) → AreTied rs e →
    ReadersBehind rs' e e' all left book
readers_closed rs rs' e e' stays all left gone book tied h =
    let own : length rs'.readers ≡ open_files e'.input.pending = stays (omega (arith, h, tied.count)) in
    (own, gone_before all left (plan_of e book) (subst (λ (n : ℕ). AreGone all left n) (omega (arith, h, tied.count, own)) gone))

-- none was, where the innermost file goes on
pub readers_kept : (rs : OpenReaders) (e e' : Engine) (left : Rests) (book : Book) → closes (plan_of e book) ≡ false → AreTied rs e → ReadersBehind rs e e' left left book
readers_kept rs e e' left book stays tied h = (omega (arith, h, tied.count, ap one_if stays), ([], sym (open_before [] (plan_of e book) left stays)))

module _ (rs rs' : OpenReaders) (e e' : Engine) (s s' : SinkTold) (unopened : e.input.pending.next ≡ None) (never : asks_start (asks_now e) ≡ false) (knows : AreTied rs e → Knows e rs.readers) (most : rs'.most ≡ rs.most)
    (all left : Rests) (may : MayLeave rs.readers all.left) (sizes : Sizes) (f : FilesTold) (book : Book) (stands : AllStand sizes e book) (tied : AreTied rs e) (readers : ReadersBehind rs' e e' all left book) where
  abbrev moves : List Move
  moves = plan_of e book

  counts : Counts (state_of e book) moves
  counts = plan_counts (state_of e book) unopened (starts_same sizes e book stands ∙ never)

  -- one file fewer is open, or as many
  fewer : (done rest : List Move) (at : State) → moves ≡ done ++ rest → MayRefuse rest → made_all done (state_of e book) ≡ at → count at ≡ open_files e'.input.pending → open_files e.input.pending ≡ one_if (closes moves) + open_files e'.input.pending
  fewer done rest at is refuses made same = omega (arith, counts_behind (state_of e book) moves done rest counts is refuses, count_of e book, ap count made, same)

  abbrev IsFewer : Type 0
  IsFewer = open_files e.input.pending ≡ one_if (closes moves) + open_files e'.input.pending

  own_readers : IsFewer → length rs'.readers ≡ open_files e'.input.pending
  own_readers h = (readers h).0

  -- what was left of a file that went with the rule
  went_with : IsFewer → (lost : List ℕ) × (all ≡ rests_before lost moves left)
  went_with h = (readers h).1

  known : (lost : List ℕ) → all ≡ rests_before lost moves left → IsKnown sizes e lost left book
  known lost is = is_known sizes e book stands lost left unopened never rs.readers (knows tied) (subst (λ (r : Rests). MayLeave rs.readers r.left) is may)

  few : steps moves ≤ step_count (needs_step e)
  few = omega (arith, plan_steps sizes e book stands, counted (stepping e), ap (λ (o : Option (List ℕ)). step_count (is_opened o || stepping e)) unopened) where
    counted : (b : Bool) → stepping.one_if b ≡ step_count b
    counted true = refl
    counted false = refl

  abbrev w : World
  w = world_of f s e

  abbrev w' : World
  w' = world_of f s' e'

  ties : IsFewer → (book' : Book) → AllStand sizes e' book' → AreTied rs' e'
  ties h book' stands' = record {
    count = own_readers h;
    room = subst (λ (x : Sizes). x.text_input_levels ≤ rs'.most) (sym stands'.sound.sized.input) (subst (λ (n : ℕ). sizes.text_input_levels ≤ n) (sym most) (subst (λ (x : Sizes). x.text_input_levels ≤ rs.most) stands.sound.sized.input tied.room));
  }

  goes_on : (n : ℕ) → Went sizes (state_of e book) e' w w' moves n → CameOn sizes (whole_state all e book) rs' e' left w w' n
  goes_on n went =
      let h : IsFewer = fewer moves [] (state_of e' went.book') (sym (append-nil moves)) none_refused went.did.state (count_of e' went.book') in
      let lost = went_with h in
      record {
        came = subst (λ (r : Rests). Came sizes (whole_state r e book) e' left w w' n) (sym lost.1) (rule_went sizes e lost.0 left book (known lost.0 lost.1) e' w w' n went);
        tied = ties h went.book' went.stands;
      }

  ends : (o : Outcome) → HaltsIn sizes (state_of e book) e' w w' moves o 1 → Stops sizes (whole_state all e book) e' left w w' (step_count (needs_step e)) o
  ends o end =
      let same : count end.halts.t ≡ open_files e'.input.pending = ap count (end.halts.same stands.sound.sized.few_reports) ∙ count_of e' end.book' in
      let h : IsFewer = fewer moves [] end.halts.t (sym (append-nil moves)) none_refused end.halts.did.state same in
      let lost = went_with h in
      subst (λ (r : Rests). Stops sizes (whole_state r e book) e' left w w' (step_count (needs_step e)) o) (sym lost.1) (rule_halts sizes e lost.0 left book (known lost.0 lost.1) e' w w' (step_count (needs_step e)) o stands few end)

  pub rule_done : (ruled : Ruled) → DoesRuleIn sizes (state_of e book) e' w w' moves ruled → RuledSo sizes (whole_state all e book) (needs_step e) rs' e' left w w' (Ok ruled)
  rule_done ruled.Step does = goes_on 1 does
  rule_done ruled.Free does = goes_on 0 does
  rule_done (ruled.Halted o) does = ends o does

  pub rule_broken : (b : Broken) → CutsIn sizes (state_of e book) e' w w' moves b → CutBy sizes (whole_state all e book) (step_count (needs_step e)) e' left w w' b
  rule_broken b cuts =
      let c = cuts.cuts.cut in
      let same : count cuts.cuts.at ≡ open_files e'.input.pending = moment_count b cuts.cuts.at (state_of e' cuts.book') cuts.cuts.same ∙ count_of e' cuts.book' in
      let h : IsFewer = fewer c.done (c.m ∷ c.rest) cuts.cuts.at c.all (some_refused sizes b c.m c.rest cuts.cuts.at c.refuses) c.state same in
      let lost = went_with h in
      subst (λ (r : Rests). CutBy sizes (whole_state r e book) (step_count (needs_step e)) e' left w w' b) (sym lost.1) (rule_cut sizes e lost.0 left book (known lost.0 lost.1) e' w w' (step_count (needs_step e)) b few cuts)

-- A FILE THAT WAS OPENED is begun

pub opened_now : (o : Option (List ℕ)) → IsSome o → (bytes : List ℕ) × (o ≡ Some bytes)
opened_now None h = absurd (false≢true h)
opened_now (Some bytes) h = (bytes, refl)

module _ (rs : OpenReaders) (e e' : Engine) (bytes : List ℕ) (is : e.input.pending.next ≡ Some bytes) (knows : AreTied rs e → Knows e rs.readers) (left : Rests) (may : MayLeave rs.readers left.left) (sizes : Sizes) (book : Book) (stands : AllStand sizes e book) (tied : AreTied rs e) where
  abbrev here : State
  here = whole_state left e book

  first : IsFirstReady sizes.buffer_size bytes (plain.first_left left.left)
  first = first_known sizes e book stands rs.readers bytes left is (knows tied) may

  opens : plan here here.stopped ≡ ruled here (Some (bytes ++ plain.first_left left.left))
  opens = ap (λ (o : Option (List ℕ)). ruled here (next_extended left.left o)) is

  pub begun : (w w' : World) → AllStand sizes e' book → Did sizes (state_of e book) (state_of e' book) w w' (ruled (state_of e book) e.input.pending.next) → Came sizes here e' left w w' 1
  begun w w' stands' d =
      let did = begins_did sizes (state_of e book) bytes left is first (state_of e' book) w w' (subst (λ (o : Option (List ℕ)). Did sizes (state_of e book) (state_of e' book) w w' (ruled (state_of e book) o)) is d) in
      record {
        ms = ruled here (Some (bytes ++ plain.first_left left.left));
        book' = book;
        stands = stands';
        moves = plan_did sizes here (whole_state left e' book) w w' (ruled here (Some (bytes ++ plain.first_left left.left))) refl opens did;
        count = refl;
        written = did.written;
      }

  one_step : step_count (needs_step e) ≡ 1
  one_step = ap (λ (o : Option (List ℕ)). step_count (is_opened o || stepping e)) is

  pub begun_cut : (w w' : World) (b : Broken) → FramesAtCut b e' book.work → Cuts sizes (state_of e book) e' book w w' (ruled (state_of e book) e.input.pending.next) b → CutBy sizes here (step_count (needs_step e)) e' left w w' b
  begun_cut w w' b frames h =
      let cut = begins_cut sizes (state_of e book) bytes left is first h.at w w' b (subst (λ (o : Option (List ℕ)). Cut sizes (state_of e book) h.at w w' (ruled (state_of e book) o) b) is h.cut) in
      let off : CutOff sizes here (extended left h.at) (step_count (needs_step e)) w w' b =
      plan_cut sizes here (extended left h.at) (step_count (needs_step e)) w w' (ruled here (Some (bytes ++ plain.first_left left.left))) b cut (omega (arith, one_step)) refl opens in
      record { t = off.t; cut = off.cut; book' = book; frames = frames; same = same_moment b off.t (extended left h.at) (whole_state left e' book) off.same (whole_moment b left h.at (state_of e' book) h.same) }

-- as many files are open then
begun_count : (p : Pending) (end : ℤ) (o : Option (List ℕ)) → p.next ≡ o → IsSome o → open_files (with_end end (with_begun (end_token_lists p))) ≡ open_files p
begun_count p end None is h = absurd (false≢true h)
begun_count p end (Some bytes) is h =
    subst (λ (o : Option (List ℕ)). open_files (with_end end (with_begun (end_token_lists (record p { next = o })))) ≡ open_files (record p { next = o })) (sym is)
    (omega (arith, sum_by-cons (λ (x : Source). file_levels x.file) (source_of (end_token_lists (record p { next = Some bytes }))) p.outer))

pub begun_tied : (rs : OpenReaders) (e e' : Engine) (end : ℤ) → IsSome e.input.pending.next → e'.input.pending ≡ with_end end (with_begun (end_token_lists e.input.pending)) → e'.input.sizes ≡ e.input.sizes → AreTied rs e → AreTied rs e'
begun_tied rs e e' end opened is same tied = record {
  count = tied.count ∙ sym (begun_count e.input.pending end e.input.pending.next refl opened) ∙ ap open_files (sym is);
  room = subst (λ (x : Sizes). x.text_input_levels ≤ rs.most) (sym same) tied.room;
}

-- nothing of the files has changed
pub reads_same : (Q : (all left : Rests) → Type 0) (rs : List OpenReader) (f : FilesTold) → ((left : Rests) → MayLeave rs left.left → Q left left) → ReadsTo rs rs f f Q
reads_same Q rs f h =
    reads_map (λ (all left : Rests). all ≡ left) rs rs f f Q (reads_none (λ (all left : Rests). all ≡ left) rs f (λ all. refl)) (λ all left may may' is. subst (λ (x : Rests). Q x left) (sym is) (h left may'))
