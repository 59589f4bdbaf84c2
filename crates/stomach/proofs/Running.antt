-- A run, rule by rule.
use Rattle.std.proofs.Common.{◌≡◌, inl, inr, ℕ, ◌+◌, ◌≤◌, false, List, [], ◌∷◌, ◌++◌, refl, sym, ap, subst, ◌∙◌, arith}
use Rattle.std.specs.Prelude.{◌⊎◌, Option, None, Some}
use Rattle.tex_syntax.specs.declared.words.Outcome.{Outcome}
use Rattle.tex_syntax.specs.declared.words.Outcome.TheVariants.{Finished, AtFatal}
use Rattle.tex_defs.specs.Places.{World}
use Rattle.tex_defs.specs.declared.Sizes.{Sizes}
use Rattle.plain_tokens.specs.Lines.{first_line}
use Rattle.plain_tokens.specs.Pending.{Pending, end_token_lists}
use Rattle.plain_machine.specs.declared.broken.Broken.{Broken}
use Rattle.plain_machine.specs.declared.broken.Broken.TheVariants as broken
use Rattle.plain_machine.specs.States.{State, Move, ListsEnded, FirstTaken}
use Rattle.plain_machine.specs.Plan.{plan, planned, ruled}
use Rattle.plain_machine.specs.Runs.{steps}
use Rattle.plain_machine.specs.Extended.{Rests, Reads, extended, next_extended, first_left, rests_before, closes}
use Rattle.plain_machine.specs.Bounded.{Comes, End}
use Rattle.plain_machine.specs.Does.{Did, Cut, CutAt, ReadAt, but_due}
use Rattle.plain_machine.proofs.Doing.{wrote_join, wrote_none, plan_did, steps_end, steps_wrote, CutOff, plan_cut, cut_behind, cut_within}
use Rattle.plain_machine.proofs.Joins.{fits_join, steps_join, stopped_ends, StepComes, plan_needs}
use Rattle.plain_machine.proofs.Renumbering.{settle_of}
use Rattle.plain_machine.proofs.Extending.{extended_did, extended_steps, extended_cut, extended_comes, unread_did, unread_steps, unread_cut}
use Rattle.plain_machine.proofs.Pulls.{pulls}
use Rattle.input_state.specs.Stored.{Stored, KeepsShared}
use Rattle.engine_state.specs.declared.engine.Engine.{Engine}
use Rattle.engine_state.specs.declared.outcome.Ruled.{Ruled}
use Rattle.engine_state.specs.declared.outcome.Ruled.TheVariants as ruled
use Rattle.stomach.specs.declared.runs.Ended.{Ended}
use Rattle.stomach.specs.declared.runs.Ended.TheVariants as ended
use Rattle.engine_state.specs.Book.{Book}
use Rattle.engine_state.specs.Calls.{AllStand}
use Rattle.engine_state.specs.Stands.{SameFrames, state_of}
use Rattle.engine_state.specs.Steps.{IsFree}
use Rattle.engine_state.specs.CutReadings.{CutsIn}
use Rattle.engine_state.specs.Rules.{Went, IsMoment, CountsReports, plan_of}
use Rattle.stomach.specs.Halting.{HaltsIn}
use Rattle.stomach.specs.declared.early.Early.{Early}
use Rattle.stomach.specs.declared.early.Early.TheVariants as early
use Rattle.stomach.specs.Ran.{Came, Stops, Ran, IsAt, CutBy, StoppedBy, whole_state, end_of}
use Rattle.engine_state.proofs.CallKept.{all_still}
use Rattle.engine_state.proofs.Storing.{store_settled, sound_still}
use Rattle.stomach.proofs.FilesKept.{still_before, open_before}

-- a moment, but for what is due
pub same_moment : (why : Broken) (t at s : State) → but_due t ≡ but_due at → IsMoment why at s → IsMoment why (but_due t) (but_due s)
same_moment (broken.Full full) t at s e h = e ∙ ap but_due h
same_moment broken.WriteFault t at s e h = ap (λ (x : State). record x { in_line = s.in_line }) e ∙ ap but_due h
same_moment broken.Want t at s e h = ap (λ (x : State). record x { in_line = s.in_line }) e ∙ ap but_due h

-- and with so much left of the files
pub whole_moment : (why : Broken) (left : Rests) (at s : State) → IsMoment why at s → IsMoment why (extended left at) (extended left s)
whole_moment (broken.Full full) left at s h = ap (extended left) h
whole_moment broken.WriteFault left at s h = ap (extended left) h
whole_moment broken.Want left at s h = ap (extended left) h

-- What is known of the files is enough for the next rule, with so much left behind it, and this of a file that goes by it: for its reading, or
-- it reads nothing.
abbrev pub IsKnown : Sizes → Engine → (gone : List ℕ) → Rests → Book → Type 0
IsKnown sizes e gone left book = Reads sizes (state_of e book) gone left ⊎ ((e.input.pending.next ≡ None) × (pulls (plan_of e book) ≡ 0))

-- the moves of the next rule, where this is left of the files
abbrev pub whole_plan : Rests → Engine → Book → List Move
whole_plan left e book = planned (whole_state left e book) book.work

-- A RULE, where no file was opened and none is opened by it

module _ (sizes : Sizes) (e : Engine) (gone : List ℕ) (left : Rests) (book : Book) (known : IsKnown sizes e gone left book) where
  abbrev pub all : Rests
  all = rests_before gone (plan_of e book) left

  abbrev s : State
  s = whole_state all e book

  abbrev Does : (t : State) (w w' : World) → Rests → Type 0
  Does t w w' r = Did sizes (whole_state r e book) (extended left t) w w' (whole_plan r e book)

  did_by : IsKnown sizes e gone left book → (t : State) (w w' : World) → Did sizes (state_of e book) t w w' (plan_of e book) → Does t w w' all
  did_by (inl reads) t w w' d = extended_did sizes (state_of e book) gone left reads t w w' d
  did_by (inr still) t w w' d = subst (Does t w w') (sym (still_before gone (plan_of e book) left still.1)) (unread_did sizes (state_of e book) left still.0 still.1 t w w' d)

  abbrev Counted : Rests → Type 0
  Counted r = steps (whole_plan r e book) ≡ steps (plan_of e book)

  steps_by : IsKnown sizes e gone left book → Counted all
  steps_by (inl reads) = extended_steps sizes (state_of e book) gone left reads
  steps_by (inr still) = subst Counted (sym (still_before gone (plan_of e book) left still.1)) (unread_steps sizes (state_of e book) left still.0 still.1)

  abbrev IsCut : (at : State) (w w' : World) (why : Broken) → Rests → Type 0
  IsCut at w w' why r = Cut sizes (whole_state r e book) (extended left at) w w' (whole_plan r e book) why

  cut_by : IsKnown sizes e gone left book → (at : State) (w w' : World) (why : Broken) → Cut sizes (state_of e book) at w w' (plan_of e book) why → IsCut at w w' why all
  cut_by (inl reads) at w w' why c = extended_cut sizes (state_of e book) gone left reads at w w' why c
  cut_by (inr still) at w w' why c = subst (IsCut at w w' why) (sym (still_before gone (plan_of e book) left still.1)) (unread_cut sizes (state_of e book) left still.0 still.1 at w w' why c)

  unopened_by : IsKnown sizes e gone left book → e.input.pending.next ≡ None
  unopened_by (inl reads) = reads.none_opened
  unopened_by (inr still) = still.0

  -- its moves are the next ones
  plans : plan s s.stopped ≡ whole_plan all e book
  plans = ap (λ (o : Option (List ℕ)). ruled s (next_extended all.left o)) (unopened_by known)

  pub rule_went : (e' : Engine) (w w' : World) (n : ℕ) → Went sizes (state_of e book) e' w w' (plan_of e book) n → Came sizes s e' left w w' n
  rule_went e' w w' n went =
      let did = did_by known (state_of e' went.book') w w' went.did in
      record {
        ms = whole_plan all e book;
        book' = went.book';
        stands = went.stands;
        moves = plan_did sizes s (whole_state left e' went.book') w w' (whole_plan all e book) refl plans did;
        count = steps_by known ∙ went.count;
        written = did.written;
      }

  pub rule_halts : (e' : Engine) (w w' : World) (j : ℕ) (o : Outcome) → AllStand sizes e book → steps (plan_of e book) ≤ j → HaltsIn sizes (state_of e book) e' w w' (plan_of e book) o 1 → Stops sizes s e' left w w' j o
  rule_halts e' w w' j o stands few end =
      let halts = end.halts in
      let did = did_by known halts.t w w' halts.did in
      record {
        ms = whole_plan all e book;
        t = extended left halts.t;
        moves = plan_did sizes s (extended left halts.t) w w' (whole_plan all e book) refl plans did;
        within = omega (arith, steps_by known, few);
        ends = stopped_ends (extended left halts.t) o halts.due halts.stopped;
        stopped = halts.stopped;
        reports = counts_on o halts.t halts.reports;
        stands = record { book' = end.book'; frames = end.frames; same = ap (extended left) (halts.same stands.sound.sized.few_reports) };
        written = did.written;
      } where
        counts_on : (x : Outcome) (t : State) → CountsReports x t e' → CountsReports x (extended left t) e'
        counts_on Finished t h = h
        counts_on (AtFatal f) t h = h

  -- it is cut off
  pub rule_cut : (e' : Engine) (w w' : World) (n : ℕ) (b : Broken) → steps (plan_of e book) ≤ n → CutsIn sizes (state_of e book) e' w w' (plan_of e book) b → CutBy sizes s n e' left w w' b
  rule_cut e' w w' n b le h =
      let few : steps (whole_plan all e book) ≤ n = omega (arith, le, steps_by known) in
      let cut = cut_by known h.cuts.at w w' b h.cuts.cut in
      let off : CutOff sizes s (extended left h.cuts.at) n w w' b = plan_cut sizes s (extended left h.cuts.at) n w w' (whole_plan all e book) b cut few refl plans in
      record { t = off.t; cut = off.cut; book' = h.book'; frames = h.near; same = same_moment b off.t (extended left h.cuts.at) (whole_state left e' h.book') off.same (whole_moment b left h.cuts.at (state_of e' h.book') h.cuts.same) }

pub came_none : (sizes : Sizes) (e : Engine) (left : Rests) (book : Book) (w : World) → AllStand sizes e book → Came sizes (whole_state left e book) e left w w 0
came_none sizes e left book w stands = record { ms = []; book' = book; stands = stands; moves = refl; count = refl; written = wrote_none w }

-- behind this much of a run
module _ (sizes : Sizes) (s : State) (e e' : Engine) (left : Rests) (w w' w'' : World) (k : ℕ) (came : Came sizes s e left w w' k) where
  -- one part of a run behind another
  pub came_join : (more : Rests) (j : ℕ) → ((book : Book) → AllStand sizes e book → Came sizes (whole_state left e book) e' more w' w'' j) → Came sizes s e' more w w'' (k + j)
  came_join more j on =
      let h = on came.book' came.stands in
      record {
        ms = came.ms ++ h.ms;
        book' = h.book';
        stands = h.stands;
        moves = fits_join sizes s (whole_state left e came.book') (whole_state more e' h.book') came.ms h.ms came.moves h.moves;
        count = steps_join came.ms h.ms ∙ omega (arith, came.count, h.count);
        written = wrote_join w w' w'' came.ms h.ms came.written h.written;
      }

  pub stops_join : (more : Rests) (j : ℕ) (o : Outcome) → ((book : Book) → AllStand sizes e book → Stops sizes (whole_state left e book) e' more w' w'' j o) → Stops sizes s e' more w w'' (k + j) o
  stops_join more j o on =
      let h = on came.book' came.stands in
      record {
        ms = came.ms ++ h.ms;
        t = h.t;
        moves = fits_join sizes s (whole_state left e came.book') h.t came.ms h.ms came.moves h.moves;
        within = omega (arith, steps_join came.ms h.ms, came.count, h.within);
        ends = h.ends;
        stopped = h.stopped;
        reports = h.reports;
        stands = h.stands;
        written = wrote_join w w' w'' came.ms h.ms came.written h.written;
      }

  -- and a run that is cut off
  cut_on : (j n : ℕ) (t : State) (why : Broken) → k + j ≤ n → CutAt sizes (whole_state left e came.book') j t w' w'' why → CutAt sizes s n t w w'' why
  cut_on j n t why le cut =
      cut_within sizes s t (k + j) n w w'' why le (cut_behind sizes s (whole_state left e came.book') t k j w w' w'' came.ms why came.moves (omega (arith, came.count)) came.written cut)

  read_on : (j n : ℕ) (t : State) → k + j ≤ n → ReadAt sizes (whole_state left e came.book') j t w' w'' → ReadAt sizes s n t w w''
  read_on j n t le read = record {
    ms = came.ms ++ read.ms;
    moves = fits_join sizes s (whole_state left e came.book') t came.ms read.ms came.moves read.moves;
    within = omega (arith, le, steps_join came.ms read.ms, came.count, read.within);
    needs = read.needs;
    written = wrote_join w w' w'' came.ms read.ms came.written read.written;
  }

  pub cut_by_join : (more : Rests) (j n : ℕ) (b : Broken) → k + j ≤ n → ((book : Book) → AllStand sizes e book → CutBy sizes (whole_state left e book) j e' more w' w'' b) → CutBy sizes s n e' more w w'' b
  cut_by_join more j n b le on =
      let h = on came.book' came.stands in
      record { t = h.t; cut = cut_on j n h.t b le h.cut; book' = h.book'; frames = h.frames; same = h.same }

  -- of whichever cause
  pub stopped_join : (more : Rests) (j n : ℕ) (x : Early) → k + j ≤ n → ((book : Book) → AllStand sizes e book → StoppedBy sizes (whole_state left e book) j e' more w' w'' x) → StoppedBy sizes s n e' more w w'' x
  stopped_join more j n (early.Broken b) le on = cut_by_join more j n b le on
  stopped_join more j n (early.Unread fault) le on =
      let h = on came.book' came.stands in
      record { t = h.t; read = read_on j n h.t le h.read; at = h.at; unread = h.unread }

  -- and a whole run
  comes_on : (i j n : ℕ) (t : State) (end : End) → j ≡ i → Comes sizes i n t end → Comes sizes j n t end
  comes_on i j n t end is h = subst (λ (x : ℕ). Comes sizes x n t end) (sym is) h

  pub ran_join : (more : Rests) (n : ℕ) (ended : Ended) → k ≡ 0 → ((book : Book) → AllStand sizes e book → Ran sizes (whole_state left e book) n e' more w' w'' ended) → Ran sizes s n e' more w w'' ended
  ran_join more n ended none on =
      let h = on came.book' came.stands in
      let same : steps (came.ms ++ h.ms) ≡ steps h.ms = steps_join came.ms h.ms ∙ omega (arith, came.count, none) in
      record {
        ms = came.ms ++ h.ms;
        t = h.t;
        run = record {
          moves = fits_join sizes s (whole_state left e came.book') h.t came.ms h.ms came.moves h.run.moves;
          within = omega (arith, same, h.run.within);
          whole = comes_on (steps h.ms) (steps (came.ms ++ h.ms)) n h.t (end_of ended) same h.run.whole;
        };
        ends = h.ends;
        written = wrote_join w w' w'' came.ms h.ms came.written h.written;
      }

-- THE END OF A RUN

-- a run that has ended, within any bound that holds its steps
pub stops_whole : (sizes : Sizes) (s : State) (e' : Engine) (left : Rests) (w w' : World) (k n : ℕ) (o : Outcome) → k ≤ n → Stops sizes s e' left w w' k o → Ran sizes s n e' left w w' (ended.Halted o)
stops_whole sizes s e' left w w' k n o le h = record {
  ms = h.ms;
  t = h.t;
  run = record { moves = h.moves; within = omega (arith, le, h.within); whole = h.ends };
  ends = (h.stopped, (h.reports, h.stands));
  written = h.written;
}

-- where the finished lists in front have gone
module _ (sizes : Sizes) (e : Engine) (left : Rests) (i : Stored) (is : i ≡ record e.input { pending = end_token_lists e.input.pending; lists = i.lists }) (kept : KeepsShared e.input i) where
  abbrev settled_engine : Engine
  settled_engine = record e { input = i }

  settled_frames : SameFrames e settled_engine
  settled_frames = record { readings = refl; lists = ap (λ (x : Stored). x.builds) is; call = ap (λ (x : Stored). x.call) is }

  settled_stands : (book : Book) → AllStand sizes e book → AllStand sizes settled_engine book
  settled_stands book h = all_still sizes e settled_engine book settled_frames (store_settled e.input i is kept)
      (sound_still sizes e settled_engine book.number book.all_lists refl refl refl refl refl (store_settled e.input i is kept) h.sound) (ap (λ (x : Stored). x.making) is ∙ h.idle) h

  settled_same : (book : Book) → record (state_of e book) { pending = end_token_lists (state_of e book).pending } ≡ state_of settled_engine book
  settled_same book = ap (λ (p : Pending). record (state_of e book) { pending = p }) (settle_of book.number e.input.pending) ∙ ap (λ (x : Stored). state_of (record e { input = x }) book) (sym is)

  settled_at : (book : Book) (c : StepComes sizes (whole_state left e book)) → AllStand sizes e book → IsAt sizes settled_engine left c.t
  settled_at book c stands = record {
    book' = book;
    stands = settled_stands book stands;
    same = c.same ∙ ap (extended left) (settled_same book);
  }

  -- the steps were taken, and one more is needed
  pub came_whole : (s : State) (w w' : World) (n : ℕ) → Came sizes s e left w w' n → ((book : Book) → AllStand sizes e book → StepComes sizes (whole_state left e book)) → Ran sizes s n settled_engine left w w' ended.Steps
  came_whole s w w' n came needs =
      let c : StepComes sizes (whole_state left e came.book') = needs came.book' came.stands in
      record {
        ms = came.ms ++ ListsEnded ∷ [];
        t = c.t;
        run = steps_end sizes s (whole_state left e came.book') n came.ms came.moves came.count c;
        ends = settled_at came.book' c came.stands;
        written = steps_wrote w w' came.ms came.written;
      }

-- A STEP COMES, with so much left of the files too

module _ (sizes : Sizes) (e : Engine) (left : Rests) (book : Book) where
  abbrev ComesNext : (all : Rests) → Type 0
  ComesNext all = StepComes sizes (whole_state all e book)

  pub comes_known : (gone : List ℕ) → closes (plan_of e book) ≡ false → Reads sizes (state_of e book) gone left → StepComes sizes (state_of e book) → ComesNext left
  comes_known gone stays reads comes = subst ComesNext (open_before gone (plan_of e book) left stays) (extended_comes sizes (state_of e book) gone left reads refl refl comes)

  -- of a file that was opened
  pub comes_opened : (bytes : List ℕ) → e.input.pending.next ≡ Some bytes → ComesNext left
  comes_opened bytes is =
      let s : State = whole_state left e book in
      plan_needs sizes s (FirstTaken (first_line (bytes ++ first_left left.left))) [] refl (ap (λ (o : Option (List ℕ)). ruled s (next_extended left.left o)) is) refl

-- WHAT A RULE ANSWERED

pub when_free : (r : Ruled) → r ≡ ruled.Free → IsFree r
when_free r is = subst IsFree (sym is) tt
