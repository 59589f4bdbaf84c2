-- The innermost reading reports.
use Rattle.std.proofs.Common.{◌≡◌, ◌<◌, ℕ, List, [], ◌∷◌, ◌++◌, Bool, sym, ap, ◌∙◌, subst, append_assoc}
use Rattle.std.specs.Prelude.{Option}
use Rattle.tex_defs.specs.declared.Meaning.TheVariants as means
use Rattle.tex_defs.specs.declared.Name.{Name}
use Rattle.plain_tokens.specs.Names.{relax_primitive}
use Rattle.rows.specs.declared.command.Call.{Call as Command}
use Rattle.rows.specs.Readings.{Noted, Puts, Relaxes}
use Rattle.tex_syntax.specs.declared.words.Outcome.{Outcome}
use Rattle.tex_syntax.specs.declared.words.Report.{Report}
use Rattle.tex_defs.specs.declared.Sizes.{Sizes}
use Rattle.tex_defs.specs.declared.Token.{Token}
use Rattle.tex_defs.specs.Places.{World, Transcript}
use Rattle.plain_state.specs.Reports.{report_bytes}
use Rattle.plain_readings.specs.Readings.{Reading, fed_with}
use Rattle.reading_frames.specs.Stack.{asks_in}
use Rattle.reading_frames.specs.Weights.{IsReported}
use Rattle.plain_machine.specs.declared.broken.Broken.{Broken}
use Rattle.plain_machine.specs.States.{State, Move, Assigned, Written, Reported}
use Rattle.plain_machine.specs.Plan as plan
use Rattle.plain_machine.specs.Runs.{steps}
use Rattle.plain_machine.specs.Plan.{Page, is_global, put_one, reported, report_noted, noting}
use Rattle.plain_machine.specs.Does.{Did}
use Rattle.plain_machine.proofs.Doing.{did_join}
use Rattle.plain_machine.proofs.Pulls.{answered_none}
use Rattle.world_io.specs.Contents.{FilesTold, SinkTold, world}
use Rattle.input_state.specs.Callings.{NotCalling}
use Rattle.engine_state.specs.declared.engine.Engine.{Engine}
use Rattle.engine_state.specs.Book.{Book, with_work}
use Rattle.engine_state.specs.Calls.{AllStand}
use Rattle.engine_state.specs.CutReadings.{CutsIn}
use Rattle.engine_state.specs.Rules.{world_of, Halts, Reports, Went}
use Rattle.engine_state.specs.Stands.{Stands, SameFrames, state_of, page_of, own_style}
use Rattle.plain_machine.specs.Weights.{pending_weight}
use Rattle.engine_state.specs.Steps.{asks_bare, weight}
use Rattle.engine_state.proofs.CallKept.{frames_still}
use Rattle.engine_state.proofs.CallsIn.{uncalled_reported}
use Rattle.engine_state.proofs.CheckingMoves.{bare_kept}
use Rattle.engine_state.proofs.Uncalled.{all_of, frames_all}
use Rattle.gullet.proofs.Stepping.{free_of}
use Rattle.engine_state.proofs.CallWeighing.{lighter_by}
use Rattle.engine_state.proofs.CuttingReadings.{column_in, in_by, later_in}
use Rattle.engine_state.proofs.Putting.{fronts}
use Rattle.stomach.specs.Halting.{HaltsIn}

-- a run that has ended with the readings that were open
pub frames_halt : (sizes : Sizes) (e e' : Engine) (s : State) (book : Book) (w w' : World) (moves : List Move) (o : Outcome) (k : ℕ) → SameFrames e e' → AllStand sizes e book → Halts sizes s e' book w w' moves o k → HaltsIn sizes s e' w w' moves o k
frames_halt sizes e e' s book w w' moves o k same st h = record {
  book' = book;
  halts = h;
  frames = frames_still e e' book.work same (frames_all sizes e book st);
}

-- THE NOTE IS CUT OFF
module _ (sizes : Sizes) (e : Engine) (f : FilesTold) (s0 : SinkTold) (book : Book) (r : Reading) (rs : List Reading) (report : Report) (inserted : Option Token) (back : Bool)
    (e1 e2 : Engine) (s2 : SinkTold) (page : page_of e1 book ≡ page_of e book) where
  abbrev at : Book
  at = with_work (r ∷ rs) book

  abbrev written : List Move
  written = Written Transcript (report_bytes (own_style e) e.in_line e.input.pending.number report) ∷ Reported ∷ []

  on_page : Reports sizes (state_of e1 at) (state_of e2 at) (world_of f s0 e1) (world_of f s2 e2) (page_of e1 book) report (noting r) →
      Reports sizes (state_of e1 at) (state_of e2 at) (world_of f s0 e) (world_of f s2 e2) (page_of e book) report (noting r)
  on_page h = subst (λ (p : Page). Reports sizes (state_of e1 at) (state_of e2 at) (world f s0 p.in_line) (world_of f s2 e2) p report (noting r)) page h

  told_moves : Reports sizes (state_of e1 at) (state_of e2 at) (world_of f s0 e) (world_of f s2 e2) (page_of e book) report (noting r) → report_noted (page_of e book) report inserted back r ≡ fronts inserted back e.last ++ (written ++ noting r)
  told_moves h =
      sym (append_assoc _ _ (reported (page_of e book) report (noting r))) ∙ ap (λ (ms : List Move). fronts inserted back e.last ++ ms) h.moves

  pub told_note_in : (e3 : Engine) (b : Broken) → Did sizes (state_of e at) (state_of e1 at) (world_of f s0 e) (world_of f s0 e) (fronts inserted back e.last) →
      Reports sizes (state_of e1 at) (state_of e2 at) (world_of f s0 e1) (world_of f s2 e2) (page_of e1 book) report (noting r) → e3.in_line ≡ e2.in_line →
      CutsIn sizes (state_of e2 at) e3 (world_of f s2 e2) (world_of f s2 e2) (noting r) b →
      CutsIn sizes (state_of e at) e3 (world_of f s0 e) (world_of f s2 e3) (report_noted (page_of e book) report inserted back r) b
  told_note_in e3 b front rep column cuts =
      let h = on_page rep in
      in_by sizes _ e3 _ _ (fronts inserted back e.last ++ (written ++ noting r)) _ b (told_moves h)
      (later_in sizes _ _ e3 _ _ _ (fronts inserted back e.last) (written ++ noting r) b front
      (later_in sizes _ _ e3 _ _ _ written (noting r) b h.did (column_in sizes _ e3 f s2 e2.in_line (noting r) b column cuts)))

-- WHAT BECOMES LIGHTER
pub noted_light : (e e1 e2 : Engine) → SameFrames e e1 → pending_weight e1.input.pending ≡ pending_weight e.input.pending → (IsReported (asks_bare e1) → weight e2 < weight e1) → IsReported (asks_bare e) → weight e2 < weight e
noted_light e e1 e2 same left light reported = lighter_by e e1 e2 same left (light (subst IsReported (sym (bare_kept e e1 same)) reported))

-- where no call gathers its arguments
pub told_light : (e e1 e2 : Engine) → e.input.call ≡ NotCalling → SameFrames e e1 → pending_weight e1.input.pending ≡ pending_weight e.input.pending → (IsReported (asks_bare e1) → weight e2 < weight e1) →
    IsReported (asks_in e.readings.frames []) → weight e2 < weight e
told_light e e1 e2 none same left light reported = noted_light e e1 e2 same left light (uncalled_reported e.input.call (asks_in e.readings.frames []) none reported)

-- BEHIND MOVES WITHOUT A REPORT the innermost reading goes on

module _ (sizes : Sizes) (e e1 e2 : Engine) (book : Book) (w : World) (r : Reading) (rs : List Reading) (moves : List Move) (first : Did sizes (state_of e (with_work (r ∷ rs) book)) (state_of e1 (with_work (r ∷ rs) book)) w w moves) where
  pub noted_went : steps (moves ++ noting r) ≡ 0 → Did sizes (state_of e1 (with_work (r ∷ rs) book)) (state_of e2 (with_work (fed_with Noted (r ∷ rs)) book)) w w (noting r) → Stands sizes e2 (with_work (fed_with Noted (r ∷ rs)) book) →
      Went sizes (state_of e (with_work (r ∷ rs) book)) e2 w w (moves ++ noting r) 0
  noted_went none did st = record {
    book' = with_work (fed_with Noted (r ∷ rs)) book;
    stands = all_of sizes e2 (with_work (fed_with Noted (r ∷ rs)) book) st;
    did = did_join sizes _ _ _ w w w moves (noting r) first did;
    count = none;
  }

  pub noted_in : (b : Broken) → CutsIn sizes (state_of e1 (with_work (r ∷ rs) book)) e2 w w (noting r) b → CutsIn sizes (state_of e (with_work (r ∷ rs) book)) e2 w w (moves ++ noting r) b
  noted_in b cuts = later_in sizes _ _ e2 w w w moves (noting r) b first cuts

-- such moves have no step
pub put_free : (s : State) (r : Reading) (t : Token) → steps (put_one t ++ noting r) ≡ 0
put_free s r t = free_of (put_one t ++ noting r) (answered_none s [] r (Puts t 0) tt)

pub relax_free : (s : State) (r : Reading) (c : Command) (n : Name) → steps (Assigned (is_global (plan.page_of s) c) n (means.Prim relax_primitive) ∷ noting r) ≡ 0
relax_free s r c n = free_of (Assigned (is_global (plan.page_of s) c) n (means.Prim relax_primitive) ∷ noting r) (answered_none s [] r (Relaxes c n) tt)
