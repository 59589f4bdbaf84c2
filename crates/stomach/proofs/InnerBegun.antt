-- A reading that begins within another, or ends with a value.
use Rattle.std.proofs.Common.{◌≡◌, ◌≤◌, ◌<◌, ◌+◌, Bool, true, false, List, [], ◌∷◌, drop, arith, refl, sym, ap, ◌∙◌}
use Rattle.std.proofs.lemmas.List.{append-nil}
use Rattle.std.specs.Prelude.{Some, None}
use Rattle.tex_defs.specs.declared.Full.{Full}
use Rattle.tex_defs.specs.declared.Sizes.{Sizes}
use Rattle.tex_defs.specs.declared.Token.{Token}
use Rattle.tex_defs.specs.Places.{World}
use Rattle.rows.specs.declared.command.Call.{Call}
use Rattle.rows.specs.declared.words.Phrase.{Phrase}
use Rattle.rows.specs.declared.words.Phrase.TheVariants.{Command}
use Rattle.rows.specs.declared.words.Value.{Value}
use Rattle.rows.specs.Readings.{Tok, Val, Inner, Done}
use Rattle.plain_readings.specs.Readings.{Kind, Reading, ask, lists, fed_with, opened, opened_with}
use Rattle.plain_readings.specs.Weights.{value_frame, act_frame, act_weight, value_weight, begins_with}
use Rattle.plain_readings.proofs.Lower.{no_command as begins_no_command}
use Rattle.reading_frames.specs.Resumes.{resume}
use Rattle.reading_frames.specs.Stack.{Stack, asks_in}
use Rattle.reading_frames.specs.Frames as frames
use Rattle.reading_frames.specs.Weights.{frames_weight, opening_frame, innermost_weight, innermost_end, asked_weight, begun_weight, begun_with_weight, IsInner}
use Rattle.reading_frames.specs.declared.ask.Opening.TheVariants as opening
use Rattle.reading_frames.specs.declared.frame.Frame.{Frame}
use Rattle.reading_frames.proofs.Rules.{falls}
use Rattle.plain_machine.specs.declared.broken.Broken.TheVariants as broken
use Rattle.plain_machine.specs.States.{Begun as BegunMove, BegunWith, Ended, made}
use Rattle.plain_machine.specs.Demands.{refusal}
use Rattle.plain_machine.specs.Does.{Did}
use Rattle.plain_machine.specs.Plan.{inner_begun, given_back, done, value_tokens}
use Rattle.plain_machine.proofs.Doing.{did_join, did_one}
use Rattle.plain_machine.proofs.Joins.{steps_join}
use Rattle.engine_state.specs.declared.engine.Engine.{Engine}
use Rattle.engine_state.specs.Book.{Book, with_work}
use Rattle.engine_state.specs.CutReadings.{CutsIn}
use Rattle.engine_state.specs.Rules.{Went}
use Rattle.engine_state.specs.Stands.{Stands, SameFrames, state_of, page_of}
use Rattle.plain_machine.specs.Weights.{pending_weight}
use Rattle.engine_state.specs.Steps.{weight, asked}
use Rattle.engine_state.proofs.Uncalled.{all_of}
use Rattle.engine_state.proofs.CallWeighing.{lighter_by}
use Rattle.gullet.proofs.JobName.{full_in}
use Rattle.engine_state.proofs.Joining.{quiet_here, went_by}
use Rattle.engine_state.proofs.CuttingReadings.{in_by}
use Rattle.engine_state.proofs.Putting.{back_none}
use Rattle.engine_state.proofs.Weighing.{lighter, valued_lighter}
use Rattle.stomach.proofs.FrameAsks.{innermost_begins_none, innermost_heavy}
use Rattle.input_state.specs.Callings.{NotCalling}

-- NO COMMAND BEGINS WITHIN A FRAME that stands for a reading

no_command : (fs : List Frame) (held : List (List Token)) (work : List Reading) (c : Call) (begins : Bool) → frames.AreFramesOf None fs held work → asks_in fs held ≡ Some (Inner (Command c) begins) → ⊥
no_command [] held work c begins st asks = cc
no_command (f ∷ fs) held [] c begins st asks = st
no_command (f ∷ fs) held (r ∷ rs) c begins st asks =
    let now : ask r.kind r.fed ≡ resume f held [] = ap (ask r.kind) (sym (append-nil r.fed)) ∙ st.0.goes_on [] in
    let is : resume f held [] ≡ Inner (Command c) begins = cc asks in
    begins_no_command r.kind r.fed c begins (now ∙ is)

pub asks_no_command : {A : Type 0} → (sizes : Sizes) (e : Engine) (book : Book) (k : Phrase) (c : Call) (begins : Bool) → k ≡ Command c → Stands sizes e book → asked e ≡ Some (Inner k begins) → A
asks_no_command sizes e book k c begins is st asks =
    absurd (no_command e.readings.frames e.input.builds book.work c begins st.readings.frames (asks ∙ ap (λ (x : Phrase). Some (Inner x begins)) is))

-- THE MOVES

module _ (sizes : Sizes) (e e' : Engine) (book : Book) (w : World) (k : Kind) (begins : Bool) where
  alone : begins ≡ false → inner_begun k begins ≡ BegunMove k ∷ []
  alone is = rw is refl

  with_last : begins ≡ true → inner_begun k begins ≡ BegunWith k ∷ []
  with_last is = rw is refl

  -- it begins
  pub begun_went : begins ≡ false → refusal sizes (BegunMove k) (state_of e book) ≡ None → made (BegunMove k) (state_of e book) ≡ state_of e' (with_work (opened k book.work) book) →
      Stands sizes e' (with_work (opened k book.work) book) → Went sizes (state_of e book) e' w w (inner_begun k begins) 0
  begun_went is fits state stands = went_by sizes (state_of e book) e' w w (BegunMove k ∷ []) (inner_begun k begins) 0 (alone is) (record {
    book' = with_work (opened k book.work) book;
    stands = all_of sizes e' (with_work (opened k book.work) book) stands;
    did = did_one sizes (BegunMove k) (state_of e book) (state_of e' (with_work (opened k book.work) book)) w w fits state (quiet_here (BegunMove k) w tt);
    count = refl;
  })

  -- with the last token
  pub begun_with_went : begins ≡ true → refusal sizes (BegunWith k) (state_of e book) ≡ None → made (BegunWith k) (state_of e book) ≡ state_of e' (with_work (opened_with k (Tok e.last) book.work) book) →
      Stands sizes e' (with_work (opened_with k (Tok e.last) book.work) book) → Went sizes (state_of e book) e' w w (inner_begun k begins) 0
  begun_with_went is fits state stands = went_by sizes (state_of e book) e' w w (BegunWith k ∷ []) (inner_begun k begins) 0 (with_last is) (record {
    book' = with_work (opened_with k (Tok e.last) book.work) book;
    stands = all_of sizes e' (with_work (opened_with k (Tok e.last) book.work) book) stands;
    did = did_one sizes (BegunWith k) (state_of e book) (state_of e' (with_work (opened_with k (Tok e.last) book.work) book)) w w fits state (quiet_here (BegunWith k) w tt);
    count = refl;
  })

  -- there is no room for it
  pub begun_in : (full : Full) → begins ≡ false → e' ≡ e → refusal sizes (BegunMove k) (state_of e book) ≡ Some full → Stands sizes e book → CutsIn sizes (state_of e book) e' w w (inner_begun k begins) (broken.Full full)
  begun_in full is same refused st =
      in_by sizes (state_of e book) e' w w (BegunMove k ∷ []) (inner_begun k begins) (broken.Full full) (alone is) (full_in sizes e e' book w (BegunMove k) [] full same refused st)

  pub begun_with_in : (full : Full) → begins ≡ true → e' ≡ e → refusal sizes (BegunWith k) (state_of e book) ≡ Some full → Stands sizes e book → CutsIn sizes (state_of e book) e' w w (inner_begun k begins) (broken.Full full)
  begun_with_in full is same refused st =
      in_by sizes (state_of e book) e' w w (BegunWith k ∷ []) (inner_begun k begins) (broken.Full full) (with_last is) (full_in sizes e e' book w (BegunWith k) [] full same refused st)

-- THE WEIGHT

no_row : (k : Phrase) → ((c : Call) → k ≡ Command c → ⊥) → IsInner k
no_row (Command c) h = h c refl
no_row k h = tt

module _ (e e' : Engine) (none : e.input.call ≡ NotCalling) (none' : e'.input.call ≡ NotCalling) (same : e'.input.pending ≡ e.input.pending) (k : Phrase) (begins : Bool) (asks : asks_in e.readings.frames [] ≡ Some (Inner k begins)) where
  asks_so : (b : Bool) → begins ≡ b → asks_in e.readings.frames [] ≡ Some (Inner k b)
  asks_so b is = asks ∙ ap (λ (x : Bool). Some (Inner k x)) is

  pub begun_light : ((c : Call) → k ≡ Command c → ⊥) → begins ≡ false → frames_weight e'.readings.frames ≡ frames_weight e.readings.frames + opening_frame (opening.Reads k) → innermost_weight e'.readings.frames ≤ begun_weight (opening.Reads k) → weight e' < weight e
  begun_light low is frames light = lighter e e' none none' same ((falls e.readings e'.readings).begun k (no_row k low) (asks_so false is) (omega (arith, frames)) light)

  pub begun_with_light : ((c : Call) → k ≡ Command c → ⊥) → begins ≡ true → frames_weight e'.readings.frames ≡ frames_weight e.readings.frames + opening_frame (opening.Reads k) → innermost_weight e'.readings.frames ≤ begun_with_weight (opening.Reads k) → weight e' < weight e
  begun_with_light low is frames light = lighter e e' none none' same ((falls e.readings e'.readings).begun_with k (no_row k low) (asks_so true is) (omega (arith, frames)) light)

  -- what asks for a command ends
  heavy_by : (c : Call) (b : Bool) → asks_in e.readings.frames [] ≡ Some (Inner (Command c) b) → begins_with (Command c) ≤ innermost_weight e.readings.frames
  heavy_by c true is = omega (arith, ap (asked_weight (innermost_end e.readings.frames)) is)
  heavy_by c false is = absurd (innermost_begins_none e.readings.frames [] c is)

  pub refused_light : (c : Call) → k ≡ Command c → frames_weight e'.readings.frames ≡ frames_weight (drop 1 e.readings.frames) → innermost_weight e'.readings.frames < act_frame + act_weight → weight e' < weight e
  refused_light c is frames light =
      let so : asks_in e.readings.frames [] ≡ Some (Inner (Command c) begins) = asks ∙ ap (λ (x : Phrase). Some (Inner x begins)) is in
      lighter e e' none none' same (omega (arith, heavy_by c begins so, innermost_heavy e.readings.frames [] c begins so, frames, light))

-- ONE ENDS WITH A VALUE

-- what is asked for stays
pub asked_still : (e e' : Engine) → SameFrames e e' → asked e' ≡ asked e
asked_still e e' same = ap (λ (s : Stack). asks_in s.frames e'.input.builds) same.readings ∙ ap (λ (held : List (List Token)). asks_in e.readings.frames held) same.lists

module _ (sizes : Sizes) (e e1 e2 : Engine) (book : Book) (w : World) (r : Reading) (rs : List Reading) (v : Value) (back : Bool) where
  abbrev at : Book
  at = with_work (r ∷ rs) book

  abbrev tokens : List Token
  tokens = value_tokens v (lists r.kind r.fed)

  abbrev behind : Book
  behind = with_work (fed_with (Val v tokens) rs) book

  pub done_went : Did sizes (state_of e at) (state_of e1 at) w w (given_back back e.last) → made (Ended v tokens) (state_of e1 at) ≡ state_of e2 behind → Stands sizes e2 behind →
      Went sizes (state_of e at) e2 w w (done (page_of e book) r v back) 0
  done_went given state stands = record {
    book' = behind;
    stands = all_of sizes e2 behind stands;
    did = did_join sizes (state_of e at) (state_of e1 at) (state_of e2 behind) w w w (given_back back e.last) (Ended v tokens ∷ []) given
        (did_one sizes (Ended v tokens) (state_of e1 at) (state_of e2 behind) w w refl state (quiet_here (Ended v tokens) w tt));
    count = steps_join (given_back back e.last) (Ended v tokens ∷ []) ∙ omega (arith, back_none back e.last);
  }

pub done_light : (e e1 e2 : Engine) (v : Value) (back : Bool) → e.input.call ≡ NotCalling → SameFrames e e1 → pending_weight e1.input.pending ≡ pending_weight e.input.pending → e2.input.call ≡ e1.input.call → e2.input.pending ≡ e1.input.pending → asks_in e.readings.frames [] ≡ Some (Done v back) →
    frames_weight e2.readings.frames ≡ frames_weight (drop 1 e1.readings.frames) → innermost_weight e2.readings.frames < value_frame + value_weight → weight e2 < weight e
done_light e e1 e2 v back none same left call pending asks frames light =
    let none1 : e1.input.call ≡ NotCalling = same.call ∙ none in
    let asks1 : asks_in e1.readings.frames [] ≡ Some (Done v back) = ap (λ (s : Stack). asks_in s.frames []) same.readings ∙ asks in
    lighter_by e e1 e2 same left (valued_lighter e1 e2 none1 (call ∙ none1) pending v back asks1 frames light)
