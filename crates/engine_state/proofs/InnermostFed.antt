-- The innermost reading is fed with a token: a call that takes tokens, and else a frame.
use Rattle.std.proofs.Common.{◌≡◌, List, ◌∷◌, refl, ap}
use Rattle.std.specs.Prelude.{Option, Some, Result, Ok, Err, IfErr, OnOk}
use Rattle.tex_syntax.specs.declared.words.Want.{Want}
use Rattle.tex_defs.specs.declared.Full.{Full}
use Rattle.tex_defs.specs.declared.Name.{Name}
use Rattle.tex_defs.specs.declared.Seen.{Seen}
use Rattle.tex_defs.specs.declared.Sizes.{Sizes}
use Rattle.tex_defs.specs.declared.Token.{Token}
use Rattle.tex_defs.specs.Places.{World}
use Rattle.rows.specs.Readings.{Ask, More, Tok}
use Rattle.plain_readings.specs.Readings.{Reading, fed_with}
use Rattle.plain_machine.specs.declared.broken.Broken.TheVariants as broken
use Rattle.plain_machine.specs.Plan.{feeding}
use Rattle.plain_machine.specs.Does.{Did}
use Rattle.plain_machine.proofs.Pulls.{kind_none}
use Rattle.macro_call.specs.declared.ask.CallAsk.{CallAsk}
use Rattle.macro_call.specs.declared.ask.CallAsk.TheVariants as call
use Rattle.input_state.specs.CallFeeds.{IsTaking}
use Rattle.input_state.specs.Callings.{Calling, NotCalling, Gathering, Stopped, Gathered, call_in, ended_asks, scan_asks}
use Rattle.input_state.specs.declared.answer.CallEnd.{CallEnd}
use Rattle.input_state.specs.declared.answer.CallEnd.TheVariants as end
use Rattle.engine_state.specs.declared.engine.Engine.{Engine}
use Rattle.engine_state.specs.Book.{Book, with_work}
use Rattle.engine_state.specs.Calls.{AllStand, IsAsFar, IsEnded}
use Rattle.engine_state.proofs.CallsIn.{open_call}
use Rattle.engine_state.specs.Clauses.{CutsAtReading, DoesInnermost, FeedsReading, StandsFor}
use Rattle.engine_state.specs.CutReadings.{CutsIn}
use Rattle.engine_state.specs.Rules.{Went}
use Rattle.engine_state.specs.Stands.{Stands, state_of}
use Rattle.engine_state.specs.Steps.{asked, asked_by, asks_now}
use Rattle.engine_state.proofs.CallFeeding.{no_steps}
use Rattle.engine_state.proofs.Checking.{more_asked}
use Rattle.engine_state.proofs.Uncalled.{all_of, framed}

-- WHICH IT IS

-- a call that takes tokens
pub record Opened (k : Calling) : Type 0 where
  pub name : Name
  pub is : call_in k ≡ Some (open_call name)

pub opened : (k : Calling) (a : Option Ask) (want : Want) → IsTaking k → asked_by (call_in k) k a ≡ Some (More want) → Opened k
opened NotCalling a want takes asks = absurd takes
opened (Gathering name scan) a want takes asks = record { name = name; is = ap (λ (x : CallAsk). Some (record { name = name; ask = x })) (more_asked name (scan_asks scan) (Gathering name scan) want asks) }
opened (Stopped name why scan) a want takes asks = absurd takes
opened (Gathered name args) a want takes asks = absurd takes

-- one that was cut off asks so as well, but stands for none
ended_more : (why : CallEnd) → IsEnded why → ended_asks why ≡ call.More → ⊥
ended_more end.Mismatch h is = cc
ended_more (end.ParEnded silent) h is = cc
ended_more end.Full h is = h

-- no call takes tokens
pub unopened : (k : Calling) (text : List Token) (a : Option Ask) (want : Want) → IsAsFar text k → (IsTaking k → ⊥) → asked_by (call_in k) k a ≡ Some (More want) → k ≡ NotCalling
unopened NotCalling text a want far none asks = refl
unopened (Gathering name scan) text a want far none asks = absurd (none tt)
unopened (Stopped name why scan) text a want far none asks = absurd (ended_more why far.0 (more_asked name (ended_asks why) (Stopped name why scan) want asks))
unopened (Gathered name args) text a want far none asks = let no : call.Gathered ≡ call.More = more_asked name call.Gathered (Gathered name args) want asks in cc

module _ (e e2 : Engine) (x : Seen) where
  -- A CALL

  pub call_fed : (o : Result Unit Full) → IsTaking e.input.call →
      OnOk o ((sizes : Sizes) (w : World) (book : Book) (r : Reading) (rs : List Reading) (name : Name) → call_in e.input.call ≡ Some (open_call name) → AllStand sizes e (with_work (r ∷ rs) book) → Went sizes (state_of e (with_work (r ∷ rs) book)) e2 w w (feeding r x) 0) →
      OnOk o ((want : Want) → DoesInnermost (asks_now e ≡ Some (More want)) Went e e2 (λ r. feeding r x) 0)
  call_fed (Ok u) takes h = λ want sizes w book r rs asks st. let o : Opened e.input.call = opened e.input.call (asked e) want takes asks in h sizes w book r rs o.name o.is st
  call_fed (Err full) takes h = tt

  pub call_cut : (o : Result Unit Full) → IsTaking e.input.call →
      IfErr o (λ full. (sizes : Sizes) (w : World) (book : Book) (r : Reading) (rs : List Reading) (name : Name) → call_in e.input.call ≡ Some (open_call name) → AllStand sizes e (with_work (r ∷ rs) book) → CutsIn sizes (state_of e (with_work (r ∷ rs) book)) e2 w w (feeding r x) (broken.Full full)) →
      IfErr o (λ full. (want : Want) → DoesInnermost (asks_now e ≡ Some (More want)) CutsIn e e2 (λ r. feeding r x) (broken.Full full))
  call_cut (Ok u) takes h = tt
  call_cut (Err full) takes h = λ want sizes w book r rs asks st. let o : Opened e.input.call = opened e.input.call (asked e) want takes asks in h sizes w book r rs o.name o.is st

  -- A FRAME

  frame_stands : (sizes : Sizes) (book : Book) (want : Want) → (IsTaking e.input.call → ⊥) → asks_now e ≡ Some (More want) → AllStand sizes e book → Stands sizes e book
  frame_stands sizes book want none asks st = framed sizes e book (unopened e.input.call st.all.readings.text (asked e) want st.all.readings.far none asks) st

  frame_went : (sizes : Sizes) (book : Book) (w : World) (r : Reading) (rs : List Reading) → Stands sizes e2 (with_work (fed_with (Tok x) (r ∷ rs)) book) → Did sizes (state_of e (with_work (r ∷ rs) book)) (state_of e2 (with_work (fed_with (Tok x) (r ∷ rs)) book)) w w (feeding r x) →
      Went sizes (state_of e (with_work (r ∷ rs) book)) e2 w w (feeding r x) 0
  frame_went sizes book w r rs st did = record {
    book' = with_work (fed_with (Tok x) (r ∷ rs)) book;
    stands = all_of sizes e2 (with_work (fed_with (Tok x) (r ∷ rs)) book) st;
    did = did;
    count = no_steps (feeding r x) (kind_none r.kind r.fed x);
  }

  pub frame_fed : (o : Result Unit Full) → (IsTaking e.input.call → ⊥) → OnOk o (StandsFor e e2 (λ _. fed_with (Tok x))) → OnOk o (FeedsReading e e2 (Tok x) (λ r. feeding r x)) →
      OnOk o ((want : Want) → DoesInnermost (asks_now e ≡ Some (More want)) Went e e2 (λ r. feeding r x) 0)
  frame_fed (Ok u) none stands did = λ want sizes w book r rs asks st.
      let now : Stands sizes e (with_work (r ∷ rs) book) = frame_stands sizes (with_work (r ∷ rs) book) want none asks st in
      frame_went sizes book w r rs (stands sizes (with_work (r ∷ rs) book) now) (did sizes w book r rs now)
  frame_fed (Err full) none stands did = tt

  pub frame_cut : (o : Result Unit Full) → (IsTaking e.input.call → ⊥) → IfErr o (λ full. CutsAtReading e e2 (λ _ r. feeding r x) (broken.Full full)) →
      IfErr o (λ full. (want : Want) → DoesInnermost (asks_now e ≡ Some (More want)) CutsIn e e2 (λ r. feeding r x) (broken.Full full))
  frame_cut (Ok u) none cut = tt
  frame_cut (Err full) none cut = λ want sizes w book r rs asks st. cut sizes w book r rs (frame_stands sizes (with_work (r ∷ rs) book) want none asks st)
