-- A call goes on behind the report of an extra right brace.
use Rattle.std.proofs.Common.{◌≡◌, List, [], ◌∷◌, ◌++◌, refl, sym, ap, ◌∙◌}
use Rattle.std.specs.Prelude.{Some}
use Rattle.tex_defs.specs.declared.Sizes.{Sizes}
use Rattle.tex_defs.specs.declared.Token.{Token}
use Rattle.tex_defs.specs.declared.Name.{Name}
use Rattle.tex_defs.specs.Places.{World}
use Rattle.rows.specs.Readings.{Noted}
use Rattle.plain_readings.specs.Calls.{call_fed}
use Rattle.plain_readings.specs.Readings.{Kind, Reading, fed_with}
use Rattle.plain_machine.specs.States.{Feeds}
use Rattle.plain_machine.specs.Plan.{noting, noting_kind}
use Rattle.plain_machine.proofs.Doing.{did_silent}
use Rattle.macro_call.specs.PlainScans.{noted_scan}
use Rattle.macro_call.proofs.PlainScans.{scans_gather}
use Rattle.input_state.specs.CallFeeds.{with_scan}
use Rattle.input_state.specs.Callings.{Calling, call_lists, call_in}
use Rattle.input_state.specs.Macros.{list_at}
use Rattle.engine_state.specs.declared.engine.Engine.{Engine}
use Rattle.engine_state.specs.Book.{Book, with_work}
use Rattle.engine_state.specs.Calls.{AllStand}
use Rattle.engine_state.proofs.CallsIn.{brace_call}
use Rattle.engine_state.specs.Stands.{SameStore, state_of}
use Rattle.engine_state.specs.Rules.{Went}
use Rattle.engine_state.proofs.CallEnding.{here as here_call}
use Rattle.engine_state.proofs.CallsFed.{scan_stands, unbraced_stand}
use Rattle.engine_state.proofs.CallsKnown.{CallStands, Taking}
use Rattle.engine_state.proofs.Joining.{quiet_here, went_by}
use Rattle.engine_state.proofs.Storing.{sound_still, store_scan}

pub note_went : (sizes : Sizes) (e e1 : Engine) (name : Name) (w : World) (book : Book) (r : Reading) (rs : List Reading) → call_in e.input.call ≡ Some (brace_call name) → AllStand sizes e (with_work (r ∷ rs) book) →
    e1 ≡ record e { input = record e.input { call = with_scan noted_scan e.input.call } } → Went sizes (state_of e (with_work (r ∷ rs) book)) e1 w w (noting r) 0
note_went sizes e e1 name w book r rs is st after =
    let h : CallStands e book.number (brace_call name) r = here_call sizes e book (brace_call name) r rs is st in
    let k : Taking name h.long (list_at e.input.lists h.id) r.fed e.input.call = h.at in
    let work : List Reading = fed_with Noted (r ∷ rs) in
    let store : SameStore e.input e1.input = store_scan e.input e1.input (with_scan noted_scan e.input.call) (ap (λ (y : Engine). y.input) after) in
    let lists : call_lists e.input.call ≡ call_lists (with_scan noted_scan e.input.call) = ap call_lists k.is ∙ sym (ap (λ (c : Calling). call_lists (with_scan noted_scan c)) k.is) in
    went_by sizes _ e1 w w (Feeds Noted ∷ []) (noting r) 0 (ap (λ (kind : Kind). noting_kind kind r.fed) h.kind) (record {
      book' = with_work work book;
      stands = record {
        sound = sound_still sizes e e1 book.number book.all_lists (ap (λ (y : Engine). y.sizes) after) (ap (λ (y : Engine). y.readings.size) after) (ap (λ (y : Engine). y.conditionals) after) (ap (λ (y : Engine). y.names) after) (ap (λ (y : Engine). y.reports) after) store st.sound;
        idle = ap (λ (y : Engine). y.input.making) after ∙ st.idle;
        all = unbraced_stand e e1 book.number name st.all.readings.text k.scan r rs Noted (scan_stands e book.number name k.scan r rs k.is st.all) (ap (λ (y : Engine). y.readings) after) (ap (λ (y : Engine). y.input.builds) after) store k.scan.mode
            (ap (λ (y : Engine). y.input.call) after ∙ ap (with_scan noted_scan) k.is) (λ fed. scans_gather.noted st.all.readings.text k.scan (call_fed fed));
      };
      did = did_silent sizes (Feeds Noted) _ _ w refl
          (ap (λ (l : List (List Token)). record (state_of e (with_work (r ∷ rs) book)) { work = work; gathered = l ++ e.input.builds }) lists ∙ ap (λ (y : Engine). state_of y (with_work work book)) (sym after))
          (quiet_here (Feeds Noted) w tt);
      count = refl;
    })
