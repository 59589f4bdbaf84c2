use Rattle.std.proofs.Common.{◌<◌, [], ◌∷◌, ap, subst, ◌∙◌}
use Rattle.reading_frames.specs.Stack.{asks_in}
use Rattle.reading_frames.specs.Weights.{IsReported}
use Rattle.input_state.specs.Callings.{Calling, call_in}
use Rattle.input_state.specs.Stored.{Stored}
use Rattle.engine_state.specs.Book.{with_work}
use Rattle.engine_state.specs.Stands.{SameBut}
use Rattle.engine_state.specs.Steps.{asked, asked_by, asks_bare, weight}
use Rattle.engine_state.proofs.CallBraces.{note_went}
use Rattle.engine_state.proofs.CallsIn.{brace_reported, frame_reported}
use Rattle.engine_state.proofs.Joining.{err_to, on_both, when_false, when_true}
use Rattle.engine_state.proofs.Putting.{noted_frame}
use Rattle.engine_state.proofs.Uncalled.{framed}
use Rattle.engine_state.proofs.Weighing.{noted_lighter}
use Rattle.engine_state.proofs.engine.Engine.note.Goals as goal

pub returns-then-is_taking-clause-ok : goal.returns-then-is_taking-clause-ok
returns-then-is_taking-clause-ok c sizes w book r rs reported st = let e = c.args.self.now in let taking = when_true _ _ c.is_taking.result c.if-is_taking.true c.is_taking.ensures in
    let k = brace_reported e.input.call (asked e) taking reported in
    note_went sizes e (record e { input = c.note_call.new.self }) k.name w book r rs k.is st (ap (λ (i : Stored). record e { input = i }) c.note_call.ensures.after)

pub returns-clause-ok : goal.returns-clause-ok
returns-clause-ok c = let e = c.args.self.now in let none = when_false _ _ c.is_taking.result c.if-is_taking.false c.is_taking.ensures in let n = c.note_frame.ensures in
    on_both c.note_frame.result (λ stands did sizes w book r rs reported st. let at = with_work (r ∷ rs) book in
    let st0 = framed sizes e at (frame_reported e.input.call (asked e) none reported) st in
    noted_frame sizes e c.note_frame.new.self w book r rs (did sizes w book r rs st0) (stands sizes at st0)) n.stands n.did

pub returns-clause-err : goal.returns-clause-err
returns-clause-err c = let e = c.args.self.now in let none = when_false _ _ c.is_taking.result c.if-is_taking.false c.is_taking.ensures in
    err_to c.note_frame.result (λ full h sizes w book r rs reported st.
    h sizes w book r rs (framed sizes e (with_work (r ∷ rs) book) (frame_reported e.input.call (asked e) none reported) st)) c.note_frame.ensures.refused

pub returns-clause-light : goal.returns-clause-light
returns-clause-light c = let e = c.args.self.now in let e1 = c.note_frame.new.self in let none = when_false _ _ c.is_taking.result c.if-is_taking.false c.is_taking.ensures in let n = c.note_frame.ensures in
    let asks = asks_in e.readings.frames [] in
    on_both c.note_frame.result (λ same (h : SameBut e e1 → IsReported (asks_bare e) → weight e1 < weight e). h same) n.same
    (on_both c.note_frame.result (λ light frames (same : SameBut e e1) reported. let uncalled = frame_reported e.input.call asks none reported in
    noted_lighter e e1 uncalled (n.call ∙ uncalled) same.pending (light (subst (λ (k : Calling). IsReported (asked_by (call_in k) k asks)) uncalled reported)) frames) n.weight n.frames)
