use Rattle.std.proofs.Common.{◌≡◌, ◌+◌, ◌≤◌, [], ◌∷◌, sym, ap, ◌∙◌, subst, arith, drop}
use Rattle.conditionals.specs.Open.{constant_test}
use Rattle.plain_tokens.specs.Pending.{Pending}
use Rattle.rows.specs.declared.words.Phrase.TheVariants.{Command}
use Rattle.plain_readings.specs.Readings.{Reading, Reads, opened}
use Rattle.plain_readings.specs.Weights.{act_weight}
use Rattle.reading_frames.specs.Stack.{Stack}
use Rattle.reading_frames.specs.Weights.{frames_weight, innermost_weight}
use Rattle.reading_frames.specs.declared.ask.Opening.TheVariants.{Reads as OpensRow}
use Rattle.plain_machine.specs.declared.broken.Broken.TheVariants as broken
use Rattle.plain_machine.specs.Plan.{conditional_begun}
use Rattle.plain_machine.specs.States.{Begun, ConditionOpened}
use Rattle.engine_state.specs.declared.engine.Engine.{Engine}
use Rattle.engine_state.specs.Book.{with_work}
use Rattle.engine_state.specs.Stands.{state_of, page_of}
use Rattle.plain_machine.specs.Weights.{pending_weight}
use Rattle.engine_state.specs.Steps.{weight}
use Rattle.engine_state.proofs.Counting.{counts_of}
use Rattle.engine_state.proofs.CuttingReadings.{in_by}
use Rattle.engine_state.proofs.Joining.{same_err, on_ok, err_to}
use Rattle.gullet.proofs.Choosing.{behind_opened, begun_behind, condition_cuts, conditional_went, constant_went, constant_cuts}
use Rattle.gullet.proofs.ExpandingWeighs.{begun_light, from_same}
use Rattle.gullet.proofs.JobName.{full_in}
use Rattle.gullet.proofs.conditional.begin_conditional.Goals as goal

pub returns-in_err-begin-clause-err : goal.returns-in_err-begin-clause-err
returns-in_err-begin-clause-err c = let e = c.args.engine.now in let e1 = c.begin.new.self in let n = c.in_err-begin in let o = constant_test c.args.number in let k = Reads (Command c.args.call) in
    same_err c.from_residual.result (broken.Full n.field-0.0) _ c.from_residual.ensures.1
    (λ sizes w book st.
    let page = page_of e book in
    in_by sizes (state_of e book) e1 w w (Begun k ∷ ConditionOpened c.args.number page.line ∷ behind_opened page c.args.call o) (conditional_begun page c.args.call c.args.number o) (broken.Full n.field-0.0) (begun_behind page c.args.call c.args.number o)
    (full_in sizes e e1 book w (Begun k) (ConditionOpened c.args.number page.line ∷ behind_opened page c.args.call o) n.field-0.0 n.ensures.err (n.ensures.refused sizes book (counts_of sizes e book st)) st))

pub returns-in_err-begin_conditional-clause-err : goal.returns-in_err-begin_conditional-clause-err
returns-in_err-begin_conditional-clause-err c = let e = c.args.engine.now in let e1 = c.begin.new.self in let b = c.in_ok-begin.ensures in let n = c.in_err-begin_conditional in let o = constant_test c.args.number in let k = Reads (Command c.args.call) in
    same_err c.from_residual-in_err-begin_conditional.result (broken.Full n.field-0.0) _ c.from_residual-in_err-begin_conditional.ensures.1
    (λ sizes w book st.
    let now = b.stands sizes book st in
    condition_cuts sizes e e1 book w c.args.call c.args.number (ap (λ (p : Pending). p.number) b.same.pending) (b.fits sizes book (counts_of sizes e book st)) (b.state sizes book st) c.begin_conditional.new.self o (broken.Full n.field-0.0)
    (n.ensures.err sizes w (with_work (opened k book.work) book) (behind_opened (page_of e book) c.args.call o) now.sound.sized) c.begin_conditional.ensures.frames now)

pub returns-in-None-clause-rule : goal.returns-in-None-clause-rule
returns-in-None-clause-rule c = let e = c.args.engine.now in let e1 = c.begin.new.self in let b = c.in_ok-begin.ensures in let n = c.in_ok-begin_conditional.ensures in let k = Reads (Command c.args.call) in
    λ sizes w book st.
    let now = b.stands sizes book st in
    let inner = with_work (opened k book.work) book in
    conditional_went sizes e e1 book w c.args.call c.args.number (ap (λ (p : Pending). p.number) b.same.pending) (b.fits sizes book (counts_of sizes e book st)) (b.state sizes book st) c.begin_conditional.new.self (n.did sizes w inner now.sound.sized) (n.stands sizes inner now)
    (constant_test c.args.number) (sym c.constant_test.ensures ∙ c.in-None.is)

pub returns-in-Some-clause-rule : goal.returns-in-Some-clause-rule
returns-in-Some-clause-rule c = let e = c.args.engine.now in let e1 = c.begin.new.self in let e2 = c.begin_conditional.new.self in let e3 = c.close_reading.new.self in let b = c.in_ok-begin.ensures in let n = c.in_ok-begin_conditional.ensures in let l = c.close_reading.ensures in let k = Reads (Command c.args.call) in
    on_ok c.choose.result
    (λ h sizes w book st.
    let now = b.stands sizes book st in
    let inner = with_work (opened k book.work) book in
    let opens = n.stands sizes inner now in
    let r : Reading = record { kind = k; fed = [] } in
    constant_went sizes e e1 book w c.args.call c.args.number (ap (λ (p : Pending). p.number) b.same.pending) (b.fits sizes book (counts_of sizes e book st)) (b.state sizes book st) e2 (n.did sizes w inner now.sound.sized) opens
    e3 (constant_test c.args.number) c.in-Some.truth (sym c.constant_test.ensures ∙ c.in-Some.is) (l.state sizes book r book.work opens) (ap (λ (p : Pending). p.number) ((l.same opens.uncalled).pending ∙ ap (λ (x : Engine). x.input.pending) n.only ∙ b.same.pending))
    c.choose.new.engine
    (h sizes w (with_work book.work book) (l.stands sizes book r book.work opens)))
    c.choose.ensures.rule

pub returns-in-Some-clause-err : goal.returns-in-Some-clause-err
returns-in-Some-clause-err c = let e = c.args.engine.now in let e1 = c.begin.new.self in let e2 = c.begin_conditional.new.self in let e3 = c.close_reading.new.self in let b = c.in_ok-begin.ensures in let n = c.in_ok-begin_conditional.ensures in let l = c.close_reading.ensures in let k = Reads (Command c.args.call) in
    err_to c.choose.result
    (λ broken h sizes w book st.
    let now = b.stands sizes book st in
    let inner = with_work (opened k book.work) book in
    let opens = n.stands sizes inner now in
    let r : Reading = record { kind = k; fed = [] } in
    constant_cuts sizes e e1 book w c.args.call c.args.number (ap (λ (p : Pending). p.number) b.same.pending) (b.fits sizes book (counts_of sizes e book st)) (b.state sizes book st) e2 (n.did sizes w inner now.sound.sized) opens
    e3 (constant_test c.args.number) c.in-Some.truth (sym c.constant_test.ensures ∙ c.in-Some.is) (l.state sizes book r book.work opens) (ap (λ (p : Pending). p.number) ((l.same opens.uncalled).pending ∙ ap (λ (x : Engine). x.input.pending) n.only ∙ b.same.pending))
    c.choose.new.engine broken
    (h sizes w (with_work book.work book) (l.stands sizes book r book.work opens)))
    c.choose.ensures.err

-- WHAT IT WEIGHS

pub returns-in-None-clause-light : goal.returns-in-None-clause-light
returns-in-None-clause-light c = let e = c.args.engine.now in let e1 = c.begin.new.self in let e2 = c.begin_conditional.new.self in let b = c.in_ok-begin.ensures in
    λ none light.
    subst (λ (x : Engine). weight x ≤ frames_weight e.readings.frames + act_weight + pending_weight e.input.pending) (sym c.in_ok-begin_conditional.ensures.only)
    (begun_light e none light (record e1 { conditionals = e2.conditionals }) (OpensRow (Command c.args.call)) 11 b.same.call b.frames b.weight (omega arith) b.same.pending)

pub returns-in-Some-clause-light : goal.returns-in-Some-clause-light
returns-in-Some-clause-light c = let e = c.args.engine.now in let e3 = c.close_reading.new.self in let b = c.in_ok-begin.ensures in let n = c.in_ok-begin_conditional.ensures in let l = c.close_reading.ensures in
    on_ok c.choose.result
    (λ h none light.
    let frames : e3.readings.frames ≡ e.readings.frames = l.beneath ∙ ap (λ (s : Stack). drop 1 s.frames) n.frames.readings ∙ b.beneath in
    let same = l.same (n.frames.call ∙ b.same.call ∙ none) in
    let asks : innermost_weight e3.readings.frames ≡ innermost_weight e.readings.frames = ap innermost_weight frames in
    from_same e none act_weight e3 c.choose.new.engine frames (same.pending ∙ ap (λ (x : Engine). x.input.pending) n.only ∙ b.same.pending)
    (h act_weight (same.call ∙ n.frames.call ∙ b.same.call ∙ none) (omega arith) (omega (arith, asks, light))))
    c.choose.ensures.light
