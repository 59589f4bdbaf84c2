use Rattle.std.proofs.Common.{[], ◌∷◌, ap, ◌∙◌}
use Rattle.tex_syntax.specs.declared.words.Outcome.TheVariants.{AtFatal}
use Rattle.tex_defs.specs.declared.Fatal.TheVariants as fatal
use Rattle.input_state.specs.Stored.{Stored}
use Rattle.reading_frames.specs.Stack.{Stack, asks_in}
use Rattle.rows.specs.declared.command.Effect.TheVariants as effect
use Rattle.plain_machine.specs.Plan.{acts}
use Rattle.engine_state.specs.Book.{with_work}
use Rattle.engine_state.specs.Stands.{page_of}
use Rattle.plain_machine.specs.Weights.{pending_weight}
use Rattle.engine_state.proofs.Joining.{same_err}
use Rattle.engine_state.proofs.CuttingReadings.{stands_in}
use Rattle.engine_state.proofs.CallWeighing.{lighter_by}
use Rattle.stomach.proofs.ActsEnding.{overflow_went, overflow_cut}
use Rattle.stomach.proofs.RuleCloses.{reported_stands, reported_halts}
use Rattle.stomach.proofs.effects.report_overflow.Goals as goal

pub end_alone-requires : goal.end_alone-requires
end_alone-requires g c = record { idle = ap (λ (i : Stored). i.making) c.report.ensures.input ∙ c.requires.idle; uncalled = c.report.ensures.frames.call ∙ c.requires.uncalled }

pub returns-in_err-report-clause-err : goal.returns-in_err-report-clause-err
returns-in_err-report-clause-err g c = let i = c.in_err-report in let e = c.args.engine.now in
    same_err c.from_residual.result i.field-0.0 _ c.from_residual.ensures.1
    (λ sizes f book r rs l st. stands_in sizes e c.report.new.self (with_work (r ∷ rs) book) _ _ _ i.field-0.0 (i.ensures.err sizes f (with_work (r ∷ rs) book) (acts (page_of e book) c.args.call effect.Unassigned) st.sound.sized.few_reports) c.report.ensures.frames st)

pub returns-in_err-end_alone-clause-err : goal.returns-in_err-end_alone-clause-err
returns-in_err-end_alone-clause-err g c = let e = c.args.engine.now in let e1 = c.report.new.self in let e2 = c.end_alone.new.engine in let i = c.in_err-end_alone in let n = c.report.ensures in let k = c.in_ok-report.ensures in
    same_err c.from_residual-in_err-end_alone.result i.field-0.0 _ c.from_residual-in_err-end_alone.ensures.1
    (λ sizes f book r rs l st.
    let on = k.on c.if-branch.true sizes f (with_work (r ∷ rs) book) (acts (page_of e book) c.args.call effect.Unassigned) in
    overflow_cut sizes e e1 e2 book r rs f (g.S.Sink.told c.args.out.now) (g.S.Sink.told c.report.new.out) (g.S.Sink.told c.end_alone.new.out) c.args.call l on i.field-0.0
    (i.ensures.err tt tt sizes f book r rs (reported_stands sizes e e1 (with_work (r ∷ rs) book) n.frames n.input (k.sized c.if-branch.true sizes) st)))

pub returns-then-branch-clause-rule : goal.returns-then-branch-clause-rule
returns-then-branch-clause-rule g c = let e = c.args.engine.now in let e1 = c.report.new.self in let e2 = c.end_alone.new.engine in let n = c.report.ensures in let k = c.in_ok-report.ensures in
    λ sizes f book r rs l st.
    let on = k.on c.if-branch.true sizes f (with_work (r ∷ rs) book) (acts (page_of e book) c.args.call effect.Unassigned) in
    overflow_went sizes e e1 e2 book r rs f (g.S.Sink.told c.args.out.now) (g.S.Sink.told c.report.new.out) (g.S.Sink.told c.end_alone.new.out) c.args.call l on
    (c.in_ok-end_alone.ensures.rule tt tt sizes f book r rs (reported_stands sizes e e1 (with_work (r ∷ rs) book) n.frames n.input (k.sized c.if-branch.true sizes) st))

pub returns-then-branch-clause-light : goal.returns-then-branch-clause-light
returns-then-branch-clause-light g c = let n = c.report.ensures in
    λ free a asks end. lighter_by c.args.engine.now c.report.new.self c.end_alone.new.engine n.frames (ap (λ (i : Stored). pending_weight i.pending) n.input)
    (c.in_ok-end_alone.ensures.light a (ap (λ (s : Stack). asks_in s.frames []) n.frames.readings ∙ asks) end)

pub returns-clause-rule : goal.returns-clause-rule
returns-clause-rule g c = let e = c.args.engine.now in
    λ sizes f book r rs l st.
    reported_halts sizes e c.report.new.self (with_work (r ∷ rs) book) _ _ _ (AtFatal fatal.HundredErrors) c.report.ensures.frames st
    (c.in_ok-report.ensures.last c.if-branch.false sizes f (with_work (r ∷ rs) book) (acts (page_of e book) c.args.call effect.Unassigned))
