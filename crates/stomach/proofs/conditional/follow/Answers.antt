use Rattle.std.proofs.Common.{ap, arith, sym, subst, ◌∙◌}
use Rattle.tex_syntax.specs.declared.words.Outcome.TheVariants.{AtFatal}
use Rattle.tex_defs.specs.declared.Fatal.TheVariants.{HundredErrors}
use Rattle.conditionals.specs.declared.choice.Step.{Step}
use Rattle.input_state.specs.Stored.{Stored}
use Rattle.reading_frames.specs.Stack.{Stack}
use Rattle.reading_frames.specs.Weights.{frames_weight}
use Rattle.plain_machine.specs.Plan.{reached, skips}
use Rattle.engine_state.specs.CutReadings.{CutsIn}
use Rattle.engine_state.specs.Rules.{world_of, Cuts, Halts, Went}
use Rattle.engine_state.specs.Stands.{state_of, page_of}
use Rattle.plain_machine.specs.Weights.{pending_weight}
use Rattle.engine_state.specs.declared.engine.Engine.{Engine}
use Rattle.engine_state.proofs.CuttingReadings.{column_in, stands_in}
use Rattle.engine_state.proofs.Joining.{column_went, same_err}
use Rattle.stomach.proofs.GoingOn.{ended_went, passed_in, passed_went}
use Rattle.stomach.proofs.conditional.follow.Goals as goal

-- MORE IS SKIPPED

pub returns-in_err-pass-in-Skips-clause-err : goal.returns-in_err-pass-in-Skips-clause-err
returns-in_err-pass-in-Skips-clause-err g c = let e = c.args.engine.now in let e1 = c.pass.new.engine in let n = c.in_err-pass-in-Skips in let a = c.in-Skips in let s = g.S.Sink.told c.args.out.now in let s1 = g.S.Sink.told c.pass.new.out in
    same_err c.from_residual.result n.field-0.0 _ c.from_residual.ensures.1
    (λ sizes f book st. stands_in sizes e e1 book _ _ _ n.field-0.0
    (subst (λ (x : Step). Cuts sizes (state_of e book) e1 book (world_of f s e) (world_of f s1 e1) (reached (page_of e book) c.args.call x) n.field-0.0) (sym a.is)
    (n.ensures.err sizes f book (skips (page_of e book) c.args.call a.choice.aim) st.sound.sized.few_reports)) c.pass.ensures.frames st)

pub returns-in_err-skip_on-in-Skips-clause-err : goal.returns-in_err-skip_on-in-Skips-clause-err
returns-in_err-skip_on-in-Skips-clause-err g c = let e = c.args.engine.now in let e1 = c.pass.new.engine in let e2 = c.skip_on.new.engine in let n = c.in_err-skip_on-in-Skips in let p = c.in_ok-pass-in-Skips.ensures in let a = c.in-Skips in
    let s = g.S.Sink.told c.args.out.now in let s1 = g.S.Sink.told c.pass.new.out in
    same_err c.from_residual-in_err-skip_on-in-Skips.result n.field-0.0 _ c.from_residual-in_err-skip_on-in-Skips.ensures.1
    (λ sizes f book st.
    subst (λ (x : Step). CutsIn sizes (state_of e book) e2 (world_of f s e) (world_of f s1 e2) (reached (page_of e book) c.args.call x) n.field-0.0) (sym a.is)
    (passed_in sizes e e1 e2 book (world_of f s e) (world_of f s1 e1) (world_of f s1 e2) c.args.call a.passing a.choice (p.on c.if-branch.true sizes f book (skips (page_of e book) c.args.call a.choice.aim)) c.pass.ensures.input n.field-0.0
    (column_in sizes (state_of e1 book) e2 f s1 e1.in_line _ n.field-0.0 c.skip_on.ensures.column (n.ensures.err sizes (world_of f s1 e1) book (p.stands c.if-branch.true sizes book st)))))

pub returns-in_ok-skip_on-in-Skips-clause-rule : goal.returns-in_ok-skip_on-in-Skips-clause-rule
returns-in_ok-skip_on-in-Skips-clause-rule g c = let e = c.args.engine.now in let e1 = c.pass.new.engine in let e2 = c.skip_on.new.engine in let n = c.in_ok-skip_on-in-Skips.ensures in let p = c.in_ok-pass-in-Skips.ensures in let a = c.in-Skips in
    let s = g.S.Sink.told c.args.out.now in let s1 = g.S.Sink.told c.pass.new.out in
    λ sizes f book st.
    subst (λ (x : Step). Went sizes (state_of e book) e2 (world_of f s e) (world_of f s1 e2) (reached (page_of e book) c.args.call x) 0) (sym a.is)
    (passed_went sizes e e1 e2 book (world_of f s e) (world_of f s1 e1) (world_of f s1 e2) c.args.call a.passing a.choice (p.on c.if-branch.true sizes f book (skips (page_of e book) c.args.call a.choice.aim)) c.pass.ensures.input
    (column_went sizes (state_of e1 book) e2 f s1 e1.in_line _ 0 c.skip_on.ensures.column (n.rule sizes (world_of f s1 e1) book (p.stands c.if-branch.true sizes book st))))

pub returns-in_ok-skip_on-in-Skips-clause-light : goal.returns-in_ok-skip_on-in-Skips-clause-light
returns-in_ok-skip_on-in-Skips-clause-light g c = let p = c.pass.ensures in
    λ most frame small.
    omega (
      arith,
      c.in_ok-skip_on-in-Skips.ensures.light most (p.frames.call ∙ c.requires.uncalled) frame,
      ap (λ (x : Stack). frames_weight x.frames) p.frames.readings,
      ap (λ (i : Stored). pending_weight i.pending) p.input,
    )

pub returns-else-branch-clause-rule : goal.returns-else-branch-clause-rule
returns-else-branch-clause-rule g c = let e = c.args.engine.now in let e1 = c.pass.new.engine in let a = c.in-Skips in let s = g.S.Sink.told c.args.out.now in let s1 = g.S.Sink.told c.pass.new.out in
    λ sizes f book st.
    subst (λ (x : Step). Halts sizes (state_of e book) e1 book (world_of f s e) (world_of f s1 e1) (reached (page_of e book) c.args.call x) (AtFatal HundredErrors) 0) (sym a.is)
    (c.in_ok-pass-in-Skips.ensures.last c.if-branch.false sizes f book (skips (page_of e book) c.args.call a.choice.aim))

-- NO MORE IS SKIPPED

pub returns-in-Ends-clause-rule : goal.returns-in-Ends-clause-rule
returns-in-Ends-clause-rule g c = let e = c.args.engine.now in let e1 = c.end_skipping.new.engine in let a = c.in-Ends in let n = c.end_skipping.ensures in let s = g.S.Sink.told c.args.out.now in
    λ sizes f book st.
    subst (λ (x : Step). Went sizes (state_of e book) e1 (world_of f s e) (world_of f s e1) (reached (page_of e book) c.args.call x) 0) (sym a.is)
    (ended_went sizes e e1 book f s c.args.call a.end (ap (λ (x : Engine). x.in_line) n.only) (n.did sizes (world_of f s e) book) (n.stands sizes book st))
