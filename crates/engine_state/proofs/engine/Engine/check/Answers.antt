use Rattle.std.proofs.Common.{[]}
use Rattle.std.specs.Prelude.{None}
use Rattle.tex_syntax.specs.declared.words.Outcome.TheVariants.{AtFatal}
use Rattle.tex_defs.specs.declared.Fatal.TheVariants.{HundredErrors}
use Rattle.engine_state.specs.declared.outcome.Ruled.TheVariants.{Halted}
use Rattle.engine_state.specs.Stands.{state_of, page_of}
use Rattle.engine_state.proofs.Joining.{same_err, onward_by, went_by}
use Rattle.engine_state.proofs.CuttingReadings.{in_by}
use Rattle.engine_state.proofs.CheckingMoves.{breaks_off, behind_none, unchecked}
use Rattle.engine_state.proofs.engine.Engine.check.Goals as goal

pub returns-in_err-break_off-in-Some-clause-err : goal.returns-in_err-break_off-in-Some-clause-err
returns-in_err-break_off-in-Some-clause-err g c = let e = c.args.self.now in let i = c.in-Some in let n = c.in_err-break_off-in-Some in
    same_err c.from_residual.result n.field-0.0 _ c.from_residual.ensures.1
    (λ sizes f book t. in_by sizes (state_of e book) c.break_off.new.self _ _ _ _ n.field-0.0 (breaks_off e book i.found (i.ensures.some sizes book t.0 t.1).0) (n.ensures.err sizes f book [] t.1.1))

pub returns-then-branch-clause-rule : goal.returns-then-branch-clause-rule
returns-then-branch-clause-rule g c = let e = c.args.self.now in let i = c.in-Some in
    λ sizes f book t. went_by sizes (state_of e book) c.break_off.new.self _ _ _ _ 0 (breaks_off e book i.found (i.ensures.some sizes book t.0 t.1).0)
    (behind_none sizes t.0 (state_of e book) c.break_off.new.self book (page_of e book) _ _ _ (c.in_ok-break_off-in-Some.ensures.on c.if-branch.true sizes f book t.0 None (page_of e book) t.1))

pub returns-else-branch-clause-rule : goal.returns-else-branch-clause-rule
returns-else-branch-clause-rule g c = let e = c.args.self.now in let i = c.in-Some in
    λ sizes f book t. onward_by sizes (state_of e book) c.break_off.new.self book _ _ _ _ (Halted (AtFatal HundredErrors)) (breaks_off e book i.found (i.ensures.some sizes book t.0 t.1).0)
    (c.in_ok-break_off-in-Some.ensures.last c.if-branch.false sizes f book [] t.1.1)

pub returns-in-None-clause-rule : goal.returns-in-None-clause-rule
returns-in-None-clause-rule g c = let e = c.args.self.now in
    λ sizes f book t. unchecked sizes e book _ (c.scanned.ensures.none c.in-None.is sizes book t.0 t.1) t.1.1
