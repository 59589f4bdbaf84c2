use Rattle.std.proofs.Common.{ℕ, ap, sym, subst, ◌∷◌, []}
use Rattle.conditionals.specs.declared.choice.Passing.{Passing}
use Rattle.tex_syntax.specs.declared.words.Outcome.TheVariants.{AtFatal}
use Rattle.tex_syntax.specs.declared.words.Report.TheVariants.{ExtraFiOrElse}
use Rattle.tex_defs.specs.declared.Fatal.TheVariants.{HundredErrors}
use Rattle.plain_machine.specs.States.{ConditionClosed}
use Rattle.plain_machine.specs.Plan.{passed, reported}
use Rattle.engine_state.specs.Rules.{world_of, Cuts, Halts, Reports}
use Rattle.engine_state.specs.Stands.{state_of, page_of}
use Rattle.engine_state.specs.declared.engine.Engine.{Engine}
use Rattle.engine_state.proofs.Joining.{ok_to, err_to}
use Rattle.stomach.specs.Skipping.{Passes}
use Rattle.stomach.proofs.ActingAlone.{did_still}
use Rattle.stomach.proofs.GoingOn.{passes_nothing, passes_above, passes_or}
use Rattle.stomach.proofs.RuleCloses.{reported_stands}
use Rattle.stomach.proofs.conditional.pass.Goals as goal

pub returns-in-Nothing-clause-on : goal.returns-in-Nothing-clause-on
returns-in-Nothing-clause-on g c = let e = c.args.engine.now in let s = g.S.Sink.told c.args.out.now in
    λ on sizes f book rest.
    subst (λ (p : Passing). Passes sizes (state_of e book) (state_of e book) (world_of f s e) (world_of f s e) (page_of e book) p rest) (sym c.in-Nothing.is)
    (passes_nothing sizes (state_of e book) (world_of f s e) (page_of e book) rest)

pub returns-in-ClosesAbove-clause-on : goal.returns-in-ClosesAbove-clause-on
returns-in-ClosesAbove-clause-on g c = let e = c.args.engine.now in let e1 = c.close_conditional.new.self in let s = g.S.Sink.told c.args.out.now in let n = c.close_conditional.ensures in
    λ on sizes f book rest.
    subst (λ (p : Passing). Passes sizes (state_of e book) (state_of e1 book) (world_of f s e) (world_of f s e1) (page_of e book) p rest) (sym c.in-ClosesAbove.is)
    (passes_above sizes (state_of e book) (state_of e1 book) (world_of f s e) (world_of f s e1) (page_of e book) rest
    (did_still sizes (state_of e book) (state_of e1 book) e e1 f s (ConditionClosed ∷ []) (ap (λ (x : Engine). x.in_line) n.only) (n.did sizes (world_of f s e) book)))

pub returns-in-ExtraOr-clause-on : goal.returns-in-ExtraOr-clause-on
returns-in-ExtraOr-clause-on g c = let e = c.args.engine.now in let e1 = c.report.new.self in let s = g.S.Sink.told c.args.out.now in let s1 = g.S.Sink.told c.report.new.out in
    ok_to c.report.result (λ on h is sizes f book rest.
    subst (λ (p : Passing). Passes sizes (state_of e book) (state_of e1 book) (world_of f s e) (world_of f s1 e1) (page_of e book) p rest) (sym c.in-ExtraOr.is)
    (passes_or sizes (state_of e book) (state_of e1 book) (world_of f s e) (world_of f s1 e1) (page_of e book) rest
    (subst (λ (n : ℕ). Reports sizes (state_of e book) (state_of e1 book) (world_of f s e) (world_of f s1 e1) (page_of e book) (ExtraFiOrElse n) rest) c.ender_number.ensures (h is sizes f book rest)))) c.report.ensures.on

pub returns-in-ExtraOr-clause-last : goal.returns-in-ExtraOr-clause-last
returns-in-ExtraOr-clause-last g c = let e = c.args.engine.now in let e1 = c.report.new.self in let s = g.S.Sink.told c.args.out.now in let s1 = g.S.Sink.told c.report.new.out in
    ok_to c.report.result (λ on h is sizes f book rest.
    subst (λ (p : Passing). Halts sizes (state_of e book) e1 book (world_of f s e) (world_of f s1 e1) (passed (page_of e book) p rest) (AtFatal HundredErrors) 0) (sym c.in-ExtraOr.is)
    (subst (λ (n : ℕ). Halts sizes (state_of e book) e1 book (world_of f s e) (world_of f s1 e1) (reported (page_of e book) (ExtraFiOrElse n) rest) (AtFatal HundredErrors) 0) c.ender_number.ensures (h is sizes f book rest))) c.report.ensures.last

pub returns-in-ExtraOr-clause-err : goal.returns-in-ExtraOr-clause-err
returns-in-ExtraOr-clause-err g c = let e = c.args.engine.now in let e1 = c.report.new.self in let s = g.S.Sink.told c.args.out.now in let s1 = g.S.Sink.told c.report.new.out in
    err_to c.report.result (λ b h sizes f book rest few.
    subst (λ (p : Passing). Cuts sizes (state_of e book) e1 book (world_of f s e) (world_of f s1 e1) (passed (page_of e book) p rest) b) (sym c.in-ExtraOr.is)
    (subst (λ (n : ℕ). Cuts sizes (state_of e book) e1 book (world_of f s e) (world_of f s1 e1) (reported (page_of e book) (ExtraFiOrElse n) rest) b) c.ender_number.ensures (h sizes f book rest few))) c.report.ensures.err

pub returns-in-ExtraOr-clause-stands : goal.returns-in-ExtraOr-clause-stands
returns-in-ExtraOr-clause-stands g c = let n = c.report.ensures in
    ok_to c.report.result (λ on sized is sizes book st. reported_stands sizes c.args.engine.now c.report.new.self book n.frames n.input (sized is sizes) st) n.sized
