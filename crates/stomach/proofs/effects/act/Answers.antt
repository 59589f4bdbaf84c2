use Rattle.std.proofs.Common.{◌∷◌, subst, sym}
use Rattle.rows.specs.declared.command.Effect.{Effect}
use Rattle.rows.specs.Readings.{Acts}
use Rattle.plain_machine.specs.Plan.{acts_above}
use Rattle.engine_state.specs.Book.{with_work}
use Rattle.engine_state.specs.CutReadings.{CutsIn}
use Rattle.engine_state.specs.Rules.{world_of}
use Rattle.engine_state.specs.Stands.{state_of, page_of}
use Rattle.engine_state.specs.Rules.{Went}
use Rattle.engine_state.proofs.CuttingReadings.{column_in, in_by}
use Rattle.engine_state.proofs.Joining.{column_went, same_err, ok_to, err_to, went_by}
use Rattle.stomach.specs.Effects.{IsAlone}
use Rattle.stomach.specs.Halting.{DoesRuleIn}
use Rattle.rows.specs.Suiting.{IsSuited}
use Rattle.stomach.proofs.ActsEnding.{above_acts, is_alone, small_effect}
use Rattle.stomach.proofs.effects.act.Goals as goal

pub returns-in-Obey-clause-rule : goal.returns-in-Obey-clause-rule
returns-in-Obey-clause-rule g c = let e = c.args.engine.now in let e2 = c.obey_behind.new.engine in
    ok_to c.obey_behind.result
    (λ ruled h sizes f book r rs st asks.
    subst (λ (does : Effect). DoesRuleIn sizes (state_of e (with_work (r ∷ rs) book)) e2 (world_of f (g.S.Sink.told c.args.out.now) e) (world_of f (g.S.Sink.told c.obey_behind.new.out) e2) (acts_above rs (page_of e book) c.args.call does) ruled) (sym c.in-Obey.is)
    (h sizes f book r rs st)) c.obey_behind.ensures.rule

pub returns-in-Obey-clause-err : goal.returns-in-Obey-clause-err
returns-in-Obey-clause-err g c = let e = c.args.engine.now in let e2 = c.obey_behind.new.engine in
    err_to c.obey_behind.result
    (λ b h sizes f book r rs st asks.
    subst (λ (does : Effect). CutsIn sizes (state_of e (with_work (r ∷ rs) book)) e2 (world_of f (g.S.Sink.told c.args.out.now) e) (world_of f (g.S.Sink.told c.obey_behind.new.out) e2) (acts_above rs (page_of e book) c.args.call does) b) (sym c.in-Obey.is)
    (h sizes f book r rs st)) c.obey_behind.ensures.err

pub returns-in-ExpandBehind-clause-rule : goal.returns-in-ExpandBehind-clause-rule
returns-in-ExpandBehind-clause-rule g c = let e = c.args.engine.now in let e2 = c.expand_behind.new.engine in
    ok_to c.expand_behind.result
    (λ ruled h sizes f book r rs st asks.
    subst (λ (does : Effect). DoesRuleIn sizes (state_of e (with_work (r ∷ rs) book)) e2 (world_of f (g.S.Sink.told c.args.out.now) e) (world_of f (g.S.Sink.told c.expand_behind.new.out) e2) (acts_above rs (page_of e book) c.args.call does) ruled) (sym c.in-ExpandBehind.is)
    (h sizes f book r rs st)) c.expand_behind.ensures.rule

pub returns-in-ExpandBehind-clause-err : goal.returns-in-ExpandBehind-clause-err
returns-in-ExpandBehind-clause-err g c = let e = c.args.engine.now in let e2 = c.expand_behind.new.engine in
    err_to c.expand_behind.result
    (λ b h sizes f book r rs st asks.
    subst (λ (does : Effect). CutsIn sizes (state_of e (with_work (r ∷ rs) book)) e2 (world_of f (g.S.Sink.told c.args.out.now) e) (world_of f (g.S.Sink.told c.expand_behind.new.out) e2) (acts_above rs (page_of e book) c.args.call does) b) (sym c.in-ExpandBehind.is)
    (h sizes f book r rs st)) c.expand_behind.ensures.err

pub returns-in-Compute-clause-rule : goal.returns-in-Compute-clause-rule
returns-in-Compute-clause-rule g c = let e = c.args.engine.now in let e2 = c.compute.new.engine in let is = c.in-Compute.is in
    ok_to c.compute.result
    (λ ruled h sizes f book r rs st asks.
    subst (λ (does : Effect). DoesRuleIn sizes (state_of e (with_work (r ∷ rs) book)) e2 (world_of f (g.S.Sink.told c.args.out.now) e) (world_of f (g.S.Sink.told c.compute.new.out) e2) (acts_above rs (page_of e book) c.args.call does) ruled) (sym is)
    (h (subst IsSuited is (small_effect sizes e book r rs c.args.call c.args.effect st asks)) sizes f book r rs st)) c.compute.ensures.rule

pub returns-in-Compute-clause-err : goal.returns-in-Compute-clause-err
returns-in-Compute-clause-err g c = let e = c.args.engine.now in let e2 = c.compute.new.engine in let is = c.in-Compute.is in
    err_to c.compute.result
    (λ b h sizes f book r rs st asks.
    subst (λ (does : Effect). CutsIn sizes (state_of e (with_work (r ∷ rs) book)) e2 (world_of f (g.S.Sink.told c.args.out.now) e) (world_of f (g.S.Sink.told c.compute.new.out) e2) (acts_above rs (page_of e book) c.args.call does) b) (sym is)
    (h (subst IsSuited is (small_effect sizes e book r rs c.args.call c.args.effect st asks)) sizes f book r rs st)) c.compute.ensures.err

pub returns-in-Compute-clause-light : goal.returns-in-Compute-clause-light
returns-in-Compute-clause-light g c = ok_to c.compute.result (λ ruled h free asks. h free (Acts c.args.call c.args.effect) asks tt) c.compute.ensures.light

pub returns-in_ok-give_list-in-PutList-clause-rule : goal.returns-in_ok-give_list-in-PutList-clause-rule
returns-in_ok-give_list-in-PutList-clause-rule g c = let e = c.args.engine.now in let e2 = c.give_list.new.engine in let n = c.in_ok-give_list-in-PutList.ensures in let is = c.in-PutList.is in let s = g.S.Sink.told c.args.out.now in
    λ sizes f book r rs st asks. column_went sizes _ e2 f s e.in_line _ 0 c.give_list.ensures.column
    (subst (λ (does : Effect). Went sizes (state_of e (with_work (r ∷ rs) book)) e2 (world_of f s e) (world_of f s e) (acts_above rs (page_of e book) c.args.call does) 0) (sym is)
    (n.rule (subst IsSuited is (small_effect sizes e book r rs c.args.call c.args.effect st asks)).0 sizes (world_of f s e) book c.args.call r rs st))

pub returns-in_err-give_list-in-PutList-clause-err : goal.returns-in_err-give_list-in-PutList-clause-err
returns-in_err-give_list-in-PutList-clause-err g c = let e = c.args.engine.now in let e2 = c.give_list.new.engine in let n = c.in_err-give_list-in-PutList in let is = c.in-PutList.is in let s = g.S.Sink.told c.args.out.now in
    same_err c.from_residual.result n.field-0.0 _ c.from_residual.ensures.1
    (λ sizes f book r rs st asks. column_in sizes _ e2 f s e.in_line _ n.field-0.0 c.give_list.ensures.column
    (subst (λ (does : Effect). CutsIn sizes (state_of e (with_work (r ∷ rs) book)) e2 (world_of f s e) (world_of f s e) (acts_above rs (page_of e book) c.args.call does) n.field-0.0) (sym is)
    (n.ensures.err sizes (world_of f s e) book c.args.call r rs st)))

pub returns-in_ok-give_list-in-PutList-clause-light : goal.returns-in_ok-give_list-in-PutList-clause-light
returns-in_ok-give_list-in-PutList-clause-light g c free = λ asks. c.in_ok-give_list-in-PutList.ensures.light (Acts c.args.call c.args.effect) asks tt

pub returns-in_ok-choose_behind-in-Choose-clause-rule : goal.returns-in_ok-choose_behind-in-Choose-clause-rule
returns-in_ok-choose_behind-in-Choose-clause-rule g c = let e = c.args.engine.now in let e2 = c.choose_behind.new.engine in let n = c.in_ok-choose_behind-in-Choose.ensures in let s = g.S.Sink.told c.args.out.now in
    λ sizes f book r rs st asks. column_went sizes _ e2 f s e.in_line _ 0 c.choose_behind.ensures.column
    (subst (λ (does : Effect). Went sizes (state_of e (with_work (r ∷ rs) book)) e2 (world_of f s e) (world_of f s e) (acts_above rs (page_of e book) c.args.call does) 0) (sym c.in-Choose.is)
    (n.rule sizes (world_of f s e) book r rs st))

pub returns-in_err-choose_behind-in-Choose-clause-err : goal.returns-in_err-choose_behind-in-Choose-clause-err
returns-in_err-choose_behind-in-Choose-clause-err g c = let e = c.args.engine.now in let e2 = c.choose_behind.new.engine in let n = c.in_err-choose_behind-in-Choose in let s = g.S.Sink.told c.args.out.now in
    same_err c.from_residual-in_err-choose_behind-in-Choose.result n.field-0.0 _ c.from_residual-in_err-choose_behind-in-Choose.ensures.1
    (λ sizes f book r rs st asks. column_in sizes _ e2 f s e.in_line _ n.field-0.0 c.choose_behind.ensures.column
    (subst (λ (does : Effect). CutsIn sizes (state_of e (with_work (r ∷ rs) book)) e2 (world_of f s e) (world_of f s e) (acts_above rs (page_of e book) c.args.call does) n.field-0.0) (sym c.in-Choose.is)
    (n.ensures.err sizes (world_of f s e) book r rs st)))

pub returns-in_ok-choose_behind-in-Choose-clause-light : goal.returns-in_ok-choose_behind-in-Choose-clause-light
returns-in_ok-choose_behind-in-Choose-clause-light g c free = λ asks. c.in_ok-choose_behind-in-Choose.ensures.light (Acts c.args.call c.args.effect) asks tt

pub returns-in_ok-compare_behind-in-Compare-clause-rule : goal.returns-in_ok-compare_behind-in-Compare-clause-rule
returns-in_ok-compare_behind-in-Compare-clause-rule g c = let e = c.args.engine.now in let e2 = c.compare_behind.new.engine in let n = c.in_ok-compare_behind-in-Compare.ensures in let s = g.S.Sink.told c.args.out.now in
    λ sizes f book r rs st asks. column_went sizes _ e2 f s e.in_line _ 0 c.compare_behind.ensures.column
    (subst (λ (does : Effect). Went sizes (state_of e (with_work (r ∷ rs) book)) e2 (world_of f s e) (world_of f s e) (acts_above rs (page_of e book) c.args.call does) 0) (sym c.in-Compare.is)
    (n.rule sizes (world_of f s e) book r rs st))

pub returns-in_err-compare_behind-in-Compare-clause-err : goal.returns-in_err-compare_behind-in-Compare-clause-err
returns-in_err-compare_behind-in-Compare-clause-err g c = let e = c.args.engine.now in let e2 = c.compare_behind.new.engine in let n = c.in_err-compare_behind-in-Compare in let s = g.S.Sink.told c.args.out.now in
    same_err c.from_residual-in_err-compare_behind-in-Compare.result n.field-0.0 _ c.from_residual-in_err-compare_behind-in-Compare.ensures.1
    (λ sizes f book r rs st asks. column_in sizes _ e2 f s e.in_line _ n.field-0.0 c.compare_behind.ensures.column
    (subst (λ (does : Effect). CutsIn sizes (state_of e (with_work (r ∷ rs) book)) e2 (world_of f s e) (world_of f s e) (acts_above rs (page_of e book) c.args.call does) n.field-0.0) (sym c.in-Compare.is)
    (n.ensures.err sizes (world_of f s e) book r rs st)))

pub returns-in_ok-compare_behind-in-Compare-clause-light : goal.returns-in_ok-compare_behind-in-Compare-clause-light
returns-in_ok-compare_behind-in-Compare-clause-light g c free = λ asks. c.in_ok-compare_behind-in-Compare.ensures.light (Acts c.args.call c.args.effect) asks tt

pub returns-in-Reach-clause-rule : goal.returns-in-Reach-clause-rule
returns-in-Reach-clause-rule g c = let e = c.args.engine.now in let e2 = c.reach.new.engine in
    ok_to c.reach.result
    (λ ruled h sizes f book r rs st asks.
    subst (λ (does : Effect). DoesRuleIn sizes (state_of e (with_work (r ∷ rs) book)) e2 (world_of f (g.S.Sink.told c.args.out.now) e) (world_of f (g.S.Sink.told c.reach.new.out) e2) (acts_above rs (page_of e book) c.args.call does) ruled) (sym c.in-Reach.is)
    (h sizes f book r rs st)) c.reach.ensures.rule

pub returns-in-Reach-clause-err : goal.returns-in-Reach-clause-err
returns-in-Reach-clause-err g c = let e = c.args.engine.now in let e2 = c.reach.new.engine in
    err_to c.reach.result
    (λ b h sizes f book r rs st asks.
    subst (λ (does : Effect). CutsIn sizes (state_of e (with_work (r ∷ rs) book)) e2 (world_of f (g.S.Sink.told c.args.out.now) e) (world_of f (g.S.Sink.told c.reach.new.out) e2) (acts_above rs (page_of e book) c.args.call does) b) (sym c.in-Reach.is)
    (h sizes f book r rs st)) c.reach.ensures.err

pub returns-in-Reach-clause-light : goal.returns-in-Reach-clause-light
returns-in-Reach-clause-light g c = ok_to c.reach.result (λ ruled h free asks. h free (Acts c.args.call c.args.effect) asks tt) c.reach.ensures.light

pub returns-in_err-end_alone-in_default-clause-err : goal.returns-in_err-end_alone-in_default-clause-err
returns-in_err-end_alone-in_default-clause-err g c = let e = c.args.engine.now in let n = c.in_err-end_alone-in_default in let d = c.in_default in
    let alone : IsAlone c.args.effect = is_alone c.args.effect d.not-Obey d.not-ExpandBehind d.not-Compute d.not-PutList d.not-Choose d.not-Compare d.not-Reach in
    same_err c.from_residual-in_err-end_alone-in_default.result n.field-0.0 _ c.from_residual-in_err-end_alone-in_default.ensures.1
    (λ sizes f book r rs st asks.
    in_by sizes _ c.end_alone.new.engine _ _ _ _ n.field-0.0 (above_acts rs (page_of e book) c.args.call c.args.effect alone)
    (n.ensures.err alone (small_effect sizes e book r rs c.args.call c.args.effect st asks) sizes f book r rs st))

pub returns-in_ok-end_alone-in_default-clause-rule : goal.returns-in_ok-end_alone-in_default-clause-rule
returns-in_ok-end_alone-in_default-clause-rule g c = let e = c.args.engine.now in let n = c.in_ok-end_alone-in_default.ensures in let d = c.in_default in
    let alone : IsAlone c.args.effect = is_alone c.args.effect d.not-Obey d.not-ExpandBehind d.not-Compute d.not-PutList d.not-Choose d.not-Compare d.not-Reach in
    λ sizes f book r rs st asks.
    went_by sizes _ c.end_alone.new.engine _ _ _ _ 0 (above_acts rs (page_of e book) c.args.call c.args.effect alone) (n.rule alone (small_effect sizes e book r rs c.args.call c.args.effect st asks) sizes f book r rs st)

pub returns-in_ok-end_alone-in_default-clause-light : goal.returns-in_ok-end_alone-in_default-clause-light
returns-in_ok-end_alone-in_default-clause-light g c free = λ asks. c.in_ok-end_alone-in_default.ensures.light (Acts c.args.call c.args.effect) asks tt
