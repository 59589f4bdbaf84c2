use Rattle.std.proofs.Common.{[], ◌∷◌}
use Rattle.plain_machine.specs.States.{Closed}
use Rattle.engine_state.proofs.Joining.{same_err}
use Rattle.stomach.proofs.ActsEnding.{alone_cut, alone_rule}
use Rattle.stomach.proofs.RuleCloses.{closed_lighter_behind}
use Rattle.stomach.proofs.effects.end_alone.Goals as goal

pub returns-in_err-act_alone-clause-err : goal.returns-in_err-act_alone-clause-err
returns-in_err-act_alone-clause-err g c = let e = c.args.engine.now in let n = c.in_err-act_alone in
    same_err c.from_residual.result n.field-0.0 _ c.from_residual.ensures.1
    (λ alone small sizes f book r rs st.
    alone_cut sizes e c.act_alone.new.engine book r rs f (g.S.Sink.told c.args.out.now) (g.S.Sink.told c.act_alone.new.out) c.args.call c.args.effect n.field-0.0 alone n.ensures.frames st (n.ensures.err small sizes f _ (Closed ∷ []) st))

pub returns-clause-rule : goal.returns-clause-rule
returns-clause-rule g c = let e = c.args.engine.now in let n = c.in_ok-act_alone.ensures in let l = c.close_reading.ensures in
    λ alone small sizes f book r rs st. let done = n.stands sizes _ st in
    alone_rule sizes e c.act_alone.new.engine book r rs f (g.S.Sink.told c.args.out.now) (g.S.Sink.told c.act_alone.new.out) c.args.call c.args.effect c.close_reading.new.self alone
    (n.did small sizes f _ st) (l.state sizes book r rs done) l.others.in_line (l.stands sizes book r rs done)

pub returns-clause-light : goal.returns-clause-light
returns-clause-light g c = let n = c.in_ok-act_alone.ensures in let l = c.close_reading.ensures in
    λ a asks end. closed_lighter_behind c.args.engine.now c.act_alone.new.engine c.close_reading.new.self a c.requires.uncalled asks end n.frames n.light l.same l.frames l.weight
