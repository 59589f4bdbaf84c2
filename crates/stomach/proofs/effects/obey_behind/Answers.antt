use Rattle.std.proofs.Common.{◌∙◌}
use Rattle.rows.specs.Readings.{Acts}
use Rattle.rows.specs.declared.command.Effect.TheVariants.{Obey}
use Rattle.plain_machine.specs.Plan.{command}
use Rattle.engine_state.proofs.Joining.{same_err}
use Rattle.stomach.proofs.ActsEnding.{obeyed_rule, obeyed_cut}
use Rattle.stomach.proofs.Lighter.{obeyed_lighter}
use Rattle.stomach.proofs.effects.obey_behind.Goals as goal

pub returns-in_err-ruled-clause-err : goal.returns-in_err-ruled-clause-err
returns-in_err-ruled-clause-err g c = let e = c.args.engine.now in let e1 = c.close_reading.new.self in let e2 = c.obey.new.engine in let l = c.close_reading.ensures in let n = c.in_err-ruled in
    same_err c.from_residual.result n.field-0.0 _ c.from_residual.ensures.1
    (λ sizes f book r rs st.
    obeyed_cut sizes e e1 book r rs f (g.S.Sink.told c.args.out.now) (l.state sizes book r rs st) l.others.in_line e2 (g.S.Sink.told c.obey.new.out) (λ page. command page c.args.x.token c.args.x.meaning) n.field-0.0 (n.ensures.err sizes f _ (l.stands sizes book r rs st)))

pub returns-clause-rule : goal.returns-clause-rule
returns-clause-rule g c = let e = c.args.engine.now in let e1 = c.close_reading.new.self in let e2 = c.obey.new.engine in let l = c.close_reading.ensures in let n = c.in_ok-ruled in
    λ sizes f book r rs st.
    obeyed_rule sizes e e1 book r rs f (g.S.Sink.told c.args.out.now) (l.state sizes book r rs st) l.others.in_line e2 (g.S.Sink.told c.obey.new.out) (λ page. command page c.args.x.token c.args.x.meaning) n.ruled c.free.result c.free.ensures
    ((l.same c.requires.uncalled).call ∙ c.requires.uncalled) n.ensures.halts (l.stands sizes book r rs st) (n.ensures.rule sizes f _ (l.stands sizes book r rs st))

pub returns-clause-light : goal.returns-clause-light
returns-clause-light g c = let e = c.args.engine.now in let e1 = c.close_reading.new.self in let e2 = c.obey.new.engine in let l = c.close_reading.ensures in let n = c.in_ok-ruled.ensures in
    λ free asks. obeyed_lighter e e1 e2 (Acts c.args.call (Obey c.args.x)) c.requires.uncalled asks tt l.same l.frames l.weight n.light n.call n.frames
