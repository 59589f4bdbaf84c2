use Rattle.std.proofs.Common.{◌≡◌, ◌∙◌, ◌∷◌, ap, sym, ℕ}
use Rattle.conditionals.specs.declared.choice.Aim.{Aim}
use Rattle.conditionals.specs.declared.choice.Step.{Step}
use Rattle.conditionals.specs.declared.skip.Ender.{Ender}
use Rattle.conditionals.specs.Choices as choices
use Rattle.conditionals.specs.Open.{Stack, above_sought}
use Rattle.plain_machine.specs.States.{Closed}
use Rattle.plain_machine.specs.Plan.{reached}
use Rattle.engine_state.specs.Book.{with_work}
use Rattle.engine_state.specs.Stands.{page_of}
use Rattle.engine_state.specs.declared.engine.Engine.{Engine}
use Rattle.engine_state.proofs.CuttingReadings.{in_by}
use Rattle.engine_state.proofs.Joining.{same_err}
use Rattle.stomach.proofs.ActsEnding.{obeyed_rule, obeyed_cut}
use Rattle.stomach.proofs.GoingOn.{gone_on_lighter}
use Rattle.stomach.proofs.RuleHalts.{rules_by}
use Rattle.stomach.proofs.conditional.reach.Goals as goal

-- the reading has ended, and left the conditionals as they were
stepped : (e e1 : Engine) (a : Aim) (x : Ender) (n : ℕ) (s : Step) → e1.conditionals ≡ e.conditionals → n ≡ above_sought a e1.conditionals.items → s ≡ choices.step a n x → choices.step a (above_sought a e.conditionals.items) x ≡ s
stepped e e1 a x n s same above is = sym (is ∙ ap (λ (k : ℕ). choices.step a k x) (above ∙ ap (λ (t : Stack). above_sought a t.items) same))

pub returns-in_err-ruled-clause-err : goal.returns-in_err-ruled-clause-err
returns-in_err-ruled-clause-err g c = let e = c.args.engine.now in let e1 = c.close_reading.new.self in let e2 = c.follow.new.engine in let l = c.close_reading.ensures in let n = c.in_err-ruled in let s = g.S.Sink.told c.args.out.now in
    same_err c.from_residual.result n.field-0.0 _ c.from_residual.ensures.1
    (λ sizes f book r rs st.
    in_by sizes _ e2 _ _ _ _ n.field-0.0 (ap (λ (x : Step). Closed ∷ reached (page_of e book) c.args.call x) (stepped e e1 c.args.aim c.args.ender c.above_sought-above.result c.feed.result (l.same c.requires.uncalled).others.conditionals c.above_sought-above.ensures c.feed.ensures.step))
    (obeyed_cut sizes e e1 book r rs f s (l.state sizes book r rs st) l.others.in_line e2 (g.S.Sink.told c.follow.new.out) (λ page. reached page c.args.call c.feed.result) n.field-0.0 (n.ensures.err sizes f (with_work rs book) (l.stands sizes book r rs st))))

pub returns-clause-rule : goal.returns-clause-rule
returns-clause-rule g c = let e = c.args.engine.now in let e1 = c.close_reading.new.self in let e2 = c.follow.new.engine in let l = c.close_reading.ensures in let n = c.in_ok-ruled in let s = g.S.Sink.told c.args.out.now in
    λ sizes f book r rs st.
    rules_by sizes _ e2 _ _ _ _ c.free.result (ap (λ (x : Step). Closed ∷ reached (page_of e book) c.args.call x) (stepped e e1 c.args.aim c.args.ender c.above_sought-above.result c.feed.result (l.same c.requires.uncalled).others.conditionals c.above_sought-above.ensures c.feed.ensures.step))
    (obeyed_rule sizes e e1 book r rs f s (l.state sizes book r rs st) l.others.in_line e2 (g.S.Sink.told c.follow.new.out) (λ page. reached page c.args.call c.feed.result) n.ruled c.free.result c.free.ensures
    ((l.same c.requires.uncalled).call ∙ c.requires.uncalled) n.ensures.halts (l.stands sizes book r rs st) (n.ensures.rule sizes f (with_work rs book) (l.stands sizes book r rs st)))

pub returns-clause-light : goal.returns-clause-light
returns-clause-light g c = let e = c.args.engine.now in let e1 = c.close_reading.new.self in let l = c.close_reading.ensures in
    λ free a asks end. gone_on_lighter e e1 c.follow.new.engine a c.requires.uncalled asks end l.same l.frames l.weight c.in_ok-ruled.ensures.light
