use Rattle.std.proofs.Common.{sym, subst}
use Rattle.engine_state.specs.Making.{HasGrown, changed_list}
use Rattle.engine_state.proofs.Changing.{changed_first, changed_some}
use Rattle.engine_state.proofs.Joining.{same_err}
use Rattle.engine_state.proofs.TextPutting.{grown_at_once, not_by, short_not}
use Rattle.engine_state.proofs.engine.Engine.grow_changed.Goals as goal

pub returns-in_err-grow_changed-clause-err : goal.returns-in_err-grow_changed-clause-err
returns-in_err-grow_changed-clause-err c = let i = c.args.self.now.input in let n = c.grow_changed in let x = c.in_err-grow_changed in
    same_err c.from_residual.result x.field-0.0 _ c.from_residual.ensures.1
    (not_by i n.new.self _ (changed_list c.args.upper c.args.listed i) x.field-0.0 (sym (changed_first c.args.upper c.args.listed i c.if-listed.true)) (short_not i n.new.self _ x.field-0.0 x.ensures.err n.ensures.keeps c.requires))

pub returns-then-has_list-clause-ok : goal.returns-then-has_list-clause-ok
returns-then-has_list-clause-ok c = let i = c.args.self.now.input in let n = c.grow_changed in let x = c.in_ok-grow_changed.ensures in
    subst (HasGrown i n.new.self) (changed_first c.args.upper c.args.listed i c.if-listed.true) (grown_at_once i n.new.self _ x.ok n.ensures.keeps c.requires x.fits)

pub returns-then-has_list-clause-some : goal.returns-then-has_list-clause-some
returns-then-has_list-clause-some c = changed_some c.args.upper c.args.listed c.is_list_empty-some.result c.args.self.now.input c.if-listed.true c.is_list_empty-some.ensures
