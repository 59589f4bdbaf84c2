use Rattle.std.proofs.Common.{refl}
use Rattle.plain_tokens.specs.Pending.{Pulled, pulled}
use Rattle.input_state.specs.declared.answer.Pulled.TheVariants as answer
use Rattle.engine_state.specs.Stands.{page_of}
use Rattle.engine_state.specs.Rules.{onward_of, scanning_of}
use Rattle.engine_state.specs.Steps.{next_met}
use Rattle.engine_state.proofs.AtHand.{handed_on, as_pulled}
use Rattle.engine_state.proofs.Coming.{meets_by, next_as}
use Rattle.engine_state.proofs.CuttingReadings.{in_by}
use Rattle.engine_state.proofs.Joining.{same_err}
use Rattle.engine_state.proofs.Pulling.{token_nexts, token_cuts, token_fits, token_moves_still, token_at, pull_store, takes_still, token_page}
use Rattle.engine_state.proofs.engine.Engine.token_at_hand.Goals as goal

pub returns-in_err-met-in-Some-clause-err : goal.returns-in_err-met-in-Some-clause-err
returns-in_err-met-in-Some-clause-err g c = let e = c.args.self.now in let i = c.quick.new.self in let o = as_pulled e.input i c.quick.ensures.others in let t = c.in-Some.token in let pull : Pulled = pulled e.input.groups.now.categories e.input.pending in let h = handed_on pull e.input i c.quick.result t c.in-Some.is c.quick.ensures.gives in let p = token_at pull (answer.Token t) e.input i h t refl in let n = c.in_err-met-in-Some in
    same_err c.from_residual.result n.field-0.0 _ c.from_residual.ensures.1
    (λ enters sizes f book want is takes. token_cuts sizes e i o book _ (page_of e book) want (scanning_of e book.work) (onward_of (page_of e book) want book.work) t p.0 (token_fits sizes e book t p.1 takes.1.sound.sized.input) _ c.meet.new.self n.field-0.0
    (in_by sizes _ c.meet.new.self _ _ _ _ n.field-0.0 (token_moves_still sizes e i o book want t (token_page sizes e i o book t p.0)) (n.ensures.err sizes f book want (takes_still sizes e i o want book (pull_store sizes e i o (answer.Token t) h c.quick.ensures.keeps) takes))))

pub returns-in_ok-met-in-Some-clause-rule : goal.returns-in_ok-met-in-Some-clause-rule
returns-in_ok-met-in-Some-clause-rule g c = let e = c.args.self.now in let i = c.quick.new.self in let o = as_pulled e.input i c.quick.ensures.others in let t = c.in-Some.token in let pull : Pulled = pulled e.input.groups.now.categories e.input.pending in let h = handed_on pull e.input i c.quick.result t c.in-Some.is c.quick.ensures.gives in let p = token_at pull (answer.Token t) e.input i h t refl in let n = c.in_ok-met-in-Some in
    λ enters sizes f book want is takes. next_as sizes want _ c.meet.new.self book _ _ _ (next_met n.met) _ c.met_next.ensures (token_nexts sizes e i o book _ (page_of e book) want (scanning_of e book.work) (onward_of (page_of e book) want book.work) t p.0 (token_fits sizes e book t p.1 takes.1.sound.sized.input) _ c.meet.new.self n.met
    (meets_by sizes want _ c.meet.new.self book _ _ _ _ n.met (token_moves_still sizes e i o book want t (token_page sizes e i o book t p.0)) (n.ensures.rule sizes f book want (takes_still sizes e i o want book (pull_store sizes e i o (answer.Token t) h c.quick.ensures.keeps) takes))))
