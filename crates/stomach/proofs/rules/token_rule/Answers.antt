use Rattle.std.proofs.Common.{sym, subst}
use Rattle.engine_state.specs.declared.outcome.Next.TheVariants as next
use Rattle.engine_state.specs.Stands.{state_of}
use Rattle.engine_state.specs.Rules.{world_of, next_moves, Comes}
use Rattle.engine_state.specs.Steps.{IsSkipped, IsOver}
use Rattle.engine_state.proofs.Coming.{next_as, comes_cuts}
use Rattle.engine_state.proofs.Joining.{ok_to, ok_both, err_to, same_err}
use Rattle.gullet.proofs.Ending.{no_ok, no_on}
use Rattle.gullet.proofs.Expanding.{halted_frames, uncalled_still}
use Rattle.stomach.proofs.Handing.{rule_on, next_counts, stepped_steps}
use Rattle.stomach.proofs.rules.token_rule.Goals as goal

-- A TOKEN

pub meet_token-requires-clause-uncalled : goal.meet_token-requires-clause-uncalled
meet_token-requires-clause-uncalled g c = λ raw. uncalled_still c.args.engine.now c.next_token.new.self c.next_token.ensures.readings (c.requires.uncalled raw)

pub returns-in-Token-clause-rule : goal.returns-in-Token-clause-rule
returns-in-Token-clause-rule g c = let e = c.args.engine.now in let e1 = c.next_token.new.self in let e2 = c.meet_token.new.engine in let x = c.in-Token.seen in let n = c.in_ok-seen in
    ok_both c.meet_token.result (λ ruled h raw sizes f book t.
    let w = world_of f (g.S.Sink.told c.args.out.now) e in let w1 = world_of f (g.S.Sink.told c.next_token.new.out) e1 in let moves = next_moves c.args.want e book in
    let came : Comes sizes c.args.want (state_of e book) e1 book w w1 moves x 1 = next_as sizes c.args.want (state_of e book) e1 book w w1 moves n.field-0 (next.Token x) (sym c.in-Token.is) (n.ensures.rule sizes f book c.args.want c.enters_names.ensures t) in
    rule_on sizes c.args.want (state_of e book) e1 e2 book w w1 _ moves x came ruled (λ halted. uncalled_still e e1 c.next_token.ensures.readings (c.requires.uncalled (raw halted))) (h sizes f came.book' came.takes)) c.meet_token.ensures.rule c.meet_token.ensures.goes

pub returns-in-Token-clause-err : goal.returns-in-Token-clause-err
returns-in-Token-clause-err g c = let e = c.args.engine.now in let e1 = c.next_token.new.self in let e2 = c.meet_token.new.engine in let x = c.in-Token.seen in let n = c.in_ok-seen in
    err_to c.meet_token.result (λ b h sizes f book t.
    let w = world_of f (g.S.Sink.told c.args.out.now) e in let w1 = world_of f (g.S.Sink.told c.next_token.new.out) e1 in let moves = next_moves c.args.want e book in
    let came : Comes sizes c.args.want (state_of e book) e1 book w w1 moves x 1 = next_as sizes c.args.want (state_of e book) e1 book w w1 moves n.field-0 (next.Token x) (sym c.in-Token.is) (n.ensures.rule sizes f book c.args.want c.enters_names.ensures t) in
    comes_cuts sizes c.args.want (state_of e book) e1 e2 book w w1 _ moves x 1 came b (h sizes f came.book' came.takes)) c.meet_token.ensures.err

pub returns-in-Token-clause-light : goal.returns-in-Token-clause-light
returns-in-Token-clause-light g c = ok_to c.meet_token.result (λ ruled h free. absurd (h free)) c.meet_token.ensures.on

pub returns-in-Token-clause-step : goal.returns-in-Token-clause-step
returns-in-Token-clause-step g c =
    stepped_steps c.meet_token.result _ (next_counts _ c.in_ok-seen.field-0 (next.Token c.in-Token.seen) c.in-Token.is c.in_ok-seen.ensures.step) c.meet_token.ensures.on

pub returns-in-Token-clause-halts : goal.returns-in-Token-clause-halts
returns-in-Token-clause-halts g c =
    ok_both c.meet_token.result (λ ruled h raw halted. halted_frames c.args.engine.now c.next_token.new.self c.meet_token.new.engine c.next_token.ensures.readings (c.requires.uncalled (raw halted)) (h halted)) c.meet_token.ensures.halts c.meet_token.ensures.goes

pub returns-in-Token-clause-idle : goal.returns-in-Token-clause-idle
returns-in-Token-clause-idle g c = c.meet_token.ensures.idle

-- A LINE, A CHARACTER THAT IS SKIPPED, A FILE'S END, AND THE RUN'S

pub returns-in-Line-clause-rule : goal.returns-in-Line-clause-rule
returns-in-Line-clause-rule g c = let e = c.args.engine.now in let n = c.in_ok-seen in
    λ sizes f book t. next_as sizes c.args.want (state_of e book) c.next_token.new.self book _ _ _ n.field-0 next.Line (sym c.in-Line.is) (n.ensures.rule sizes f book c.args.want c.enters_names.ensures t)

pub returns-in-Skipped-clause-rule : goal.returns-in-Skipped-clause-rule
returns-in-Skipped-clause-rule g c = let e = c.args.engine.now in let n = c.in_ok-seen in
    λ sizes f book t. next_as sizes c.args.want (state_of e book) c.next_token.new.self book _ _ _ n.field-0 next.Skipped (sym c.in-Skipped.is) (n.ensures.rule sizes f book c.args.want c.enters_names.ensures t)

pub returns-in-Over-clause-rule : goal.returns-in-Over-clause-rule
returns-in-Over-clause-rule g c = let e = c.args.engine.now in let n = c.in_ok-seen in
    λ sizes f book t. next_as sizes c.args.want (state_of e book) c.next_token.new.self book _ _ _ n.field-0 (next.Over c.in-Over.outcome) (sym c.in-Over.is) (n.ensures.rule sizes f book c.args.want c.enters_names.ensures t)

pub returns-in-Line-clause-light : goal.returns-in-Line-clause-light
returns-in-Line-clause-light g c free = absurd free

pub returns-in-Line-clause-step : goal.returns-in-Line-clause-step
returns-in-Line-clause-step g c = next_counts _ c.in_ok-seen.field-0 next.Line c.in-Line.is c.in_ok-seen.ensures.step

pub returns-in-Line-clause-err : goal.returns-in-Line-clause-err
returns-in-Line-clause-err g c = tt

pub returns-in-Line-clause-halts : goal.returns-in-Line-clause-halts
returns-in-Line-clause-halts g c halted = absurd halted

pub returns-in-Line-clause-idle : goal.returns-in-Line-clause-idle
returns-in-Line-clause-idle g c = c.in_ok-seen.ensures.idle

pub returns-in-Skipped-clause-light : goal.returns-in-Skipped-clause-light
returns-in-Skipped-clause-light g c free = c.in_ok-seen.ensures.light (subst IsSkipped (sym c.in-Skipped.is) tt)

pub returns-in-Skipped-clause-step : goal.returns-in-Skipped-clause-step
returns-in-Skipped-clause-step g c = next_counts _ c.in_ok-seen.field-0 next.Skipped c.in-Skipped.is c.in_ok-seen.ensures.step

pub returns-in-Skipped-clause-err : goal.returns-in-Skipped-clause-err
returns-in-Skipped-clause-err g c = tt

pub returns-in-Skipped-clause-halts : goal.returns-in-Skipped-clause-halts
returns-in-Skipped-clause-halts g c halted = absurd halted

pub returns-in-Skipped-clause-idle : goal.returns-in-Skipped-clause-idle
returns-in-Skipped-clause-idle g c = c.in_ok-seen.ensures.idle

pub returns-in-Over-clause-light : goal.returns-in-Over-clause-light
returns-in-Over-clause-light g c free = absurd free

pub returns-in-Over-clause-step : goal.returns-in-Over-clause-step
returns-in-Over-clause-step g c = tt

pub returns-in-Over-clause-err : goal.returns-in-Over-clause-err
returns-in-Over-clause-err g c = tt

pub returns-in-Over-clause-halts : goal.returns-in-Over-clause-halts
returns-in-Over-clause-halts g c over = c.in_ok-seen.ensures.halts (subst IsOver (sym c.in-Over.is) tt)

pub returns-in-Over-clause-idle : goal.returns-in-Over-clause-idle
returns-in-Over-clause-idle g c = c.in_ok-seen.ensures.idle

-- IT IS CUT OFF

pub returns-in_err-seen-clause-light : goal.returns-in_err-seen-clause-light
returns-in_err-seen-clause-light g c = no_ok _ _ c.from_residual.result c.from_residual.ensures.1

pub returns-in_err-seen-clause-step : goal.returns-in_err-seen-clause-step
returns-in_err-seen-clause-step g c = no_ok _ _ c.from_residual.result c.from_residual.ensures.1

pub returns-in_err-seen-clause-rule : goal.returns-in_err-seen-clause-rule
returns-in_err-seen-clause-rule g c = no_ok _ _ c.from_residual.result c.from_residual.ensures.1

pub returns-in_err-seen-clause-halts : goal.returns-in_err-seen-clause-halts
returns-in_err-seen-clause-halts g c = no_ok _ _ c.from_residual.result c.from_residual.ensures.1

pub returns-in_err-seen-clause-err : goal.returns-in_err-seen-clause-err
returns-in_err-seen-clause-err g c = let n = c.in_err-seen in
    same_err c.from_residual.result n.field-0.0 _ c.from_residual.ensures.1 (λ sizes f book t. n.ensures.err sizes f book c.args.want c.enters_names.ensures t)

pub returns-in_err-seen-clause-idle : goal.returns-in_err-seen-clause-idle
returns-in_err-seen-clause-idle g c = no_on _ _ c.from_residual.result c.from_residual.ensures.1
