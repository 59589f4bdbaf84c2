use Rattle.engine_state.proofs.Joining.{ok_to, err_to}
use Rattle.engine_state.proofs.Stopping.{noted_in}
use Rattle.stomach.proofs.RuleHalts.{noted_rules}
use Rattle.stomach.proofs.rules.rule_of_token.Goals as goal

pub returns-clause-rule : goal.returns-clause-rule
returns-clause-rule g c = let n = c.wanted_rule-ruled in
    ok_to n.result (λ ruled h sizes f book st. noted_rules c.stops-engine.result sizes _ n.new.engine _ _ _ ruled (h sizes f book st)) n.ensures.rule

pub returns-clause-err : goal.returns-clause-err
returns-clause-err g c = let n = c.wanted_rule-ruled in
    err_to n.result (λ b h sizes f book st. noted_in c.stops-engine.result sizes _ n.new.engine _ _ _ b (h sizes f book st)) n.ensures.err
