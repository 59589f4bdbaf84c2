use Rattle.engine_state.specs.CutReadings.{CutsIn}
use Rattle.engine_state.specs.Rules.{world_of}
use Rattle.engine_state.specs.Stands.{state_of}
use Rattle.engine_state.proofs.Joining.{err_to, ok_both}
use Rattle.stomach.specs.Halting.{DoesRuleIn}
use Rattle.stomach.proofs.RuleHalts.{rules_in}
use Rattle.stomach.proofs.Wanted.{by_wanted}
use Rattle.stomach.proofs.rules.wanted_rule.Goals as goal

pub returns-clause-rule : goal.returns-clause-rule
returns-clause-rule g c = let e = c.args.engine.now in let n = c.token_rule in
    ok_both n.result (λ ruled h same sizes f. by_wanted sizes e (λ b plan. DoesRuleIn sizes (state_of e b) n.new.engine (world_of f (g.S.Sink.told c.args.out.now) e) (world_of f (g.S.Sink.told n.new.out) n.new.engine) plan ruled) c.args.want c.requires.wanted
    (λ b t. rules_in sizes e n.new.engine b _ _ _ ruled t.1 same (h sizes f b t))) n.ensures.rule n.ensures.halts

pub returns-clause-err : goal.returns-clause-err
returns-clause-err g c = let e = c.args.engine.now in let n = c.token_rule in
    err_to n.result (λ why h sizes f. by_wanted sizes e (λ b plan. CutsIn sizes (state_of e b) n.new.engine (world_of f (g.S.Sink.told c.args.out.now) e) (world_of f (g.S.Sink.told n.new.out) n.new.engine) plan why) c.args.want c.requires.wanted
    (λ b t. h sizes f b t)) n.ensures.err
