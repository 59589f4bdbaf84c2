use Rattle.std.proofs.Common.{◌∙◌, ap}
use Rattle.std.specs.Prelude.{None, Some}
use Rattle.reading_frames.specs.declared.ask.Ask.TheVariants.{More}
use Rattle.engine_state.proofs.Joining.{err_to, ok_to}
use Rattle.engine_state.proofs.Uncalled.{all_of}
use Rattle.stomach.specs.AtHand.{ByFrame}
use Rattle.stomach.proofs.RuleAsks.{asked_is}
use Rattle.stomach.proofs.rules.frame_rule.Goals as goal

pub wanted_rule-requires-clause-wanted : goal.wanted_rule-requires-clause-wanted
wanted_rule-requires-clause-wanted g c = ByFrame c.requires.uncalled (asked_is c.args.engine.now c.args.ask.now None c.in-None.is c.requires.asked)

pub returns-in-None-clause-rule : goal.returns-in-None-clause-rule
returns-in-None-clause-rule g c = let n = c.wanted_rule in
    ok_to n.result (λ ruled h sizes f book st. h sizes f book (all_of sizes c.args.engine.now book st)) n.ensures.rule

pub returns-in-None-clause-err : goal.returns-in-None-clause-err
returns-in-None-clause-err g c = let n = c.wanted_rule in
    err_to n.result (λ b h sizes f book st. h sizes f book (all_of sizes c.args.engine.now book st)) n.ensures.err

-- a token is wanted

pub wanted_rule-requires-in-More-clause-wanted : goal.wanted_rule-requires-in-More-clause-wanted
wanted_rule-requires-in-More-clause-wanted g c = ByFrame c.requires.uncalled (asked_is c.args.engine.now c.args.ask.now (Some (More c.in-More.want)) (c.in-Some.is ∙ ap Some c.in-More.is) c.requires.asked)

pub returns-in-More-clause-rule : goal.returns-in-More-clause-rule
returns-in-More-clause-rule g c = let n = c.wanted_rule-in-More in
    ok_to n.result (λ ruled h sizes f book st. h sizes f book (all_of sizes c.args.engine.now book st)) n.ensures.rule

pub returns-in-More-clause-err : goal.returns-in-More-clause-err
returns-in-More-clause-err g c = let n = c.wanted_rule-in-More in
    err_to n.result (λ b h sizes f book st. h sizes f book (all_of sizes c.args.engine.now book st)) n.ensures.err

-- something else is asked for

pub ask_rule-requires-clause-asks : goal.ask_rule-requires-clause-asks
ask_rule-requires-clause-asks g c = (asked_is c.args.engine.now c.args.ask.now (Some c.in-Some.ask) c.in-Some.is c.requires.asked).asks

pub ask_rule-requires-clause-stands : goal.ask_rule-requires-clause-stands
ask_rule-requires-clause-stands g c = (asked_is c.args.engine.now c.args.ask.now (Some c.in-Some.ask) c.in-Some.is c.requires.asked).stands

pub ask_rule-requires-clause-found : goal.ask_rule-requires-clause-found
ask_rule-requires-clause-found g c = (asked_is c.args.engine.now c.args.ask.now (Some c.in-Some.ask) c.in-Some.is c.requires.asked).found
