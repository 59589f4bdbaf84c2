use Rattle.engine_state.proofs.Uncalled.{framed}
use Rattle.engine_state.proofs.Joining.{ok_to, err_to}
use Rattle.stomach.proofs.RuleAsks.{call_innermost, frame_innermost}
use Rattle.stomach.proofs.rules.innermost_rule.Goals as goal

pub frame_rule-requires-clause-asked : goal.frame_rule-requires-clause-asked
frame_rule-requires-clause-asked g c = (frame_innermost c.args.engine.now c.args.innermost.now c.in-Frame.ask c.in-Frame.is c.requires.innermost).1

pub frame_rule-requires-clause-uncalled : goal.frame_rule-requires-clause-uncalled
frame_rule-requires-clause-uncalled g c = (frame_innermost c.args.engine.now c.args.innermost.now c.in-Frame.ask c.in-Frame.is c.requires.innermost).0

pub call_rule-requires-clause-call : goal.call_rule-requires-clause-call
call_rule-requires-clause-call g c = call_innermost c.args.engine.now c.args.innermost.now c.in-Call.call c.in-Call.is c.requires.innermost

pub returns-in-Frame-clause-rule : goal.returns-in-Frame-clause-rule
returns-in-Frame-clause-rule g c = let n = c.frame_rule in
    ok_to n.result (λ ruled h sizes f book st. h sizes f book (framed sizes c.args.engine.now book (frame_innermost c.args.engine.now c.args.innermost.now c.in-Frame.ask c.in-Frame.is c.requires.innermost).0 st)) n.ensures.rule

pub returns-in-Frame-clause-err : goal.returns-in-Frame-clause-err
returns-in-Frame-clause-err g c = let n = c.frame_rule in
    err_to n.result (λ b h sizes f book st. h sizes f book (framed sizes c.args.engine.now book (frame_innermost c.args.engine.now c.args.innermost.now c.in-Frame.ask c.in-Frame.is c.requires.innermost).0 st)) n.ensures.err
