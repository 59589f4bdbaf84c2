use Rattle.std.proofs.Common.{◌∙◌}
use Rattle.std.specs.Prelude.{Some, None}
use Rattle.plain_machine.specs.declared.broken.Broken.TheVariants as broken
use Rattle.engine_state.proofs.FirstLines.{settled_input, settled_stays, settled_needs, begun_others, begun_pending, begun_stands, unbegun_stands, first_did, first_cuts}
use Rattle.engine_state.proofs.Joining.{same_err}
use Rattle.engine_state.proofs.engine.Engine.begin_file.Goals as goal

pub begin_file-requires-clause-without_ended : goal.begin_file-requires-clause-without_ended
begin_file-requires-clause-without_ended c = settled_stays c.args.self.now c.end_token_lists.new.self c.end_token_lists.ensures.after

pub returns-in_err-begin_file-clause-err : goal.returns-in_err-begin_file-clause-err
returns-in_err-begin_file-clause-err c = let e = c.args.self.now in let i = c.end_token_lists.new.self in let j = c.begin_file.new.self in let first = c.end_token_lists.ensures.after in let n = c.in_err-begin_file in
    same_err c.from_residual.result (broken.Full n.field-0.0) _ c.from_residual.ensures.1
    (λ sizes w book sound. first_cuts sizes e j (begun_others e i j first c.begin_file.ensures.others) book w e.input.pending.next n.field-0.0 c.requires.opened
    (n.ensures.err ∙ settled_input e i first) (settled_needs e i first (Some n.field-0.0) n.ensures.refused) sound.sized.input)

pub returns-in_err-begin_file-clause-stands : goal.returns-in_err-begin_file-clause-stands
returns-in_err-begin_file-clause-stands c = let e = c.args.self.now in let i = c.end_token_lists.new.self in let j = c.begin_file.new.self in let k = c.end_token_lists.ensures in
    λ sizes book st. unbegun_stands e i j k.after c.begin_file.ensures.others k.keeps c.begin_file.ensures.keeps sizes book c.in_err-begin_file.ensures.err st

pub returns-clause-did : goal.returns-clause-did
returns-clause-did c = let e = c.args.self.now in let i = c.end_token_lists.new.self in let j = c.begin_file.new.self in let first = c.end_token_lists.ensures.after in let n = c.in_ok-begin_file in let o = c.begin_file.ensures.others in
    λ sizes w book sound. first_did sizes e j (begun_others e i j first o) book w e.input.pending.next c.requires.opened (begun_pending e i j first o n.ensures.ok) (settled_needs e i first None n.ensures.refused) sound.sized.input

pub returns-clause-stands : goal.returns-clause-stands
returns-clause-stands c = let e = c.args.self.now in let i = c.end_token_lists.new.self in let j = c.begin_file.new.self in let k = c.end_token_lists.ensures in
    λ sizes book st. begun_stands e i j k.after c.begin_file.ensures.others k.keeps c.begin_file.ensures.keeps sizes book c.in_ok-begin_file.ensures.ok st
