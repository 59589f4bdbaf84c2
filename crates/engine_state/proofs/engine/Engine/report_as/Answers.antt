use Rattle.std.proofs.Common.{◌∙◌}
use Rattle.engine_state.specs.Rules.{counted}
use Rattle.engine_state.specs.Stands.{page_of}
use Rattle.engine_state.proofs.Joining.{same_err, ok_to, err_to}
use Rattle.engine_state.proofs.Reporting.{text_moves, text_did, text_halts, text_cut}
use Rattle.engine_state.proofs.AtLocations.{only_sized, only_few, only_frames, only_input, frames_join}
use Rattle.engine_state.proofs.engine.Engine.report_as.Goals as goal

pub returns-in_err-write_error_message-clause-err : goal.returns-in_err-write_error_message-clause-err
returns-in_err-write_error_message-clause-err g c = let i = c.in_err-write_error_message in
    same_err c.from_residual.result i.field-0.0 _ c.from_residual.ensures.1 (λ sizes f book rest few. i.ensures.err sizes f book (counted (page_of c.args.self.now book) rest))

pub returns-clause-on : goal.returns-clause-on
returns-clause-on g c = let e = c.args.self.now in let e1 = c.write_error_message.new.self in let n = c.count_report in
    ok_to n.result (λ on h yes sizes f book rest. let k = h yes sizes f book rest in let first = c.in_ok-write_error_message.ensures.did sizes f book in record {
      moves = text_moves sizes e e1 n.new.self book c.write_error_message.ensures.only _ _ _ _ rest first k;
      did = text_did sizes e e1 n.new.self book c.write_error_message.ensures.only _ _ _ _ rest first k;
    }) n.ensures.on

pub returns-clause-last : goal.returns-clause-last
returns-clause-last g c = let e = c.args.self.now in let e1 = c.write_error_message.new.self in let n = c.count_report in
    ok_to n.result (λ on h no sizes f book rest. text_halts sizes e e1 n.new.self book c.write_error_message.ensures.only _ _ _ _ rest (c.in_ok-write_error_message.ensures.did sizes f book) _ (h no sizes f book rest)) n.ensures.last

pub returns-clause-err : goal.returns-clause-err
returns-clause-err g c = let e = c.args.self.now in let e1 = c.write_error_message.new.self in let n = c.count_report in
    err_to n.result (λ b h sizes f book rest few. text_cut sizes e e1 n.new.self book c.write_error_message.ensures.only _ _ _ _ rest (c.in_ok-write_error_message.ensures.did sizes f book) b (h sizes f book rest (only_few e e1 c.write_error_message.ensures.only few))) n.ensures.err

pub returns-clause-sized : goal.returns-clause-sized
returns-clause-sized g c = let n = c.count_report in ok_to n.result (λ on h yes sizes sized. h yes sizes (only_sized sizes c.args.self.now c.write_error_message.new.self c.write_error_message.ensures.only sized)) n.ensures.sized

pub returns-clause-frames : goal.returns-clause-frames
returns-clause-frames g c = frames_join c.args.self.now c.write_error_message.new.self c.count_report.new.self (only_frames c.args.self.now c.write_error_message.new.self c.write_error_message.ensures.only) c.count_report.ensures.frames

pub returns-clause-input : goal.returns-clause-input
returns-clause-input g c = c.count_report.ensures.input ∙ only_input c.args.self.now c.write_error_message.new.self c.write_error_message.ensures.only
