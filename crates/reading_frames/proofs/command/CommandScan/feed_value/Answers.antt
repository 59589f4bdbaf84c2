-- The list of a value is kept where it is listed.
use Rattle.std.proofs.Common.{ap, sym, ◌∙◌, ◌∷◌, Bool}
use Rattle.rows.specs.Readings.{Val}
use Rattle.rows.specs.Commands.{CommandAsk, command_ask}
use Rattle.plain_readings.specs.Readings.{kept_list}
use Rattle.reading_frames.specs.Resumes.{resume_command, command_lists, with_list}
use Rattle.reading_frames.specs.declared.command.CommandScan.{CommandScan}
use Rattle.reading_frames.proofs.Commands.{valued, value_lists}
use Rattle.reading_frames.proofs.command.CommandScan.feed_value.Goals as goal

pub returns-clause-asks : goal.returns-clause-asks
returns-clause-asks c = λ ts e held fed.
    ap (λ (s : CommandScan). resume_command s held (Val c.args.value ts ∷ fed)) c.in-Reads.is ∙
    valued c.in-Reads.row c.args.value c.args.is_empty c.keeps-listed.result c.in-Some.over c.keeps-listed.ensures c.in-Some.ensures.ended c.in-Some.ensures.over ts e held fed ∙
    ap (λ (b : Bool). resume_command c.in-Some.over (with_list b ts held) fed) (sym c.is_listed.ensures)

pub returns-clause-lists : goal.returns-clause-lists
returns-clause-lists c = λ ts e held fed.
    ap (λ (s : CommandScan). command_lists s held (Val c.args.value ts ∷ fed)) c.in-Reads.is ∙
    ap (λ (a : CommandAsk). kept_list (command_ask a))
    (valued c.in-Reads.row c.args.value c.args.is_empty c.keeps-listed.result c.in-Some.over c.keeps-listed.ensures c.in-Some.ensures.ended c.in-Some.ensures.over ts e held fed) ∙
    value_lists c.in-Some.over c.args.value c.args.is_empty c.keeps-listed.result ts held fed c.keeps-listed.ensures c.in-Some.ensures.ended e ∙
    ap (λ (b : Bool). command_lists c.in-Some.over (with_list b ts held) fed) (sym c.is_listed.ensures)
