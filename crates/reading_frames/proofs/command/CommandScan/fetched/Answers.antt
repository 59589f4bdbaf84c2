-- What stands at a location brings no list.
use Rattle.std.proofs.Common.{ap, sym, ◌∙◌, refl, [], ◌∷◌}
use Rattle.rows.specs.Readings.{Fetched}
use Rattle.rows.specs.Commands.{CommandAsk, command_ask}
use Rattle.plain_readings.specs.Readings.{kept_list}
use Rattle.reading_frames.specs.Resumes.{resume_command, command_lists, command_count, listed_count}
use Rattle.reading_frames.specs.declared.command.CommandScan.{CommandScan}
use Rattle.reading_frames.proofs.Commands.{unlisted, bare_lists}
use Rattle.reading_frames.proofs.command.CommandScan.fetched.Goals as goal

pub returns-in-Some-clause-asks : goal.returns-in-Some-clause-asks
returns-in-Some-clause-asks c held fed = ap (λ (s : CommandScan). resume_command s held (Fetched c.args.value ∷ fed)) c.in-Reads.is ∙ c.in-Some.ensures.over [] held fed refl

pub returns-in-Some-clause-lists : goal.returns-in-Some-clause-lists
returns-in-Some-clause-lists c held fed =
    ap (λ (s : CommandScan). command_lists s held (Fetched c.args.value ∷ fed)) c.in-Reads.is ∙ ap (λ (a : CommandAsk). kept_list (command_ask a)) (c.in-Some.ensures.over [] held fed refl) ∙
    bare_lists c.in-Some.over held fed c.in-Some.ensures.ended

pub returns-in-Some-clause-count : goal.returns-in-Some-clause-count
returns-in-Some-clause-count c = ap listed_count (unlisted c.in-Some.over c.in-Some.ensures.ended) ∙ sym (ap (λ (s : CommandScan). command_count s) c.in-Reads.is)

pub returns-in-None-clause-asks : goal.returns-in-None-clause-asks
returns-in-None-clause-asks c held fed = ap (λ (s : CommandScan). resume_command s held (Fetched c.args.value ∷ fed)) c.in-Reads.is ∙ c.in-None.ensures.goes_on refl [] fed

pub returns-in-None-clause-lists : goal.returns-in-None-clause-lists
returns-in-None-clause-lists c held fed =
    ap (λ (s : CommandScan). command_lists s held (Fetched c.args.value ∷ fed)) c.in-Reads.is ∙ ap (λ (a : CommandAsk). kept_list (command_ask a)) (c.in-None.ensures.goes_on refl [] fed)
