use Rattle.std.proofs.Common.{arith, ◌∙◌}
use Rattle.world_io.proofs.Reading.{still_open, closed_again, opened_content}
use Rattle.world_io.proofs.whole.read_file.Goals as goal

pub read_rest-bytes-requires : goal.read_rest-bytes-requires
read_rest-bytes-requires g c = still_open _ _ _ _ (rw c.in-Some.is at c.in_ok-id.ensures.opened)

pub close_in-requires : goal.close_in-requires
close_in-requires g c =
    c.read_rest-bytes.ensures.only.reading _ ∙ still_open _ _ _ _ (rw c.in-Some.is at c.in_ok-id.ensures.opened)

pub returns-in-Ok-clause-content : goal.returns-in-Ok-clause-content
returns-in-Ok-clause-content g c =
    opened_content _ _ _ _ _ (rw c.in-Some.is at c.in_ok-id.ensures.opened) c.in-Ok.ensures.all

pub returns-in-Ok-clause-same : goal.returns-in-Ok-clause-same
returns-in-Ok-clause-same g c =
    closed_again _ _ _ _ _ _ (rw c.in-Some.is at c.in_ok-id.ensures.opened) c.read_rest-bytes.ensures.only c.close_in.ensures.closed

pub returns-in-Ok-clause-writes : goal.returns-in-Ok-clause-writes
returns-in-Ok-clause-writes g c =
    c.close_in.ensures.counts.write_faults ∙ c.read_rest-bytes.ensures.writes ∙ c.open_in.ensures.writes

pub returns-in-Ok-clause-later : goal.returns-in-Ok-clause-later
returns-in-Ok-clause-later g c =
    omega (arith, c.open_in.ensures.cause.later, c.read_rest-bytes.ensures.later, c.close_in.ensures.counts.read_faults)

pub returns-in-Ok-clause-later_wants : goal.returns-in-Ok-clause-later_wants
returns-in-Ok-clause-later_wants g c =
    omega (arith, c.open_in.ensures.cause.later_wants, c.read_rest-bytes.ensures.later_wants, c.close_in.ensures.counts.wants)

pub returns-in-Err-clause-same : goal.returns-in-Err-clause-same
returns-in-Err-clause-same g c =
    closed_again _ _ _ _ _ _ (rw c.in-Some.is at c.in_ok-id.ensures.opened) c.read_rest-bytes.ensures.only c.close_in.ensures.closed

pub returns-in-Err-clause-failed : goal.returns-in-Err-clause-failed
returns-in-Err-clause-failed g c =
    λ e. omega (arith, c.open_in.ensures.cause.later, c.in-Err.ensures.failed e, c.close_in.ensures.counts.read_faults)

pub returns-in-Err-clause-writes : goal.returns-in-Err-clause-writes
returns-in-Err-clause-writes g c =
    c.close_in.ensures.counts.write_faults ∙ c.read_rest-bytes.ensures.writes ∙ c.open_in.ensures.writes

pub returns-in-Err-clause-later : goal.returns-in-Err-clause-later
returns-in-Err-clause-later g c =
    omega (arith, c.open_in.ensures.cause.later, c.read_rest-bytes.ensures.later, c.close_in.ensures.counts.read_faults)

pub returns-in-Err-clause-later_wants : goal.returns-in-Err-clause-later_wants
returns-in-Err-clause-later_wants g c =
    omega (arith, c.open_in.ensures.cause.later_wants, c.read_rest-bytes.ensures.later_wants, c.close_in.ensures.counts.wants)
