use Rattle.std.proofs.Common.{ap, ◌∙◌}
use Rattle.std.specs.Prelude.{Err}
use Rattle.line_reader.proofs.Going.{going_begin, going_on, going_read, begun_is}
use Rattle.line_reader.proofs.Exits.{takes_feed, refused_full, refused_read, refused_memory, ended_so, refused_end, room_on, ahead_on, smaller}
use Rattle.line_reader.proofs.Knowing.{told_takes, told_line, told_kept}
use Rattle.line_reader.proofs.reading.next_line.Goals as goal

pub loop-ends-init : goal.loop-ends-init
loop-ends-init g c = going_begin _ _ _ _ c.requires.other c.begin_part.ensures.no_feed c.begin_part.ensures.after

pub gather-requires-clause-begun : goal.gather-requires-clause-begun
gather-requires-clause-begun g c = begun_is _ _ _ _ _ c.loop-ends.invariant

pub returns-in-Err-clause-answer : goal.returns-in-Err-clause-answer
returns-in-Err-clause-answer g c = refused_full _ _ _ _ _ c.loop-ends.invariant _ c.in-Err.full c.in-Err.ensures.answer c.in-Err.ensures.after

pub returns-in-Err-clause-told : goal.returns-in-Err-clause-told
returns-in-Err-clause-told g c = told_kept _ _ _ _ _ _ (refused_full _ _ _ _ _ c.loop-ends.invariant _ c.in-Err.full c.in-Err.ensures.answer c.in-Err.ensures.after)

pub returns-then-ends-clause-answer : goal.returns-then-ends-clause-answer
returns-then-ends-clause-answer g c = takes_feed _ _ _ _ _ c.loop-ends.invariant _ _ (c.in-Ok.ensures.feed ∙ c.if-ends.true) c.in-Ok.ensures.answer c.in-Ok.ensures.after c.end_line.ensures

pub returns-then-ends-clause-told : goal.returns-then-ends-clause-told
returns-then-ends-clause-told g c = told_takes _ _ _ _ _ (takes_feed _ _ _ _ _ c.loop-ends.invariant _ _ (c.in-Ok.ensures.feed ∙ c.if-ends.true) c.in-Ok.ensures.answer c.in-Ok.ensures.after c.end_line.ensures)

pub read_on-requires-clause-begun : goal.read_on-requires-clause-begun
read_on-requires-clause-begun g c = begun_is _ _ _ _ _ (going_on _ _ _ _ _ c.loop-ends.invariant _ c.in-Ok.ensures.after (c.in-Ok.ensures.feed ∙ c.if-ends.false))

pub read_on-requires-clause-used : goal.read_on-requires-clause-used
read_on-requires-clause-used g c = ahead_on _ _ _ _ _ c.loop-ends.invariant _ c.in-Ok.ensures.after (c.in-Ok.ensures.feed ∙ c.if-ends.false)

pub returns-in-Err-Failed-clause-answer : goal.returns-in-Err-Failed-clause-answer
returns-in-Err-Failed-clause-answer g c =
    let on = going_on _ _ _ _ _ c.loop-ends.invariant c.gather.new.self c.in-Ok.ensures.after (c.in-Ok.ensures.feed ∙ c.if-ends.false) in
    let none = ahead_on _ _ _ _ _ c.loop-ends.invariant c.gather.new.self c.in-Ok.ensures.after (c.in-Ok.ensures.feed ∙ c.if-ends.false) in
    let fits = room_on _ _ _ _ _ c.loop-ends.invariant c.gather.new.self c.in-Ok.ensures.answer c.in-Ok.ensures.after in
    refused_read _ _ _ _ _ on _ _ c.in-Err-Failed.ensures.same c.in-Err-Failed.ensures.err none fits (c.in-Err-Failed.ensures.cause.failed (ap Err c.in-Err-Failed.field-0-is))

pub returns-in-Err-Failed-clause-told : goal.returns-in-Err-Failed-clause-told
returns-in-Err-Failed-clause-told g c =
    let on = going_on _ _ _ _ _ c.loop-ends.invariant c.gather.new.self c.in-Ok.ensures.after (c.in-Ok.ensures.feed ∙ c.if-ends.false) in
    let none = ahead_on _ _ _ _ _ c.loop-ends.invariant c.gather.new.self c.in-Ok.ensures.after (c.in-Ok.ensures.feed ∙ c.if-ends.false) in
    let fits = room_on _ _ _ _ _ c.loop-ends.invariant c.gather.new.self c.in-Ok.ensures.answer c.in-Ok.ensures.after in
    told_kept _ _ _ _ _ _ (refused_read _ _ _ _ _ on _ _ c.in-Err-Failed.ensures.same c.in-Err-Failed.ensures.err none fits (c.in-Err-Failed.ensures.cause.failed (ap Err c.in-Err-Failed.field-0-is)))

pub returns-in-Err-NoMemory-clause-answer : goal.returns-in-Err-NoMemory-clause-answer
returns-in-Err-NoMemory-clause-answer g c =
    let on = going_on _ _ _ _ _ c.loop-ends.invariant c.gather.new.self c.in-Ok.ensures.after (c.in-Ok.ensures.feed ∙ c.if-ends.false) in
    let none = ahead_on _ _ _ _ _ c.loop-ends.invariant c.gather.new.self c.in-Ok.ensures.after (c.in-Ok.ensures.feed ∙ c.if-ends.false) in
    let fits = room_on _ _ _ _ _ c.loop-ends.invariant c.gather.new.self c.in-Ok.ensures.answer c.in-Ok.ensures.after in
    refused_memory _ _ _ _ _ on _ _ c.in-Err-NoMemory.ensures.same c.in-Err-NoMemory.ensures.err none fits (c.in-Err-NoMemory.ensures.cause.wanted (ap Err c.in-Err-NoMemory.field-0-is))

pub returns-in-Err-NoMemory-clause-told : goal.returns-in-Err-NoMemory-clause-told
returns-in-Err-NoMemory-clause-told g c =
    let on = going_on _ _ _ _ _ c.loop-ends.invariant c.gather.new.self c.in-Ok.ensures.after (c.in-Ok.ensures.feed ∙ c.if-ends.false) in
    let none = ahead_on _ _ _ _ _ c.loop-ends.invariant c.gather.new.self c.in-Ok.ensures.after (c.in-Ok.ensures.feed ∙ c.if-ends.false) in
    let fits = room_on _ _ _ _ _ c.loop-ends.invariant c.gather.new.self c.in-Ok.ensures.answer c.in-Ok.ensures.after in
    told_kept _ _ _ _ _ _ (refused_memory _ _ _ _ _ on _ _ c.in-Err-NoMemory.ensures.same c.in-Err-NoMemory.ensures.err none fits (c.in-Err-NoMemory.ensures.cause.wanted (ap Err c.in-Err-NoMemory.field-0-is)))

pub returns-in-Ok-end_file-clause-answer : goal.returns-in-Ok-end_file-clause-answer
returns-in-Ok-end_file-clause-answer g c =
    let on = going_on _ _ _ _ _ c.loop-ends.invariant c.gather.new.self c.in-Ok.ensures.after (c.in-Ok.ensures.feed ∙ c.if-ends.false) in
    let none = ahead_on _ _ _ _ _ c.loop-ends.invariant c.gather.new.self c.in-Ok.ensures.after (c.in-Ok.ensures.feed ∙ c.if-ends.false) in
    let read = going_read _ _ _ _ _ on _ c.read_on.new.self none c.in-Ok-read_on.ensures.after c.in-Ok-read_on.ensures.came c.in-Ok-read_on.ensures.cause.later c.in-Ok-read_on.ensures.cause.later_wants c.in-Ok-read_on.ensures.writes in
    let ended = c.in-Ok-read_on.ensures.none c.if-not-more.true in
    ended_so _ _ _ _ _ read _ c.in-Ok-end_file.line ended.0 ended.1 c.in-Ok-end_file.ensures.answer c.in-Ok-end_file.ensures.after

pub returns-in-Ok-end_file-clause-told : goal.returns-in-Ok-end_file-clause-told
returns-in-Ok-end_file-clause-told g c =
    let on = going_on _ _ _ _ _ c.loop-ends.invariant c.gather.new.self c.in-Ok.ensures.after (c.in-Ok.ensures.feed ∙ c.if-ends.false) in
    let none = ahead_on _ _ _ _ _ c.loop-ends.invariant c.gather.new.self c.in-Ok.ensures.after (c.in-Ok.ensures.feed ∙ c.if-ends.false) in
    let read = going_read _ _ _ _ _ on _ c.read_on.new.self none c.in-Ok-read_on.ensures.after c.in-Ok-read_on.ensures.came c.in-Ok-read_on.ensures.cause.later c.in-Ok-read_on.ensures.cause.later_wants c.in-Ok-read_on.ensures.writes in
    let ended = c.in-Ok-read_on.ensures.none c.if-not-more.true in
    told_line _ _ _ _ _ c.in-Ok-end_file.line (ended_so _ _ _ _ _ read _ c.in-Ok-end_file.line ended.0 ended.1 c.in-Ok-end_file.ensures.answer c.in-Ok-end_file.ensures.after)

pub returns-in-Err-end_file-clause-answer : goal.returns-in-Err-end_file-clause-answer
returns-in-Err-end_file-clause-answer g c =
    let on = going_on _ _ _ _ _ c.loop-ends.invariant c.gather.new.self c.in-Ok.ensures.after (c.in-Ok.ensures.feed ∙ c.if-ends.false) in
    let none = ahead_on _ _ _ _ _ c.loop-ends.invariant c.gather.new.self c.in-Ok.ensures.after (c.in-Ok.ensures.feed ∙ c.if-ends.false) in
    let read = going_read _ _ _ _ _ on _ c.read_on.new.self none c.in-Ok-read_on.ensures.after c.in-Ok-read_on.ensures.came c.in-Ok-read_on.ensures.cause.later c.in-Ok-read_on.ensures.cause.later_wants c.in-Ok-read_on.ensures.writes in
    let ended = c.in-Ok-read_on.ensures.none c.if-not-more.true in
    refused_end _ _ _ _ _ read _ c.in-Err-end_file.full ended.0 ended.1 c.in-Err-end_file.ensures.answer c.in-Err-end_file.ensures.err

pub returns-in-Err-end_file-clause-told : goal.returns-in-Err-end_file-clause-told
returns-in-Err-end_file-clause-told g c =
    let on = going_on _ _ _ _ _ c.loop-ends.invariant c.gather.new.self c.in-Ok.ensures.after (c.in-Ok.ensures.feed ∙ c.if-ends.false) in
    let none = ahead_on _ _ _ _ _ c.loop-ends.invariant c.gather.new.self c.in-Ok.ensures.after (c.in-Ok.ensures.feed ∙ c.if-ends.false) in
    let read = going_read _ _ _ _ _ on _ c.read_on.new.self none c.in-Ok-read_on.ensures.after c.in-Ok-read_on.ensures.came c.in-Ok-read_on.ensures.cause.later c.in-Ok-read_on.ensures.cause.later_wants c.in-Ok-read_on.ensures.writes in
    let ended = c.in-Ok-read_on.ensures.none c.if-not-more.true in
    told_kept _ _ _ _ _ _ (refused_end _ _ _ _ _ read _ c.in-Err-end_file.full ended.0 ended.1 c.in-Err-end_file.ensures.answer c.in-Err-end_file.ensures.err)

pub loop-ends-smaller : goal.loop-ends-smaller
loop-ends-smaller g c =
    let fits = room_on _ _ _ _ _ c.loop-ends.invariant c.gather.new.self c.in-Ok.ensures.answer c.in-Ok.ensures.after in
    smaller _ _ _ _ _ c.loop-ends.invariant c.gather.new.self c.read_on.new.self c.in-Ok.ensures.after (c.in-Ok.ensures.feed ∙ c.if-ends.false) fits c.in-Ok-read_on.ensures.after (c.in-Ok-read_on.ensures.some c.if-not-more.false)

pub loop-ends-preserved : goal.loop-ends-preserved
loop-ends-preserved g c =
    let on = going_on _ _ _ _ _ c.loop-ends.invariant c.gather.new.self c.in-Ok.ensures.after (c.in-Ok.ensures.feed ∙ c.if-ends.false) in
    let none = ahead_on _ _ _ _ _ c.loop-ends.invariant c.gather.new.self c.in-Ok.ensures.after (c.in-Ok.ensures.feed ∙ c.if-ends.false) in
    let read = going_read _ _ _ _ _ on _ c.read_on.new.self none c.in-Ok-read_on.ensures.after c.in-Ok-read_on.ensures.came c.in-Ok-read_on.ensures.cause.later c.in-Ok-read_on.ensures.cause.later_wants c.in-Ok-read_on.ensures.writes in
    read
