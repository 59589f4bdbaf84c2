use Rattle.std.proofs.Common.{take}
use Rattle.line_reader.specs.Readers.{came_first}
use Rattle.plain_machine.specs.Extended.{Rests}
use Rattle.stomach.specs.Ahead.{IsGiven}
use Rattle.stomach.proofs.GivenBytes.{is_given_none}
use Rattle.stomach.proofs.Known.{given_first, given_line}
use Rattle.stomach.proofs.Reading.{reads_left}
use Rattle.stomach.proofs.ahead.read_window.Goals as goal

pub returns-in_err-count-clause-came : goal.returns-in_err-count-clause-came
returns-in_err-count-clause-came g c =
    let i = c.in_err-count.ensures in
    let e = c.args.engine.now in
    reads_left c.args.readers.now.readers c.read.new.self.readers _ _ (λ (all left : Rests). IsGiven all left e e) (λ left. left) (λ left. is_given_none e left) i.err.told i.err.may i.open i.knows i.file i.cause.later i.writes i.cause.later_wants

pub returns-then-has_next-clause-came : goal.returns-then-has_next-clause-came
returns-then-has_next-clause-came g c =
    let i = c.in_ok-count.ensures in
    reads_left c.args.readers.now.readers c.read.new.self.readers _ _ (λ (all left : Rests). IsGiven all left c.args.engine.now _) (came_first (take c.in_ok-count.count c.read.new.window))
    (λ left. given_first c.args.engine.now _ left c.requires.needs.lacks c.add_first_bytes.new.self (c.if-has_next.ensures) c.add_first_bytes.ensures) i.told i.may i.open i.knows i.file i.cause.later i.writes i.cause.later_wants

pub returns-else-has_next-clause-came : goal.returns-else-has_next-clause-came
returns-else-has_next-clause-came g c =
    let i = c.in_ok-count.ensures in
    reads_left c.args.readers.now.readers c.read.new.self.readers _ _ (λ (all left : Rests). IsGiven all left c.args.engine.now _) (came_first (take c.in_ok-count.count c.read.new.window))
    (λ left. given_line c.args.engine.now _ left c.requires.needs.lacks c.add_bytes.new.self (c.if-has_next.ensures) c.add_bytes.ensures) i.told i.may i.open i.knows i.file i.cause.later i.writes i.cause.later_wants
