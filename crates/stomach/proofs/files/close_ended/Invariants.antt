use Rattle.std.proofs.Common.{◌≡◌, ◌≤◌, ◌-◌, length}
use Rattle.plain_tokens.specs.Tables.{open_files}
use Rattle.plain_machine.specs.Extended.{Rests}
use Rattle.line_reader.specs.Readers.{AreOpen}
use Rattle.stomach.specs.Files.{AreGone}
use Rattle.stomach.specs.Read.{ReadsTo}
use Rattle.stomach.proofs.files.close_ended.Given as goal

abbrev pub invariant-loop-readers : goal.invariant-loop-readers
invariant-loop-readers g l =
    (((length l.readers.readers ≤ length l.fn.readers.readers) × (l.readers.most ≡ l.fn.readers.most)) × (AreOpen l.readers.readers (g.F.Files.told l.files) × (open_files l.fn.engine.input.pending ≤ length l.fn.readers.readers → open_files l.fn.engine.input.pending ≤ length l.readers.readers)))
    × ReadsTo l.fn.readers.readers l.readers.readers (g.F.Files.told l.fn.files) (g.F.Files.told l.files) (λ (all left : Rests). AreGone all left (length l.fn.readers.readers - length l.readers.readers))

abbrev pub decreases-loop-readers : goal.decreases-loop-readers
decreases-loop-readers g l = length l.readers.readers
