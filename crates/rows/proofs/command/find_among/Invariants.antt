-- No row so far is that of the number.
use Rattle.std.proofs.Common.{◌≡◌, drop}
use Rattle.rows.specs.Table.{row_among}
use Rattle.rows.proofs.command.find_among.Given as goal

abbrev pub invariant-loop-row : goal.invariant-loop-row
invariant-loop-row l = row_among l.number l.rows ≡ row_among l.number (drop l.row-index l.rows)
