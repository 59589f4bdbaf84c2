use Rattle.std.proofs.Common.{◌≡◌, ◌≤◌, length, take, drop, vec_capacity}
use Rattle.token_lists.specs.Accounts.{Moves, Keeps, none, cells_hold}
use Rattle.input_stack.specs.Lasting.{Lasts}
use Rattle.input_stack.proofs.release.let_cells_go.Given as goal

abbrev pub invariant-loop-cells : goal.invariant-loop-cells
invariant-loop-cells l = record { within : l.left ≤ length l.cells.items; items : l.cells.items ≡ take (length l.cells.items) l.fn.cells.items; capacity : vec_capacity l.cells ≡ vec_capacity l.fn.cells; account : Moves l.fn.lists l.lists (cells_hold (drop (length l.cells.items) l.fn.cells.items)) none; kept : Keeps l.fn.lists l.lists (cells_hold (drop (length l.cells.items) l.fn.cells.items)); lasting : Lasts l.fn.lists l.lists }

abbrev pub decreases-loop-cells : goal.decreases-loop-cells
decreases-loop-cells l = length l.cells.items
