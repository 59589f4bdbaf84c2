use Rattle.std.proofs.Common.{drop, arith}
use Rattle.token_lists.specs.Accounts.{cells_hold}
use Rattle.macro_args.specs.Args.{args_hold}
use Rattle.macro_args.proofs.Releases.{IsLeft, left_all, left_next, left_held, split_at, left_none}
use Rattle.macro_args.proofs.args.Args.release.Goals as goal
use Rattle.macro_args.proofs.args.Args.release.Goals.{After-release_cell, After-release_cell-2, After-release_cell-3, After-release_cell-4, After-release_cell-5, After-release_cell-6, After-release_cell-7, After-release_cell-8, After-release_cell-9}

left_1 : (c : After-release_cell) → IsLeft c.args.lists.now c.release_cell.new.lists (args_hold c.args.self) (cells_hold (drop 1 c.args.self.lists))
left_1 c = left_next c.args.lists.now c.args.lists.now c.release_cell.new.lists (args_hold c.args.self) _ _ (cells_hold (drop 1 c.args.self.lists)) (left_all c.args.lists.now (args_hold c.args.self)) (split_at c.args.self.lists 0 (omega (arith, c.args.self.nine))) c.release_cell.ensures.account c.release_cell.ensures.kept

left_2 : (c : After-release_cell-2) → IsLeft c.args.lists.now c.release_cell-2.new.lists (args_hold c.args.self) (cells_hold (drop 2 c.args.self.lists))
left_2 c = left_next c.args.lists.now c.release_cell.new.lists c.release_cell-2.new.lists (args_hold c.args.self) _ _ (cells_hold (drop 2 c.args.self.lists)) (left_1 c.before.before) (split_at c.args.self.lists 1 (omega (arith, c.args.self.nine))) c.release_cell-2.ensures.account c.release_cell-2.ensures.kept

left_3 : (c : After-release_cell-3) → IsLeft c.args.lists.now c.release_cell-3.new.lists (args_hold c.args.self) (cells_hold (drop 3 c.args.self.lists))
left_3 c = left_next c.args.lists.now c.release_cell-2.new.lists c.release_cell-3.new.lists (args_hold c.args.self) _ _ (cells_hold (drop 3 c.args.self.lists)) (left_2 c.before.before) (split_at c.args.self.lists 2 (omega (arith, c.args.self.nine))) c.release_cell-3.ensures.account c.release_cell-3.ensures.kept

left_4 : (c : After-release_cell-4) → IsLeft c.args.lists.now c.release_cell-4.new.lists (args_hold c.args.self) (cells_hold (drop 4 c.args.self.lists))
left_4 c = left_next c.args.lists.now c.release_cell-3.new.lists c.release_cell-4.new.lists (args_hold c.args.self) _ _ (cells_hold (drop 4 c.args.self.lists)) (left_3 c.before.before) (split_at c.args.self.lists 3 (omega (arith, c.args.self.nine))) c.release_cell-4.ensures.account c.release_cell-4.ensures.kept

left_5 : (c : After-release_cell-5) → IsLeft c.args.lists.now c.release_cell-5.new.lists (args_hold c.args.self) (cells_hold (drop 5 c.args.self.lists))
left_5 c = left_next c.args.lists.now c.release_cell-4.new.lists c.release_cell-5.new.lists (args_hold c.args.self) _ _ (cells_hold (drop 5 c.args.self.lists)) (left_4 c.before.before) (split_at c.args.self.lists 4 (omega (arith, c.args.self.nine))) c.release_cell-5.ensures.account c.release_cell-5.ensures.kept

left_6 : (c : After-release_cell-6) → IsLeft c.args.lists.now c.release_cell-6.new.lists (args_hold c.args.self) (cells_hold (drop 6 c.args.self.lists))
left_6 c = left_next c.args.lists.now c.release_cell-5.new.lists c.release_cell-6.new.lists (args_hold c.args.self) _ _ (cells_hold (drop 6 c.args.self.lists)) (left_5 c.before.before) (split_at c.args.self.lists 5 (omega (arith, c.args.self.nine))) c.release_cell-6.ensures.account c.release_cell-6.ensures.kept

left_7 : (c : After-release_cell-7) → IsLeft c.args.lists.now c.release_cell-7.new.lists (args_hold c.args.self) (cells_hold (drop 7 c.args.self.lists))
left_7 c = left_next c.args.lists.now c.release_cell-6.new.lists c.release_cell-7.new.lists (args_hold c.args.self) _ _ (cells_hold (drop 7 c.args.self.lists)) (left_6 c.before.before) (split_at c.args.self.lists 6 (omega (arith, c.args.self.nine))) c.release_cell-7.ensures.account c.release_cell-7.ensures.kept

left_8 : (c : After-release_cell-8) → IsLeft c.args.lists.now c.release_cell-8.new.lists (args_hold c.args.self) (cells_hold (drop 8 c.args.self.lists))
left_8 c = left_next c.args.lists.now c.release_cell-7.new.lists c.release_cell-8.new.lists (args_hold c.args.self) _ _ (cells_hold (drop 8 c.args.self.lists)) (left_7 c.before.before) (split_at c.args.self.lists 7 (omega (arith, c.args.self.nine))) c.release_cell-8.ensures.account c.release_cell-8.ensures.kept

left_9 : (c : After-release_cell-9) → IsLeft c.args.lists.now c.release_cell-9.new.lists (args_hold c.args.self) (cells_hold (drop 9 c.args.self.lists))
left_9 c = left_next c.args.lists.now c.release_cell-8.new.lists c.release_cell-9.new.lists (args_hold c.args.self) _ _ (cells_hold (drop 9 c.args.self.lists)) (left_8 c.before.before) (split_at c.args.self.lists 8 (omega (arith, c.args.self.nine))) c.release_cell-9.ensures.account c.release_cell-9.ensures.kept

pub release_cell-requires-5 : goal.release_cell-requires-5
release_cell-requires-5 c = left_held c.args.lists.now c.release_cell-4.new.lists (args_hold c.args.self) (cells_hold (drop 4 c.args.self.lists)) (cells_hold (drop 5 c.args.self.lists)) _ c.requires (left_4 c.before) (split_at c.args.self.lists 4 (omega (arith, c.args.self.nine)))

pub release_cell-requires-6 : goal.release_cell-requires-6
release_cell-requires-6 c = left_held c.args.lists.now c.release_cell-5.new.lists (args_hold c.args.self) (cells_hold (drop 5 c.args.self.lists)) (cells_hold (drop 6 c.args.self.lists)) _ c.requires (left_5 c.before) (split_at c.args.self.lists 5 (omega (arith, c.args.self.nine)))

pub release_cell-requires-7 : goal.release_cell-requires-7
release_cell-requires-7 c = left_held c.args.lists.now c.release_cell-6.new.lists (args_hold c.args.self) (cells_hold (drop 6 c.args.self.lists)) (cells_hold (drop 7 c.args.self.lists)) _ c.requires (left_6 c.before) (split_at c.args.self.lists 6 (omega (arith, c.args.self.nine)))

pub release_cell-requires-8 : goal.release_cell-requires-8
release_cell-requires-8 c = left_held c.args.lists.now c.release_cell-7.new.lists (args_hold c.args.self) (cells_hold (drop 7 c.args.self.lists)) (cells_hold (drop 8 c.args.self.lists)) _ c.requires (left_7 c.before) (split_at c.args.self.lists 7 (omega (arith, c.args.self.nine)))

pub release_cell-requires-9 : goal.release_cell-requires-9
release_cell-requires-9 c = left_held c.args.lists.now c.release_cell-8.new.lists (args_hold c.args.self) (cells_hold (drop 8 c.args.self.lists)) (cells_hold (drop 9 c.args.self.lists)) _ c.requires (left_8 c.before) (split_at c.args.self.lists 8 (omega (arith, c.args.self.nine)))

pub returns-clause-account : goal.returns-clause-account
returns-clause-account c = left_none c.args.lists.now c.release_cell-9.new.lists (args_hold c.args.self) c.args.self.lists c.args.self.nine (left_9 c)

pub returns-clause-kept : goal.returns-clause-kept
returns-clause-kept c = (left_9 c).kept
