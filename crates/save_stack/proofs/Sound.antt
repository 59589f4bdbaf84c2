-- What soundness says of the numbers of items.
use Rattle.std.proofs.Common.{◌≡◌, ℕ, ◌+◌, ◌≤◌, List, length, Option, arith}
use Rattle.save_stack.specs.declared.Saved.{Saved}
use Rattle.save_stack.specs.Groups.{used}
use Rattle.save_stack.specs.Table.{stack_of, split, IsSound}
use Rattle.save_stack.proofs.Split.{cells_held}
use Rattle.tex_defs.specs.declared.Token.{Token}
use Rattle.save_stack.specs.declared.GroupKind.{GroupKind}

pub record Counts {V : Type 0} (values : List V) (levels : List ℕ) (saved : List (Option (Saved V))) (after : List (Option Token)) (kinds : List GroupKind) (size most : ℕ) : Type 0 where
  pub saved_marks : length kinds ≤ length saved
  pub after_marks : length kinds ≤ length after
  pub total : length saved + length after ≡ used (stack_of values levels saved after kinds size most) + length kinds
  pub within : used (stack_of values levels saved after kinds size most) ≤ size
  pub saved_within : length saved ≤ size

pub counts : {V : Type 0} (values : List V) (levels : List ℕ) (saved : List (Option (Saved V))) (after : List (Option Token)) (kinds : List GroupKind) (size most a b c rv rl : ℕ) → IsSound values levels saved after kinds size most a b c rv rl → Counts values levels saved after kinds size most
counts values levels saved after kinds size most a b c rv rl s =
    let x = cells_held (split saved) in
    let y = cells_held (split after) in
    record {
      saved_marks = omega (arith, x, s.groups, s.saved_cells);
      after_marks = omega (arith, y, s.ends, s.after_cells);
      total = omega (arith, x, y, s.groups, s.ends, s.saved_cells, s.after_cells);
      within = omega (arith, x, y, s.groups, s.ends, s.saved_cells, s.after_cells, s.fits);
      saved_within = omega (arith, x, y, s.groups, s.ends, s.saved_cells, s.after_cells, s.fits);
    }
