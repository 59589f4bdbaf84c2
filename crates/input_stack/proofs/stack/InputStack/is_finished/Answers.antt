use Rattle.std.proofs.Common.{arith, ◌≡◌, ◌∙◌, ap, length}
use Rattle.std.proofs.Math.Dec.{ltb}
use Rattle.input_stack.specs.View.{innermost}
use Rattle.input_stack.specs.Wholes.{whole, own}
use Rattle.input_stack.proofs.Tops.{top_level, top_finished, none_finished}
use Rattle.input_stack.proofs.Wholes.{under, top_whole, read_of, levels_count}
use Rattle.input_stack.proofs.stack.InputStack.is_finished.Goals as goal

pub is_finished-requires : goal.is_finished-requires
is_finished-requires c =
    let s = c.args.self.now in
    let l = c.index.result.now in
    let n = c.len-count.result in
    let len : n ≡ length s.levels.items = omega (arith, c.len-count.ensures, s.levels.ok) in
    let some : n ≡ 0 → ⊥ = λ zero. omega (arith, zero, c.if-count-gt0.true) in
    read_of c.args.lists.now (own s.arguments.items l) l (top_level c.args.lists.now (innermost s) (under s n l len some c.index.ensures) (whole (own s.arguments.items l) l) (top_whole s n l len some c.index.ensures) c.requires.read)

pub returns-then-count-gt0 : goal.returns-then-count-gt0
returns-then-count-gt0 c =
    let s = c.args.self.now in
    let l = c.index.result.now in
    let n = c.len-count.result in
    let len : n ≡ length s.levels.items = omega (arith, c.len-count.ensures, s.levels.ok) in
    let some : n ≡ 0 → ⊥ = λ zero. omega (arith, zero, c.if-count-gt0.true) in
    top_finished c.args.lists.now (innermost s) (under s n l len some c.index.ensures) (whole (own s.arguments.items l) l) c.is_finished.result (top_whole s n l len some c.index.ensures) (c.is_finished.ensures (own s.arguments.items l))

pub returns-else-count-gt0 : goal.returns-else-count-gt0
returns-else-count-gt0 c =
    let s = c.args.self.now in
    let zero : c.len-count.result ≡ 0 = omega (arith, c.if-count-gt0.false) in
    ap (ltb 0) zero ∙ none_finished c.args.lists.now (innermost s) (omega (arith, c.len-count.ensures, s.levels.ok, zero, levels_count s))
