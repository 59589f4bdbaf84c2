use Rattle.std.proofs.Common.{◌≡◌, ℕ, ◌+◌, ◌-◌, List, length, take, drop, sym, ap, ap₂, ◌∙◌, arith}
use Rattle.input_state.specs.Stored.{Stored}
use Rattle.input_state.proofs.Rooms.{lines_end}
use Rattle.input_state.proofs.state.Input.spelt.Goals as goal

pub slice_bounds-result-end : goal.slice_bounds-result-end
slice_bounds-result-end c =
    let i = c.self.inside in
    let t = c.self.invariant in
    let lines = lines_end i.held i.buffer.items i.buffer.items i.files t c.args.self.now c.self.view_is in
    omega (arith, c.requires, lines, c.open_lines-lines.ensures.is, ap length c.deref.ensures.value, t.size, ap (λ (v : Stored). v.sizes.buffer_size) c.self.view_is)

pub returns : goal.returns
returns c =
    let i = c.self.inside in
    let s = c.args.self.now in
    let lines = lines_end i.held i.buffer.items i.buffer.items i.files c.self.invariant s c.self.view_is in
    let whole : c.open_lines-lines.result + c.args.n - c.open_lines-lines.result ≡ c.args.n = omega arith in
    ap (λ (k : ℕ). take k (drop c.open_lines-lines.result c.deref.result.now)) whole
    ∙ ap₂ (λ (k : ℕ) (b : List ℕ). take c.args.n (drop k b)) (c.open_lines-lines.ensures.is ∙ sym lines) (c.deref.ensures.value ∙ ap (λ (v : Stored). v.buffer) c.self.view_is)
