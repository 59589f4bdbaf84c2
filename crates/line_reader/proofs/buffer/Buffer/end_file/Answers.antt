use Rattle.std.proofs.Common.{◌≡◌, ◌≤◌, ℕ, ◌+◌, ◌-◌, length, length-drop, ap, sym, arith, ◌∙◌}
use Rattle.line_reader.specs.OpenLines.{used, refusal}
use Rattle.line_reader.proofs.Gathering.{is_none}
use Rattle.line_reader.proofs.Views.{room, empty_of, length_tail}
use Rattle.line_reader.proofs.buffer.Buffer.end_file.Goals as goal

pub returns-then-count-eq0-clause-answer : goal.returns-then-count-eq0-clause-answer
returns-then-count-eq0-clause-answer c =
    empty_of c.args.self.now.tail (omega (arith, length_tail _ _ _ _ _ _ _ _ _ _ _ c.self.view_is c.self.invariant, c.len.ensures, c.if-count-eq0.true))

pub returns-in-Some-clause-answer : goal.returns-in-Some-clause-answer
returns-in-Some-clause-answer c =
    let b = c.args.self.now in
    let size : length b.tail ≡ c.len.result - c.self.inside.behind = omega (arith, length_tail _ _ _ _ _ _ _ _ _ _ _ c.self.view_is c.self.invariant, c.len.ensures) in
    ap (λ (n : ℕ). refusal b (n + 1)) size ∙ sym c.refusal.ensures ∙ c.in-Some.is

pub open_line-requires-clause-room : goal.open_line-requires-clause-room
open_line-requires-clause-room c =
    let b = c.args.self.now in
    let fits : used b + (c.len.result - c.self.inside.behind + 1) ≤ b.buffer_size = room b _ (λ full e. c.in_default.not-Some full (c.refusal.ensures ∙ e)) in
    omega (arith, length-drop {A = ℕ}, fits, c.trimmed_len-line.ensures.within, c.deref.ensures.len, c.len.ensures)

pub returns-clause-answer : goal.returns-clause-answer
returns-clause-answer c =
    let b = c.args.self.now in
    let size : length b.tail ≡ c.len.result - c.self.inside.behind = omega (arith, length_tail _ _ _ _ _ _ _ _ _ _ _ c.self.view_is c.self.invariant, c.len.ensures) in (
      (λ e. absurd (omega (arith, size, ap length e, c.if-count-eq0.false))),
      ap (λ (n : ℕ). refusal b (n + 1)) size ∙ sym c.refusal.ensures ∙ is_none _ c.in_default.not-Some,
    )
