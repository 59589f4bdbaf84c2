use Rattle.std.proofs.Common.{length, ◌≡◌, ◌≤◌, take}
use Rattle.plain_tokens.specs.Lines.{trimmed}
use Rattle.input_state.proofs.lines.trimmed_len.Given as goal

abbrev pub invariant-loop-n : goal.invariant-loop-n
invariant-loop-n l = (l.n ≤ length l.line) × (trimmed l.line ≡ trimmed (take l.n l.line))

abbrev pub decreases-loop-n : goal.decreases-loop-n
decreases-loop-n l = l.n
