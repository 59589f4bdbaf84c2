use Rattle.std.proofs.Common.{◌≡◌, ◌++◌}
use Rattle.arrayvec.specs.ArrayVec.{array_vec_len}
use Rattle.transcript.proofs.writing.first_bytes.Given as goal

abbrev pub invariant-loop-place : goal.invariant-loop-place
invariant-loop-place l = (l.fn.said ≡ l.bytes.items ++ l.said) × (array_vec_len l.bytes ≡ l._place)
