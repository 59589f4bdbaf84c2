use Rattle.std.proofs.Common.{◌≡◌, ◌+◌, ◌≤◌, ◌++◌, length}
use Rattle.std.proofs.Common.{[], ◌∷◌}
use Rattle.token_show.specs.Bytes.{all_printed}
use Rattle.transcript.proofs.fixed.put_escape.Given as goal

abbrev pub invariant-loop-byte : goal.invariant-loop-byte
invariant-loop-byte l = record {
  text : l.text ++ l.shown ≡ l.fn.text ++ all_printed l.fn.view.names.newline (l.c ∷ []);
  room : length l.text + length l.shown ≤ length l.fn.text + 4;
}

abbrev pub decreases-loop-byte : goal.decreases-loop-byte
decreases-loop-byte l = length l.shown
