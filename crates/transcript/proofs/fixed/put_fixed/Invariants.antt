use Rattle.std.proofs.Common.{◌≡◌, ◌+◌, ◌++◌, length, take}
use Rattle.token_show.specs.Bytes.{all_printed}
use Rattle.transcript.proofs.fixed.put_fixed.Given as goal

abbrev pub invariant-loop-c : goal.invariant-loop-c
invariant-loop-c l = record {
  text : l.text ≡ l.fn.text ++ all_printed l.newline (take l.c-index l.characters);
  room : length l.text ≡ length l.fn.text + l.c-index;
}
