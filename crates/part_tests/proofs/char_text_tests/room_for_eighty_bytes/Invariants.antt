use Rattle.std.proofs.Common.{◌≡◌, length}
use Rattle.part_tests.proofs.char_text_tests.room_for_eighty_bytes.Given as goal

abbrev pub invariant-loop-place : goal.invariant-loop-place
invariant-loop-place g l = length l.text ≡ l.place
