use Rattle.std.proofs.Common.{arith}
use Rattle.line_reader.proofs.Views.{sound_empty, empty_is}
use Rattle.line_reader.proofs.buffer.Buffer.new.Goals as goal

pub invariant_of-result : goal.invariant_of-result
invariant_of-result c =
    rw (c.in_ok-bytes.ensures.items, c.in_ok-starts.ensures.items, c.in_ok-windows.ensures.items)
    (sound_empty _ _ _ _ _ (omega arith) c.in_ok-bytes.ensures.capacity c.in_ok-starts.ensures.capacity c.in_ok-windows.ensures.capacity)

pub returns : goal.returns
returns c = rw (c.in_ok-bytes.ensures.items, c.in_ok-starts.ensures.items, c.in_ok-windows.ensures.items) (empty_is _ _)
