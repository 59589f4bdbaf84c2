use Rattle.std.proofs.Common.{refl, sym, ◌∙◌, arith}
use Rattle.input_state.proofs.state.Input.new.Goals as goal

pub invariant_of-result : goal.invariant_of-result
invariant_of-result c =
    rw (c.in_ok-held.ensures, c.in_ok-files.ensures) (record { lines = tt; room = omega arith; size = sym c.in_ok-buffer.buffer.ok.0 ∙ c.in_ok-buffer.ensures.len; file_size = refl; file_levels = refl })

pub returns : goal.returns
returns c = rw (c.in_ok-held.ensures, c.in_ok-files.ensures) refl
