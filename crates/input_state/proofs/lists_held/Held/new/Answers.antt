use Rattle.plain_tokens.specs.Meanings.{is_listed}
use Rattle.input_state.proofs.Sounds.{new_sound, new_view}
use Rattle.input_state.proofs.lists_held.Held.new.Goals as goal

pub invariant_of-result : goal.invariant_of-result
invariant_of-result c =
    let e = c.in-Ok-new.ensures in
    let m = c.in-Ok.ensures in
    new_sound (is_listed c.args.known.now) c.in_ok-lists.lists c.in-Ok-new.stack c.in_ok-builds.builds.items c.in-Ok.table c.args.sizes.now _ c.in_ok-lists.ensures e.empty (e.stands c.in_ok-lists.lists) e.size e.parameter_size c.in_ok-builds.ensures.items c.in_ok-builds.ensures.capacity c.requires m.first m.free

pub returns-in-Ok-new : goal.returns-in-Ok-new
returns-in-Ok-new c =
    new_view (is_listed c.args.known.now) c.in_ok-lists.lists c.in-Ok-new.stack c.in_ok-builds.builds.items c.in-Ok.table c.args.sizes.now c.in_ok-lists.ensures c.in-Ok-new.ensures.empty c.in_ok-builds.ensures.items c.in-Ok.ensures.first
