use Rattle.std.proofs.Common.{◌≡◌, ◌+◌, None, refl, ap, sym, arith, length, take}
use Rattle.std.proofs.lemmas.List.{length-append, length-take-le}
use Rattle.input_stack.specs.WholeLevel as level
use Rattle.input_stack.proofs.Wholes.{call_on_top, call_counts}
use Rattle.input_stack.proofs.Tops.{fits_more}
use Rattle.input_stack.proofs.stack.InputStack.put_call.Goals as goal

pub overflow_cast-count : goal.overflow_cast-count
overflow_cast-count c = omega (arith, c.requires.filled.few, c.args.args.nine)

pub push_onto-requires-clause-filled : goal.push_onto-requires-clause-filled
push_onto-requires-clause-filled c = c.requires.filled

pub push_onto-requires-clause-room : goal.push_onto-requires-clause-room
push_onto-requires-clause-room c = omega (arith, c.requires.few, c.requires.fits.parameter_room)

pub push_reserved-requires : goal.push_reserved-requires
push_reserved-requires c =
    let s = c.args.self.now in
    omega (arith, s.levels.ok, c.requires.room, c.requires.fits.room)

pub returns-clause-list : goal.returns-clause-list
returns-clause-list c =
    let s = c.args.self.now in
    let a = c.args.args in
    let mine = take a.count a.lists in
    let count : a.count ≡ length mine = sym (length-take-le a.count a.lists (omega (arith, c.requires.filled.few, a.nine))) in
    call_on_top s mine c.push_onto.new.stack.items c.push_reserved.new.self.items c.args.body a.count c.new.result c.new.ensures c.push_onto.ensures.items c.push_reserved.ensures.items count

pub returns-clause-fits : goal.returns-clause-fits
returns-clause-fits c =
    let s = c.args.self.now in
    let a = c.args.args in
    let mine = take a.count a.lists in
    let count : a.count ≡ length mine = sym (length-take-le a.count a.lists (omega (arith, c.requires.filled.few, a.nine))) in
    let e = call_on_top s mine c.push_onto.new.stack.items c.push_reserved.new.self.items c.args.body a.count c.new.result c.new.ensures c.push_onto.ensures.items c.push_reserved.ensures.items count in
    let more : length c.push_onto.new.stack.items ≡ length s.arguments.items + a.count = omega (arith, ap length c.push_onto.ensures.items, length-append s.arguments.items mine, count) in
    fits_more s _ (level.Call (record { body = c.args.body; argument = None; args = mine })) c.requires.fits e c.requires.room (omega (arith, c.requires.few, more)) refl refl (call_counts s mine c.push_onto.new.stack.items c.push_reserved.new.self.items c.args.body a.count c.new.result c.new.ensures c.push_onto.ensures.items c.push_reserved.ensures.items count c.requires.fits.counts) (record { size = refl; parameter_size = refl; capacity = c.push_reserved.ensures.capacity; parameter_capacity = c.push_onto.ensures.capacity })

pub returns-clause-sizes : goal.returns-clause-sizes
returns-clause-sizes c = record { size = refl; parameter_size = refl; capacity = c.push_reserved.ensures.capacity; parameter_capacity = c.push_onto.ensures.capacity }
