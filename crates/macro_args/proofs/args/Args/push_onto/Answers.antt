use Rattle.std.proofs.Common.{◌≡◌, ◌++◌, ◌∷◌, [], ◌<◌, ◌∙◌, sym, ap, refl, arith, length, take, ℕ, List, Option}
use Rattle.std.proofs.lemmas.List.{append-nil, length-append, length-set, length-take}
use Rattle.token_lists.specs.declared.ListRef.{ListRef}
use Rattle.macro_args.proofs.Moved.{moved_on, gone_at, left_at, none_left}
use Rattle.macro_args.proofs.args.Args.push_onto.Goals as goal

pub loop-place-init : goal.loop-place-init
loop-place-init c = record { within = omega arith; items = sym (append-nil _); capacity = refl; nine = c.args.self.nine; gone = λ i l. absurd (omega (arith, l)); left = λ i l. refl }

pub push_reserved-requires : goal.push_reserved-requires
push_reserved-requires c =
    let i = c.loop-place.invariant in
    let n = c.loop-place.place in
    omega (arith, c.loop-place.stack.ok, ap length i.items, length-append c.args.stack.now.items (take n c.args.self.lists), length-take n c.args.self.lists, i.capacity, c.requires.room, c.loop-place-test.true)

pub loop-place-preserved : goal.loop-place-preserved
loop-place-preserved c =
    let i = c.loop-place.invariant in
    let n = c.loop-place.place in
    let inside : n < length c.args.self.lists = omega (arith, c.loop-place-test.true, c.requires.filled.few, c.args.self.nine) in
    record {
      within = omega (arith, c.loop-place-test.true);
      items = c.push_reserved.ensures.items ∙ ap (λ (xs : List (Option ListRef)). xs ++ c.replace-cell.result ∷ []) i.items ∙ moved_on c.args.stack.now.items c.args.self.lists n c.replace-cell.result inside (c.replace-cell.ensures.value ∙ i.left n (omega arith));
      capacity = c.push_reserved.ensures.capacity ∙ i.capacity;
      nine = length-set c.loop-place.lists n c.replace-cell.new.dest ∙ i.nine;
      gone = gone_at c.loop-place.lists n c.replace-cell.new.dest (omega (arith, inside, i.nine, c.args.self.nine)) c.replace-cell.ensures.after i.gone;
      left = left_at c.loop-place.lists c.args.self.lists n c.replace-cell.new.dest i.left;
    }

pub drop_empty_cells-requires : goal.drop_empty_cells-requires
drop_empty_cells-requires c =
    let i = c.loop-place.invariant in
    none_left c.loop-place.lists c.args.self.lists c.loop-place.place c.args.self.count (omega (arith, c.loop-place-test.false)) i.gone i.left c.requires.filled.free

pub returns-clause-items : goal.returns-clause-items
returns-clause-items c = c.loop-place.invariant.items ∙ ap (λ (k : ℕ). c.args.stack.now.items ++ take k c.args.self.lists) (omega (arith, c.loop-place.invariant.within, c.loop-place-test.false))

pub returns-clause-capacity : goal.returns-clause-capacity
returns-clause-capacity c = c.loop-place.invariant.capacity
