use Rattle.std.proofs.Common.{◌≡◌, ◌-◌, ◌∷◌, ◌∙◌, ap, sym, arith, length, take, drop, List, Option}
use Rattle.token_lists.specs.declared.ListRef.{ListRef}
use Rattle.input_stack.specs.View.{innermost}
use Rattle.input_stack.specs.Wholes.{whole, own}
use Rattle.input_stack.proofs.AtOnce.{stack_at_hand, top_at_hand, none_at_hand}
use Rattle.input_stack.proofs.Wholes.{under, top_whole, top_within, slice_own, levels_count}
use Rattle.input_stack.proofs.Tops.{top_level}
use Rattle.input_stack.proofs.stack.InputStack.has_item.Goals as goal

pub first_own-first-requires : goal.first_own-first-requires
first_own-first-requires c =
    let s = c.args.self.now in
    let n = c.len-count.result in
    let len : n ≡ length s.levels.items = omega (arith, c.len-count.ensures, s.levels.ok) in
    omega (arith, c.len.ensures, s.arguments.ok, top_within s n c.index-level.result.now len c.if-count-eq0.false c.index-level.ensures c.requires.fits)

pub has_item-requires : goal.has_item-requires
has_item-requires c =
    let s = c.args.self.now in
    let x = c.index-level.result.now in
    let n = c.len-count.result in
    let len : n ≡ length s.levels.items = omega (arith, c.len-count.ensures, s.levels.ok) in
    let args = take (length c.deref.result.now - c.first_own-first.result) (drop c.first_own-first.result c.deref.result.now) in
    let ls = under s n x len c.if-count-eq0.false c.index-level.ensures in
    let mine : args ≡ own s.arguments.items x = slice_own s x c.deref.result.now c.first_own-first.result c.len.result c.deref.ensures.value (omega (arith, c.len.ensures, s.arguments.ok)) c.first_own-first.ensures in
    let e = top_whole s n x len c.if-count-eq0.false c.index-level.ensures ∙ ap (λ (xs : List (Option ListRef)). whole xs x ∷ ls) (sym mine) in
    top_level c.args.lists.now (innermost s) ls (whole args x) e c.requires.read

pub returns-then-count-eq0-clause-is : goal.returns-then-count-eq0-clause-is
returns-then-count-eq0-clause-is c =
    let s = c.args.self.now in
    none_at_hand c.args.lists.now (innermost s) (omega (arith, c.len-count.ensures, s.levels.ok, c.if-count-eq0.true, levels_count s))

pub returns-clause-is : goal.returns-clause-is
returns-clause-is c =
    let s = c.args.self.now in
    let x = c.index-level.result.now in
    let n = c.len-count.result in
    let len : n ≡ length s.levels.items = omega (arith, c.len-count.ensures, s.levels.ok) in
    let args = take (length c.deref.result.now - c.first_own-first.result) (drop c.first_own-first.result c.deref.result.now) in
    let ls = under s n x len c.if-count-eq0.false c.index-level.ensures in
    let mine : args ≡ own s.arguments.items x = slice_own s x c.deref.result.now c.first_own-first.result c.len.result c.deref.ensures.value (omega (arith, c.len.ensures, s.arguments.ok)) c.first_own-first.ensures in
    let e = top_whole s n x len c.if-count-eq0.false c.index-level.ensures ∙ ap (λ (xs : List (Option ListRef)). whole xs x ∷ ls) (sym mine) in
    c.has_item.ensures ∙ top_at_hand c.args.lists.now (innermost s) ls (whole args x) e

pub returns-clause-next : goal.returns-clause-next
returns-clause-next c = λ hand.
    let s = c.args.self.now in
    let x = c.index-level.result.now in
    let n = c.len-count.result in
    let len : n ≡ length s.levels.items = omega (arith, c.len-count.ensures, s.levels.ok) in
    let args = take (length c.deref.result.now - c.first_own-first.result) (drop c.first_own-first.result c.deref.result.now) in
    let ls = under s n x len c.if-count-eq0.false c.index-level.ensures in
    let mine : args ≡ own s.arguments.items x = slice_own s x c.deref.result.now c.first_own-first.result c.len.result c.deref.ensures.value (omega (arith, c.len.ensures, s.arguments.ok)) c.first_own-first.ensures in
    let e = top_whole s n x len c.if-count-eq0.false c.index-level.ensures ∙ ap (λ (xs : List (Option ListRef)). whole xs x ∷ ls) (sym mine) in
    stack_at_hand c.args.lists.now (innermost s) ls (whole args x) e (sym c.has_item.ensures ∙ hand)
