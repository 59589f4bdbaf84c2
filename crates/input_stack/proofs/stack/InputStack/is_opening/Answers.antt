use Rattle.std.proofs.Common.{◌≡◌, ◌-◌, ◌<◌, ◌∙◌, ap, sym, arith, length, take, drop, List, Option}
use Rattle.token_lists.specs.declared.ListRef.{ListRef}
use Rattle.input_stack.specs.Wholes.{whole}
use Rattle.input_stack.specs.Puts.{Item, next_item}
use Rattle.input_stack.specs.CallViews.{met, is_opening}
use Rattle.input_stack.specs.WholeLevel.{WholeLevel}
use Rattle.input_stack.specs.View.{pending_in}
use Rattle.input_stack.specs.Stacks.{IsLevel}
use Rattle.std.specs.Prelude.{All}
use Rattle.std.proofs.Common.{subst}
use Rattle.input_stack.proofs.Ready.{within_left, next_left, top_left, every_left, left_every, none_opens, ready_level, ready_under}
use Rattle.input_stack.proofs.Gaps.{top_gaps, top_next}
use Rattle.input_stack.proofs.LevelItems.{opening_some, opening_none}
use Rattle.input_stack.proofs.stack.InputStack.is_opening.Goals as goal

pub first_own-first-requires : goal.first_own-first-requires
first_own-first-requires c = within_left c.args.self.now c.loop-at.at c.loop-at.count c.index-level.result.now c.loop-at.invariant.standing (omega (arith, c.loop-at-test.true)) c.index-level.ensures

pub next_opens-requires : goal.next_opens-requires
next_opens-requires c =
    let s = c.args.self.now in
    let t = c.args.lists.now in
    let x = c.index-level.result.now in
    let n = c.loop-at.at in
    let k = c.loop-at.count in
    let some : 0 < c.loop-at.at = omega (arith, c.loop-at-test.true) in
    let first = c.first_own-first.result in
    let args = take (k - first) (drop first c.deref.result.now) in
    let l = whole args x in
    let is = top_left s n k x c.loop-at.invariant.standing some c.index-level.ensures first c.first_own-first.ensures args (ap (λ (xs : List (Option ListRef)). take (k - first) (drop first xs)) c.deref.ensures.value) in
    ready_level t l _ _ is c.loop-at.invariant.levels

pub returns-in-Some : goal.returns-in-Some
returns-in-Some c =
    let s = c.args.self.now in
    let t = c.args.lists.now in
    let x = c.index-level.result.now in
    let n = c.loop-at.at in
    let k = c.loop-at.count in
    let some : 0 < c.loop-at.at = omega (arith, c.loop-at-test.true) in
    let first = c.first_own-first.result in
    let args = take (k - first) (drop first c.deref.result.now) in
    let l = whole args x in
    let is = top_left s n k x c.loop-at.invariant.standing some c.index-level.ensures first c.first_own-first.ensures args (ap (λ (xs : List (Option ListRef)). take (k - first) (drop first xs)) c.deref.ensures.value) in
    let h = opening_some t l c.next_opens.result c.in-Some.opens c.in-Some.is c.next_opens.ensures in
    h.1 ∙ ap (λ (o : Option Item). is_opening (met o)) (sym (top_next t _ _ l is h.0) ∙ c.loop-at.invariant.next)

pub loop-at-init : goal.loop-at-init
loop-at-init c =
    let s = c.args.self.now in
    let t = c.args.lists.now in
    let a : c.len-at.result ≡ length s.levels.items = omega (arith, c.len-at.ensures, s.levels.ok) in
    let b : c.len-count.result ≡ length s.arguments.items = omega (arith, c.len-count.ensures, s.arguments.ok) in
    let e = left_every s c.len-at.result c.len-count.result a b in
    let f = every_left s c.len-at.result c.len-count.result a b c.requires.fits in
    record {
      standing = f;
      next = ap (λ (ls : List WholeLevel). next_item (pending_in t ls).puts) e;
      levels = subst (λ (ls : List WholeLevel). All (IsLevel t) ls) (sym e) c.requires.read.levels;
    }

pub loop-at-preserved : goal.loop-at-preserved
loop-at-preserved c =
    let s = c.args.self.now in
    let t = c.args.lists.now in
    let x = c.index-level.result.now in
    let n = c.loop-at.at in
    let k = c.loop-at.count in
    let some : 0 < c.loop-at.at = omega (arith, c.loop-at-test.true) in
    let first = c.first_own-first.result in
    let args = take (k - first) (drop first c.deref.result.now) in
    let l = whole args x in
    let is = top_left s n k x c.loop-at.invariant.standing some c.index-level.ensures first c.first_own-first.ensures args (ap (λ (xs : List (Option ListRef)). take (k - first) (drop first xs)) c.deref.ensures.value) in
    record {
      standing = next_left s n k x c.loop-at.invariant.standing some c.index-level.ensures first c.first_own-first.ensures;
      next = (top_gaps t _ _ l is (opening_none t l c.next_opens.result c.in_default.is c.next_opens.ensures)).0.next ∙ c.loop-at.invariant.next;
      levels = ready_under t l _ _ is c.loop-at.invariant.levels;
    }

pub returns : goal.returns
returns c = none_opens c.args.self.now c.args.lists.now c.loop-at.at c.loop-at.count (omega (arith, c.loop-at-test.false)) c.loop-at.invariant.next
