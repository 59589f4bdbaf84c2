use Rattle.std.proofs.Common.{◌≡◌, ◌-◌, ◌<◌, ◌∙◌, ap, sym, arith, length, take, drop, List, Option}
use Rattle.token_lists.specs.declared.ListRef.{ListRef}
use Rattle.input_stack.specs.Wholes.{whole}
use Rattle.std.proofs.Common.{subst}
use Rattle.std.specs.Prelude.{All}
use Rattle.input_stack.specs.Pulls.{looks, IsInBuffer}
use Rattle.input_stack.specs.WholeLevel.{WholeLevel}
use Rattle.input_stack.specs.View.{pending_in}
use Rattle.input_stack.specs.Stacks.{IsLevel}
use Rattle.input_stack.proofs.Ready.{within_left, next_left, top_left, every_left, left_every, none_looks, ready_level, ready_in_buffer, ready_none, ready_some, ready_under, ready_under_buffer}
use Rattle.input_stack.proofs.stack.InputStack.looks.Goals as goal

pub first_own-first-requires : goal.first_own-first-requires
first_own-first-requires c = within_left c.args.self.now c.loop-at.at c.loop-at.count c.index-level.result.now c.loop-at.invariant.standing (omega (arith, c.loop-at-test.true)) c.index-level.ensures

pub level_looks-requires-clause-level : goal.level_looks-requires-clause-level
level_looks-requires-clause-level c =
    let s = c.args.self.now in
    let t = c.args.lists.now in
    let x = c.index-level.result.now in
    let n = c.loop-at.at in
    let k = c.loop-at.count in
    let some : 0 < c.loop-at.at = omega (arith, c.loop-at-test.true) in
    let first = c.first_own-first.result in
    let args = take (k - first) (drop first c.deref.result.now) in
    let l = whole args x in
    let is = top_left s n k x c.loop-at.invariant.standing some c.index-level.ensures first c.first_own-first.ensures args (ap (λ (xs : List (Option ListRef)). take (k - first) (drop first xs)) c.deref.ensures.value) in
    ready_level t l _ _ is c.loop-at.invariant.levels

pub level_looks-requires-clause-in_buffer : goal.level_looks-requires-clause-in_buffer
level_looks-requires-clause-in_buffer c =
    let s = c.args.self.now in
    let t = c.args.lists.now in
    let x = c.index-level.result.now in
    let n = c.loop-at.at in
    let k = c.loop-at.count in
    let some : 0 < c.loop-at.at = omega (arith, c.loop-at-test.true) in
    let first = c.first_own-first.result in
    let args = take (k - first) (drop first c.deref.result.now) in
    let l = whole args x in
    let is = top_left s n k x c.loop-at.invariant.standing some c.index-level.ensures first c.first_own-first.ensures args (ap (λ (xs : List (Option ListRef)). take (k - first) (drop first xs)) c.deref.ensures.value) in
    ready_in_buffer t l _ _ (length c.args.bytes.now) is c.loop-at.invariant.in_buffer

pub loop-at-init : goal.loop-at-init
loop-at-init c =
    let s = c.args.self.now in
    let t = c.args.lists.now in
    let a : c.len-at.result ≡ length s.levels.items = omega (arith, c.len-at.ensures, s.levels.ok) in
    let b : c.len-count.result ≡ length s.arguments.items = omega (arith, c.len-count.ensures, s.arguments.ok) in
    let e = left_every s c.len-at.result c.len-count.result a b in
    let f = every_left s c.len-at.result c.len-count.result a b c.requires.stands.fits in
    record {
      standing = f;
      ahead = ap (λ (ls : List WholeLevel). looks c.args.categories.now c.args.bytes.now (pending_in t ls)) e;
      levels = subst (λ (ls : List WholeLevel). All (IsLevel t) ls) (sym e) c.requires.stands.read.levels;
      in_buffer = subst (λ (ls : List WholeLevel). IsInBuffer (pending_in t ls).sources (length c.args.bytes.now)) (sym e) c.requires.in_buffer;
    }

pub loop-at-preserved : goal.loop-at-preserved
loop-at-preserved c =
    let s = c.args.self.now in
    let t = c.args.lists.now in
    let x = c.index-level.result.now in
    let n = c.loop-at.at in
    let k = c.loop-at.count in
    let some : 0 < c.loop-at.at = omega (arith, c.loop-at-test.true) in
    let first = c.first_own-first.result in
    let args = take (k - first) (drop first c.deref.result.now) in
    let l = whole args x in
    let is = top_left s n k x c.loop-at.invariant.standing some c.index-level.ensures first c.first_own-first.ensures args (ap (λ (xs : List (Option ListRef)). take (k - first) (drop first xs)) c.deref.ensures.value) in
    record {
      standing = next_left s n k x c.loop-at.invariant.standing some c.index-level.ensures first c.first_own-first.ensures;
      ahead = ready_none t c.args.categories.now c.args.bytes.now l _ _ c.level_looks.result is c.level_looks.ensures c.in_default.is ∙ c.loop-at.invariant.ahead;
      levels = ready_under t l _ _ is c.loop-at.invariant.levels;
      in_buffer = ready_under_buffer t c.args.categories.now c.args.bytes.now l _ _ c.level_looks.result (length c.args.bytes.now) is c.level_looks.ensures c.in_default.is c.loop-at.invariant.in_buffer;
    }

pub returns-in-Some : goal.returns-in-Some
returns-in-Some c =
    let s = c.args.self.now in
    let t = c.args.lists.now in
    let x = c.index-level.result.now in
    let n = c.loop-at.at in
    let k = c.loop-at.count in
    let some : 0 < c.loop-at.at = omega (arith, c.loop-at-test.true) in
    let first = c.first_own-first.result in
    let args = take (k - first) (drop first c.deref.result.now) in
    let l = whole args x in
    let is = top_left s n k x c.loop-at.invariant.standing some c.index-level.ensures first c.first_own-first.ensures args (ap (λ (xs : List (Option ListRef)). take (k - first) (drop first xs)) c.deref.ensures.value) in
    ready_some t c.args.categories.now c.args.bytes.now l _ _ c.level_looks.result c.in-Some.ahead is c.level_looks.ensures c.in-Some.is ∙ c.loop-at.invariant.ahead

pub returns : goal.returns
returns c = none_looks c.args.self.now c.args.lists.now c.args.categories.now c.args.bytes.now c.loop-at.at c.loop-at.count (omega (arith, c.loop-at-test.false)) c.loop-at.invariant.ahead
