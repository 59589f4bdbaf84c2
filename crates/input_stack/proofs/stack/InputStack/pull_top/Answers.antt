use Rattle.std.proofs.Common.{◌≡◌, ◌-◌, ◌+◌, ◌∷◌, List, take, drop, ◌∙◌, refl, sym, ap, subst, arith, length, ℕ, Option, cond, Bool}
use Rattle.std.proofs.lemmas.List.{length-set}
use Rattle.token_lists.specs.declared.ListRef.{ListRef}
use Rattle.input_stack.specs.Puts.{Item}
use Rattle.input_stack.specs.CallViews.{met, is_opening, opened, Shares, IsCountable}
use Rattle.input_stack.specs.Levels.{is_top_passed}
use Rattle.input_stack.specs.View.{innermost, held_in}
use Rattle.input_stack.proofs.Tops.{top_level, fits_changed}
use Rattle.input_stack.specs.Wholes.{whole, own, level_count}
use Rattle.input_stack.proofs.Wholes.{under, top_whole, top_changed, changed_counts, levels_count, top_within, slice_own}
use Rattle.input_stack.proofs.Gaps.{top_next}
use Rattle.input_stack.proofs.Given.{top_gives, level_shares, level_opens, beneath_stays, top_held, top_read, top_unfinished, top_in_buffer, bottom_top, bottom_opened, none_shares, opening_fits}
use Rattle.input_stack.proofs.stack.InputStack.pull_top.Goals as goal

pub first_own-first-requires : goal.first_own-first-requires
first_own-first-requires c =
    let s = c.args.self.now in
    let n = c.len-count.result in
    let len : n ≡ length s.levels.items = omega (arith, c.len-count.ensures, s.levels.ok) in
    omega (arith, c.len.ensures, s.arguments.ok, top_within s n c.index_mut-level.result.now len c.if-count-eq0.false c.index_mut-level.ensures.value c.requires.stands.fits)

pub pull_level-requires-clause-level : goal.pull_level-requires-clause-level
pull_level-requires-clause-level c =
    let s = c.args.self.now in
    let x = c.index_mut-level.result.now in
    let n = c.len-count.result in
    let len : n ≡ length s.levels.items = omega (arith, c.len-count.ensures, s.levels.ok) in
    let args = take (length c.deref.result.now - c.first_own-first.result) (drop c.first_own-first.result c.deref.result.now) in
    let ls = under s n x len c.if-count-eq0.false c.index_mut-level.ensures.value in
    let mine : args ≡ own s.arguments.items x = slice_own s x c.deref.result.now c.first_own-first.result c.len.result c.deref.ensures.value (omega (arith, c.len.ensures, s.arguments.ok)) c.first_own-first.ensures in
    let e = top_whole s n x len c.if-count-eq0.false c.index_mut-level.ensures.value ∙ ap (λ (xs : List (Option ListRef)). whole xs x ∷ ls) (sym mine) in
    let old = c.args.lists.now in
    let l = whole args x in
    let passed = ap (is_top_passed old) (sym e) ∙ c.requires.passed in
    top_level old (innermost s) ls l e c.requires.stands.read

pub pull_level-requires-clause-unfinished : goal.pull_level-requires-clause-unfinished
pull_level-requires-clause-unfinished c =
    let s = c.args.self.now in
    let x = c.index_mut-level.result.now in
    let n = c.len-count.result in
    let len : n ≡ length s.levels.items = omega (arith, c.len-count.ensures, s.levels.ok) in
    let args = take (length c.deref.result.now - c.first_own-first.result) (drop c.first_own-first.result c.deref.result.now) in
    let ls = under s n x len c.if-count-eq0.false c.index_mut-level.ensures.value in
    let mine : args ≡ own s.arguments.items x = slice_own s x c.deref.result.now c.first_own-first.result c.len.result c.deref.ensures.value (omega (arith, c.len.ensures, s.arguments.ok)) c.first_own-first.ensures in
    let e = top_whole s n x len c.if-count-eq0.false c.index_mut-level.ensures.value ∙ ap (λ (xs : List (Option ListRef)). whole xs x ∷ ls) (sym mine) in
    let old = c.args.lists.now in
    let l = whole args x in
    let passed = ap (is_top_passed old) (sym e) ∙ c.requires.passed in
    top_unfinished old (innermost s) ls l e c.requires.unfinished

pub pull_level-requires-clause-more : goal.pull_level-requires-clause-more
pull_level-requires-clause-more c =
    let s = c.args.self.now in
    let x = c.index_mut-level.result.now in
    let n = c.len-count.result in
    let len : n ≡ length s.levels.items = omega (arith, c.len-count.ensures, s.levels.ok) in
    let args = take (length c.deref.result.now - c.first_own-first.result) (drop c.first_own-first.result c.deref.result.now) in
    let ls = under s n x len c.if-count-eq0.false c.index_mut-level.ensures.value in
    let mine : args ≡ own s.arguments.items x = slice_own s x c.deref.result.now c.first_own-first.result c.len.result c.deref.ensures.value (omega (arith, c.len.ensures, s.arguments.ok)) c.first_own-first.ensures in
    let e = top_whole s n x len c.if-count-eq0.false c.index_mut-level.ensures.value ∙ ap (λ (xs : List (Option ListRef)). whole xs x ∷ ls) (sym mine) in
    let old = c.args.lists.now in
    let l = whole args x in
    let passed = ap (is_top_passed old) (sym e) ∙ c.requires.passed in
    passed

pub pull_level-requires-clause-countable : goal.pull_level-requires-clause-countable
pull_level-requires-clause-countable c =
    let s = c.args.self.now in
    let x = c.index_mut-level.result.now in
    let n = c.len-count.result in
    let len : n ≡ length s.levels.items = omega (arith, c.len-count.ensures, s.levels.ok) in
    let args = take (length c.deref.result.now - c.first_own-first.result) (drop c.first_own-first.result c.deref.result.now) in
    let ls = under s n x len c.if-count-eq0.false c.index_mut-level.ensures.value in
    let mine : args ≡ own s.arguments.items x = slice_own s x c.deref.result.now c.first_own-first.result c.len.result c.deref.ensures.value (omega (arith, c.len.ensures, s.arguments.ok)) c.first_own-first.ensures in
    let e = top_whole s n x len c.if-count-eq0.false c.index_mut-level.ensures.value ∙ ap (λ (xs : List (Option ListRef)). whole xs x ∷ ls) (sym mine) in
    let old = c.args.lists.now in
    let l = whole args x in
    let passed = ap (is_top_passed old) (sym e) ∙ c.requires.passed in
    subst (IsCountable old) (top_next old (innermost s) ls l e passed) c.requires.countable

pub pull_level-requires-clause-in_buffer : goal.pull_level-requires-clause-in_buffer
pull_level-requires-clause-in_buffer c =
    let s = c.args.self.now in
    let x = c.index_mut-level.result.now in
    let n = c.len-count.result in
    let len : n ≡ length s.levels.items = omega (arith, c.len-count.ensures, s.levels.ok) in
    let args = take (length c.deref.result.now - c.first_own-first.result) (drop c.first_own-first.result c.deref.result.now) in
    let ls = under s n x len c.if-count-eq0.false c.index_mut-level.ensures.value in
    let mine : args ≡ own s.arguments.items x = slice_own s x c.deref.result.now c.first_own-first.result c.len.result c.deref.ensures.value (omega (arith, c.len.ensures, s.arguments.ok)) c.first_own-first.ensures in
    let e = top_whole s n x len c.if-count-eq0.false c.index_mut-level.ensures.value ∙ ap (λ (xs : List (Option ListRef)). whole xs x ∷ ls) (sym mine) in
    let old = c.args.lists.now in
    let l = whole args x in
    let passed = ap (is_top_passed old) (sym e) ∙ c.requires.passed in
    top_in_buffer old l (innermost s) ls (length c.args.bytes.now) e c.requires.in_buffer

pub returns-clause-stands : goal.returns-clause-stands
returns-clause-stands c =
    let s = c.args.self.now in
    let x = c.index_mut-level.result.now in
    let n = c.len-count.result in
    let len : n ≡ length s.levels.items = omega (arith, c.len-count.ensures, s.levels.ok) in
    let args = take (length c.deref.result.now - c.first_own-first.result) (drop c.first_own-first.result c.deref.result.now) in
    let ls = under s n x len c.if-count-eq0.false c.index_mut-level.ensures.value in
    let mine : args ≡ own s.arguments.items x = slice_own s x c.deref.result.now c.first_own-first.result c.len.result c.deref.ensures.value (omega (arith, c.len.ensures, s.arguments.ok)) c.first_own-first.ensures in
    let e = top_whole s n x len c.if-count-eq0.false c.index_mut-level.ensures.value ∙ ap (λ (xs : List (Option ListRef)). whole xs x ∷ ls) (sym mine) in
    let old = c.args.lists.now in
    let l = whole args x in
    let passed = ap (is_top_passed old) (sym e) ∙ c.requires.passed in
    let y = c.pull_level.new.level in
    let same : level_count y ≡ level_count x = c.pull_level.ensures.count in
    let m = whole args y in
    let new = c.pull_level.new.lists in
    let r = c.pull_level.result in
    let cs = c.args.categories.now in
    let b = c.args.bytes.now in
    let d = c.pull_level.new.bytes in
    let f = top_changed s n x len c.if-count-eq0.false c.index_mut-level.ensures.value y same ∙ ap (λ (xs : List (Option ListRef)). whole xs y ∷ ls) (sym mine) in
    let h = c.pull_level.ensures.pulls in
    let next = top_next old (innermost s) ls l e passed in
    let t = ap {B = ℕ} (λ (x : Bool). cond x 1 0) (c.requires.opening ∙ ap (λ (o : Option Item). is_opening (met o)) next) in
    let more = level_opens old new cs b d l m r h in
    record {
      read = top_read old new cs b d l m (innermost s) _ ls r e f h c.requires.stands.read;
      fits = fits_changed s _ l m ls c.requires.stands.fits e f (opening_fits c.args.opening (length s.levels.items) s.argument_levels s.size c.one_if.result _ c.one_if.ensures c.requires.room c.requires.stands.fits.within (length-set s.levels.items (n - 1) y)) (omega (arith, more, t, c.one_if.ensures)) (changed_counts s n x len c.if-count-eq0.false c.index_mut-level.ensures.value y same c.requires.stands.fits) refl (record { size = refl; parameter_size = refl; capacity = refl; parameter_capacity = refl });
    }

pub returns-clause-pulls : goal.returns-clause-pulls
returns-clause-pulls c =
    let s = c.args.self.now in
    let x = c.index_mut-level.result.now in
    let n = c.len-count.result in
    let len : n ≡ length s.levels.items = omega (arith, c.len-count.ensures, s.levels.ok) in
    let args = take (length c.deref.result.now - c.first_own-first.result) (drop c.first_own-first.result c.deref.result.now) in
    let ls = under s n x len c.if-count-eq0.false c.index_mut-level.ensures.value in
    let mine : args ≡ own s.arguments.items x = slice_own s x c.deref.result.now c.first_own-first.result c.len.result c.deref.ensures.value (omega (arith, c.len.ensures, s.arguments.ok)) c.first_own-first.ensures in
    let e = top_whole s n x len c.if-count-eq0.false c.index_mut-level.ensures.value ∙ ap (λ (xs : List (Option ListRef)). whole xs x ∷ ls) (sym mine) in
    let old = c.args.lists.now in
    let l = whole args x in
    let passed = ap (is_top_passed old) (sym e) ∙ c.requires.passed in
    let y = c.pull_level.new.level in
    let same : level_count y ≡ level_count x = c.pull_level.ensures.count in
    let m = whole args y in
    let new = c.pull_level.new.lists in
    let r = c.pull_level.result in
    let cs = c.args.categories.now in
    let b = c.args.bytes.now in
    let d = c.pull_level.new.bytes in
    let f = top_changed s n x len c.if-count-eq0.false c.index_mut-level.ensures.value y same ∙ ap (λ (xs : List (Option ListRef)). whole xs y ∷ ls) (sym mine) in
    let h = c.pull_level.ensures.pulls in
    let next = top_next old (innermost s) ls l e passed in
    top_gives old new cs b d l m (innermost s) _ ls r e f (beneath_stays old new cs b d l m (innermost s) _ ls r e f h c.requires.stands.read) h

pub returns-clause-shares : goal.returns-clause-shares
returns-clause-shares c =
    let s = c.args.self.now in
    let x = c.index_mut-level.result.now in
    let n = c.len-count.result in
    let len : n ≡ length s.levels.items = omega (arith, c.len-count.ensures, s.levels.ok) in
    let args = take (length c.deref.result.now - c.first_own-first.result) (drop c.first_own-first.result c.deref.result.now) in
    let ls = under s n x len c.if-count-eq0.false c.index_mut-level.ensures.value in
    let mine : args ≡ own s.arguments.items x = slice_own s x c.deref.result.now c.first_own-first.result c.len.result c.deref.ensures.value (omega (arith, c.len.ensures, s.arguments.ok)) c.first_own-first.ensures in
    let e = top_whole s n x len c.if-count-eq0.false c.index_mut-level.ensures.value ∙ ap (λ (xs : List (Option ListRef)). whole xs x ∷ ls) (sym mine) in
    let old = c.args.lists.now in
    let l = whole args x in
    let passed = ap (is_top_passed old) (sym e) ∙ c.requires.passed in
    let y = c.pull_level.new.level in
    let same : level_count y ≡ level_count x = c.pull_level.ensures.count in
    let m = whole args y in
    let new = c.pull_level.new.lists in
    let r = c.pull_level.result in
    let cs = c.args.categories.now in
    let b = c.args.bytes.now in
    let d = c.pull_level.new.bytes in
    let f = top_changed s n x len c.if-count-eq0.false c.index_mut-level.ensures.value y same ∙ ap (λ (xs : List (Option ListRef)). whole xs y ∷ ls) (sym mine) in
    let h = c.pull_level.ensures.pulls in
    let next = top_next old (innermost s) ls l e passed in
    subst (λ (o : Option Item). Shares old new (opened o)) (sym next) (level_shares old new cs b d l m r h)

pub returns-clause-held : goal.returns-clause-held
returns-clause-held c = λ k.
    let s = c.args.self.now in
    let x = c.index_mut-level.result.now in
    let n = c.len-count.result in
    let len : n ≡ length s.levels.items = omega (arith, c.len-count.ensures, s.levels.ok) in
    let args = take (length c.deref.result.now - c.first_own-first.result) (drop c.first_own-first.result c.deref.result.now) in
    let ls = under s n x len c.if-count-eq0.false c.index_mut-level.ensures.value in
    let mine : args ≡ own s.arguments.items x = slice_own s x c.deref.result.now c.first_own-first.result c.len.result c.deref.ensures.value (omega (arith, c.len.ensures, s.arguments.ok)) c.first_own-first.ensures in
    let e = top_whole s n x len c.if-count-eq0.false c.index_mut-level.ensures.value ∙ ap (λ (xs : List (Option ListRef)). whole xs x ∷ ls) (sym mine) in
    let old = c.args.lists.now in
    let l = whole args x in
    let passed = ap (is_top_passed old) (sym e) ∙ c.requires.passed in
    let y = c.pull_level.new.level in
    let same : level_count y ≡ level_count x = c.pull_level.ensures.count in
    let m = whole args y in
    let new = c.pull_level.new.lists in
    let r = c.pull_level.result in
    let cs = c.args.categories.now in
    let b = c.args.bytes.now in
    let d = c.pull_level.new.bytes in
    let f = top_changed s n x len c.if-count-eq0.false c.index_mut-level.ensures.value y same ∙ ap (λ (xs : List (Option ListRef)). whole xs y ∷ ls) (sym mine) in
    let h = c.pull_level.ensures.pulls in
    let next = top_next old (innermost s) ls l e passed in
    top_held old new cs b d l m (innermost s) _ ls r e f h c.requires.stands.read k ∙ ap (λ (o : Option Item). held_in (innermost s) k + opened o k) (sym next)

pub returns-then-count-eq0-clause-pulls : goal.returns-then-count-eq0-clause-pulls
returns-then-count-eq0-clause-pulls c =
    let s = c.args.self.now in
    bottom_top c.args.lists.now c.args.categories.now c.args.bytes.now (innermost s) (omega (arith, c.len-count.ensures, s.levels.ok, c.if-count-eq0.true, levels_count s))

pub returns-then-count-eq0-clause-shares : goal.returns-then-count-eq0-clause-shares
returns-then-count-eq0-clause-shares c =
    let s = c.args.self.now in
    none_shares c.args.lists.now (innermost s) (omega (arith, c.len-count.ensures, s.levels.ok, c.if-count-eq0.true, levels_count s))

pub returns-then-count-eq0-clause-held : goal.returns-then-count-eq0-clause-held
returns-then-count-eq0-clause-held c = λ h.
    let s = c.args.self.now in
    omega (arith, bottom_opened c.args.lists.now (innermost s) (omega (arith, c.len-count.ensures, s.levels.ok, c.if-count-eq0.true, levels_count s)) h)
