use Rattle.std.proofs.Common.{◌≡◌, ◌-◌, refl, ap, arith, length}
use Rattle.std.proofs.lemmas.List.{length-set}
use Rattle.input_stack.specs.View.{innermost, open_in}
use Rattle.input_stack.specs.Wholes.{whole, own, level_count}
use Rattle.input_stack.proofs.Wholes.{under, top_whole, top_changed, changed_counts, read_of, read_held}
use Rattle.input_stack.proofs.Tops.{top_level, top_covers, fits_changed}
use Rattle.input_stack.proofs.ListsEnded.{open_cons}
use Rattle.input_stack.proofs.Closed.{top_closed, closed_read, closed_all, closed_after, closed_held, closed_kept}
use Rattle.input_stack.proofs.stack.InputStack.close_argument.Goals as goal

pub close_argument-closed-requires-clause-level : goal.close_argument-closed-requires-clause-level
close_argument-closed-requires-clause-level c =
    let s = c.args.self.now in
    let l = c.index_mut.result.now in
    let n = c.len-count.result in
    let len : n ≡ length s.levels.items = omega (arith, c.len-count.ensures, s.levels.ok) in
    let args = own s.arguments.items l in
    let ls = under s n l len c.if-count-eq0.false c.index_mut.ensures.value in
    let e = top_whole s n l len c.if-count-eq0.false c.index_mut.ensures.value in
    read_of c.args.lists.now args l (top_level c.args.lists.now (innermost s) ls (whole args l) e c.requires.stands.read)

pub close_argument-closed-requires-clause-held : goal.close_argument-closed-requires-clause-held
close_argument-closed-requires-clause-held c = λ h.
    let s = c.args.self.now in
    let l = c.index_mut.result.now in
    let n = c.len-count.result in
    let len : n ≡ length s.levels.items = omega (arith, c.len-count.ensures, s.levels.ok) in
    let args = own s.arguments.items l in
    let ls = under s n l len c.if-count-eq0.false c.index_mut.ensures.value in
    let e = top_whole s n l len c.if-count-eq0.false c.index_mut.ensures.value in
    omega (arith, read_held args l h, top_covers c.args.lists.now (innermost s) ls (whole args l) e c.requires.stands.read h)

pub returns-clause-stands : goal.returns-clause-stands
returns-clause-stands c =
    let s = c.args.self.now in
    let l = c.index_mut.result.now in
    let n = c.len-count.result in
    let len : n ≡ length s.levels.items = omega (arith, c.len-count.ensures, s.levels.ok) in
    let args = own s.arguments.items l in
    let ls = under s n l len c.if-count-eq0.false c.index_mut.ensures.value in
    let e = top_whole s n l len c.if-count-eq0.false c.index_mut.ensures.value in
    let m = c.close_argument-closed.new.level in
    let same : level_count m ≡ level_count l = c.close_argument-closed.ensures.count in
    let f = top_changed s n l len c.if-count-eq0.false c.index_mut.ensures.value m same in
    let old = c.args.lists.now in
    let new = c.close_argument-closed.new.lists in
    let b = c.close_argument-closed.result in
    let k = top_closed old new (whole args l) (whole args m) (innermost s) ls b e (c.close_argument-closed.ensures.closes args) c.requires.stands.read c.requires.unfinished in
    record {
      read = closed_read old new (whole args l) (whole args m) (innermost s) _ ls b e f k c.requires.stands.read;
      fits = fits_changed s _ (whole args l) (whole args m) ls c.requires.stands.fits e f (omega (arith, c.requires.stands.fits.within, length-set s.levels.items (n - 1) m)) (omega (arith, k.levels, c.one_if.ensures, c.requires.stands.fits.opens, ap open_in e, open_cons (whole args l) ls)) (changed_counts s n l len c.if-count-eq0.false c.index_mut.ensures.value m same c.requires.stands.fits) refl (record { size = refl; parameter_size = refl; capacity = refl; parameter_capacity = refl });
    }

pub returns-clause-after : goal.returns-clause-after
returns-clause-after c =
    let s = c.args.self.now in
    let l = c.index_mut.result.now in
    let n = c.len-count.result in
    let len : n ≡ length s.levels.items = omega (arith, c.len-count.ensures, s.levels.ok) in
    let args = own s.arguments.items l in
    let ls = under s n l len c.if-count-eq0.false c.index_mut.ensures.value in
    let e = top_whole s n l len c.if-count-eq0.false c.index_mut.ensures.value in
    let m = c.close_argument-closed.new.level in
    let same : level_count m ≡ level_count l = c.close_argument-closed.ensures.count in
    let f = top_changed s n l len c.if-count-eq0.false c.index_mut.ensures.value m same in
    let old = c.args.lists.now in
    let new = c.close_argument-closed.new.lists in
    let b = c.close_argument-closed.result in
    let k = top_closed old new (whole args l) (whole args m) (innermost s) ls b e (c.close_argument-closed.ensures.closes args) c.requires.stands.read c.requires.unfinished in
    closed_after old new (whole args l) (whole args m) (innermost s) _ ls b e f k c.requires.stands.read

pub returns-clause-unfinished : goal.returns-clause-unfinished
returns-clause-unfinished c =
    let s = c.args.self.now in
    let l = c.index_mut.result.now in
    let n = c.len-count.result in
    let len : n ≡ length s.levels.items = omega (arith, c.len-count.ensures, s.levels.ok) in
    let args = own s.arguments.items l in
    let ls = under s n l len c.if-count-eq0.false c.index_mut.ensures.value in
    let e = top_whole s n l len c.if-count-eq0.false c.index_mut.ensures.value in
    let m = c.close_argument-closed.new.level in
    let same : level_count m ≡ level_count l = c.close_argument-closed.ensures.count in
    let f = top_changed s n l len c.if-count-eq0.false c.index_mut.ensures.value m same in
    let old = c.args.lists.now in
    let new = c.close_argument-closed.new.lists in
    let b = c.close_argument-closed.result in
    let k = top_closed old new (whole args l) (whole args m) (innermost s) ls b e (c.close_argument-closed.ensures.closes args) c.requires.stands.read c.requires.unfinished in
    closed_all old new (whole args l) (whole args m) (innermost s) _ ls b e f k c.requires.stands.read

pub returns-clause-account : goal.returns-clause-account
returns-clause-account c =
    let s = c.args.self.now in
    let l = c.index_mut.result.now in
    let n = c.len-count.result in
    let len : n ≡ length s.levels.items = omega (arith, c.len-count.ensures, s.levels.ok) in
    let args = own s.arguments.items l in
    let ls = under s n l len c.if-count-eq0.false c.index_mut.ensures.value in
    let e = top_whole s n l len c.if-count-eq0.false c.index_mut.ensures.value in
    let m = c.close_argument-closed.new.level in
    let same : level_count m ≡ level_count l = c.close_argument-closed.ensures.count in
    let f = top_changed s n l len c.if-count-eq0.false c.index_mut.ensures.value m same in
    let old = c.args.lists.now in
    let new = c.close_argument-closed.new.lists in
    let b = c.close_argument-closed.result in
    let k = top_closed old new (whole args l) (whole args m) (innermost s) ls b e (c.close_argument-closed.ensures.closes args) c.requires.stands.read c.requires.unfinished in
    closed_held old new (whole args l) (whole args m) (innermost s) _ ls b e f k c.requires.stands.read

pub returns-clause-kept : goal.returns-clause-kept
returns-clause-kept c =
    let s = c.args.self.now in
    let l = c.index_mut.result.now in
    let n = c.len-count.result in
    let len : n ≡ length s.levels.items = omega (arith, c.len-count.ensures, s.levels.ok) in
    let args = own s.arguments.items l in
    let ls = under s n l len c.if-count-eq0.false c.index_mut.ensures.value in
    let e = top_whole s n l len c.if-count-eq0.false c.index_mut.ensures.value in
    let m = c.close_argument-closed.new.level in
    let same : level_count m ≡ level_count l = c.close_argument-closed.ensures.count in
    let f = top_changed s n l len c.if-count-eq0.false c.index_mut.ensures.value m same in
    let old = c.args.lists.now in
    let new = c.close_argument-closed.new.lists in
    let b = c.close_argument-closed.result in
    let k = top_closed old new (whole args l) (whole args m) (innermost s) ls b e (c.close_argument-closed.ensures.closes args) c.requires.stands.read c.requires.unfinished in
    closed_kept old new (whole args l) (whole args m) (innermost s) _ ls b e f k c.requires.stands.read
