use Rattle.std.proofs.Common.{◌≡◌, ◌-◌, refl, arith, ap, length}
use Rattle.std.proofs.lemmas.List.{length-set}
use Rattle.std.specs.Vec.{with_item}
use Rattle.input_stack.specs.declared.stack.InputStack.{InputStack}
use Rattle.input_stack.specs.View.{innermost}
use Rattle.input_stack.specs.Wholes.{whole, own, level_count}
use Rattle.input_stack.proofs.Wholes.{under, top_whole, top_changed, changed_counts, read_of}
use Rattle.input_stack.proofs.Tops.{top_level}
use Rattle.input_stack.proofs.AtOnce.{some_gives, some_stands, some_held, none_stays}
use Rattle.input_stack.proofs.stack.InputStack.quick.Goals as goal

pub quick_level-requires : goal.quick_level-requires
quick_level-requires c =
    let s = c.args.self.now in
    let l = c.index_mut.result.now in
    let n = c.len-count.result in
    let len : n ≡ length s.levels.items = omega (arith, c.len-count.ensures, s.levels.ok) in
    let args = own s.arguments.items l in
    let ls = under s n l len c.if-count-eq0.false c.index_mut.ensures.value in
    let e = top_whole s n l len c.if-count-eq0.false c.index_mut.ensures.value in
    read_of c.args.lists.now args l (top_level c.args.lists.now (innermost s) ls (whole args l) e c.requires.read)

pub returns-clause-gives : goal.returns-clause-gives
returns-clause-gives c =
    let s = c.args.self.now in
    let l = c.index_mut.result.now in
    let n = c.len-count.result in
    let len : n ≡ length s.levels.items = omega (arith, c.len-count.ensures, s.levels.ok) in
    let args = own s.arguments.items l in
    let ls = under s n l len c.if-count-eq0.false c.index_mut.ensures.value in
    let e = top_whole s n l len c.if-count-eq0.false c.index_mut.ensures.value in
    let m = c.quick_level.new.level in
    let same : level_count m ≡ level_count l = c.quick_level.ensures.count in
    let f = top_changed s n l len c.if-count-eq0.false c.index_mut.ensures.value m same in
    let s' : InputStack = record { levels = with_item s.levels (n - 1) m; arguments = s.arguments; argument_levels = s.argument_levels; size = s.size; parameter_size = s.parameter_size } in
    let a = top_level c.args.lists.now (innermost s) ls (whole args l) e c.requires.read in
    some_gives c.args.lists.now s s' (whole args l) (whole args m) ls e f (length-set s.levels.items (n - 1) m) refl (changed_counts s n l len c.if-count-eq0.false c.index_mut.ensures.value m same c.requires.fits) refl (record { size = refl; parameter_size = refl; capacity = refl; parameter_capacity = refl }) c.requires c.quick_level.result (c.quick_level.ensures.gives args a)

pub returns-clause-stays : goal.returns-clause-stays
returns-clause-stays c =
    let s = c.args.self.now in
    let l = c.index_mut.result.now in
    let n = c.len-count.result in
    let len : n ≡ length s.levels.items = omega (arith, c.len-count.ensures, s.levels.ok) in
    let args = own s.arguments.items l in
    let ls = under s n l len c.if-count-eq0.false c.index_mut.ensures.value in
    let e = top_whole s n l len c.if-count-eq0.false c.index_mut.ensures.value in
    let m = c.quick_level.new.level in
    let same : level_count m ≡ level_count l = c.quick_level.ensures.count in
    let f = top_changed s n l len c.if-count-eq0.false c.index_mut.ensures.value m same in
    let s' : InputStack = record { levels = with_item s.levels (n - 1) m; arguments = s.arguments; argument_levels = s.argument_levels; size = s.size; parameter_size = s.parameter_size } in
    let a = top_level c.args.lists.now (innermost s) ls (whole args l) e c.requires.read in
    none_stays c.args.lists.now s s' (whole args l) (whole args m) ls e f (length-set s.levels.items (n - 1) m) refl (changed_counts s n l len c.if-count-eq0.false c.index_mut.ensures.value m same c.requires.fits) refl (record { size = refl; parameter_size = refl; capacity = refl; parameter_capacity = refl }) c.requires c.quick_level.result (λ none. ap (whole args) (c.quick_level.ensures.stays none))

pub returns-clause-stands : goal.returns-clause-stands
returns-clause-stands c =
    let s = c.args.self.now in
    let l = c.index_mut.result.now in
    let n = c.len-count.result in
    let len : n ≡ length s.levels.items = omega (arith, c.len-count.ensures, s.levels.ok) in
    let args = own s.arguments.items l in
    let ls = under s n l len c.if-count-eq0.false c.index_mut.ensures.value in
    let e = top_whole s n l len c.if-count-eq0.false c.index_mut.ensures.value in
    let m = c.quick_level.new.level in
    let same : level_count m ≡ level_count l = c.quick_level.ensures.count in
    let f = top_changed s n l len c.if-count-eq0.false c.index_mut.ensures.value m same in
    let s' : InputStack = record { levels = with_item s.levels (n - 1) m; arguments = s.arguments; argument_levels = s.argument_levels; size = s.size; parameter_size = s.parameter_size } in
    let a = top_level c.args.lists.now (innermost s) ls (whole args l) e c.requires.read in
    some_stands c.args.lists.now s s' (whole args l) (whole args m) ls e f (length-set s.levels.items (n - 1) m) refl (changed_counts s n l len c.if-count-eq0.false c.index_mut.ensures.value m same c.requires.fits) refl (record { size = refl; parameter_size = refl; capacity = refl; parameter_capacity = refl }) c.requires c.quick_level.result (c.quick_level.ensures.gives args a) (λ none. ap (whole args) (c.quick_level.ensures.stays none))

pub returns-clause-held : goal.returns-clause-held
returns-clause-held c =
    let s = c.args.self.now in
    let l = c.index_mut.result.now in
    let n = c.len-count.result in
    let len : n ≡ length s.levels.items = omega (arith, c.len-count.ensures, s.levels.ok) in
    let args = own s.arguments.items l in
    let ls = under s n l len c.if-count-eq0.false c.index_mut.ensures.value in
    let e = top_whole s n l len c.if-count-eq0.false c.index_mut.ensures.value in
    let m = c.quick_level.new.level in
    let same : level_count m ≡ level_count l = c.quick_level.ensures.count in
    let f = top_changed s n l len c.if-count-eq0.false c.index_mut.ensures.value m same in
    let s' : InputStack = record { levels = with_item s.levels (n - 1) m; arguments = s.arguments; argument_levels = s.argument_levels; size = s.size; parameter_size = s.parameter_size } in
    let a = top_level c.args.lists.now (innermost s) ls (whole args l) e c.requires.read in
    some_held c.args.lists.now s s' (whole args l) (whole args m) ls e f (length-set s.levels.items (n - 1) m) refl (changed_counts s n l len c.if-count-eq0.false c.index_mut.ensures.value m same c.requires.fits) refl (record { size = refl; parameter_size = refl; capacity = refl; parameter_capacity = refl }) c.requires c.quick_level.result (c.quick_level.ensures.gives args a) (λ none. ap (whole args) (c.quick_level.ensures.stays none))
