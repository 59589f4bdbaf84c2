use Rattle.std.proofs.Common.{◌∙◌, [], refl, ap, arith, reverse}
use Rattle.input_stack.specs.Wholes.{whole, wholes, count_in}
use Rattle.input_stack.proofs.Wholes.{pushed, none_own, count_cons}
use Rattle.input_stack.proofs.Tops.{fits_more}
use Rattle.input_stack.proofs.stack.InputStack.put.Goals as goal

pub push_reserved-requires : goal.push_reserved-requires
push_reserved-requires c =
    let s = c.args.self.now in
    omega (arith, s.levels.ok, c.requires.room, c.requires.fits.room)

pub returns-clause-list : goal.returns-clause-list
returns-clause-list c =
    let s = c.args.self.now in
    ap (wholes s.arguments.items) (pushed s.levels.items c.push_reserved.new.self.items c.args.level c.push_reserved.ensures.items)
    ∙ none_own s.arguments.items c.args.level (reverse s.levels.items) c.requires.no_arguments

pub returns-clause-fits : goal.returns-clause-fits
returns-clause-fits c =
    let s = c.args.self.now in
    let e = pushed s.levels.items c.push_reserved.new.self.items c.args.level c.push_reserved.ensures.items in
    fits_more s _ (whole [] c.args.level) c.requires.fits (ap (wholes s.arguments.items) e ∙ none_own s.arguments.items c.args.level (reverse s.levels.items) c.requires.no_arguments) c.requires.room c.requires.fits.few c.requires.closed refl (omega (arith, c.requires.fits.counts, ap count_in e, count_cons c.args.level (reverse s.levels.items), c.requires.no_arguments)) (record { size = refl; parameter_size = refl; capacity = c.push_reserved.ensures.capacity; parameter_capacity = refl })

pub returns-clause-sizes : goal.returns-clause-sizes
returns-clause-sizes c = record { size = refl; parameter_size = refl; capacity = c.push_reserved.ensures.capacity; parameter_capacity = refl }
