use Rattle.std.proofs.Common.{refl, ap, arith, reverse}
use Rattle.input_stack.specs.View.{innermost, open_in}
use Rattle.input_stack.specs.Wholes.{whole, own, beneath, wholes}
use Rattle.input_stack.proofs.ListsEnded.{open_cons}
use Rattle.input_stack.proofs.Wholes.{popped_top, popped_counts, popped_fewer, popped_within}
use Rattle.input_stack.proofs.Tops.{top_covers, dropped, dropped_held, dropped_keeps, fits_fewer}
use Rattle.input_stack.proofs.stack.InputStack.drop_top.Goals as goal

pub release-requires-clause-count : goal.release-requires-clause-count
release-requires-clause-count c = popped_within c.args.self.now c.pop.new.self.items c.in-Some.level c.in-Some.ensures.items c.requires.stands.fits.counts

pub release-requires-clause-held : goal.release-requires-clause-held
release-requires-clause-held c =
    let s = c.args.self.now in
    let l = c.in-Some.level in
    top_covers c.args.lists.now (innermost s) (wholes (beneath s.arguments.items l) (reverse c.pop.new.self.items)) (whole (own s.arguments.items l) l) (popped_top s (beneath s.arguments.items l) c.pop.new.self.items l c.in-Some.ensures.items refl) c.requires.stands.read

pub overflow_sub-self : goal.overflow_sub-self
overflow_sub-self c =
    let s = c.args.self.now in
    let l = c.in-Some.level in
    let ls = wholes (beneath s.arguments.items l) (reverse c.pop.new.self.items) in
    let w = whole (own s.arguments.items l) l in
    let e = popped_top s (beneath s.arguments.items l) c.pop.new.self.items l c.in-Some.ensures.items refl in
    omega (arith, c.argument_levels.ensures (own s.arguments.items l), c.requires.stands.fits.opens, ap open_in e, open_cons w ls)

pub returns-in-Some-clause-stands : goal.returns-in-Some-clause-stands
returns-in-Some-clause-stands c =
    let s = c.args.self.now in
    let l = c.in-Some.level in
    let cells = c.release.new.arguments.items in
    let items = c.pop.new.self.items in
    let i = c.in-Some.ensures.items in
    let e = popped_top s cells items l i c.release.ensures.beneath in
    let w = whole (own s.arguments.items l) l in
    record {
      read = (dropped c.args.lists.now c.release.new.lists w (innermost s) (wholes cells (reverse items)) e c.requires.stands.read c.requires.in_front c.release.ensures.account c.release.ensures.kept).0;
      fits = fits_fewer s _ w c.requires.stands.fits e (omega (arith, c.argument_levels.ensures (own s.arguments.items l), c.requires.stands.fits.opens, ap open_in e, open_cons w (wholes cells (reverse items)))) (popped_counts s cells items l i c.release.ensures.beneath c.requires.stands.fits.counts) (popped_fewer s cells items l i c.release.ensures.beneath) (record { size = refl; parameter_size = refl; capacity = c.in-Some.ensures.capacity; parameter_capacity = c.release.ensures.capacity });
    }

pub returns-in-Some-clause-beneath : goal.returns-in-Some-clause-beneath
returns-in-Some-clause-beneath c =
    let s = c.args.self.now in
    let l = c.in-Some.level in
    let cells = c.release.new.arguments.items in
    let items = c.pop.new.self.items in
    let i = c.in-Some.ensures.items in
    let e = popped_top s cells items l i c.release.ensures.beneath in
    let w = whole (own s.arguments.items l) l in
    (dropped c.args.lists.now c.release.new.lists w (innermost s) (wholes cells (reverse items)) e c.requires.stands.read c.requires.in_front c.release.ensures.account c.release.ensures.kept).1

pub returns-in-Some-clause-after : goal.returns-in-Some-clause-after
returns-in-Some-clause-after c =
    let s = c.args.self.now in
    let l = c.in-Some.level in
    let cells = c.release.new.arguments.items in
    let items = c.pop.new.self.items in
    let i = c.in-Some.ensures.items in
    let e = popped_top s cells items l i c.release.ensures.beneath in
    let w = whole (own s.arguments.items l) l in
    (dropped c.args.lists.now c.release.new.lists w (innermost s) (wholes cells (reverse items)) e c.requires.stands.read c.requires.in_front c.release.ensures.account c.release.ensures.kept).2

pub returns-in-Some-clause-account : goal.returns-in-Some-clause-account
returns-in-Some-clause-account c =
    let s = c.args.self.now in
    let l = c.in-Some.level in
    let cells = c.release.new.arguments.items in
    let items = c.pop.new.self.items in
    let i = c.in-Some.ensures.items in
    let e = popped_top s cells items l i c.release.ensures.beneath in
    let w = whole (own s.arguments.items l) l in
    dropped_held c.args.lists.now c.release.new.lists w (innermost s) (wholes cells (reverse items)) e c.release.ensures.account

pub returns-in-Some-clause-kept : goal.returns-in-Some-clause-kept
returns-in-Some-clause-kept c =
    let s = c.args.self.now in
    let l = c.in-Some.level in
    let cells = c.release.new.arguments.items in
    let items = c.pop.new.self.items in
    let i = c.in-Some.ensures.items in
    let e = popped_top s cells items l i c.release.ensures.beneath in
    let w = whole (own s.arguments.items l) l in
    dropped_keeps c.args.lists.now c.release.new.lists w (innermost s) (wholes cells (reverse items)) e c.release.ensures.kept
