use Rattle.std.proofs.Common.{refl, subst, reverse}
use Rattle.input_stack.specs.View.{innermost}
use Rattle.input_stack.specs.Wholes.{whole, own, beneath, wholes}
use Rattle.input_stack.specs.Stacks.{AreRead}
use Rattle.input_stack.proofs.Kept.{beneath_read}
use Rattle.input_stack.proofs.Wholes.{popped_top, popped_counts, popped_within}
use Rattle.input_stack.proofs.Tops.{top_covers, dropped_held, dropped_keeps}
use Rattle.input_stack.proofs.stack.InputStack.drop_level.Goals as goal

pub release-requires-clause-count : goal.release-requires-clause-count
release-requires-clause-count c = popped_within c.args.self.now c.pop.new.self.items c.in-Some.level c.in-Some.ensures.items c.requires.counts

pub release-requires-clause-held : goal.release-requires-clause-held
release-requires-clause-held c =
    let s = c.args.self.now in
    let l = c.in-Some.level in
    top_covers c.args.lists.now (innermost s) (wholes (beneath s.arguments.items l) (reverse c.pop.new.self.items)) (whole (own s.arguments.items l) l) (popped_top s (beneath s.arguments.items l) c.pop.new.self.items l c.in-Some.ensures.items refl) c.requires.read

pub returns-clause-read : goal.returns-clause-read
returns-clause-read c =
    let s = c.args.self.now in
    let l = c.in-Some.level in
    let cells = c.release.new.arguments.items in
    let items = c.pop.new.self.items in
    let i = c.in-Some.ensures.items in
    let e = popped_top s cells items l i c.release.ensures.beneath in
    let w = whole (own s.arguments.items l) l in
    (beneath_read c.args.lists.now c.release.new.lists w (wholes cells (reverse items)) (subst (AreRead c.args.lists.now) e c.requires.read) c.release.ensures.account c.release.ensures.kept).0

pub returns-clause-counts : goal.returns-clause-counts
returns-clause-counts c =
    let s = c.args.self.now in
    let l = c.in-Some.level in
    let cells = c.release.new.arguments.items in
    let items = c.pop.new.self.items in
    let i = c.in-Some.ensures.items in
    let e = popped_top s cells items l i c.release.ensures.beneath in
    let w = whole (own s.arguments.items l) l in
    popped_counts s cells items l i c.release.ensures.beneath c.requires.counts

pub returns-clause-account : goal.returns-clause-account
returns-clause-account c =
    let s = c.args.self.now in
    let l = c.in-Some.level in
    let cells = c.release.new.arguments.items in
    let items = c.pop.new.self.items in
    let i = c.in-Some.ensures.items in
    let e = popped_top s cells items l i c.release.ensures.beneath in
    let w = whole (own s.arguments.items l) l in
    dropped_held c.args.lists.now c.release.new.lists w (innermost s) (wholes cells (reverse items)) e c.release.ensures.account

pub returns-clause-kept : goal.returns-clause-kept
returns-clause-kept c =
    let s = c.args.self.now in
    let l = c.in-Some.level in
    let cells = c.release.new.arguments.items in
    let items = c.pop.new.self.items in
    let i = c.in-Some.ensures.items in
    let e = popped_top s cells items l i c.release.ensures.beneath in
    let w = whole (own s.arguments.items l) l in
    dropped_keeps c.args.lists.now c.release.new.lists w (innermost s) (wholes cells (reverse items)) e c.release.ensures.kept
