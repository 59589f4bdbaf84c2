use Rattle.std.proofs.Common.{ap, subst, map, length, ◌+◌, arith}
use Rattle.std.proofs.lemmas.List.{length-map}
use Rattle.plain_tokens.specs.Meanings.{fixed_locations}
use Rattle.save_stack.specs.Mapped.{mapped, saved_as}
use Rattle.save_stack.proofs.Mapped.{used_as}
use Rattle.equivalents.specs.Groups.{saves, depth}
use Rattle.equivalents.specs.Laws.{AreAlike}
use Rattle.equivalents.proofs.Names.{alike}
use Rattle.eqtb_save.specs.Table.{Table}
use Rattle.eqtb_save.specs.Values.{numbered_value}
use Rattle.eqtb_save.proofs.Places.{names_last}
use Rattle.eqtb_save.proofs.Bounds.{held_few}
use Rattle.eqtb_save.proofs.Outside.{outer_count, outside_held}
use Rattle.eqtb_save.proofs.Eqtb.recall.Goals as goal

pub returns-clause-few : goal.returns-clause-few
returns-clause-few c = omega (
  arith,
  names_last (mapped numbered_value c.self.inside.groups) c.self.invariant.whole,
  c.locations-count.ensures.count,
  c.locations-count.ensures.fits,
  c.self.invariant.most,
  ap (λ (t : Table). length t.groups.now.meanings) c.self.view_is,
  ap (λ (t : Table). t.sizes.hash_size) c.self.view_is,
)

pub returns-clause-saves : goal.returns-clause-saves
returns-clause-saves c = omega (
  arith,
  c.recall.ensures.fits,
  used_as numbered_value c.self.inside.groups,
  c.self.invariant.save_size,
  ap (λ (t : Table). saves t.groups) c.self.view_is,
  ap (λ (t : Table). t.sizes.save_size) c.self.view_is,
)

pub returns-clause-bounded : goal.returns-clause-bounded
returns-clause-bounded c h =
    let few = returns-clause-few c in
    let fits = returns-clause-saves c in
    let bound = held_few (mapped numbered_value c.self.inside.groups) c.args.self.now.groups (fixed_locations + c.args.self.now.sizes.hash_size) c.args.self.now.sizes.save_size (ap (λ (t : Table). t.groups) c.self.view_is) few fits h in
    omega (arith, bound)

pub returns-clause-outside : goal.returns-clause-outside
returns-clause-outside c id is = outside_held id c.self.inside.groups c.args.self.now.groups (ap (λ (t : Table). t.groups) c.self.view_is) c.self.invariant.whole c.recall.ensures.held is

pub returns-clause-maps : goal.returns-clause-maps
returns-clause-maps c = omega (arith, outer_count (mapped numbered_value c.self.inside.groups) c.self.invariant.whole, ap (λ (t : Table). length t.groups.outer) c.self.view_is, ap (λ (t : Table). depth t.groups) c.self.view_is)

pub returns-clause-entries : goal.returns-clause-entries
returns-clause-entries c = omega (
  arith,
  length-map c.self.inside.groups.entries (λ g. map (saved_as numbered_value) g),
  c.recall.ensures.entries,
  ap (λ (t : Table). length t.groups.entries) c.self.view_is,
  ap (λ (t : Table). depth t.groups) c.self.view_is,
)

pub returns-clause-tokens : goal.returns-clause-tokens
returns-clause-tokens c = omega (arith, c.recall.ensures.tokens, ap (λ (t : Table). length t.groups.tokens) c.self.view_is, ap (λ (t : Table). depth t.groups) c.self.view_is)

pub returns-clause-levels : goal.returns-clause-levels
returns-clause-levels c = omega (
  arith,
  names_last (mapped numbered_value c.self.inside.groups) c.self.invariant.whole,
  ap (λ (t : Table). length t.groups.levels) c.self.view_is,
  ap (λ (t : Table). length t.groups.now.meanings) c.self.view_is,
)

pub returns-clause-alike : goal.returns-clause-alike
returns-clause-alike c = subst (λ (t : Table). AreAlike t.groups) c.self.view_is (alike (mapped numbered_value c.self.inside.groups) c.self.invariant.whole)
