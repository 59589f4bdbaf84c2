use Rattle.std.proofs.Common.{arith}
use Rattle.plain_tokens.specs.Meanings.{is_listed}
use Rattle.eqtb_save.proofs.FirstValues.{first_sound, first_view, first_free, first_levels}
use Rattle.eqtb_save.proofs.Eqtb.new.Goals as goal

pub codes_of-categories-requires : goal.codes_of-categories-requires
codes_of-categories-requires c = first_levels (is_listed c.args.known.now) c.args.sizes.now c.in-Ok.groups c.put_first.new.groups c.in-Ok.ensures c.put_first.ensures c.in_ok-closing.closing.items c.in_ok-closing.ensures.items

pub invariant_of-result : goal.invariant_of-result
invariant_of-result c = first_sound (is_listed c.args.known.now) c.args.sizes.now c.in-Ok.groups c.put_first.new.groups c.in-Ok.ensures c.put_first.ensures c.in_ok-closing.closing.items c.in_ok-closing.ensures.items c.codes_of-categories.result _ c.codes_of-categories.ensures (omega (arith, c.in_ok-closing.ensures.capacity))

pub returns-clause-first : goal.returns-clause-first
returns-clause-first c = first_view (is_listed c.args.known.now) c.args.sizes.now c.in-Ok.groups c.put_first.new.groups c.in-Ok.ensures c.put_first.ensures c.in_ok-closing.closing.items c.in_ok-closing.ensures.items

pub returns-clause-free : goal.returns-clause-free
returns-clause-free c = first_free (is_listed c.args.known.now) c.args.sizes.now c.in-Ok.groups c.put_first.new.groups c.in-Ok.ensures c.put_first.ensures c.in_ok-closing.closing.items c.in_ok-closing.ensures.items
