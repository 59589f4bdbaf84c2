use Rattle.std.proofs.Common.{◌≤◌, ◌∙◌, length, arith}
use Rattle.std.proofs.lemmas.List.{length-set}
use Rattle.save_stack.specs.Groups.{top}
use Rattle.eqtb_save.proofs.FirstCodes.{more_codes, all_codes}
use Rattle.eqtb_save.proofs.codes_of.Goals as goal

pub loop-i-preserved : goal.loop-i-preserved
loop-i-preserved c = record {
  long = length-set c.loop-i.codes c.loop-i.i c.category_of.result ∙ c.loop-i.invariant.long;
  front =
      let long : 256 ≤ length (top c.args.groups.now.maps) = omega (arith, c.recall.ensures.located, c.requires) in
      more_codes c.args.groups.now long c.loop-i.codes c.loop-i.i c.category_of.result c.get.result.now (omega (arith, c.loop-i-test.true)) c.loop-i.invariant.long c.get.ensures c.category_of.ensures c.loop-i.invariant.front;
}

pub returns : goal.returns
returns c =
    let long : 256 ≤ length (top c.args.groups.now.maps) = omega (arith, c.recall.ensures.located, c.requires) in
    all_codes c.args.groups.now long c.loop-i.codes c.loop-i.i (omega (arith, c.loop-i-test.false)) c.loop-i.invariant.long c.loop-i.invariant.front
