use Rattle.std.proofs.Common.{◌≡◌, length, take}
use Rattle.save_stack.specs.Groups.{top}
use Rattle.save_stack.specs.Mapped.{mapped}
use Rattle.eqtb_save.specs.Values.{numbered_value, categories_in}
use Rattle.eqtb_save.proofs.codes_of.Given as goal

abbrev pub invariant-loop-i : goal.invariant-loop-i
invariant-loop-i l = record {
  long : length l.codes ≡ 256;
  front : take l.i l.codes ≡ take l.i (categories_in (top (mapped numbered_value l.groups).maps));
}
