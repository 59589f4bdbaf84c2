use Rattle.std.proofs.Common.{sym, ◌∙◌, refl}
use Rattle.stomach.specs.AtHand.{ByCall}
use Rattle.stomach.proofs.innermost.wanted.Goals as goal

pub returns-in-More : goal.returns-in-More
returns-in-More c = ByCall c.in-Some.call (sym c.call.ensures ∙ c.in-Some.is) c.in-More.is refl
