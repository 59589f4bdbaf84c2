use Rattle.std.proofs.Common.{ap, ◌∙◌, set, ℕ}
use Rattle.eqtb_save.proofs.Places.{noted_get}
use Rattle.eqtb_save.proofs.note.Goals as goal

pub returns-then-at-lt256 : goal.returns-then-at-lt256
returns-then-at-lt256 c =
    ap (λ (n : ℕ). set c.args.categories.now c.args.at n) c.category_of.ensures
    ∙ noted_get c.args.categories.now c.args.groups.now c.args.at c.get.result.now c.if-at-lt256.true c.get.ensures
