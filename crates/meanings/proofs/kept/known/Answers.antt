use Rattle.std.proofs.Common.{◌≡◌, ◌∙◌, refl, sym, true, false}
use Rattle.plain_tokens.specs.Meanings.{is_listed}
use Rattle.meanings.proofs.Listed.{listed_is}
use Rattle.meanings.proofs.kept.known.Goals as goal

pub returns-then-contains : goal.returns-then-contains
returns-then-contains c =
    let known : is_listed c.args.numbers.now c.args.number ≡ true = sym (listed_is c.args.numbers.now c.args.number) ∙ sym c.contains.ensures.value ∙ c.if-contains.true in
    rw known refl

pub returns-else-contains : goal.returns-else-contains
returns-else-contains c =
    let unknown : is_listed c.args.numbers.now c.args.number ≡ false = sym (listed_is c.args.numbers.now c.args.number) ∙ sym c.contains.ensures.value ∙ c.if-contains.false in
    rw unknown refl
