use Rattle.std.proofs.Common.{sym, ◌∙◌}
use Rattle.plain_machine.proofs.GroupNumbers.{fetched_same}
use Rattle.engine_state.proofs.ValueTexts.{fetchable}
use Rattle.stomach.proofs.effects.value_at.Goals as goal

pub value-requires : goal.value-requires
value-requires c = fetchable c.args.engine.now.input.groups c.args.loc (sym c.is_fetchable.ensures ∙ c.if-is_fetchable.true)

pub returns-then-is_fetchable : goal.returns-then-is_fetchable
returns-then-is_fetchable c = λ there book. c.value.ensures ∙ sym (fetched_same book.number c.args.engine.now.input.groups.now c.args.loc)
