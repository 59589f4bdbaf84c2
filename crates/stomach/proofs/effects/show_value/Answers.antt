use Rattle.std.proofs.Common.{◌∙◌, sym}
use Rattle.engine_state.proofs.Joining.{on_ok}
use Rattle.engine_state.proofs.ValueTexts.{fetchable}
use Rattle.stomach.proofs.effects.show_value.Goals as goal

pub show_value-requires : goal.show_value-requires
show_value-requires g c = record { there = fetchable c.args.engine.now.input.groups c.args.loc (sym c.is_fetchable.ensures ∙ c.if-is_fetchable.true) }

pub returns-then-is_fetchable-clause-did : goal.returns-then-is_fetchable-clause-did
returns-then-is_fetchable-clause-did g c = on_ok c.show_value.result (λ h there sizes f book sound. h sizes f book sound) c.show_value.ensures.did
