use Rattle.std.proofs.Common.{ap}
use Rattle.plain_tokens.specs.Tokens.{character_codes}
use Rattle.reading_frames.specs.Views.{kept_list_of}
use Rattle.input_state.specs.Stored.{Stored}
use Rattle.plain_machine.specs.declared.broken.Broken.TheVariants as broken
use Rattle.engine_state.proofs.Joining.{same_err}
use Rattle.stomach.proofs.SpeltNames.{spelling_cuts, top_too_long}
use Rattle.stomach.proofs.naming.spell_list.Goals as goal

pub returns-in_err-spell-clause-err : goal.returns-in_err-spell-clause-err
returns-in_err-spell-clause-err c = let e = c.args.engine.now in let i = c.in_err-spell in
    same_err c.from_residual.result (broken.Full i.field-0.0) _ c.from_residual.ensures.1
    (λ sizes w book more sound. spelling_cuts sizes e (record e { input = c.spell.new.self }) book (ap (λ (x : Stored). record e { input = x }) c.spell.ensures.others)
    (character_codes (kept_list_of c.args.listed e.input.builds)) w sound more (broken.Full i.field-0.0) (top_too_long e c.args.listed i.field-0.0 c.if-listed.true i.ensures.refused))

pub returns-in_err-spell-clause-full : goal.returns-in_err-spell-clause-full
returns-in_err-spell-clause-full c = let i = c.in_err-spell in
    same_err c.from_residual.result (broken.Full i.field-0.0) _ c.from_residual.ensures.1 (top_too_long c.args.engine.now c.args.listed i.field-0.0 c.if-listed.true i.ensures.refused)
