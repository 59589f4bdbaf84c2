use Rattle.std.proofs.Common.{w32, FitsSigned, rules}
use Rattle.std.proofs.lemmas.Int.{to_z-of_z}
use Rattle.engine_state.proofs.ValueTexts.{glue_parts}
use Rattle.engine_state.proofs.values.glue_text.Goals as goal

pub returns : goal.returns
returns c =
    let g = c.args.glue in
    let width : FitsSigned w32 g.width = search rules in
    let stretch : FitsSigned w32 g.stretch = search rules in
    let shrink : FitsSigned w32 g.shrink = search rules in
    glue_parts c.args.mu g c.new-text.result c.put_scaled.new.self c.put_bytes.new.self c.put_part.new.text c.put_part-2.new.text c.finite_unit.result.now c.new-text.ensures
    (rw (to_z-of_z w32 g.width width) at c.put_scaled.ensures) c.finite_unit.ensures.text c.put_bytes.ensures
    (rw (to_z-of_z w32 g.stretch stretch) at c.put_part.ensures.text) (rw (to_z-of_z w32 g.shrink shrink) at c.put_part-2.ensures.text)
