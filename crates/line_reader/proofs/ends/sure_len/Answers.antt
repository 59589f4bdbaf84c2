use Rattle.std.proofs.Common.{◌≡◌, ◌<◌, length, arith, ap, sym, ◌∙◌}
use Rattle.std.proofs.lemmas.List.{length-append, length-take-le}
use Rattle.std.proofs.lemmas.Grind.{common_steps}
use Rattle.plain_tokens.specs.Lines.{without_last}
use Rattle.line_reader.proofs.LineEnds.{without-some}
use Rattle.line_reader.proofs.ends.sure_len.Goals as goal

pub returns-else-is_empty-clause-sure : goal.returns-else-is_empty-clause-sure
returns-else-is_empty-clause-sure c =
    let some : 0 < length c.args.more.now = grind (arith, common_steps, c.if-is_empty.ensures) in
    let n = c.without_return_len-else-is_empty.result in
    let m : length (without_last 13 c.args.more.now) ≡ n = ap length (sym c.without_return_len-else-is_empty.ensures.kept) ∙ length-take-le n c.args.more.now c.without_return_len-else-is_empty.ensures.within in
    omega (arith, m, ap length (without-some 13 c.args.part.now c.args.more.now some), length-append c.args.part.now (without_last 13 c.args.more.now))
