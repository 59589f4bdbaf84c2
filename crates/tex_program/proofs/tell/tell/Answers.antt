use Rattle.std.proofs.Common.{◌∙◌}
use Rattle.tex_program.specs.Tells.{line_of}
use Rattle.tex_program.proofs.Telling.{line_told}
use Rattle.tex_program.proofs.tell.tell.Goals as goal

pub returns-clause-line : goal.returns-clause-line
returns-clause-line g c = λ f. line_told f _ _ c.args.in_line c.put.new.in_line (line_of c.args.telling) c.put.result c.bytes.result.now (c.bytes.ensures.bytes ∙ c.on_fresh_line-line.ensures) c.put.ensures.ok c.put.ensures.err
