use Rattle.std.proofs.Common.{sym, subst}
use Rattle.plain_tokens.specs.LineLaws.{AreLines}
use Rattle.plain_tokens.proofs.LineRuns.{lines_are, only_lines}
use Rattle.plain_tokens.proofs.laws.lines_are_the_file.Goals as goal

pub returns : goal.returns
returns c = λ file all. (only_lines all file, λ e. subst (AreLines file) (sym e) (lines_are file))
