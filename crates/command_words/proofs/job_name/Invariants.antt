use Rattle.std.proofs.Common.{◌≡◌}
use Rattle.command_words.specs.Words.{before_dot}
use Rattle.command_words.proofs.Areas.{dot_left}
use Rattle.command_words.proofs.job_name.Given as goal

abbrev pub invariant-loop-i : goal.invariant-loop-i
invariant-loop-i l = dot_left l.name l.i ≡ before_dot l.name
