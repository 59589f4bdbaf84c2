use Rattle.std.proofs.Common.{◌≡◌, drop}
use Rattle.command_words.specs.Words.{behind_area}
use Rattle.command_words.proofs.Areas.{area_left}
use Rattle.command_words.proofs.behind_area.Given as goal

abbrev pub invariant-loop-i : goal.invariant-loop-i
invariant-loop-i l = area_left l.behind (drop l.i l.name) ≡ behind_area l.name
