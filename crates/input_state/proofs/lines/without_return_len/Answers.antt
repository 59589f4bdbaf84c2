use Rattle.input_state.proofs.LineEnds.{whole_goes, whole_stays, empty_stays}
use Rattle.input_state.proofs.lines.without_return_len.Goals as goal
use Rattle.input_state.proofs.lines.without_return_len.Goals.{else-n-gt0-via-then-n-gt0+else-line-n-eq13, else-n-gt0-via-else-n-gt0}

pub returns-then-line-n-eq13-clause-kept : goal.returns-then-line-n-eq13-clause-kept
returns-then-line-n-eq13-clause-kept c = whole_goes c.args.line.now 13 c.if-n-gt0.true c.if-line-n-eq13.true

pub returns-else-n-gt0-clause-kept : goal.returns-else-n-gt0-clause-kept
returns-else-n-gt0-clause-kept c =
    elim c.else-n-gt0.branch [
      | else-n-gt0-via-then-n-gt0+else-line-n-eq13 w ↦ whole_stays c.args.line.now 13 w.if-n-gt0.true w.if-line-n-eq13.false
      | else-n-gt0-via-else-n-gt0 w ↦ empty_stays c.args.line.now 13 w.if-n-gt0.false
    ]
