use Rattle.std.proofs.Common.{sym}
use Rattle.engine_state.proofs.engine.Engine.break_off.Goals as goal

pub returns-in-Builds-clause-on : goal.returns-in-Builds-clause-on
returns-in-Builds-clause-on g c = rw (c.in-Builds.is, sym c.report.ensures) c.run_away.ensures.on

pub returns-in-Builds-clause-last : goal.returns-in-Builds-clause-last
returns-in-Builds-clause-last g c = rw (c.in-Builds.is, sym c.report.ensures) c.run_away.ensures.last

pub returns-in-Builds-clause-err : goal.returns-in-Builds-clause-err
returns-in-Builds-clause-err g c = rw (c.in-Builds.is, sym c.report.ensures) c.run_away.ensures.err

pub returns-in-SkippedText-clause-on : goal.returns-in-SkippedText-clause-on
returns-in-SkippedText-clause-on g c = rw c.in-SkippedText.is c.insert_fi.ensures.on

pub returns-in-SkippedText-clause-last : goal.returns-in-SkippedText-clause-last
returns-in-SkippedText-clause-last g c = rw c.in-SkippedText.is c.insert_fi.ensures.last

pub returns-in-SkippedText-clause-err : goal.returns-in-SkippedText-clause-err
returns-in-SkippedText-clause-err g c = rw c.in-SkippedText.is c.insert_fi.ensures.err
