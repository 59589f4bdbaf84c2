use Rattle.line_reader.proofs.OpenFiles.{told_reads, kept_reads, open_reads, knows_reads}
use Rattle.line_reader.proofs.readers.Readers.read.Goals as goal

pub returns-clause-told : goal.returns-clause-told
returns-clause-told g c =
    let e = c.read-came.ensures in
    told_reads _ _ _ _ _ c.pop-reader.ensures.reader c.push.ensures _ _ _ _ (record { came = e.came; after = e.after; behind = e.behind; knows = e.knows; err = e.err; same = e.same }) c.requires.open

pub returns-clause-err : goal.returns-clause-err
returns-clause-err g c =
    let e = c.read-came.ensures in
    kept_reads _ _ _ _ _ c.pop-reader.ensures.reader c.push.ensures _ _ _ _ (record { came = e.came; after = e.after; behind = e.behind; knows = e.knows; err = e.err; same = e.same })

pub returns-clause-open : goal.returns-clause-open
returns-clause-open g c =
    let e = c.read-came.ensures in
    open_reads _ _ _ _ _ c.pop-reader.ensures.reader c.push.ensures _ _ _ _ (record { came = e.came; after = e.after; behind = e.behind; knows = e.knows; err = e.err; same = e.same }) c.requires.open

pub returns-clause-knows : goal.returns-clause-knows
returns-clause-knows g c =
    let e = c.read-came.ensures in
    knows_reads _ _ _ _ _ c.pop-reader.ensures.reader c.push.ensures _ _ _ _ (record { came = e.came; after = e.after; behind = e.behind; knows = e.knows; err = e.err; same = e.same }) c.requires.open
