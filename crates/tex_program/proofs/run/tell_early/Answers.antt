use Rattle.tex_program.proofs.Meanings.{early_broken, early_unread, early_cause}
use Rattle.tex_program.proofs.run.tell_early.Goals as goal

pub returns-in-Broken-clause-says : goal.returns-in-Broken-clause-says
returns-in-Broken-clause-says g c = λ sizes f s n w e left h cause.
    let cut = early_broken sizes s n w _ e left c.args.early c.in-Broken.broken c.in-Broken.is h in
    c.tell_broken.ensures.says sizes f s cut.t n w cut.cut

pub returns-in-Unread-clause-says : goal.returns-in-Unread-clause-says
returns-in-Unread-clause-says g c = λ sizes f s n w e left h cause. c.tell_unread.ensures.says sizes f s n w e left (early_unread sizes s n w _ e left c.args.early c.in-Unread.fault c.in-Unread.is h) (early_cause sizes s n w _ e left c.args.early c.in-Unread.fault c.in-Unread.is cause)
