use Rattle.std.proofs.Common.{ap}
use Rattle.stomach.specs.declared.early.Early.TheVariants.{Unread}
use Rattle.tex_program.proofs.Meanings.{unread_failed, unread_want}
use Rattle.tex_program.proofs.run.tell_unread.Goals as goal

pub returns-in-Failed-clause-says : goal.returns-in-Failed-clause-says
returns-in-Failed-clause-says g c = λ sizes f s n w e left h cause. unread_failed sizes s n w _ _ e left h (cause.failed (ap Unread c.in-Failed.is)) (c.tell.ensures.line f)

pub returns-in-NoMemory-clause-says : goal.returns-in-NoMemory-clause-says
returns-in-NoMemory-clause-says g c = λ sizes f s n w e left h cause. unread_want sizes s n w _ _ e left h (cause.wanted (ap Unread c.in-NoMemory.is)) (c.tell-in-NoMemory.ensures.line f)
