use Rattle.tex_program.proofs.Meanings.{broken_fault, broken_want, broken_full}
use Rattle.tex_program.proofs.run.tell_broken.Goals as goal

pub returns-in-WriteFault-clause-says : goal.returns-in-WriteFault-clause-says
returns-in-WriteFault-clause-says g c = λ sizes f s t n w cut. broken_fault sizes s t n w _ _ c.args.broken c.in-WriteFault.is cut (c.tell.ensures.line f)

pub returns-in-Want-clause-says : goal.returns-in-Want-clause-says
returns-in-Want-clause-says g c = λ sizes f s t n w cut. broken_want sizes s t n w _ _ c.args.broken c.in-Want.is cut (c.tell-in-Want.ensures.line f)

pub returns-in-Full-clause-says : goal.returns-in-Full-clause-says
returns-in-Full-clause-says g c = λ sizes f s t n w cut. broken_full sizes s t n w _ _ c.args.broken c.in-Full.full c.in-Full.is cut (c.tell-in-Full.ensures.line f)
