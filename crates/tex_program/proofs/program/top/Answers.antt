use Rattle.std.proofs.Common.{sym, subst, refl, false, inl}
use Rattle.command_words.specs.Words.{Command}
use Rattle.plain_machine.specs.Meaning.{Means}
use Rattle.world_io.specs.Contents.{world}
use Rattle.tex_program.proofs.Meanings.{no_memory_means}
use Rattle.tex_program.proofs.program.top.Goals as goal

pub returns-in-Err-Usage-clause-meaning : goal.returns-in-Err-Usage-clause-meaning
returns-in-Err-Usage-clause-meaning g c =
    let f = g.F.Files.told c.args.files.now in
    let w = world f (g.S.Sink.told c.args.out.now) false in
    let w' = world f (g.S.Sink.told c.tell.new.out) c.tell.result in
    (c.tell.result, subst (λ (k : Command). Means k f.file w w' 9) (sym (c.in-Err-Usage.ensures.usage c.in-Err-Usage.field-0-is)) (inl (record { is = refl; line = c.tell.ensures.line f })))

pub returns-in-Err-NoMemory-clause-meaning : goal.returns-in-Err-NoMemory-clause-meaning
returns-in-Err-NoMemory-clause-meaning g c =
    let f = g.F.Files.told c.args.files.now in
    let t = c.tell-in-Err-NoMemory in
    (t.result, no_memory_means _ f (g.S.Sink.told c.args.out.now) (g.S.Sink.told t.new.out) t.result (t.ensures.line f))
