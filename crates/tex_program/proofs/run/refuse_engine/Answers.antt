use Rattle.std.proofs.Common.{sym, subst, Bool, None, false, ◌≤◌, arith}
use Rattle.plain_machine.specs.Plan.{reports_room}
use Rattle.plain_machine.specs.Does.{CutAt}
use Rattle.plain_machine.specs.Meaning.{First}
use Rattle.world_io.specs.Contents.{world}
use Rattle.engine_state.specs.Book.{first_book}
use Rattle.tex_program.specs.Says.{SaysSo}
use Rattle.tex_program.proofs.Meanings.{named_reports, refused_fails, refused_cut}
use Rattle.tex_program.proofs.run.refuse_engine.Goals as goal

pub returns-in-Ok-clause-says : goal.returns-in-Ok-clause-says
returns-in-Ok-clause-says g c = λ sizes f quiet all n named.
    let a = g.S.Sink.told c.args.out.now in
    let b = g.S.Sink.told c.refuse_file.new.out in
    let i = c.in-Ok in
    let file = c.args.file.now in
    let e = c.args.engine.now in
    let e' = c.refuse_file.new.self in
    let fatal = i.ensures.fatal in
    subst (λ (x : Bool). SaysSo sizes (First quiet file None all) n (world f a false) (world f b x) 2) (sym c.is_in_line.ensures)
    (refused_fails sizes e e' quiet file named all f a b n i.field-0 fatal.0 fatal.1 (i.ensures.run sizes f first_book))

pub returns-in-Err-clause-says : goal.returns-in-Err-clause-says
returns-in-Err-clause-says g c = λ sizes f quiet all n named.
    let a = g.S.Sink.told c.args.out.now in
    let b = g.S.Sink.told c.refuse_file.new.out in
    let i = c.in-Err in
    let file = c.args.file.now in
    let e = c.args.engine.now in
    let e' = c.refuse_file.new.self in
    let few : e.reports ≤ reports_room = omega (arith, named_reports sizes e quiet file named) in
    let cut = refused_cut sizes e e' quiet file named all f a b n i.broken (i.ensures.err sizes f first_book few) in
    c.tell_broken.ensures.says sizes f (First quiet file None all) cut.0 n (world f a false)
    (subst (λ (x : Bool). CutAt sizes (First quiet file None all) n cut.0 (world f a false) (world f b x) i.broken) (sym c.is_in_line-in-Err.ensures) cut.1)
