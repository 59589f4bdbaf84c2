use Rattle.std.proofs.Common.{◌∙◌, refl, [], None, false}
use Rattle.plain_machine.specs.Meaning.{First}
use Rattle.plain_machine.specs.States.{no_files}
use Rattle.world_io.specs.Contents.{content, world}
use Rattle.engine_state.specs.Book.{first_book}
use Rattle.tex_program.proofs.Meanings.{named, name_refused, told_files, means_told, bare, fault_rose}
use Rattle.tex_program.proofs.run.run_file.Goals as goal

pub returns-in-Err-clause-means : goal.returns-in-Err-clause-means
returns-in-Err-clause-means g c = λ sizes quiet begins.
    let file = c.args.file.now in let n = c.args.steps in let told = c.tell_broken.result in
    let f = g.F.Files.told c.args.files.now in
    let a = g.S.Sink.told c.args.out.now in
    let w = world f a false in
    let job = content (f.file file) in let all = told_files f.file in
    let first = First quiet file job all in
    let column = c.is_in_line.ensures ∙ (c.keep_name.ensures.column ∙ begins.column) in
    let cut = name_refused sizes c.args.engine.now c.keep_name.new.self quiet file c.job_name.result.now c.job_name.ensures begins f a job all n c.in-Err.broken c.is_in_line.result column (c.in-Err.ensures.err sizes w first_book [] begins.stands.sound.sized) in
    means_told sizes quiet file f.file n w (world f (g.S.Sink.told c.tell_broken.new.out) told.in_line) told.status (c.tell_broken.ensures.says sizes f first first n w cut)

pub returns-in-Err-clause-write_fault : goal.returns-in-Err-clause-write_fault
returns-in-Err-clause-write_fault g c = λ sizes quiet begins.
    let file = c.args.file.now in let n = c.args.steps in let told = c.tell_broken.result in
    let a = g.S.Sink.told c.args.out.now in
    let w = world bare a false in
    let first = First quiet file None no_files in
    let column = c.is_in_line.ensures ∙ (c.keep_name.ensures.column ∙ begins.column) in
    let cut = name_refused sizes c.args.engine.now c.keep_name.new.self quiet file c.job_name.result.now c.job_name.ensures begins bare a None no_files n c.in-Err.broken c.is_in_line.result column (c.in-Err.ensures.err sizes w first_book [] begins.stands.sound.sized) in
    fault_rose bare refl a (g.S.Sink.told c.tell_broken.new.out) false told.in_line sizes first n told.status (c.tell_broken.ensures.says sizes bare first first n w cut)

pub returns-clause-means : goal.returns-clause-means
returns-clause-means g c = λ sizes quiet begins.
    let f = g.F.Files.told c.args.files.now in
    let a = g.S.Sink.told c.args.out.now in
    c.run_named.ensures.means sizes quiet
    (named sizes c.args.engine.now c.keep_name.new.self quiet c.args.file.now c.job_name.result.now c.job_name.ensures begins f a
    (c.in_default.ensures.stands sizes first_book begins.stands) c.keep_name.ensures.input (c.in_default.ensures.did sizes (world f a false) first_book begins.stands.sound.sized))

pub returns-clause-write_fault : goal.returns-clause-write_fault
returns-clause-write_fault g c = λ sizes quiet begins.
    let f = g.F.Files.told c.args.files.now in
    let a = g.S.Sink.told c.args.out.now in
    c.run_named.ensures.write_fault sizes quiet
    (named sizes c.args.engine.now c.keep_name.new.self quiet c.args.file.now c.job_name.result.now c.job_name.ensures begins f a
    (c.in_default.ensures.stands sizes first_book begins.stands) c.keep_name.ensures.input (c.in_default.ensures.did sizes (world f a false) first_book begins.stands.sound.sized))
