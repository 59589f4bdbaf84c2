use Rattle.std.proofs.Common.{◌≡◌, subst, refl, ap, Bool, [], Some, None, Err, false}
use Rattle.std.specs.Bool.{MatchBool}
use Rattle.plain_machine.specs.States.{no_files}
use Rattle.plain_machine.specs.Extended.{first_left}
use Rattle.plain_machine.specs.Meaning.{First}
use Rattle.world_io.specs.Contents.{NotFound, world}
use Rattle.line_reader.specs.Readers.{OpensInnermost, KeepsReaders}
use Rattle.engine_state.specs.declared.engine.Engine.{Engine}
use Rattle.stomach.specs.Read.{AreTied}
use Rattle.tex_program.specs.Says.{ReadAlike}
use Rattle.tex_program.specs.Named.{Opened}
use Rattle.tex_program.proofs.Meanings.{opened_engine, opened_by, job_read, job_alike, job_tied, none_known, may_none, told_files, are_told, missing_job, means_says, means_unopened, means_no_room, says_on, read_quiet, bare, bare_read, bare_alike, fault_rose}
use Rattle.tex_program.proofs.run.run_named.Goals as goal

pub returns-in-Ok-true-clause-means : goal.returns-in-Ok-true-clause-means
returns-in-Ok-true-clause-means g c = λ sizes quiet named.
    let i = c.in-Ok-true in let name = c.args.file.now in let n = c.args.steps in
    let f = g.F.Files.told c.args.files.now in
    let f1 = g.F.Files.told c.open.new.files in
    let f2 = g.F.Files.told c.run_engine-told.new.files in
    let f3 = g.F.Files.told c.close_all.new.files in
    let s = g.S.Sink.told c.args.out.now in
    let s' = g.S.Sink.told c.run_engine-told.new.out in
    let rs = c.args.readers.now in
    let rs1 = c.open.new.self in
    let told = c.run_engine-told.result in
    let reads = c.run_engine-told.ensures.says in
    let opens : OpensInnermost name f rs f1 rs1 = subst (λ (x : Bool). MatchBool x (OpensInnermost name f rs f1 rs1) (NotFound (f.file name) × KeepsReaders f rs f1 rs1)) i.field-0-test i.ensures.answer in
    let read = job_read name f f1 f2 rs rs1 c.run_engine-told.new.readers opens _ reads (record { opened = c.open.ensures.open; ends = c.open.ensures.knows (none_known rs.readers f c.requires.none) }) in
    let e = c.args.engine.now in
    let e' : Engine = record e { input = c.open_file.new.self } in
    let is : e' ≡ opened_engine e = ap (λ (x : _). record e { input = x }) c.open_file.ensures in
    let opened : Opened sizes e' quiet name = opened_by sizes e e' quiet name is named in
    let tied : AreTied rs1 e' = job_tied name f f1 rs rs1 opens e e' is c.requires.unopened c.requires.none c.requires.room in
    let alike : ReadAlike f1 f2 f f3 = job_alike name f f1 f2 rs rs1 c.run_engine-told.new.readers opens _ reads f3 c.close_all.ensures.closed c.close_all.ensures.counts i.ensures.cause.later c.open.ensures.writes i.ensures.cause.later_wants in
    means_says sizes quiet name f.file n (Some (first_left read.all.left)) read.all.files (world f s false) (world f3 s' told.in_line) told.status read.is_job read.are_files (read.holds sizes f f3 quiet name alike opened tied)

pub returns-in-Ok-true-clause-write_fault : goal.returns-in-Ok-true-clause-write_fault
returns-in-Ok-true-clause-write_fault g c = λ sizes quiet named.
    let i = c.in-Ok-true in let name = c.args.file.now in
    let f = g.F.Files.told c.args.files.now in
    let f1 = g.F.Files.told c.open.new.files in
    let rs = c.args.readers.now in
    let rs1 = c.open.new.self in
    let told = c.run_engine-told.result in
    let opens : OpensInnermost name f rs f1 rs1 = subst (λ (x : Bool). MatchBool x (OpensInnermost name f rs f1 rs1) (NotFound (f.file name) × KeepsReaders f rs f1 rs1)) i.field-0-test i.ensures.answer in
    let e = c.args.engine.now in
    let e' : Engine = record e { input = c.open_file.new.self } in
    let is : e' ≡ opened_engine e = ap (λ (x : _). record e { input = x }) c.open_file.ensures in
    let opened : Opened sizes e' quiet name = opened_by sizes e e' quiet name is named in
    let tied : AreTied rs1 e' = job_tied name f f1 rs rs1 opens e e' is c.requires.unopened c.requires.none c.requires.room in
    fault_rose bare_read refl _ _ false told.in_line sizes _ c.args.steps told.status
    (c.run_engine-told.ensures.says.holds (record { left = []; files = no_files }) (may_none _) sizes bare bare_read quiet name (bare_alike _ _) opened tied)

pub returns-in-Ok-false-clause-means : goal.returns-in-Ok-false-clause-means
returns-in-Ok-false-clause-means g c = λ sizes quiet named.
    let i = c.in-Ok-false in let name = c.args.file.now in let n = c.args.steps in
    let f = g.F.Files.told c.args.files.now in
    let f' = g.F.Files.told c.open.new.files in
    let s = g.S.Sink.told c.args.out.now in
    let s' = g.S.Sink.told c.refuse_engine.new.out in
    let rs = c.args.readers.now in
    let rs' = c.open.new.self in
    let told = c.refuse_engine.result in
    let missing : NotFound (f.file name) × KeepsReaders f rs f' rs' = subst (λ (x : Bool). MatchBool x (OpensInnermost name f rs f' rs') (NotFound (f.file name) × KeepsReaders f rs f' rs')) i.field-0-test i.ensures.answer in
    let all = told_files f.file in
    let w = world f s false in
    means_says sizes quiet name f.file n None all w (world f' s' told.in_line) told.status (missing_job (f.file name) missing.0) (are_told f.file)
    (says_on sizes (First quiet name None all) n w (world f s' told.in_line) (world f' s' told.in_line) (read_quiet f f' s' told.in_line c.open.ensures.file i.ensures.cause.later c.open.ensures.writes i.ensures.cause.later_wants) told.status
    (c.refuse_engine.ensures.says sizes f quiet all n named))

pub returns-in-Ok-false-clause-write_fault : goal.returns-in-Ok-false-clause-write_fault
returns-in-Ok-false-clause-write_fault g c = λ sizes quiet named.
    let told = c.refuse_engine.result in
    fault_rose bare refl _ _ false told.in_line sizes _ c.args.steps told.status (c.refuse_engine.ensures.says sizes bare quiet no_files c.args.steps named)

pub returns-in-Err-Failed-clause-means : goal.returns-in-Err-Failed-clause-means
returns-in-Err-Failed-clause-means g c = λ sizes quiet named.
    let i = c.in-Err-Failed.ensures in let t = c.tell in let name = c.args.file.now in
    let f = g.F.Files.told c.args.files.now in
    let f' = g.F.Files.told c.open.new.files in
    let s = g.S.Sink.told c.args.out.now in
    means_unopened sizes quiet name f.file c.args.steps c.args.engine.now named (world f s false) (world f' s false) (world f' (g.S.Sink.told t.new.out) t.result) (i.cause.failed (ap Err c.in-Err-Failed.field-0-is)) (read_quiet f f' s false c.open.ensures.file i.cause.later c.open.ensures.writes i.cause.later_wants) (t.ensures.line f')

pub returns-in-Err-NoMemory-clause-means : goal.returns-in-Err-NoMemory-clause-means
returns-in-Err-NoMemory-clause-means g c = λ sizes quiet named.
    let i = c.in-Err-NoMemory.ensures in let t = c.tell-in-Err-NoMemory in let name = c.args.file.now in
    let f = g.F.Files.told c.args.files.now in
    let f' = g.F.Files.told c.open.new.files in
    let s = g.S.Sink.told c.args.out.now in
    means_no_room sizes quiet name f.file c.args.steps (world f s false) (world f' s false) (world f' (g.S.Sink.told t.new.out) t.result) (read_quiet f f' s false c.open.ensures.file i.cause.later c.open.ensures.writes i.cause.later_wants) (t.ensures.line f')
