use Rattle.std.proofs.Common.{◌≡◌, sym, false}
use Rattle.plain_machine.specs.Meaning.{sizes_of}
use Rattle.plain_machine.proofs.Doing.{wrote_none}
use Rattle.world_io.specs.Contents.{world}
use Rattle.tex_program.proofs.Meanings.{means_by, means_no_room}
use Rattle.tex_program.proofs.program.run_job.Goals as goal

pub returns-clause-meaning : goal.returns-clause-meaning
returns-clause-meaning g c =
    let o = c.args.job.now in let name = c.as_slice.result.now in let same : o.file.items ≡ name = sym c.as_slice.ensures.value in
    let f = g.F.Files.told c.args.files.now in
    let f' = g.F.Files.told c.run_file-told.new.files in
    let s = g.S.Sink.told c.args.out.now in
    let told = c.run_file-told.result in
    let own = c.sizes-sizes.result in
    let sizes = sizes_of (record { steps = o.steps; main_memory_size = o.main_memory_size; quiet = o.quiet }) in
    (told.in_line, rw same (means_by sizes own o.quiet name f.file o.steps (world f s false) (world f' (g.S.Sink.told c.run_file-told.new.out) told.in_line) told.status c.sizes-sizes.ensures.sizes (c.run_file-told.ensures.means own o.quiet c.in-Ok-new.ensures)))

pub returns-clause-write_fault : goal.returns-clause-write_fault
returns-clause-write_fault g c = c.run_file-told.ensures.write_fault c.sizes-sizes.result c.args.job.now.quiet c.in-Ok-new.ensures

pub returns-in-Err-clause-meaning : goal.returns-in-Err-clause-meaning
returns-in-Err-clause-meaning g c =
    let t = c.tell in let o = c.args.job.now in
    let f = g.F.Files.told c.args.files.now in
    let s = g.S.Sink.told c.args.out.now in
    let sizes = sizes_of (record { steps = o.steps; main_memory_size = o.main_memory_size; quiet = o.quiet }) in
    (t.result, means_no_room sizes o.quiet o.file.items f.file o.steps (world f s false) (world f s false) (world f (g.S.Sink.told t.new.out) t.result) (wrote_none (world f s false)) (t.ensures.line f))

pub returns-in-Err-new-clause-meaning : goal.returns-in-Err-new-clause-meaning
returns-in-Err-new-clause-meaning g c =
    let t = c.tell-in-Err-new in let o = c.args.job.now in
    let f = g.F.Files.told c.args.files.now in
    let s = g.S.Sink.told c.args.out.now in
    let sizes = sizes_of (record { steps = o.steps; main_memory_size = o.main_memory_size; quiet = o.quiet }) in
    (t.result, means_no_room sizes o.quiet o.file.items f.file o.steps (world f s false) (world f s false) (world f (g.S.Sink.told t.new.out) t.result) (wrote_none (world f s false)) (t.ensures.line f))
