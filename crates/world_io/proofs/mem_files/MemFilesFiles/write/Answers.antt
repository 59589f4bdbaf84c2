use Rattle.std.proofs.Common.{ℕ, List, length, take_all, subst, sym, arith}
use Rattle.world_io.specs.Contents.{Grew}
use Rattle.world_io.specs.Memory.{files_told}
use Rattle.world_io.proofs.mem_files.MemFilesFiles.write.Goals as goal

pub returns-in-Ok-clause-written : goal.returns-in-Ok-clause-written
returns-in-Ok-clause-written c =
    let bs = c.args.piece.now in
    λ name is. subst (λ (x : List ℕ). Grew name x (files_told c.args.self.now) (files_told c.append.new.self)) (sym (take_all (length bs) bs (omega arith))) (c.in-Ok.ensures.written name is)
