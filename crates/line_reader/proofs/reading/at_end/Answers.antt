use Rattle.line_reader.proofs.Looking.{begun_so, looks_held, looks_read, left_same, told_looks, left_looks}
use Rattle.line_reader.proofs.reading.at_end.Goals as goal

pub holds-requires : goal.holds-requires
holds-requires g c = begun_so _ _ _ c.begin_reader.ensures

pub returns-then-holds-clause-answer : goal.returns-then-holds-clause-answer
returns-then-holds-clause-answer g c = looks_held _ _ _ c.begin_reader.ensures _ c.if-holds.ensures

pub returns-then-holds-clause-told : goal.returns-then-holds-clause-told
returns-then-holds-clause-told g c = told_looks _ _ _ _ _ _ (looks_held _ _ _ c.begin_reader.ensures (g.F.Files.told c.args.files.now) c.if-holds.ensures)

pub returns-then-holds-clause-left : goal.returns-then-holds-clause-left
returns-then-holds-clause-left g c = left_looks _ _ _ _ _ _ (looks_held _ _ _ c.begin_reader.ensures (g.F.Files.told c.args.files.now) c.if-holds.ensures)

pub read_on-requires-clause-begun : goal.read_on-requires-clause-begun
read_on-requires-clause-begun g c = begun_so _ _ _ c.begin_reader.ensures

pub returns-in-Ok-clause-answer : goal.returns-in-Ok-clause-answer
returns-in-Ok-clause-answer g c = looks_read _ _ _ c.begin_reader.ensures _ _ c.read_on.new.self c.in-Ok.more c.if-holds.ensures c.in-Ok.ensures.after c.in-Ok.ensures.came c.in-Ok.ensures.some c.in-Ok.ensures.none

pub returns-in-Ok-clause-told : goal.returns-in-Ok-clause-told
returns-in-Ok-clause-told g c = told_looks _ _ _ _ _ _ (looks_read _ _ _ c.begin_reader.ensures _ _ c.read_on.new.self c.in-Ok.more c.if-holds.ensures c.in-Ok.ensures.after c.in-Ok.ensures.came c.in-Ok.ensures.some c.in-Ok.ensures.none)

pub returns-in-Ok-clause-left : goal.returns-in-Ok-clause-left
returns-in-Ok-clause-left g c = left_looks _ _ _ _ _ _ (looks_read _ _ _ c.begin_reader.ensures _ _ c.read_on.new.self c.in-Ok.more c.if-holds.ensures c.in-Ok.ensures.after c.in-Ok.ensures.came c.in-Ok.ensures.some c.in-Ok.ensures.none)

pub returns-in-Err-Failed-clause-left : goal.returns-in-Err-Failed-clause-left
returns-in-Err-Failed-clause-left g c = left_same _ _ _ c.begin_reader.ensures _ _ c.read_on.new.self c.in-Err-Failed.ensures.err c.in-Err-Failed.ensures.same

pub returns-in-Err-NoMemory-clause-left : goal.returns-in-Err-NoMemory-clause-left
returns-in-Err-NoMemory-clause-left g c = left_same _ _ _ c.begin_reader.ensures _ _ c.read_on.new.self c.in-Err-NoMemory.ensures.err c.in-Err-NoMemory.ensures.same
