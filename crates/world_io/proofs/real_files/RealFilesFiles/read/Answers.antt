use Rattle.std.proofs.Common.{refl}
use Rattle.std.specs.Prelude.{None, is_some}
use Rattle.world_io.proofs.Places.{seen_alike, either}
use Rattle.world_io.proofs.real_files.RealFilesFiles.read.Goals as goal

pub returns-in-Ok-clause-read : goal.returns-in-Ok-clause-read
returns-in-Ok-clause-read g c = record {
  moved = tt;
  file = λ n. refl;
  reading = seen_alike is_some _ _ _ _ c.index_mut.ensures.value refl;
  rest = λ i. either _ None;
  writer = λ i. refl;
}

pub returns-in-Err-clause-err : goal.returns-in-Err-clause-err
returns-in-Err-clause-err g c = record {
  file = λ n. refl;
  reading = seen_alike is_some _ _ _ _ c.index_mut.ensures.value refl;
  rest = λ i. refl;
  writer = λ i. refl;
}
