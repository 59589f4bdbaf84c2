use Rattle.std.proofs.Common.{refl}
use Rattle.std.specs.Prelude.{option_map}
use Rattle.tex_defs.specs.Places.{Untold}
use Rattle.world_io.specs.declared.real_files.Writer.{Writer}
use Rattle.world_io.proofs.Places.{seen_alike, either}
use Rattle.world_io.proofs.real_files.RealFilesFiles.write.Goals as goal

pub returns-in-Ok-clause-written : goal.returns-in-Ok-clause-written
returns-in-Ok-clause-written g c =
    λ name is. record {
      file = λ n. either _ Untold;
      reading = λ i. refl;
      rest = λ i. refl;
      writer = seen_alike (option_map {T = Writer g.row.R-File.Denot} (λ w. w.name)) _ _ _ _ c.index_mut.ensures.value refl;
    }

pub returns-in-Err-clause-err : goal.returns-in-Err-clause-err
returns-in-Err-clause-err g c = record {
  file = λ n. refl;
  reading = λ i. refl;
  rest = λ i. refl;
  writer = seen_alike (option_map {T = Writer g.row.R-File.Denot} (λ w. w.name)) _ _ _ _ c.index_mut.ensures.value refl;
}
