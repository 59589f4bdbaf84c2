-- What files and a sink in memory tell: all that they hold.
use Rattle.std.specs.Prelude.{is_some, ℕ, ◌+◌}
use Rattle.slab.specs.Slab.{get}
use Rattle.tex_defs.specs.Places.{Holds}
use Rattle.world_io.specs.declared.mem_files.MemFiles.{MemFiles}
use Rattle.world_io.specs.declared.mem_sink.MemSink.{MemSink}
use Rattle.world_io.specs.Calls.{Plan}
use Rattle.world_io.specs.Store.{look_up}
use Rattle.world_io.specs.Contents.{FilesTold, SinkTold}

abbrev pub files_told : MemFiles → FilesTold
files_told m = record {
  file = look_up m.store;
  reading = λ i. is_some (get m.readers i);
  rest = λ i. get m.readers i;
  writer = λ i. get m.writers i;
  read_faults = m.read_faults;
  write_faults = m.write_faults;
  wants = m.wants;
}

abbrev pub files_plan : MemFiles → Plan
files_plan m = m.calls

-- the most bytes that a read gives
abbrev pub most_read : MemFiles → ℕ
most_read m = m.beyond_first + 1

abbrev pub sink_told : MemSink → SinkTold
sink_told m = record { bytes = Holds m.bytes; faults = m.faults; wants = m.wants }

abbrev pub sink_plan : MemSink → Plan
sink_plan m = m.calls
