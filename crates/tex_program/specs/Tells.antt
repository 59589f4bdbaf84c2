-- The stop lines.
use Rattle.std.specs.Prelude.{ℕ, List}
use Rattle.plain_machine.specs.Meaning.{usage_line, steps_line, full_line, read_fault_line, write_fault_line, no_memory_line}
use Rattle.tex_program.specs.declared.tell.Telling.{Telling}
use Rattle.tex_program.specs.declared.tell.Telling.TheVariants.{Usage, Full, Steps, ReadFault, WriteFault, NoMemory}

abbrev pub line_of : Telling → List ℕ
line_of Usage = usage_line
line_of (Full full) = full_line full
line_of (Steps n) = steps_line n
line_of ReadFault = read_fault_line
line_of WriteFault = write_fault_line
line_of NoMemory = no_memory_line
