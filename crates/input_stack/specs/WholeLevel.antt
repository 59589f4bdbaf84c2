-- A level, if a call's with its arguments.
use Rattle.input_stack.specs.declared.reader.Reader.{Reader}
use Rattle.input_stack.specs.declared.level.Source as line
use Rattle.input_stack.specs.Whole.{WholeCall}

pub data WholeLevel : Type 0 where
  List : Reader → WholeLevel
  Call : WholeCall → WholeLevel
  Source : line.Source → WholeLevel
