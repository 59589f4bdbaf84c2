-- A call with its arguments, which stand on a stack beside the levels.
use Rattle.std.specs.Prelude.{List, Option}
use Rattle.token_lists.specs.declared.ListRef.{ListRef}
use Rattle.input_stack.specs.declared.reader.Reader.{Reader}
use Rattle.input_stack.specs.declared.call.Call.{Call}

pub record WholeCall : Type 0 where
  pub body : Reader
  pub argument : Option Reader
  pub args : List (Option ListRef)

abbrev pub with_arguments : List (Option ListRef) → Call → WholeCall
with_arguments args c = record { body = c.body; argument = c.argument; args = args }
