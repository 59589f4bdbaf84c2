-- How a fault of the outside cuts off a rule.
use Rattle.world_io.specs.declared.traits.Fault.{Fault}
use Rattle.world_io.specs.declared.traits.Fault.TheVariants.{Failed, NoMemory}
use Rattle.plain_machine.specs.declared.broken.Broken.{Broken}
use Rattle.plain_machine.specs.declared.broken.Broken.TheVariants as broken

abbrev pub broken_by : Fault → Broken
broken_by Failed = broken.WriteFault
broken_by NoMemory = broken.Want
