-- What a scanner of the integer before a fraction will answer on what is still to come.
use Rattle.std.specs.Prelude.{Bool, List, Option, Some, None}
use Rattle.rows.specs.Readings.{Fed}
use Rattle.plain_readings.specs.Factors.{ends_in_point, as_factor, factor}
use Rattle.plain_readings.specs.declared.asks.FactorAsk.{FactorAsk}
use Rattle.scan_numbers.specs.Resumes.{resume}
use Rattle.scan_numbers.specs.declared.number.NumberScan.{NumberScan}
use Rattle.scan_numbers.specs.declared.factor.FactorScan.{FactorScan}

abbrev pub resume_at : (decimal : Option Bool) → (point : Bool) → NumberScan → List Fed → FactorAsk
resume_at None point scan fed = factor fed
resume_at (Some decimal) point scan fed = as_factor decimal (ends_in_point point fed) (resume scan fed)

abbrev pub resume_factor : FactorScan → List Fed → FactorAsk
resume_factor s fed = resume_at s.decimal s.point s.scan fed
