-- What holds of the matches of words that `clap` takes.
use Rattle.std.specs.Prelude.{◌≡◌, ◌||◌, Bool, true, List, Some, codes, bytes_eq}
use Rattle.clap.specs.Words.{Row, Text, first_of}
use Rattle.clap.specs.Walk.{one_of}
use Rattle.clap.specs.ValueTests.{is_unsigned_in}

-- the first value of this name is there, is read as it was written, and passes the test
abbrev pub HasValue : (Text → Bool) → Text → List Row → Type 0
HasValue passes name rows = (t : Text) × (first_of name rows ≡ Some t) × (one_of name rows ≡ Some t) × (passes t ≡ true)

abbrev pub is_flag_text : Text → Bool
is_flag_text t = bytes_eq t (codes "true") || bytes_eq t (codes "false")

pub record IsTaken (rows : List Row) : Type 0 where
  pub file : HasValue (λ _. true) (codes "file") rows
  pub steps : HasValue (is_unsigned_in 0 1000000000000000) (codes "steps") rows
  pub mem : HasValue (is_unsigned_in 100 16777216) (codes "mem") rows
  pub quiet : HasValue is_flag_text (codes "quiet") rows
