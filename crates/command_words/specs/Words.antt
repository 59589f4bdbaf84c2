-- The command that the words spell, by the function that `clap` states for this command line.
use Rattle.std.specs.Prelude.{ℕ, ◌==◌, Bool, true, false, List, [], ◌∷◌, ◌++◌, Some, codes, bytes_eq, unwrap_or, if◌then◌else◌}
use Rattle.command_words.specs.declared.Job.{Job}
use Rattle.std.specs.Option.{option_map_or}
use Rattle.std.specs.Str.Parse.{digits_value, without_leading_plus}
use Rattle.clap.specs.Words.{App, Row, Rule, Shape, Text, fault_of, first_of, new_app, new_rule, subcommand_of, with_rule, with_subcommand}
use Rattle.clap.specs.Walk.{is_empty}
use Rattle.clap.specs.Simple.{new_shape}
use Rattle.clap.specs.declared.builder.action.ArgAction.TheVariants.{SetTrue}
use Rattle.clap.specs.declared.builder.value_parser.ValueParser.TheVariants.{Unsigned}

-- ---- the names of files

abbrev pub has : ℕ → List ℕ → Bool
has c [] = false
has c (d ∷ ds) = if d == c then true else has c ds

-- a file's name behind its area, which ends at the last `/`
abbrev pub behind_area : List ℕ → List ℕ
behind_area [] = []
behind_area (c ∷ cs) = if has 47 cs then behind_area cs else if c == 47 then cs else c ∷ cs

-- with `.tex`, where no `.` stands behind the area
abbrev pub file_name : List ℕ → List ℕ
file_name name = if has 46 (behind_area name) then name else name ++ codes ".tex"

abbrev pub before_dot : List ℕ → List ℕ
before_dot [] = []
before_dot (c ∷ cs) = if c == 46 then [] else c ∷ before_dot cs

-- the job's name: what stands behind the area of its file's name, up to the first `.`
abbrev pub job_name : List ℕ → List ℕ
job_name file = before_dot (behind_area file)

-- ---- the command line

-- an option with a number from `least` to `most`, which is `default` where the words don't give it
abbrev pub number_option : Text → ℕ → ℕ → Text → Rule
number_option name least most default = record (new_rule name) { long = Some name; parser = Some (Unsigned least most); defaults = default ∷ [] }

-- an option that is there or not
abbrev pub flag : Text → Rule
flag name = record (new_rule name) { long = Some name; action = Some SetTrue }

-- a word that must be there
abbrev pub required_word : Text → Rule
required_word name = record (new_rule name) { required = true }

-- the command `init`: a file, and the options in any order
abbrev pub init : Shape
init =
    (with_rule (with_rule (with_rule (with_rule (new_app (codes "init"))
    (required_word (codes "file")))
    (number_option (codes "steps") 0 1000000000000000 (codes "10000000")))
    (number_option (codes "mem") 100 16777216 (codes "30000")))
    (flag (codes "quiet"))).top

-- the program, which wants a command, and has no `help` and no `--help`
abbrev pub program : Shape
program = record (new_shape (codes "texmac")) { disable_help_flag = true; disable_help_subcommand = true; subcommand_required = true }

abbrev pub command_line : App
command_line = with_subcommand (record { top = program; subs = [] }) init

-- ---- the command

pub record Options : Type 0 where
  -- the greatest number of steps
  pub steps : ℕ
  -- the main memory size, in words
  pub main_memory_size : ℕ
  -- token lines are left out
  pub quiet : Bool

pub data Command : Type 0 where
  -- run the job of this file from INITEX's first state
  Init : (file : List ℕ) → Options → Command
  NoCommand : Command

-- what `clap` matches behind the word `init`
abbrev pub init_rows : List Text → List Row
init_rows words = option_map_or (λ p. p.1) (subcommand_of command_line words) []

-- the value of a word or an option
abbrev pub text_of : Text → List Row → Text
text_of name rows = unwrap_or (first_of name rows) []

-- decimal digits, before which a `+` may stand
abbrev pub option_number : Text → List Row → ℕ
option_number name rows = digits_value 10 (without_leading_plus (text_of name rows))

abbrev pub is_given : Text → List Row → Bool
is_given name rows = bytes_eq (text_of name rows) (codes "true")

abbrev pub options_of : List Row → Options
options_of rows = record { steps = option_number (codes "steps") rows; main_memory_size = option_number (codes "mem") rows; quiet = is_given (codes "quiet") rows }

abbrev pub command_in : List Row → Command
command_in rows = Init (file_name (text_of (codes "file") rows)) (options_of rows)

-- Words are no command exactly where `clap` has a kind of refusal for them.
abbrev pub command_of : List Text → Command
command_of words = if is_empty (fault_of command_line words) then command_in (init_rows words) else NoCommand

-- ---- the command as the code has it

abbrev pub spelt : Job → Command
spelt job = Init job.file.items (record { steps = job.steps; main_memory_size = job.main_memory_size; quiet = job.quiet })
