-- The first stage of a row asks for a token or begins another reading.
use Rattle.std.proofs.Common.{◌<◌, List, [], refl, arith}
use Rattle.rows.specs.declared.words.Datum.{Datum}
use Rattle.rows.specs.declared.words.Keyword.{Keyword as Word}
use Rattle.rows.specs.declared.words.Keyword.TheVariants as word
use Rattle.rows.specs.declared.words.Phrase.TheVariants.{Command, Integer, Factor, Dimension, Glue, Keyword, Text, Definition}
use Rattle.rows.specs.declared.stage.Stage.{Stage}
use Rattle.rows.specs.declared.stage.Stage.TheVariants as stage
use Rattle.rows.specs.declared.stage.Start.{Start}
use Rattle.rows.specs.declared.stage.Start.TheVariants.{Looks, Begins}
use Rattle.rows.specs.declared.command.Call.{Call}
use Rattle.rows.specs.Stages.{start, value_phrase, location}
use Rattle.rows.specs.Table.{row_of, first_in, rest_in, value_stage}
use Rattle.rows.specs.Commands.{command_ask}
use Rattle.rows.specs.Run.{started, behind, run, turned}
use Rattle.plain_readings.specs.Readings.{Kind, Reads, Spelling, FileName, Behind, Skips, Arguments, ask}
use Rattle.plain_readings.specs.Laws.{IsRead, Starts, rank}

abbrev IsLow : Start → Type 0
IsLow (Looks want) = Unit {0}
IsLow (Begins k) = rank (Reads k) < 4

value_low : (s : Stage) → rank (Reads (value_phrase s)) < 4
value_low stage.Dimension = omega arith
value_low (stage.Glue mu) = omega arith
value_low s = omega arith

start_low : (s : Stage) (c : Call) (ds : List Datum) → IsLow (start s c ds)
start_low stage.Number c ds = omega arith
start_low (stage.NumberTo greatest complaint) c ds = omega arith
start_low (stage.NumberUpTo greatest) c ds = omega arith
start_low stage.Dimension c ds = value_low stage.Dimension
start_low (stage.Glue mu) c ds = value_low (stage.Glue mu)
start_low stage.Amount c ds = value_low (value_stage (location 0 ds))
start_low (stage.Keyword w) c ds = omega arith
start_low (stage.Text expanded) c ds = omega arith
start_low (stage.MacroText expanded) c ds = omega arith
start_low s c ds = tt

first_starts : (c : Call) (s : Stage) (ss : List Stage) (begun : Start) → IsLow begun → Starts 4 (command_ask (behind turned c [] (λ es more. run turned c ss es more) (started s c begun [])))
first_starts c s ss (Looks want) low = tt
first_starts c s ss (Begins k) low = (low, refl)

keyword_starts : (w : Word) → Starts 0 (ask (Reads (Keyword w)) [])
keyword_starts word.By = tt
keyword_starts word.Plus = tt
keyword_starts word.Minus = tt
keyword_starts word.Fil = tt
keyword_starts word.L = tt
keyword_starts word.True = tt
keyword_starts word.Em = tt
keyword_starts word.Ex = tt
keyword_starts word.Pt = tt
keyword_starts word.In = tt
keyword_starts word.Pc = tt
keyword_starts word.Cm = tt
keyword_starts word.Mm = tt
keyword_starts word.Bp = tt
keyword_starts word.Dd = tt
keyword_starts word.Cc = tt
keyword_starts word.Sp = tt
keyword_starts word.Mu = tt

pub starts : (k : Kind) → IsRead k → Starts (rank k) (ask k [])
starts (Reads (Command c)) h =
    first_starts c (first_in (row_of c.head).0) (rest_in (row_of c.head).0) (start (first_in (row_of c.head).0) c [])
    (start_low (first_in (row_of c.head).0) c [])
starts (Reads Integer) h = tt
starts (Reads Factor) h = tt
starts (Reads (Dimension k)) h = tt
starts (Reads (Glue mu)) h = tt
starts (Reads (Keyword w)) h = keyword_starts w
starts (Reads (Text name expanded)) h = tt
starts (Reads (Definition name expanded)) h = tt
starts (Spelling c) h = tt
starts (FileName c) h = tt
starts (Behind c x) h = absurd h
starts (Skips c aim line) h = tt
starts (Arguments name long number ts) h = tt
