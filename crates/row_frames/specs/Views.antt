-- What the values of this crate stand for; the tokens are those of the list that was read last.
use Rattle.std.specs.Prelude.{List}
use Rattle.tex_defs.specs.declared.Token.{Token}
use Rattle.rows.specs.Readings as reading
use Rattle.rows.specs.Commands.{CommandAsk}
use Rattle.rows.specs.Commands as command
use Rattle.row_frames.specs.declared.turn.Fed.{Fed}
use Rattle.row_frames.specs.declared.turn.Fed.TheVariants as fed
use Rattle.row_frames.specs.declared.turn.Ask.{Ask}
use Rattle.row_frames.specs.declared.turn.Ask.TheVariants.{More, Inner, Acts, ActsOn, Defines, Ends, Tells, Inserts, Relaxes}

abbrev pub fed_of : List Token → Fed → reading.Fed
fed_of ts (fed.Token x) = reading.Tok x
fed_of ts (fed.Value v) = reading.Val v ts
fed_of ts fed.Noted = reading.Noted
fed_of ts (fed.Fetched v) = reading.Fetched v

abbrev pub ask_of : List Token → Ask → CommandAsk
ask_of ts (More want) = command.More want
ask_of ts (Inner k begins) = command.Inner k begins
ask_of ts (Acts c e) = command.Acts c e
ask_of ts (ActsOn c e) = command.ActsOn c e ts
ask_of ts (Defines c n) = command.Defines c n ts
ask_of ts Ends = command.Ends
ask_of ts (Tells report back) = command.Tells report back
ask_of ts (Inserts t report back) = command.Inserts t report back
ask_of ts (Relaxes c n) = command.Relaxes c n

-- an answer after which the command goes on
abbrev pub IsOpen : Ask → Type 0
IsOpen (Acts c e) = ⊥
IsOpen (ActsOn c e) = ⊥
IsOpen (Defines c n) = ⊥
IsOpen Ends = ⊥
IsOpen a = Unit {0}
