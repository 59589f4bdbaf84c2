-- What a command asks for. It has a type of its own, in which no command can write an answer that none gives: a command has no value, calls no macro,
-- asks neither for what stands at a location nor for the magnification, and puts no token back but the last one before a report. (At its end the effect
-- may put back others, as that of `\expandafter` does.)
use Rattle.std.specs.Prelude.{Bool, List}
use Rattle.tex_defs.specs.declared.Name.{Name}
use Rattle.tex_defs.specs.declared.Token.{Token}
use Rattle.tex_syntax.specs.declared.words.Want.{Want}
use Rattle.tex_syntax.specs.declared.words.Report.{Report}
use Rattle.rows.specs.declared.words.Phrase.{Phrase}
use Rattle.rows.specs.declared.command.Call.{Call}
use Rattle.rows.specs.declared.command.Effect.{Effect}
use Rattle.rows.specs.Readings as reading

-- A token; an inner reading, which may begin with the last token; to do what it does, perhaps with the list that it read last, or to make that
-- list a macro's, and to end; or to end. To report, where the last token may be given back before, and then another be inserted, or to make a
-- name mean `\relax`: then it is fed with the note, and goes on.
pub data CommandAsk : Type 0 where
  More : Want → CommandAsk
  Inner : Phrase → (begins : Bool) → CommandAsk
  Acts : Call → Effect → CommandAsk
  ActsOn : Call → Effect → List Token → CommandAsk
  Defines : Call → Name → List Token → CommandAsk
  Ends : CommandAsk
  Tells : Report → (give_back : Bool) → CommandAsk
  Inserts : Token → Report → (give_back : Bool) → CommandAsk
  Relaxes : Call → Name → CommandAsk

-- as a reading
abbrev pub command_ask : CommandAsk → reading.Ask
command_ask (More want) = reading.More want
command_ask (Inner k begins) = reading.Inner k begins
command_ask (Acts c e) = reading.Acts c e
command_ask (ActsOn c e ts) = reading.ActsOn c e ts
command_ask (Defines c n ts) = reading.Defines c n ts
command_ask Ends = reading.Ends
command_ask (Tells report back) = reading.Tells report back
command_ask (Inserts t report back) = reading.Inserts t report back
command_ask (Relaxes c n) = reading.Relaxes c n
