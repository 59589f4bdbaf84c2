-- What readings are fed with, and what they ask for.
use Rattle.std.specs.Prelude.{ℕ, Bool, List}
use Rattle.tex_defs.specs.declared.Name.{Name}
use Rattle.tex_defs.specs.declared.Token.{Token}
use Rattle.tex_defs.specs.declared.Seen.{Seen}
use Rattle.tex_syntax.specs.declared.words.Want.{Want}
use Rattle.tex_syntax.specs.declared.words.Report.{Report}
use Rattle.equivalents.specs.declared.values.Loc.{Loc}
use Rattle.equivalents.specs.Locations.{SeenValue}
use Rattle.rows.specs.declared.words.Value.{Value}
use Rattle.rows.specs.declared.words.Phrase.{Phrase}
use Rattle.rows.specs.declared.command.Call.{Call}
use Rattle.rows.specs.declared.command.Effect.{Effect}

-- What a reading is fed with: a token; the value of an inner reading, with its list of tokens where it has one; a note that its
-- report was written, or that what it asked for is done; what stands at the location that it asked for, without its list; a token of a list
-- behind `\the`, which enters an expanded text as it stands; a note that a check came: a file's end or the name of an \outer macro.
pub data Fed : Type 0 where
  Tok : Seen → Fed
  Val : Value → List Token → Fed
  Noted : Fed
  Fetched : SeenValue → Fed
  Verbatim : Token → Fed
  Cut : Fed

-- What a reading asks for: a token; an inner reading, which may begin with the last token; to end with a value, where the last token
-- may be given back. A command asks to do what it does, perhaps with the list that it read last, or to make that list a macro's, and
-- ends; or it ends. A call asks that its body be put, with these arguments; to report and end; or to report that it ran away, and end.
-- To report, where the last token may be given back before, and then another be inserted: then it is fed with the note, and goes on. To put a
-- token back, while so many more are to follow, to make a name mean `\relax`, by a command, or to check the magnification: then too. For what stands
-- at a location.
pub data Ask : Type 0 where
  More : Want → Ask
  Inner : Phrase → (begins : Bool) → Ask
  Done : Value → (give_back : Bool) → Ask
  Acts : Call → Effect → Ask
  ActsOn : Call → Effect → List Token → Ask
  Defines : Call → Name → List Token → Ask
  Ends : Ask
  Calls : (arguments : List (List Token)) → Ask
  Fails : Report → Ask
  RunsAway : Report → Ask
  Tells : Report → (give_back : Bool) → Ask
  Inserts : Token → Report → (give_back : Bool) → Ask
  Puts : Token → (more : ℕ) → Ask
  Relaxes : Call → Name → Ask
  Magnifies : Ask
  Fetches : Loc → Ask
