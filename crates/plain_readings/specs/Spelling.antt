-- `\csname`: the characters of a name are gathered by expansion, up to the first name, which must mean `\endcsname`. The TeXbook, chapter 7.
use Rattle.std.specs.Prelude.{ℕ, Bool, true, List, [], ◌∷◌, ◌++◌, if◌then◌else◌}
use Rattle.tex_defs.specs.declared.Token.{Token}
use Rattle.tex_defs.specs.declared.Seen.{Seen}
use Rattle.tex_syntax.specs.declared.words.Want.TheVariants.{Expanded}
use Rattle.tex_syntax.specs.declared.words.Report.TheVariants.{MissingEndcsname}
use Rattle.plain_tokens.specs.Names.{means_primitive}
use Rattle.rows.specs.declared.command.Call.{Call}
use Rattle.rows.specs.declared.command.Effect.TheVariants.{MakeName}
use Rattle.rows.specs.Tokens.{is_character}
use Rattle.rows.specs.Readings.{Fed, Tok, Noted}
use Rattle.rows.specs.Commands.{CommandAsk, More, ActsOn, Ends, Tells}

abbrev pub endcsname_primitive : ℕ
endcsname_primitive = 4

abbrev pub is_endcsname : Seen → Bool
is_endcsname x = means_primitive endcsname_primitive x.meaning

-- the name of these characters is made, and the reading ends
abbrev pub makes : Call → List Token → CommandAsk
makes c ts = ActsOn c MakeName ts

-- another name than `\endcsname` is given back and reported
abbrev pub endcsname_missing : Call → List Token → List Fed → CommandAsk
endcsname_missing c ts [] = Tells MissingEndcsname true
endcsname_missing c ts (Noted ∷ fed) = makes c ts
endcsname_missing c ts (y ∷ fed) = Ends

-- behind these characters
abbrev pub spelling : Call → List Token → List Fed → CommandAsk
spelling c ts [] = More Expanded
spelling c ts (Tok x ∷ fed) =
    if is_character x.token then spelling c (ts ++ x.token ∷ []) fed
    else if is_endcsname x then makes c ts
    else endcsname_missing c ts fed
spelling c ts (y ∷ fed) = Ends

-- the characters before the first name
abbrev pub characters : List Fed → List Token
characters [] = []
characters (Tok x ∷ fed) = if is_character x.token then x.token ∷ characters fed else []
characters (y ∷ fed) = []
