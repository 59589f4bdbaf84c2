-- The arguments of a call, by their definition. Behind an extra `}` that is given back, `\par` comes next.
use Rattle.std.specs.Prelude.{Bool, true, false, List, [], ◌∷◌, ◌++◌, Option, Some, None}
use Rattle.tex_defs.specs.declared.Name.{Name}
use Rattle.tex_defs.specs.declared.Name.TheVariants.{Word}
use Rattle.tex_defs.specs.declared.Token.{Token}
use Rattle.tex_defs.specs.declared.Token.TheVariants.{Named}
use Rattle.tex_syntax.specs.declared.words.Want.TheVariants.{Raw}
use Rattle.tex_syntax.specs.declared.words.Report.TheVariants.{UseMismatch, ExtraBrace, ParagraphEnded}
use Rattle.plain_tokens.specs.Names.{par_primitive}
use Rattle.plain_tokens.specs.Puts.{list_of_tokens}
use Rattle.plain_tokens.specs.Arguments.{gathering, arguments_in, work_in, mode_of}
use Rattle.plain_tokens.specs.Arguments as call
use Rattle.rows.specs.Readings.{Fed, Tok, Noted, Cut, Ask, More, Ends, Calls, Fails, RunsAway, Inserts}

abbrev pub call_fed : List Fed → List call.Fed
call_fed [] = []
call_fed (Tok x ∷ fed) = call.Tok x.token ∷ call_fed fed
call_fed (Noted ∷ fed) = call.Noted ∷ call_fed fed
call_fed (Cut ∷ fed) = call.Cut ∷ call_fed fed
call_fed (y ∷ fed) = call_fed fed

-- what the call of a macro with this list has gathered
abbrev pub gathered : (long : Bool) → (text : List Token) → List Fed → call.Answer
gathered long text fed = gathering text (mode_of long) (call_fed fed)

abbrev pub par_token : Token
par_token = Named (Word par_primitive)

-- an extra `}` is given back and `\par` inserted; a `\par` behind a check ends the call silently
abbrev pub call_ask : Name → call.Answer → Ask
call_ask name (call.More args work) = More Raw
call_ask name (call.ExtraBraceFound args work) = Inserts par_token (ExtraBrace name) true
call_ask name (call.Called args) = Calls args
call_ask name call.Mismatch = Fails (UseMismatch name)
call_ask name (call.Ended false args work) = RunsAway (ParagraphEnded name)
call_ask name (call.Ended true args work) = Ends

-- a call begins with a token
abbrev pub arguments : Name → (long : Bool) → (text : List Token) → List Fed → Ask
arguments name long text [] = More Raw
arguments name long text (y ∷ fed) = call_ask name (gathered long text (y ∷ fed))

-- THE LISTS, the last first: that of the present argument, once its place is reached, and the arguments; one without tokens is none.

abbrev pub work_list : Option (List Token) → List (List Token)
work_list None = []
work_list (Some ts) = ts ∷ []

abbrev pub argument_lists : List (List Token) → List (List Token)
argument_lists [] = []
argument_lists (a ∷ args) = argument_lists args ++ list_of_tokens a

abbrev pub call_lists : call.Answer → List (List Token)
call_lists a = work_list (work_in a) ++ argument_lists (arguments_in a)
