-- Rows worked out: what each command asks for, item by item, as it is fed.
use Rattle.std.specs.Prelude.{ℕ, ℤ, pos, negsuc, ◌≡◌, ◌==◌, ◌&&◌, Bool, true, false, List, [], ◌∷◌, Some, None, map, codes}
use Rattle.tex_defs.specs.declared.Token.{Token}
use Rattle.tex_defs.specs.declared.Token.TheVariants as token
use Rattle.tex_defs.specs.declared.Name.{Name}
use Rattle.tex_defs.specs.declared.Name.TheVariants.{Active, Single, Word, Frozen}
use Rattle.tex_defs.specs.declared.Frozen.TheVariants.{Relax, Inaccessible}
use Rattle.tex_defs.specs.declared.Meaning.TheVariants as means
use Rattle.tex_defs.specs.declared.Seen.{Seen}
use Rattle.tex_syntax.specs.declared.words.Want.TheVariants.{Raw, Unentered, Nonblank, Expanded}
use Rattle.tex_syntax.specs.declared.words.Want.TheVariants as want
use Rattle.tex_syntax.specs.declared.words.Report.TheVariants.{BadCharacterCode, BadRegisterCode, BadMathchar, CantUseAfter, InvalidCode, CodeTooGreat, MissingName, MissingRelation, PrefixWith, LongOrOuterWith}
use Rattle.plain_tokens.specs.Categories.{begin_group, space, letter, other}
use Rattle.prim_table.specs.Primitives.{primitive_name}
use Rattle.conditionals.specs.declared.choice.Value.TheVariants.{Truth, Case}
use Rattle.rows.specs.declared.words.Datum.TheVariants.{Number, Found}
use Rattle.rows.specs.declared.words.Datum.TheVariants as datum
use Rattle.rows.specs.declared.words.Keyword.TheVariants.{By}
use Rattle.rows.specs.declared.words.Value.TheVariants as value
use Rattle.rows.specs.declared.words.Phrase.TheVariants.{Integer, Dimension, Glue, Keyword, Text, Definition}
use Rattle.rows.specs.declared.arithmetic.Operation.TheVariants.{Advance, Multiply, Divide}
use Rattle.rows.specs.declared.command.Call.{Call}
use Rattle.rows.specs.declared.command.Head.TheVariants as head
use Rattle.rows.specs.declared.command.Shorthand.TheVariants as shorthand
use Rattle.equivalents.specs.declared.values.CodeKind.TheVariants as code
use Rattle.equivalents.specs.declared.values.Loc.TheVariants as loc
use Rattle.equivalents.specs.declared.values.Glue.{Glue as Spring}
use Rattle.equivalents.specs.declared.values.Val.TheVariants as val
use Rattle.tex_defs.specs.declared.RegisterKind.{RegisterKind}
use Rattle.tex_defs.specs.declared.RegisterKind.TheVariants as register
use Rattle.rows.specs.Arithmetic.{value_computed}
use Rattle.rows.specs.Stages.{in_points}
use Rattle.rows.specs.declared.command.Effect.TheVariants as effect
use Rattle.rows.specs.Tokens.{inaccessible}
use Rattle.rows.specs.declared.stage.Stage.{Stage}
use Rattle.rows.specs.declared.stage.Stage.TheVariants.{NumberTo, Equals, NewName}
use Rattle.rows.specs.declared.stage.Complaint.TheVariants as complaint
use Rattle.rows.specs.declared.command.Action.{Action}
use Rattle.rows.specs.declared.command.Action.TheVariants as action
use Rattle.rows.specs.declared.command.Row.{Row}
use Rattle.rows.specs.declared.command.TheConstants.{SYNTAX}
use Rattle.rows.specs.Table.{has_row, reads_under_normal, stages_in}
use Rattle.rows.specs.Readings.{Fed, Tok, Val, Noted}
use Rattle.rows.specs.Commands.{CommandAsk, More, Inner, Acts, ActsOn, Defines, Ends, Tells, Inserts, Relaxes}
use Rattle.rows.specs.Run.{row}

-- WHAT COMES

abbrev pub character : (category code : ℕ) → Seen
character category code = record { token = token.Char category code; meaning = means.Char category code }

-- a name of this primitive's meaning
abbrev pub primitive : ℕ → Seen
primitive n = record { token = token.Named (Word n); meaning = means.Prim n }

-- the names `\x` and `\y`, which mean nothing
abbrev pub x_name : Name
x_name = Single 120

abbrev pub x : Seen
x = record { token = token.Named x_name; meaning = means.Undefined }

abbrev pub y : Seen
y = record { token = token.Named (Single 121); meaning = means.Undefined }

-- `\x` as a register's name
abbrev pub register_name : (number : ℕ) → Seen
register_name n = record { token = token.Named x_name; meaning = means.Register register.Count n }

-- and as a name of `\chardef` or `\mathchardef`
abbrev pub character_name : (code : ℕ) → Seen
character_name c = record { token = token.Named x_name; meaning = means.CharGiven c }

abbrev pub math_name : (code : ℕ) → Seen
math_name c = record { token = token.Named x_name; meaning = means.MathGiven c }

-- and as a name of `\toksdef`
abbrev pub list_name : (number : ℕ) → Seen
list_name n = record { token = token.Named x_name; meaning = means.Register register.Toks n }

-- what is inserted where a name is missing
abbrev pub inaccessible_name : Seen
inaccessible_name = record { token = inaccessible; meaning = means.Undefined }

abbrev pub frozen_relax : Seen
frozen_relax = record { token = token.Named (Frozen Relax); meaning = means.Prim 1 }

abbrev pub a_letter : Seen
a_letter = character letter 97

abbrev pub a_brace : Seen
a_brace = character begin_group 123

abbrev pub a_space : Seen
a_space = character space 32

abbrev pub equals : Seen
equals = character other 61

abbrev pub digit : Seen
digit = character other 49

abbrev pub number : ℤ → Fed
number n = Val (value.Plain (Number n)) []

-- whether a keyword was there
abbrev pub keyword : Bool → Fed
keyword found = Val (value.Plain (Found found)) []

abbrev pub list : List Token → Fed
list ts = Val value.List ts

-- a dimension in sp
abbrev pub points : ℕ → Fed
points n = Val (value.Plain (datum.Dimension (pos n) 0)) []

-- glue, and that of 7sp which stretches by 2sp and shrinks by 1sp
abbrev pub glue : (width stretch : ℤ) → (order : ℕ) → (shrink : ℤ) → (other : ℕ) → Spring
glue w s o t p = record { width = w; stretch = s; stretch_order = o; shrink = t; shrink_order = p }

abbrev pub spring : Spring
spring = glue (pos 7) (pos 2) 0 (pos 1) 0

abbrev pub springs : Fed
springs = Val (value.Plain (datum.Glue spring)) []

-- a list of one token
abbrev pub text : List Token
text = a_letter.token ∷ []

-- THE STEPS OF A COMMAND

-- a command under the name of its primitive, without prefixes
abbrev pub call : ℕ → Call
call n = record { head = head.Primitive n; name = Word n; long = false; outer = false; global = false }

-- and under the name `\x` of a register
abbrev pub register_call : (number : ℕ) → Call
register_call n = record { head = head.Register register.Count n; name = x_name; long = false; outer = false; global = false }

-- and of one of this kind
abbrev pub name_call : RegisterKind → (number : ℕ) → Call
name_call kind n = record (register_call n) { head = head.Register kind n }

-- all that is asked for, before each item and behind the last
abbrev pub asked : {A : Type 0} → (List Fed → A) → List Fed → List A
asked ask [] = ask [] ∷ []
asked ask (item ∷ fed) = ask [] ∷ asked (λ more. ask (item ∷ more)) fed

abbrev pub steps : ℕ → List Fed → List CommandAsk
steps n fed = asked (row (call n)) fed

-- `\ignorespaces`, `\message`, `\errmessage` and `\show`
pub record WorkedCommands : Type 0 where
  pub ignorespaces : steps 8 (Tok x ∷ []) ≡ More Nonblank ∷ Acts (call 8) (effect.Obey x) ∷ []
  pub message : steps 9 (list text ∷ []) ≡ Inner (Text (Word 9) true) false ∷ ActsOn (call 9) effect.Message text ∷ []
  pub errmessage : steps 10 (list [] ∷ []) ≡ Inner (Text (Word 10) true) false ∷ ActsOn (call 10) effect.ErrorMessage [] ∷ []
  pub show : steps 11 (Tok a_space ∷ []) ≡ More Raw ∷ Acts (call 11) (effect.Show a_space) ∷ []

-- `\def`, `\gdef`, `\edef` and `\xdef`; `\def`, where a space, a character and a frozen name come before the name
pub record WorkedDefinitions : Type 0 where
  pub def : steps 26 (Tok x ∷ list text ∷ []) ≡ More Raw ∷ Inner (Definition x_name false) false ∷ Defines (call 26) x_name text ∷ []
  pub gdef :
      steps 27 (Tok x ∷ list text ∷ []) ≡ More Raw ∷ Inner (Definition x_name false) false ∷ Defines (record (call 27) { global = true }) x_name text ∷ []
  pub edef : steps 28 (Tok x ∷ list text ∷ []) ≡ More Raw ∷ Inner (Definition x_name true) false ∷ Defines (call 28) x_name text ∷ []
  pub xdef :
      steps 29 (Tok x ∷ list text ∷ []) ≡ More Raw ∷ Inner (Definition x_name true) false ∷ Defines (record (call 29) { global = true }) x_name text ∷ []
  pub missing :
      steps 26 (Tok a_space ∷ Tok a_letter ∷ Noted ∷ Tok frozen_relax ∷ Noted ∷ Tok x ∷ []) ≡
      More Raw ∷ More Raw ∷ Inserts inaccessible MissingName true ∷ More Raw ∷ Inserts inaccessible MissingName false ∷ More Raw ∷ Inner (Definition x_name false) false ∷ []

-- `\long\global\def`, `\outer\edef`, `\global\catcode`; `\long\catcode` and `\outer\global\let`; `\global\end` and `\long\message`
pub record WorkedPrefixes : Type 0 where
  pub long_global :
      steps 23 (Tok (primitive 25) ∷ Tok (primitive 26) ∷ Tok x ∷ list text ∷ []) ≡
      More want.Command ∷ More want.Command ∷ More Raw ∷ Inner (Definition x_name false) false ∷ Defines (record (call 26) { long = true; global = true }) x_name text ∷ []
  pub outer :
      steps 24 (Tok (primitive 28) ∷ Tok x ∷ list text ∷ []) ≡
      More want.Command ∷ More Raw ∷ Inner (Definition x_name true) false ∷ Defines (record (call 28) { outer = true }) x_name text ∷ []
  pub global :
      steps 25 (Tok (primitive 35) ∷ number (pos 65) ∷ Tok equals ∷ number (pos 11) ∷ []) ≡
      More want.Command ∷ Inner Integer false ∷ More Nonblank ∷ Inner Integer false ∷ Acts (record (call 35) { global = true }) (effect.SetNumber (loc.Code code.Category 65) (pos 11)) ∷ []
  pub long_catcode :
      steps 23 (Tok (primitive 35) ∷ Noted ∷ number (pos 65) ∷ Tok equals ∷ number (pos 11) ∷ []) ≡
      More want.Command ∷ Tells (LongOrOuterWith (means.Prim 35)) false ∷ Inner Integer false ∷ More Nonblank ∷ Inner Integer false ∷ Acts (call 35) (effect.SetNumber (loc.Code code.Category 65) (pos 11)) ∷ []
  pub outer_let :
      steps 24 (Tok (primitive 25) ∷ Tok (primitive 30) ∷ Noted ∷ Tok x ∷ Tok y ∷ []) ≡
      More want.Command ∷ More want.Command ∷ Tells (LongOrOuterWith (means.Prim 30)) false ∷ More Raw ∷ More Raw ∷ Acts (record (call 30) { global = true }) (effect.Let x_name y) ∷ []
  pub refused : steps 25 (Tok (primitive 6) ∷ Noted ∷ []) ≡ More want.Command ∷ Tells (PrefixWith (means.Prim 6)) true ∷ Ends ∷ []
  pub no_assignment : steps 23 (Tok (primitive 9) ∷ Noted ∷ []) ≡ More want.Command ∷ Tells (PrefixWith (means.Prim 9)) true ∷ Ends ∷ []

-- `\let\x\y`, `\let\x =` and a space before `\y`, `\let\x==`, and `\futurelet\x\y` before a letter
pub record WorkedMeanings : Type 0 where
  pub let_token : steps 30 (Tok x ∷ Tok y ∷ []) ≡ More Raw ∷ More Raw ∷ Acts (call 30) (effect.Let x_name y) ∷ []
  pub let_equals :
      steps 30 (Tok x ∷ Tok a_space ∷ Tok equals ∷ Tok a_space ∷ Tok y ∷ []) ≡
      More Raw ∷ More Raw ∷ More Raw ∷ More Raw ∷ More Raw ∷ Acts (call 30) (effect.Let x_name y) ∷ []
  pub let_space :
      steps 30 (Tok x ∷ Tok equals ∷ Tok a_space ∷ Tok a_space ∷ []) ≡ More Raw ∷ More Raw ∷ More Raw ∷ More Raw ∷ Acts (call 30) (effect.Let x_name a_space) ∷ []
  pub let_second : steps 30 (Tok x ∷ Tok equals ∷ Tok equals ∷ []) ≡ More Raw ∷ More Raw ∷ More Raw ∷ Acts (call 30) (effect.Let x_name equals) ∷ []
  pub futurelet :
      steps 31 (Tok x ∷ Tok y ∷ Tok a_letter ∷ []) ≡ More Raw ∷ More Raw ∷ More Raw ∷ Acts (call 31) (effect.FutureLet x_name y a_letter) ∷ []

-- `\catcode 65=11`, `\catcode 65 11`, where the second number begins with its first digit, and `\catcode 256=16` and `\catcode -1=-1` with their reports
pub record WorkedCategories : Type 0 where
  pub sets :
      steps 35 (number (pos 65) ∷ Tok equals ∷ number (pos 11) ∷ []) ≡ Inner Integer false ∷ More Nonblank ∷ Inner Integer false ∷ Acts (call 35) (effect.SetNumber (loc.Code code.Category 65) (pos 11)) ∷ []
  pub begins :
      steps 35 (number (pos 65) ∷ Tok digit ∷ number (pos 11) ∷ []) ≡ Inner Integer false ∷ More Nonblank ∷ Inner Integer true ∷ Acts (call 35) (effect.SetNumber (loc.Code code.Category 65) (pos 11)) ∷ []
  pub too_great :
      steps 35 (number (pos 256) ∷ Noted ∷ Tok equals ∷ number (pos 16) ∷ Noted ∷ []) ≡
      Inner Integer false ∷ Tells (BadCharacterCode (pos 256)) false ∷ More Nonblank ∷ Inner Integer false ∷ Tells (InvalidCode (pos 16) 15) false ∷ Acts (call 35) (effect.SetNumber (loc.Code code.Category 0) (pos 0)) ∷ []
  pub negative :
      steps 35 (number (negsuc 0) ∷ Noted ∷ Tok digit ∷ number (negsuc 0) ∷ Noted ∷ []) ≡
      Inner Integer false ∷ Tells (BadCharacterCode (negsuc 0)) false ∷ More Nonblank ∷ Inner Integer true ∷ Tells (InvalidCode (negsuc 0) 15) false ∷ Acts (call 35) (effect.SetNumber (loc.Code code.Category 0) (pos 0)) ∷ []
  pub greatest :
      steps 35 (number (pos 255) ∷ Tok equals ∷ number (pos 15) ∷ []) ≡ Inner Integer false ∷ More Nonblank ∷ Inner Integer false ∷ Acts (call 35) (effect.SetNumber (loc.Code code.Category 255) (pos 15)) ∷ []

-- `\lccode 65=97`, `\uccode 97=256`, `\sfcode 65=32768`, `\mathcode 65=32768` and `=32769`, `\delcode 40=-1` and `=16777216`
pub record WorkedCodes : Type 0 where
  pub lowercase :
      steps 36 (number (pos 65) ∷ Tok equals ∷ number (pos 97) ∷ []) ≡ Inner Integer false ∷ More Nonblank ∷ Inner Integer false ∷ Acts (call 36) (effect.SetNumber (loc.Code code.Lowercase 65) (pos 97)) ∷ []
  pub uppercase :
      steps 37 (number (pos 97) ∷ Tok equals ∷ number (pos 256) ∷ Noted ∷ []) ≡
      Inner Integer false ∷ More Nonblank ∷ Inner Integer false ∷ Tells (InvalidCode (pos 256) 255) false ∷ Acts (call 37) (effect.SetNumber (loc.Code code.Uppercase 97) (pos 0)) ∷ []
  pub space_factor :
      steps 38 (number (pos 65) ∷ Tok equals ∷ number (pos 32768) ∷ Noted ∷ []) ≡
      Inner Integer false ∷ More Nonblank ∷ Inner Integer false ∷ Tells (InvalidCode (pos 32768) 32767) false ∷ Acts (call 38) (effect.SetNumber (loc.Code code.SpaceFactor 65) (pos 0)) ∷ []
  pub math :
      steps 39 (number (pos 65) ∷ Tok equals ∷ number (pos 32768) ∷ []) ≡ Inner Integer false ∷ More Nonblank ∷ Inner Integer false ∷ Acts (call 39) (effect.SetNumber (loc.Code code.Math 65) (pos 32768)) ∷ []
  pub math_too_great :
      steps 39 (number (pos 65) ∷ Tok equals ∷ number (pos 32769) ∷ Noted ∷ []) ≡
      Inner Integer false ∷ More Nonblank ∷ Inner Integer false ∷ Tells (InvalidCode (pos 32769) 32768) false ∷ Acts (call 39) (effect.SetNumber (loc.Code code.Math 65) (pos 0)) ∷ []
  pub delimiter :
      steps 40 (number (pos 40) ∷ Tok equals ∷ number (negsuc 0) ∷ []) ≡ Inner Integer false ∷ More Nonblank ∷ Inner Integer false ∷ Acts (call 40) (effect.SetNumber (loc.Code code.Delimiter 40) (negsuc 0)) ∷ []
  pub delimiter_too_great :
      steps 40 (number (pos 40) ∷ Tok equals ∷ number (pos 16777216) ∷ Noted ∷ []) ≡
      Inner Integer false ∷ More Nonblank ∷ Inner Integer false ∷ Tells (CodeTooGreat (pos 16777216) 16777215) false ∷ Acts (call 40) (effect.SetNumber (loc.Code code.Delimiter 40) (pos 0)) ∷ []

-- `\escapechar=33`, `\globaldefs 1`, where the number begins with its first digit, and `\endlinechar=-1`; `\global\newlinechar=10`; `\aftergroup\x`
-- and `\afterassignment\x`
pub record WorkedParameters : Type 0 where
  pub equals_number : steps 130 (Tok equals ∷ number (pos 33) ∷ []) ≡ More Nonblank ∷ Inner Integer false ∷ Acts (call 130) (effect.SetNumber (loc.Integer 45) (pos 33)) ∷ []
  pub begins : steps 128 (Tok digit ∷ number (pos 1) ∷ []) ≡ More Nonblank ∷ Inner Integer true ∷ Acts (call 128) (effect.SetNumber (loc.Integer 43) (pos 1)) ∷ []
  pub negative : steps 133 (Tok equals ∷ number (negsuc 0) ∷ []) ≡ More Nonblank ∷ Inner Integer false ∷ Acts (call 133) (effect.SetNumber (loc.Integer 48) (negsuc 0)) ∷ []
  pub global :
      steps 25 (Tok (primitive 134) ∷ Tok equals ∷ number (pos 10) ∷ []) ≡
      More want.Command ∷ More Nonblank ∷ Inner Integer false ∷ Acts (record (call 134) { global = true }) (effect.SetNumber (loc.Integer 49) (pos 10)) ∷ []
  pub last : steps 139 (Tok equals ∷ number (pos 7) ∷ []) ≡ More Nonblank ∷ Inner Integer false ∷ Acts (call 139) (effect.SetNumber (loc.Integer 54) (pos 7)) ∷ []
  pub aftergroup : steps 15 (Tok x ∷ []) ≡ More Raw ∷ Acts (call 15) (effect.AfterGroup x) ∷ []
  pub afterassignment : steps 16 (Tok x ∷ []) ≡ More Raw ∷ Acts (call 16) (effect.AfterAssignment x) ∷ []

-- `\count 7=-1`; `\count 256 1`, with its report, where the second number begins with its first digit; `\x=7` and `\x 1`, where `\x` is the name of
-- register 5, with `\global` and with `\long`
pub record WorkedRegisters : Type 0 where
  pub sets :
      steps 41 (number (pos 7) ∷ Tok equals ∷ number (negsuc 0) ∷ []) ≡
      Inner Integer false ∷ More Nonblank ∷ Inner Integer false ∷ Acts (call 41) (effect.SetNumber (loc.Register register.Count 7) (negsuc 0)) ∷ []
  pub too_great :
      steps 41 (number (pos 256) ∷ Noted ∷ Tok digit ∷ number (pos 1) ∷ []) ≡
      Inner Integer false ∷ Tells (BadRegisterCode (pos 256)) false ∷ More Nonblank ∷ Inner Integer true ∷ Acts (call 41) (effect.SetNumber (loc.Register register.Count 0) (pos 1)) ∷ []
  pub named :
      asked (row (register_call 5)) (Tok equals ∷ number (pos 7) ∷ []) ≡
      More Nonblank ∷ Inner Integer false ∷ Acts (register_call 5) (effect.SetNumber (loc.Register register.Count 5) (pos 7)) ∷ []
  pub named_begins :
      asked (row (register_call 5)) (Tok digit ∷ number (pos 1) ∷ []) ≡
      More Nonblank ∷ Inner Integer true ∷ Acts (register_call 5) (effect.SetNumber (loc.Register register.Count 5) (pos 1)) ∷ []
  pub named_global :
      steps 25 (Tok (register_name 5) ∷ Tok equals ∷ number (pos 7) ∷ []) ≡
      More want.Command ∷ More Nonblank ∷ Inner Integer false ∷ Acts (record (register_call 5) { global = true }) (effect.SetNumber (loc.Register register.Count 5) (pos 7)) ∷ []
  pub named_long :
      steps 23 (Tok (register_name 5) ∷ Noted ∷ Tok equals ∷ number (pos 7) ∷ []) ≡
      More want.Command ∷ Tells (LongOrOuterWith (means.Register register.Count 5)) false ∷ More Nonblank ∷ Inner Integer false ∷ Acts (register_call 5) (effect.SetNumber (loc.Register register.Count 5) (pos 7)) ∷ []

-- `\advance\count 7 by 2`, without `by`, with `\count 256` and its report, with a parameter and with the name of register 7; what can't be used: a
-- letter, `\relax`, `\catcode` and a name of `\chardef`, by which nothing is assigned; `\global\advance`; `\multiply` and `\divide`
pub record WorkedArithmetic : Type 0 where
  pub advance :
      steps 32 (Tok (primitive 41) ∷ number (pos 7) ∷ keyword true ∷ number (pos 2) ∷ []) ≡
      More Expanded ∷ Inner Integer false ∷ Inner (Keyword By) false ∷ Inner Integer false ∷ Acts (call 32) (effect.Compute Advance (loc.Register register.Count 7) (Number (pos 2))) ∷ []
  pub without :
      steps 32 (Tok (primitive 41) ∷ number (pos 7) ∷ keyword false ∷ number (negsuc 1) ∷ []) ≡
      More Expanded ∷ Inner Integer false ∷ Inner (Keyword By) false ∷ Inner Integer false ∷ Acts (call 32) (effect.Compute Advance (loc.Register register.Count 7) (Number (negsuc 1))) ∷ []
  pub too_great :
      steps 32 (Tok (primitive 41) ∷ number (pos 256) ∷ Noted ∷ keyword true ∷ number (pos 1) ∷ []) ≡
      More Expanded ∷ Inner Integer false ∷ Tells (BadRegisterCode (pos 256)) false ∷ Inner (Keyword By) false ∷ Inner Integer false ∷ Acts (call 32) (effect.Compute Advance (loc.Register register.Count 0) (Number (pos 1))) ∷ []
  pub parameter :
      steps 32 (Tok (primitive 130) ∷ keyword true ∷ number (pos 1) ∷ []) ≡ More Expanded ∷ Inner (Keyword By) false ∷ Inner Integer false ∷ Acts (call 32) (effect.Compute Advance (loc.Integer 45) (Number (pos 1))) ∷ []
  pub named :
      steps 32 (Tok (register_name 7) ∷ keyword true ∷ number (pos 1) ∷ []) ≡
      More Expanded ∷ Inner (Keyword By) false ∷ Inner Integer false ∷ Acts (call 32) (effect.Compute Advance (loc.Register register.Count 7) (Number (pos 1))) ∷ []
  pub letter_refused : steps 32 (Tok a_letter ∷ Noted ∷ []) ≡ More Expanded ∷ Tells (CantUseAfter (means.Char letter 97) 32) false ∷ Acts (call 32) effect.Unassigned ∷ []
  pub relax_refused : steps 33 (Tok (primitive 1) ∷ Noted ∷ []) ≡ More Expanded ∷ Tells (CantUseAfter (means.Prim 1) 33) false ∷ Acts (call 33) effect.Unassigned ∷ []
  pub code_refused : steps 34 (Tok (primitive 35) ∷ Noted ∷ []) ≡ More Expanded ∷ Tells (CantUseAfter (means.Prim 35) 34) false ∷ Acts (call 34) effect.Unassigned ∷ []
  pub character_refused : steps 32 (Tok (character_name 65) ∷ Noted ∷ []) ≡ More Expanded ∷ Tells (CantUseAfter (means.CharGiven 65) 32) false ∷ Acts (call 32) effect.Unassigned ∷ []
  pub global :
      steps 25 (Tok (primitive 32) ∷ Tok (register_name 7) ∷ keyword true ∷ number (pos 1) ∷ []) ≡
      More want.Command ∷ More Expanded ∷ Inner (Keyword By) false ∷ Inner Integer false ∷ Acts (record (call 32) { global = true }) (effect.Compute Advance (loc.Register register.Count 7) (Number (pos 1))) ∷ []
  pub global_refused :
      steps 25 (Tok (primitive 32) ∷ Tok a_letter ∷ Noted ∷ []) ≡
      More want.Command ∷ More Expanded ∷ Tells (CantUseAfter (means.Char letter 97) 32) false ∷ Acts (record (call 32) { global = true }) effect.Unassigned ∷ []
  pub multiply :
      steps 33 (Tok (register_name 7) ∷ keyword true ∷ number (pos 3) ∷ []) ≡
      More Expanded ∷ Inner (Keyword By) false ∷ Inner Integer false ∷ Acts (call 33) (effect.Compute Multiply (loc.Register register.Count 7) (Number (pos 3))) ∷ []
  pub divide :
      steps 34 (Tok (register_name 7) ∷ keyword true ∷ number (pos 3) ∷ []) ≡
      More Expanded ∷ Inner (Keyword By) false ∷ Inner Integer false ∷ Acts (call 34) (effect.Compute Divide (loc.Register register.Count 7) (Number (pos 3))) ∷ []

-- `\chardef\x=65`, `\mathchardef\x 1`, where the number begins with its first digit, and `\countdef\x=5`; numbers out of their ranges; a space and a letter
-- in place of the name; `\global\chardef`
pub record WorkedShorthands : Type 0 where
  pub chardef :
      steps 46 (Tok x ∷ Noted ∷ Tok equals ∷ number (pos 65) ∷ []) ≡
      More Raw ∷ Relaxes (call 46) x_name ∷ More Nonblank ∷ Inner Integer false ∷ Acts (call 46) (effect.Shorthand x_name (shorthand.Character 65)) ∷ []
  pub mathchardef :
      steps 47 (Tok x ∷ Noted ∷ Tok digit ∷ number (pos 1) ∷ []) ≡
      More Raw ∷ Relaxes (call 47) x_name ∷ More Nonblank ∷ Inner Integer true ∷ Acts (call 47) (effect.Shorthand x_name (shorthand.Math 1)) ∷ []
  pub countdef :
      steps 48 (Tok x ∷ Noted ∷ Tok equals ∷ number (pos 5) ∷ []) ≡
      More Raw ∷ Relaxes (call 48) x_name ∷ More Nonblank ∷ Inner Integer false ∷ Acts (call 48) (effect.Shorthand x_name (shorthand.Register register.Count 5)) ∷ []
  pub character_too_great :
      steps 46 (Tok x ∷ Noted ∷ Tok equals ∷ number (pos 256) ∷ Noted ∷ []) ≡
      More Raw ∷ Relaxes (call 46) x_name ∷ More Nonblank ∷ Inner Integer false ∷ Tells (BadCharacterCode (pos 256)) false ∷ Acts (call 46) (effect.Shorthand x_name (shorthand.Character 0)) ∷ []
  pub math_too_great :
      steps 47 (Tok x ∷ Noted ∷ Tok equals ∷ number (pos 32768) ∷ Noted ∷ []) ≡
      More Raw ∷ Relaxes (call 47) x_name ∷ More Nonblank ∷ Inner Integer false ∷ Tells (BadMathchar (pos 32768)) false ∷ Acts (call 47) (effect.Shorthand x_name (shorthand.Math 0)) ∷ []
  pub math_negative :
      steps 47 (Tok x ∷ Noted ∷ Tok equals ∷ number (negsuc 0) ∷ Noted ∷ []) ≡
      More Raw ∷ Relaxes (call 47) x_name ∷ More Nonblank ∷ Inner Integer false ∷ Tells (BadMathchar (negsuc 0)) false ∷ Acts (call 47) (effect.Shorthand x_name (shorthand.Math 0)) ∷ []
  pub math_greatest :
      steps 47 (Tok x ∷ Noted ∷ Tok equals ∷ number (pos 32767) ∷ []) ≡
      More Raw ∷ Relaxes (call 47) x_name ∷ More Nonblank ∷ Inner Integer false ∷ Acts (call 47) (effect.Shorthand x_name (shorthand.Math 32767)) ∷ []
  pub register_too_great :
      steps 48 (Tok x ∷ Noted ∷ Tok equals ∷ number (pos 256) ∷ Noted ∷ []) ≡
      More Raw ∷ Relaxes (call 48) x_name ∷ More Nonblank ∷ Inner Integer false ∷ Tells (BadRegisterCode (pos 256)) false ∷ Acts (call 48) (effect.Shorthand x_name (shorthand.Register register.Count 0)) ∷ []
  pub missing :
      steps 46 (Tok a_space ∷ Tok a_letter ∷ Noted ∷ Tok inaccessible_name ∷ Noted ∷ Tok a_letter ∷ number (pos 0) ∷ []) ≡
      More Raw ∷ More Raw ∷ Inserts inaccessible MissingName true ∷ More Raw ∷ Relaxes (call 46) (Frozen Inaccessible) ∷ More Nonblank ∷ Inner Integer true ∷
      Acts (call 46) (effect.Shorthand (Frozen Inaccessible) (shorthand.Character 0)) ∷ []
  pub global :
      steps 25 (Tok (primitive 46) ∷ Tok x ∷ Noted ∷ Tok equals ∷ number (pos 65) ∷ []) ≡
      More want.Command ∷ More Raw ∷ Relaxes (record (call 46) { global = true }) x_name ∷ More Nonblank ∷ Inner Integer false ∷ Acts (record (call 46) { global = true }) (effect.Shorthand x_name (shorthand.Character 65)) ∷ []

-- `\the` before names of `\chardef` and `\mathchardef`; before parameters, `\endlinechar`, `\parindent` and `\lineskip`; before a register's name,
-- `\catcode 65`, `\skip 7` and `\dimen -1`, with its report; before what can't be used, a letter and `\relax`
pub record WorkedValues : Type 0 where
  pub character : steps 62 (Tok (character_name 65) ∷ []) ≡ More Expanded ∷ Acts (call 62) (effect.MakeNumber (pos 65)) ∷ []
  pub math : steps 62 (Tok (math_name 321) ∷ []) ≡ More Expanded ∷ Acts (call 62) (effect.MakeNumber (pos 321)) ∷ []
  pub integer : steps 62 (Tok (primitive 133) ∷ []) ≡ More Expanded ∷ Acts (call 62) (effect.MakeValue (loc.Integer 48)) ∷ []
  pub dimension : steps 62 (Tok (primitive 140) ∷ []) ≡ More Expanded ∷ Acts (call 62) (effect.MakeValue (loc.Dimension 0)) ∷ []
  pub glue : steps 62 (Tok (primitive 161) ∷ []) ≡ More Expanded ∷ Acts (call 62) (effect.MakeValue (loc.Glue 0)) ∷ []
  pub named : steps 62 (Tok (register_name 7) ∷ []) ≡ More Expanded ∷ Acts (call 62) (effect.MakeValue (loc.Register register.Count 7)) ∷ []
  pub category : steps 62 (Tok (primitive 35) ∷ number (pos 65) ∷ []) ≡ More Expanded ∷ Inner Integer false ∷ Acts (call 62) (effect.MakeValue (loc.Code code.Category 65)) ∷ []
  pub category_too_great :
      steps 62 (Tok (primitive 35) ∷ number (pos 256) ∷ Noted ∷ []) ≡ More Expanded ∷ Inner Integer false ∷ Tells (BadCharacterCode (pos 256)) false ∷ Acts (call 62) (effect.MakeValue (loc.Code code.Category 0)) ∷ []
  pub skip : steps 62 (Tok (primitive 43) ∷ number (pos 7) ∷ []) ≡ More Expanded ∷ Inner Integer false ∷ Acts (call 62) (effect.MakeValue (loc.Register register.Skip 7)) ∷ []
  pub dimen_negative :
      steps 62 (Tok (primitive 42) ∷ number (negsuc 0) ∷ Noted ∷ []) ≡ More Expanded ∷ Inner Integer false ∷ Tells (BadRegisterCode (negsuc 0)) false ∷ Acts (call 62) (effect.MakeValue (loc.Register register.Dimen 0)) ∷ []
  pub letter_refused : steps 62 (Tok a_letter ∷ Noted ∷ []) ≡ More Expanded ∷ Tells (CantUseAfter (means.Char letter 97) 62) false ∷ Acts (call 62) (effect.MakeNumber (pos 0)) ∷ []
  pub relax_refused : steps 62 (Tok (primitive 1) ∷ Noted ∷ []) ≡ More Expanded ∷ Tells (CantUseAfter (means.Prim 1) 62) false ∷ Acts (call 62) (effect.MakeNumber (pos 0)) ∷ []

-- `\dimen 3=` and `\skip 3=`, `\muskip 3=` in mu; `\parindent` and `\lineskip`, whose values begin with a token, and `\thinmuskip=`; `\x=`, where `\x` is a
-- name of a register of these kinds; `\dimendef\x=5`; `\advance` of a dimension, of glue and of glue in mu by one, and `\multiply` and `\divide` of them
-- by a number; `\advance\toks`, which can't be used
pub record WorkedMeasures : Type 0 where
  pub dimen :
      steps 42 (number (pos 3) ∷ Tok equals ∷ points 65536 ∷ []) ≡
      Inner Integer false ∷ More Nonblank ∷ Inner (Dimension in_points) false ∷ Acts (call 42) (effect.SetNumber (loc.Register register.Dimen 3) (pos 65536)) ∷ []
  pub skip :
      steps 43 (number (pos 3) ∷ Tok equals ∷ springs ∷ []) ≡
      Inner Integer false ∷ More Nonblank ∷ Inner (Glue false) false ∷ Acts (call 43) (effect.SetGlue (loc.Register register.Skip 3) spring) ∷ []
  pub muskip :
      steps 44 (number (pos 3) ∷ Tok equals ∷ springs ∷ []) ≡
      Inner Integer false ∷ More Nonblank ∷ Inner (Glue true) false ∷ Acts (call 44) (effect.SetGlue (loc.Register register.Muskip 3) spring) ∷ []
  pub parindent :
      steps 140 (Tok digit ∷ points 65536 ∷ []) ≡ More Nonblank ∷ Inner (Dimension in_points) true ∷ Acts (call 140) (effect.SetNumber (loc.Dimension 0) (pos 65536)) ∷ []
  pub lineskip : steps 161 (Tok digit ∷ springs ∷ []) ≡ More Nonblank ∷ Inner (Glue false) true ∷ Acts (call 161) (effect.SetGlue (loc.Glue 0) spring) ∷ []
  pub thinmuskip : steps 176 (Tok equals ∷ springs ∷ []) ≡ More Nonblank ∷ Inner (Glue true) false ∷ Acts (call 176) (effect.SetGlue (loc.Glue 15) spring) ∷ []
  pub dimen_named :
      asked (row (name_call register.Dimen 5)) (Tok equals ∷ points 1 ∷ []) ≡
      More Nonblank ∷ Inner (Dimension in_points) false ∷ Acts (name_call register.Dimen 5) (effect.SetNumber (loc.Register register.Dimen 5) (pos 1)) ∷ []
  pub skip_named :
      asked (row (name_call register.Skip 5)) (Tok equals ∷ springs ∷ []) ≡
      More Nonblank ∷ Inner (Glue false) false ∷ Acts (name_call register.Skip 5) (effect.SetGlue (loc.Register register.Skip 5) spring) ∷ []
  pub muskip_named :
      asked (row (name_call register.Muskip 5)) (Tok equals ∷ springs ∷ []) ≡
      More Nonblank ∷ Inner (Glue true) false ∷ Acts (name_call register.Muskip 5) (effect.SetGlue (loc.Register register.Muskip 5) spring) ∷ []
  pub dimendef :
      steps 49 (Tok x ∷ Noted ∷ Tok equals ∷ number (pos 5) ∷ []) ≡
      More Raw ∷ Relaxes (call 49) x_name ∷ More Nonblank ∷ Inner Integer false ∷ Acts (call 49) (effect.Shorthand x_name (shorthand.Register register.Dimen 5)) ∷ []
  pub advance_dimension :
      steps 32 (Tok (primitive 140) ∷ keyword true ∷ points 1 ∷ []) ≡
      More Expanded ∷ Inner (Keyword By) false ∷ Inner (Dimension in_points) false ∷ Acts (call 32) (effect.Compute Advance (loc.Dimension 0) (datum.Dimension (pos 1) 0)) ∷ []
  pub advance_glue :
      steps 32 (Tok (primitive 43) ∷ number (pos 7) ∷ keyword false ∷ springs ∷ []) ≡
      More Expanded ∷ Inner Integer false ∷ Inner (Keyword By) false ∷ Inner (Glue false) false ∷ Acts (call 32) (effect.Compute Advance (loc.Register register.Skip 7) (datum.Glue spring)) ∷ []
  pub advance_mu :
      steps 32 (Tok (primitive 176) ∷ keyword true ∷ springs ∷ []) ≡
      More Expanded ∷ Inner (Keyword By) false ∷ Inner (Glue true) false ∷ Acts (call 32) (effect.Compute Advance (loc.Glue 15) (datum.Glue spring)) ∷ []
  pub multiply :
      steps 33 (Tok (primitive 161) ∷ keyword true ∷ number (pos 3) ∷ []) ≡
      More Expanded ∷ Inner (Keyword By) false ∷ Inner Integer false ∷ Acts (call 33) (effect.Compute Multiply (loc.Glue 0) (Number (pos 3))) ∷ []
  pub divide :
      steps 34 (Tok (primitive 140) ∷ keyword true ∷ number (pos 3) ∷ []) ≡
      More Expanded ∷ Inner (Keyword By) false ∷ Inner Integer false ∷ Acts (call 34) (effect.Compute Divide (loc.Dimension 0) (Number (pos 3))) ∷ []
  pub toks_refused : steps 32 (Tok (primitive 45) ∷ Noted ∷ []) ≡ More Expanded ∷ Tells (CantUseAfter (means.Prim 45) 32) false ∷ Acts (call 32) effect.Unassigned ∷ []

-- what arithmetic comes to: a dimension's sum may be beyond 2^30 sp, a product may not; of two stretches of different orders the higher one is the sum;
-- products and quotients of each part, which are cut towards zero
pub record WorkedComputing : Type 0 where
  pub sum_beyond :
      value_computed Advance (loc.Dimension 0) (val.Number (pos 1073741823)) (datum.Dimension (pos 1) 0) ≡ Some (val.Number (pos 1073741824))
  pub product_beyond : value_computed Multiply (loc.Dimension 0) (val.Number (pos 536870912)) (Number (pos 2)) ≡ None
  pub product_within : value_computed Multiply (loc.Integer 0) (val.Number (pos 536870912)) (Number (pos 2)) ≡ Some (val.Number (pos 1073741824))
  pub orders :
      value_computed Advance (loc.Glue 0) (val.Skip spring) (datum.Glue (glue (pos 1) (pos 5) 1 (pos 3) 0)) ≡ Some (val.Skip (glue (pos 8) (pos 5) 1 (pos 4) 0))
  pub product_of_parts :
      value_computed Multiply (loc.Glue 0) (val.Skip spring) (Number (negsuc 1)) ≡ Some (val.Skip (glue (negsuc 13) (negsuc 3) 0 (negsuc 1) 0))
  pub quotient_of_parts : value_computed Divide (loc.Glue 0) (val.Skip spring) (Number (negsuc 1)) ≡ Some (val.Skip (glue (negsuc 2) (negsuc 0) 0 (pos 0) 0))
  pub by_zero : value_computed Divide (loc.Glue 0) (val.Skip spring) (Number (pos 0)) ≡ None

-- `\toks1={a}`; without `=`, also where `\relax` stands before the brace; where a letter stands in its place, which the text reports; `\toks256={}`;
-- `\toks1=\toks2` and `\toks1\toks256`; `\toks1=\everypar`; `\x={a}` and `\x=\x`, where `\x` is a register's name; `\everypar={a}`, `\errhelp{}` and
-- `\everypar=\toks1`; `\toksdef\x=5`; `\global\toks1={a}`, `\long\toks1={a}` and `\long\global\everypar=\toks1`
pub record WorkedLists : Type 0 where
  pub sets :
      steps 45 (number (pos 1) ∷ Tok equals ∷ Tok a_brace ∷ list text ∷ []) ≡
      Inner Integer false ∷ More Nonblank ∷ More want.Command ∷ Inner (Text (Word 45) false) true ∷ ActsOn (call 45) (effect.SetList (loc.Register register.Toks 1)) text ∷ []
  pub begins :
      steps 45 (number (pos 1) ∷ Tok a_brace ∷ list text ∷ []) ≡
      Inner Integer false ∷ More Nonblank ∷ Inner (Text (Word 45) false) true ∷ ActsOn (call 45) (effect.SetList (loc.Register register.Toks 1)) text ∷ []
  pub relax_before :
      steps 45 (number (pos 1) ∷ Tok (primitive 1) ∷ Tok a_brace ∷ list text ∷ []) ≡
      Inner Integer false ∷ More Nonblank ∷ More want.Command ∷ Inner (Text (Word 45) false) true ∷ ActsOn (call 45) (effect.SetList (loc.Register register.Toks 1)) text ∷ []
  pub letter :
      steps 45 (number (pos 1) ∷ Tok equals ∷ Tok a_letter ∷ list [] ∷ []) ≡
      Inner Integer false ∷ More Nonblank ∷ More want.Command ∷ Inner (Text (Word 45) false) true ∷ ActsOn (call 45) (effect.SetList (loc.Register register.Toks 1)) [] ∷ []
  pub too_great :
      steps 45 (number (pos 256) ∷ Noted ∷ Tok equals ∷ Tok a_brace ∷ list [] ∷ []) ≡
      Inner Integer false ∷ Tells (BadRegisterCode (pos 256)) false ∷ More Nonblank ∷ More want.Command ∷ Inner (Text (Word 45) false) true ∷ ActsOn (call 45) (effect.SetList (loc.Register register.Toks 0)) [] ∷ []
  pub shares :
      steps 45 (number (pos 1) ∷ Tok equals ∷ Tok (primitive 45) ∷ number (pos 2) ∷ []) ≡
      Inner Integer false ∷ More Nonblank ∷ More want.Command ∷ Inner Integer false ∷ Acts (call 45) (effect.ShareList (loc.Register register.Toks 1) (loc.Register register.Toks 2)) ∷ []
  pub shared_too_great :
      steps 45 (number (pos 1) ∷ Tok (primitive 45) ∷ number (pos 256) ∷ Noted ∷ []) ≡
      Inner Integer false ∷ More Nonblank ∷ Inner Integer false ∷ Tells (BadRegisterCode (pos 256)) false ∷ Acts (call 45) (effect.ShareList (loc.Register register.Toks 1) (loc.Register register.Toks 0)) ∷ []
  pub shares_parameter :
      steps 45 (number (pos 1) ∷ Tok equals ∷ Tok (primitive 179) ∷ []) ≡
      Inner Integer false ∷ More Nonblank ∷ More want.Command ∷ Acts (call 45) (effect.ShareList (loc.Register register.Toks 1) (loc.Tokens 0)) ∷ []
  pub named :
      asked (row (name_call register.Toks 5)) (Tok equals ∷ Tok a_brace ∷ list text ∷ []) ≡
      More Nonblank ∷ More want.Command ∷ Inner (Text x_name false) true ∷ ActsOn (name_call register.Toks 5) (effect.SetList (loc.Register register.Toks 5)) text ∷ []
  pub named_shares :
      asked (row (name_call register.Toks 5)) (Tok equals ∷ Tok (list_name 5) ∷ []) ≡
      More Nonblank ∷ More want.Command ∷ Acts (name_call register.Toks 5) (effect.ShareList (loc.Register register.Toks 5) (loc.Register register.Toks 5)) ∷ []
  pub everypar :
      steps 179 (Tok equals ∷ Tok a_brace ∷ list text ∷ []) ≡
      More Nonblank ∷ More want.Command ∷ Inner (Text (Word 179) false) true ∷ ActsOn (call 179) (effect.SetList (loc.Tokens 0)) text ∷ []
  pub errhelp : steps 186 (Tok a_brace ∷ list [] ∷ []) ≡ More Nonblank ∷ Inner (Text (Word 186) false) true ∷ ActsOn (call 186) (effect.SetList (loc.Tokens 7)) [] ∷ []
  pub everypar_shares :
      steps 179 (Tok equals ∷ Tok (primitive 45) ∷ number (pos 1) ∷ []) ≡
      More Nonblank ∷ More want.Command ∷ Inner Integer false ∷ Acts (call 179) (effect.ShareList (loc.Tokens 0) (loc.Register register.Toks 1)) ∷ []
  pub toksdef :
      steps 52 (Tok x ∷ Noted ∷ Tok equals ∷ number (pos 5) ∷ []) ≡
      More Raw ∷ Relaxes (call 52) x_name ∷ More Nonblank ∷ Inner Integer false ∷ Acts (call 52) (effect.Shorthand x_name (shorthand.Register register.Toks 5)) ∷ []
  pub global :
      steps 25 (Tok (primitive 45) ∷ number (pos 1) ∷ Tok equals ∷ Tok a_brace ∷ list text ∷ []) ≡
      More want.Command ∷ Inner Integer false ∷ More Nonblank ∷ More want.Command ∷ Inner (Text (Word 45) false) true ∷
      ActsOn (record (call 45) { global = true }) (effect.SetList (loc.Register register.Toks 1)) text ∷ []
  pub long :
      steps 23 (Tok (primitive 45) ∷ Noted ∷ number (pos 1) ∷ Tok equals ∷ Tok a_brace ∷ list text ∷ []) ≡
      More want.Command ∷ Tells (LongOrOuterWith (means.Prim 45)) false ∷ Inner Integer false ∷ More Nonblank ∷ More want.Command ∷ Inner (Text (Word 45) false) true ∷
      ActsOn (call 45) (effect.SetList (loc.Register register.Toks 1)) text ∷ []
  pub long_parameter :
      steps 23 (Tok (primitive 25) ∷ Tok (primitive 179) ∷ Noted ∷ Tok equals ∷ Tok (list_name 1) ∷ []) ≡
      More want.Command ∷ More want.Command ∷ Tells (LongOrOuterWith (means.Prim 179)) false ∷ More Nonblank ∷ More want.Command ∷
      Acts (record (call 179) { global = true }) (effect.ShareList (loc.Tokens 0) (loc.Register register.Toks 1)) ∷ []

-- `\the\toks1`, `\the\x`, where `\x` is a register's name, and `\the\everypar`; `\showthe` before `\count1`, `\toks1`, `\errhelp` and a name of `\chardef`, and
-- before `\relax`, where the report names `\the`; `\uppercase{a}`, `\lowercase{}` and `\global\uppercase`
pub record WorkedListValues : Type 0 where
  pub toks : steps 62 (Tok (primitive 45) ∷ number (pos 1) ∷ []) ≡ More Expanded ∷ Inner Integer false ∷ Acts (call 62) (effect.PutList (loc.Register register.Toks 1)) ∷ []
  pub named : steps 62 (Tok (list_name 7) ∷ []) ≡ More Expanded ∷ Acts (call 62) (effect.PutList (loc.Register register.Toks 7)) ∷ []
  pub everypar : steps 62 (Tok (primitive 179) ∷ []) ≡ More Expanded ∷ Acts (call 62) (effect.PutList (loc.Tokens 0)) ∷ []
  pub shows : steps 12 (Tok (primitive 41) ∷ number (pos 1) ∷ []) ≡ More Expanded ∷ Inner Integer false ∷ Acts (call 12) (effect.ShowValue (loc.Register register.Count 1)) ∷ []
  pub shows_list : steps 12 (Tok (primitive 45) ∷ number (pos 1) ∷ []) ≡ More Expanded ∷ Inner Integer false ∷ Acts (call 12) (effect.ShowValue (loc.Register register.Toks 1)) ∷ []
  pub shows_parameter : steps 12 (Tok (primitive 186) ∷ []) ≡ More Expanded ∷ Acts (call 12) (effect.ShowValue (loc.Tokens 7)) ∷ []
  pub shows_number : steps 12 (Tok (character_name 65) ∷ []) ≡ More Expanded ∷ Acts (call 12) (effect.ShowNumber (pos 65)) ∷ []
  pub show_refused : steps 12 (Tok (primitive 1) ∷ Noted ∷ []) ≡ More Expanded ∷ Tells (CantUseAfter (means.Prim 1) 62) false ∷ Acts (call 12) (effect.ShowNumber (pos 0)) ∷ []
  pub uppercase : steps 13 (list text ∷ []) ≡ Inner (Text (Word 13) false) false ∷ ActsOn (call 13) (effect.ChangeCase true) text ∷ []
  pub lowercase : steps 14 (list [] ∷ []) ≡ Inner (Text (Word 14) false) false ∷ ActsOn (call 14) (effect.ChangeCase false) [] ∷ []
  pub refused : steps 25 (Tok (primitive 13) ∷ Noted ∷ []) ≡ More want.Command ∷ Tells (PrefixWith (means.Prim 13)) true ∷ Ends ∷ []

-- `\expandafter`, `\noexpand`, `\number`, `\romannumeral`, `\string` and `\meaning`, and which of them read under normal status
pub record WorkedExpansions : Type 0 where
  pub expandafter : steps 54 (Tok x ∷ Tok y ∷ []) ≡ More Raw ∷ More Raw ∷ Acts (call 54) (effect.ExpandBehind x y) ∷ []
  pub noexpand : steps 55 (Tok x ∷ []) ≡ More Raw ∷ Acts (call 55) (effect.PutMarked x) ∷ []
  pub number_made : steps 57 (number (pos 12) ∷ []) ≡ Inner Integer false ∷ Acts (call 57) (effect.MakeNumber (pos 12)) ∷ []
  pub romannumeral : steps 58 (number (pos 12) ∷ []) ≡ Inner Integer false ∷ Acts (call 58) (effect.MakeRoman (pos 12)) ∷ []
  pub string : steps 59 (Tok x ∷ []) ≡ More Raw ∷ Acts (call 59) (effect.MakeString x) ∷ []
  pub meaning : steps 60 (Tok x ∷ []) ≡ More Raw ∷ Acts (call 60) (effect.MakeMeaning x) ∷ []
  pub statuses : map (λ n. reads_under_normal (head.Primitive n)) (54 ∷ 55 ∷ 57 ∷ 58 ∷ 59 ∷ 60 ∷ 62 ∷ 30 ∷ []) ≡ false ∷ true ∷ false ∷ false ∷ true ∷ true ∷ false ∷ false ∷ []

-- CONDITIONALS

abbrev pub less : Seen
less = character other 60

abbrev pub greater : Seen
greater = character other 62

-- `<` of category 11, and `\x` as a name that means `<`
abbrev pub less_letter : Seen
less_letter = character letter 60

abbrev pub implicit_less : Seen
implicit_less = record { token = token.Named x_name; meaning = means.Char other 60 }

-- a conditional goes on by this truth of its test
abbrev pub chooses : ℕ → Bool → CommandAsk
chooses n truth = Acts (call n) (effect.Choose (Truth truth))

-- what `\ifnum` and what `\ifdim` asks for, where a relation stands between the values, and where it is missing, and what comes of the test
abbrev pub related : Bool → List CommandAsk
related truth = Inner Integer false ∷ More Nonblank ∷ Inner Integer false ∷ chooses 67 truth ∷ []

abbrev pub unrelated : Bool → List CommandAsk
unrelated truth = Inner Integer false ∷ More Nonblank ∷ Tells (MissingRelation 67) true ∷ Inner Integer false ∷ chooses 67 truth ∷ []

abbrev pub measures : Bool → List CommandAsk
measures truth = Inner (Dimension in_points) false ∷ More Nonblank ∷ Inner (Dimension in_points) false ∷ chooses 68 truth ∷ []

-- `\ifnum1<2`, `\ifnum2<2`, `\ifnum-2=-2`, `\ifnum2>-2` and `\ifnum2>2`; a letter in place of the relation, `<` of category 11 and a name that means `<`, where
-- each counts as `=`; `\ifdim1pt>.5pt`, and a brace in place of the relation
pub record WorkedRelations : Type 0 where
  pub is_less : steps 67 (number (pos 1) ∷ Tok less ∷ number (pos 2) ∷ []) ≡ related true
  pub not_less : steps 67 (number (pos 2) ∷ Tok less ∷ number (pos 2) ∷ []) ≡ related false
  pub is_equal : steps 67 (number (negsuc 1) ∷ Tok equals ∷ number (negsuc 1) ∷ []) ≡ related true
  pub is_greater : steps 67 (number (pos 2) ∷ Tok greater ∷ number (negsuc 1) ∷ []) ≡ related true
  pub not_greater : steps 67 (number (pos 2) ∷ Tok greater ∷ number (pos 2) ∷ []) ≡ related false
  pub missing : steps 67 (number (pos 7) ∷ Tok a_letter ∷ Noted ∷ number (pos 7) ∷ []) ≡ unrelated true
  pub of_a_letter : steps 67 (number (pos 1) ∷ Tok less_letter ∷ Noted ∷ number (pos 2) ∷ []) ≡ unrelated false
  pub implicit : steps 67 (number (pos 1) ∷ Tok implicit_less ∷ Noted ∷ number (pos 2) ∷ []) ≡ unrelated false
  pub dimensions : steps 68 (points 65536 ∷ Tok greater ∷ points 32768 ∷ []) ≡ measures true
  pub dimension_missing :
      steps 68 (points 65536 ∷ Tok a_brace ∷ Noted ∷ points 65536 ∷ []) ≡
      Inner (Dimension in_points) false ∷ More Nonblank ∷ Tells (MissingRelation 68) true ∷ Inner (Dimension in_points) false ∷ chooses 68 true ∷ []

-- `\ifodd` of 3, 2 and -3; `\ifcase` of 2 and -1; `\ifvoid256`, `\ifhbox255` and `\ifvbox-1`
pub record WorkedNumberTests : Type 0 where
  pub odd : steps 69 (number (pos 3) ∷ []) ≡ Inner Integer false ∷ chooses 69 true ∷ []
  pub even : steps 69 (number (pos 2) ∷ []) ≡ Inner Integer false ∷ chooses 69 false ∷ []
  pub odd_negative : steps 69 (number (negsuc 2) ∷ []) ≡ Inner Integer false ∷ chooses 69 true ∷ []
  pub third_case : steps 81 (number (pos 2) ∷ []) ≡ Inner Integer false ∷ Acts (call 81) (effect.Choose (Case (pos 2))) ∷ []
  pub no_case : steps 81 (number (negsuc 0) ∷ []) ≡ Inner Integer false ∷ Acts (call 81) (effect.Choose (Case (negsuc 0))) ∷ []
  pub void_too_great :
      steps 74 (number (pos 256) ∷ Noted ∷ []) ≡ Inner Integer false ∷ Tells (BadRegisterCode (pos 256)) false ∷ chooses 74 true ∷ []
  pub hbox : steps 75 (number (pos 255) ∷ []) ≡ Inner Integer false ∷ chooses 75 false ∷ []
  pub vbox_negative :
      steps 76 (number (negsuc 0) ∷ Noted ∷ []) ≡ Inner Integer false ∷ Tells (BadRegisterCode (negsuc 0)) false ∷ chooses 76 false ∷ []

-- what `\if` (65) and what `\ifcat` (66) asks for, and what comes of the test
abbrev pub sees : ℕ → Bool → List CommandAsk
sees n truth = More Expanded ∷ More Expanded ∷ chooses n truth ∷ []

-- the characters `a` of category 12 and `b`, and `\x` as a name that means the letter `a`
abbrev pub other_a : Seen
other_a = character other 97

abbrev pub b_letter : Seen
b_letter = character letter 98

abbrev pub implicit_a : Seen
implicit_a = record { token = token.Named x_name; meaning = means.Char letter 97 }

-- a name that `\noexpand` kept from being expanded, as the active characters `~` and `!`
abbrev pub kept : Name → Seen
kept n = record { token = token.Named n; meaning = means.RelaxMarked }

abbrev pub kept_tie : Seen
kept_tie = kept (Active 126)

abbrev pub kept_mark : Seen
kept_mark = kept (Active 33)

-- `\if`: `ab`, `a` of two categories, and a name that means `a`; two names that are no characters, one of `\chardef`, and one that is no character before the
-- character 0; the active character `~`, kept, before the character `~` and before a name that is no character; `\x`, kept; `~` where it means `\relax`
pub record WorkedCodeTests : Type 0 where
  pub another : steps 65 (Tok a_letter ∷ Tok b_letter ∷ []) ≡ sees 65 false
  pub another_category : steps 65 (Tok a_letter ∷ Tok other_a ∷ []) ≡ sees 65 true
  pub implicit : steps 65 (Tok implicit_a ∷ Tok a_letter ∷ []) ≡ sees 65 true
  pub names : steps 65 (Tok (primitive 1) ∷ Tok (primitive 5) ∷ []) ≡ sees 65 true
  pub given : steps 65 (Tok (character_name 97) ∷ Tok a_letter ∷ []) ≡ sees 65 false
  pub no_character : steps 65 (Tok (primitive 1) ∷ Tok (character other 0) ∷ []) ≡ sees 65 false
  pub kept_active : steps 65 (Tok kept_tie ∷ Tok (character other 126) ∷ []) ≡ sees 65 true
  pub kept_and_name : steps 65 (Tok kept_tie ∷ Tok (primitive 1) ∷ []) ≡ sees 65 false
  pub kept_name : steps 65 (Tok (kept x_name) ∷ Tok (primitive 1) ∷ []) ≡ sees 65 true
  pub relax : steps 65 (Tok (record { token = token.Named (Active 126); meaning = means.Prim 1 }) ∷ Tok (primitive 5) ∷ []) ≡ sees 65 true

-- `\ifcat`: `ab`, `a` of two categories; two names that are no characters, and one before a brace; two active characters, kept, and one before a name that is no
-- character
pub record WorkedCategoryTests : Type 0 where
  pub same : steps 66 (Tok a_letter ∷ Tok b_letter ∷ []) ≡ sees 66 true
  pub another : steps 66 (Tok a_letter ∷ Tok other_a ∷ []) ≡ sees 66 false
  pub names : steps 66 (Tok (primitive 1) ∷ Tok (character_name 97) ∷ []) ≡ sees 66 true
  pub name_and_brace : steps 66 (Tok (primitive 1) ∷ Tok a_brace ∷ []) ≡ sees 66 false
  pub kept_both : steps 66 (Tok kept_tie ∷ Tok kept_mark ∷ []) ≡ sees 66 true
  pub kept_and_name : steps 66 (Tok kept_tie ∷ Tok (primitive 1) ∷ []) ≡ sees 66 false

-- `\ifx`; which conditionals read their tokens under normal status; which have no row: those that read nothing, `\ifeof`, and `\fi`, `\else` and `\or`
pub record WorkedComparisons : Type 0 where
  pub names : steps 77 (Tok x ∷ Tok y ∷ []) ≡ More Unentered ∷ More Unentered ∷ Acts (call 77) (effect.Compare x y) ∷ []
  pub statuses : map (λ n. reads_under_normal (head.Primitive n)) (65 ∷ 66 ∷ 67 ∷ 77 ∷ 81 ∷ []) ≡ false ∷ false ∷ false ∷ true ∷ false ∷ []
  pub rowless :
      map (λ n. has_row (head.Primitive n)) (69 ∷ 70 ∷ 71 ∷ 72 ∷ 73 ∷ 74 ∷ 78 ∷ 79 ∷ 80 ∷ 81 ∷ 82 ∷ 83 ∷ 84 ∷ []) ≡
      true ∷ false ∷ false ∷ false ∷ false ∷ true ∷ false ∷ false ∷ false ∷ true ∷ false ∷ false ∷ false ∷ []

-- EACH ROW that sets a code or a register begins with the character's or the register's number, from 0 to 255; a category code is at most 15. Each that
-- gives a name a character or a register reads its number, from 0 to 255, behind the name, and a mathematical character's is at most 32767.
abbrev pub is_whole : Action → List Stage → Bool
is_whole (action.SetCode code.Category) (NumberTo n complaint.BadCharacterCode ∷ Equals ∷ NumberTo m complaint.InvalidCode ∷ []) = (n == 255) && (m == 15)
is_whole (action.SetCode code.Category) ss = false
is_whole (action.SetCode kind) (NumberTo n complaint.BadCharacterCode ∷ Equals ∷ ss) = n == 255
is_whole (action.SetCode kind) ss = false
is_whole (action.SetRegister kind) (NumberTo n complaint.BadRegisterCode ∷ Equals ∷ ss) = n == 255
is_whole (action.SetRegister kind) ss = false
is_whole action.GiveCharacter (NewName ∷ Equals ∷ NumberTo n complaint.BadCharacterCode ∷ []) = n == 255
is_whole action.GiveCharacter ss = false
is_whole action.GiveMath (NewName ∷ Equals ∷ NumberTo n complaint.BadMathchar ∷ []) = n == 32767
is_whole action.GiveMath ss = false
is_whole (action.GiveRegister kind) (NewName ∷ Equals ∷ NumberTo n complaint.BadRegisterCode ∷ []) = n == 255
is_whole (action.GiveRegister kind) ss = false
is_whole a ss = true

abbrev pub are_whole : List (ℕ × Row × Action) → Bool
are_whole [] = true
are_whole (first ∷ rows) = is_whole first.2 (stages_in first.1) && are_whole rows

-- the numbers above, and the names of their primitives
abbrev pub numbers : List ℕ
numbers = 1 ∷ 8 ∷ 9 ∷ 10 ∷ 11 ∷ 12 ∷ 13 ∷ 14 ∷ 15 ∷ 16 ∷ 23 ∷ 24 ∷ 25 ∷ 26 ∷ 27 ∷ 28 ∷ 29 ∷ 30 ∷ 31 ∷ 32 ∷ 33 ∷ 34 ∷ 35 ∷ 36 ∷ 37 ∷ 38 ∷ 39 ∷ 40 ∷ 41 ∷ 42 ∷ 43 ∷ 44 ∷ 45 ∷ 46 ∷ 47 ∷ 48 ∷ 49 ∷ 52 ∷ 54 ∷ 55 ∷ 57 ∷ 58 ∷ 59 ∷ 60 ∷ 62 ∷ 65 ∷ 66 ∷ 67 ∷ 68 ∷ 69 ∷ 70 ∷ 71 ∷ 72 ∷ 73 ∷ 74 ∷ 75 ∷ 76 ∷ 77 ∷ 78 ∷ 79 ∷ 80 ∷ 81 ∷ 82 ∷ 83 ∷ 84 ∷ 128 ∷ 130 ∷ 133 ∷ 134 ∷ 139 ∷ 140 ∷ 161 ∷ 176 ∷ 179 ∷ 186 ∷ []

abbrev pub commands : List (List ℕ)
commands =
    codes "relax" ∷ codes "ignorespaces" ∷ codes "message" ∷ codes "errmessage" ∷ codes "show" ∷ codes "showthe" ∷ codes "uppercase" ∷ codes "lowercase" ∷ codes "aftergroup" ∷ codes "afterassignment" ∷ codes "long" ∷ codes "outer" ∷ codes "global" ∷ codes "def" ∷ codes "gdef" ∷ codes "edef" ∷ codes "xdef" ∷
    codes "let" ∷ codes "futurelet" ∷ codes "advance" ∷ codes "multiply" ∷ codes "divide" ∷ codes "catcode" ∷ codes "lccode" ∷ codes "uccode" ∷ codes "sfcode" ∷ codes "mathcode" ∷ codes "delcode" ∷ codes "count" ∷ codes "dimen" ∷ codes "skip" ∷ codes "muskip" ∷ codes "toks" ∷
    codes "chardef" ∷ codes "mathchardef" ∷ codes "countdef" ∷ codes "dimendef" ∷ codes "toksdef" ∷ codes "expandafter" ∷ codes "noexpand" ∷ codes "number" ∷ codes "romannumeral" ∷ codes "string" ∷ codes "meaning" ∷ codes "the" ∷
    codes "if" ∷ codes "ifcat" ∷ codes "ifnum" ∷ codes "ifdim" ∷ codes "ifodd" ∷ codes "ifvmode" ∷ codes "ifhmode" ∷ codes "ifmmode" ∷ codes "ifinner" ∷ codes "ifvoid" ∷
    codes "ifhbox" ∷ codes "ifvbox" ∷ codes "ifx" ∷ codes "ifeof" ∷ codes "iftrue" ∷ codes "iffalse" ∷ codes "ifcase" ∷ codes "fi" ∷ codes "else" ∷ codes "or" ∷
    codes "globaldefs" ∷ codes "escapechar" ∷ codes "endlinechar" ∷ codes "newlinechar" ∷ codes "errorcontextlines" ∷ codes "parindent" ∷ codes "lineskip" ∷ codes "thinmuskip" ∷ codes "everypar" ∷ codes "errhelp" ∷ []

pub record WorkedRows : Type 0 where
  pub names : map primitive_name numbers ≡ commands
  pub whole : are_whole SYNTAX.now ≡ true
  pub commands_worked : WorkedCommands
  pub definitions : WorkedDefinitions
  pub prefixes : WorkedPrefixes
  pub meanings : WorkedMeanings
  pub categories : WorkedCategories
  pub codes : WorkedCodes
  pub parameters : WorkedParameters
  pub registers : WorkedRegisters
  pub arithmetic : WorkedArithmetic
  pub shorthands : WorkedShorthands
  pub values : WorkedValues
  pub measures : WorkedMeasures
  pub computing : WorkedComputing
  pub lists : WorkedLists
  pub list_values : WorkedListValues
  pub expansions : WorkedExpansions
  pub relations : WorkedRelations
  pub number_tests : WorkedNumberTests
  pub code_tests : WorkedCodeTests
  pub category_tests : WorkedCategoryTests
  pub comparisons : WorkedComparisons
