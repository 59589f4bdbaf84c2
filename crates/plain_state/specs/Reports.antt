-- The texts that the machine writes of itself: reports, token lines, runaway texts and the lines of its ends.
use Rattle.std.specs.Prelude.{ℕ, Bool, not, ◌==◌, List, [], ◌∷◌, ◌++◌, codes, decimal, if◌then◌else◌}
use Rattle.std.specs.Fmt.{signed_decimal}
use Rattle.tex_syntax.specs.declared.words.Scanned.{Scanned}
use Rattle.tex_syntax.specs.declared.words.Scanned.TheVariants as scanned
use Rattle.tex_syntax.specs.declared.words.UnitTaken.{UnitTaken}
use Rattle.tex_syntax.specs.declared.words.UnitTaken.TheVariants as unit
use Rattle.tex_syntax.specs.declared.words.Report.{Report}
use Rattle.tex_syntax.specs.declared.words.Report.TheVariants.{UndefinedName, InvalidCharacter, ImproperConstant, MissingNumber, NumberTooBig, BadCharacterCode, BadRegisterCode, BadMathchar, CantUseAfter, DimensionTooLarge, IllegalUnit, IncompatibleMagnification, IllegalMagnification, ArithmeticOverflow, IncompatibleUnits, InvalidCode, CodeTooGreat, MissingBrace, FileEnded, Forbidden, MissingName, NotConsecutive, AlreadyNine, IllegalNumber, UseMismatch, ExtraBrace, ParagraphEnded, PrefixWith, LongOrOuterWith, MissingEndcsname, ExtraEndcsname, TooManyBraces, ForgottenEndgroup, ExtraEndgroup, MissingRightBrace, MissingRelation, ExtraFiOrElse, IncompleteConditional}
use Rattle.tex_defs.specs.declared.Token.{Token}
use Rattle.tex_defs.specs.declared.Token.TheVariants.{Char, Named, Marked}
use Rattle.tex_defs.specs.declared.Name.{Name}
use Rattle.tex_defs.specs.declared.Meaning.{Meaning}
use Rattle.tex_defs.specs.declared.Meaning.TheVariants as means
use Rattle.plain_tokens.specs.Printed.{Style, printed, printed_all, name_text, escaped, primitive_word, meaning_head, list_text, runaway_list, shown_all}

abbrev pub scanned_word : Scanned → List ℕ
scanned_word scanned.Definition = codes "definition"
scanned_word scanned.Use = codes "use"
scanned_word scanned.Text = codes "text"

abbrev pub while_scanning : Style → Scanned → Name → List ℕ
while_scanning style what name = codes " while scanning " ++ (scanned_word what ++ (codes " of " ++ name_text style name))

abbrev pub unit_taken : UnitTaken → List ℕ
unit_taken unit.Pt = codes "pt inserted"
unit_taken unit.Mu = codes "mu inserted"
unit_taken unit.Filll = codes "replaced by filll"

-- the characters of a report's text
abbrev pub report_text : Style → Report → List ℕ
report_text style UndefinedName = codes "Undefined control sequence"
report_text style InvalidCharacter = codes "Text line contains an invalid character"
report_text style ImproperConstant = codes "Improper alphabetic constant"
report_text style MissingNumber = codes "Missing number, treated as zero"
report_text style NumberTooBig = codes "Number too big"
report_text style (BadCharacterCode n) = codes "Bad character code (" ++ (signed_decimal n ++ codes ")")
report_text style (BadRegisterCode n) = codes "Bad register code (" ++ (signed_decimal n ++ codes ")")
report_text style (BadMathchar n) = codes "Bad mathchar (" ++ (signed_decimal n ++ codes ")")
report_text style (CantUseAfter m number) = codes "You can't use `" ++ (meaning_head style m ++ (codes "' after " ++ escaped style (primitive_word number)))
report_text style DimensionTooLarge = codes "Dimension too large"
report_text style (IllegalUnit u) = codes "Illegal unit of measure (" ++ (unit_taken u ++ codes ")")
report_text style (IncompatibleMagnification n m) = codes "Incompatible magnification (" ++ (signed_decimal n ++ codes ");")
report_text style (IllegalMagnification n) = codes "Illegal magnification has been changed to 1000 (" ++ (signed_decimal n ++ codes ")")
report_text style ArithmeticOverflow = codes "Arithmetic overflow"
report_text style IncompatibleUnits = codes "Incompatible glue units"
report_text style (InvalidCode n greatest) = codes "Invalid code (" ++ (signed_decimal n ++ (codes "), should be in the range 0.." ++ decimal greatest))
report_text style (CodeTooGreat n greatest) = codes "Invalid code (" ++ (signed_decimal n ++ (codes "), should be at most " ++ decimal greatest))
report_text style MissingBrace = codes "Missing { inserted"
report_text style (FileEnded what name) = codes "File ended" ++ while_scanning style what name
report_text style (Forbidden what name) = codes "Forbidden control sequence found" ++ while_scanning style what name
report_text style MissingName = codes "Missing control sequence inserted"
report_text style NotConsecutive = codes "Parameters must be numbered consecutively"
report_text style AlreadyNine = codes "You already have nine parameters"
report_text style (IllegalNumber name) = codes "Illegal parameter number in definition of " ++ name_text style name
report_text style (UseMismatch name) = codes "Use of " ++ (name_text style name ++ codes " doesn't match its definition")
report_text style (ExtraBrace name) = codes "Argument of " ++ (name_text style name ++ codes " has an extra }")
report_text style (ParagraphEnded name) = codes "Paragraph ended before " ++ (name_text style name ++ codes " was complete")
report_text style (PrefixWith m) = codes "You can't use a prefix with `" ++ (meaning_head style m ++ codes "'")
report_text style (LongOrOuterWith m) =
    codes "You can't use `" ++ (escaped style (codes "long") ++ (codes "' or `" ++ (escaped style (codes "outer") ++ (codes "' with `" ++ (meaning_head style m ++ codes "'")))))
report_text style MissingEndcsname = codes "Missing " ++ (escaped style (codes "endcsname") ++ codes " inserted")
report_text style ExtraEndcsname = codes "Extra " ++ escaped style (codes "endcsname")
report_text style TooManyBraces = codes "Too many }'s"
report_text style ForgottenEndgroup = codes "Extra }, or forgotten " ++ escaped style (codes "endgroup")
report_text style ExtraEndgroup = codes "Extra " ++ escaped style (codes "endgroup")
report_text style MissingRightBrace = codes "Missing } inserted"
report_text style (MissingRelation number) = codes "Missing = inserted for " ++ escaped style (primitive_word number)
report_text style (ExtraFiOrElse number) = codes "Extra " ++ escaped style (primitive_word number)
report_text style (IncompleteConditional number line) =
    codes "Incomplete " ++ (escaped style (primitive_word number) ++ (codes "; all text was ignored after line " ++ decimal line))

-- THE COLUMN: it is 0 behind a line feed, and not 0 behind another byte
abbrev pub in_line_after : Bool → List ℕ → Bool
in_line_after b [] = b
in_line_after b (c ∷ cs) = in_line_after (not (c == 10)) cs

-- A line feed, where the column isn't 0. It is no printed character, as the line feeds that end lines are none.
abbrev pub fresh_line : Bool → List ℕ
fresh_line in_line = if in_line then 10 ∷ [] else []

-- a line of these characters, printed
abbrev pub printed_line : Style → List ℕ → List ℕ
printed_line style text = printed_all style text ++ 10 ∷ []

-- A report's text on a fresh line, and then the number of the line that is being read.
abbrev pub reported_line : Style → Bool → ℕ → List ℕ → List ℕ
reported_line style in_line line text =
    fresh_line in_line ++ (printed_line style (codes "! " ++ (text ++ codes ".")) ++ printed_line style (codes "l." ++ decimal line))

-- the second line of a report, where it has one
abbrev pub second_line : Report → List ℕ
second_line (IncompatibleMagnification n m) = codes " the previous value will be retained (" ++ (decimal m ++ codes ")")
second_line report = []

-- The first line of such a report, and the second on a fresh line: where a character of the first begins a new line, that may be fresh already.
abbrev pub first_of_two : Style → Bool → List ℕ → List ℕ
first_of_two style in_line text = fresh_line in_line ++ printed_all style (codes "! " ++ text)

abbrev pub reported_lines : Style → Bool → ℕ → (text second : List ℕ) → List ℕ
reported_lines style in_line line text [] = reported_line style in_line line text
reported_lines style in_line line text (c ∷ second) =
    first_of_two style in_line text ++ (fresh_line (in_line_after in_line (first_of_two style in_line text))
    ++ (printed_line style (c ∷ (second ++ codes ".")) ++ printed_line style (codes "l." ++ decimal line)))

abbrev pub report_bytes : Style → Bool → ℕ → Report → List ℕ
report_bytes style in_line line report = reported_lines style in_line line (report_text style report) (second_line report)

-- the report of a file that isn't held
abbrev pub missing_file_text : (file : List ℕ) → List ℕ
missing_file_text file = codes "I can't find file `" ++ (file ++ codes "'")

abbrev pub missing_file_bytes : Style → Bool → ℕ → (file : List ℕ) → List ℕ
missing_file_bytes style in_line line file = reported_line style in_line line (missing_file_text file)

-- behind the hundredth report
abbrev pub hundred_line : Style → List ℕ
hundred_line style = printed_line style (codes "(That makes 100 errors; please try again.)")

-- `\end` where so many groups are open
abbrev pub end_in_group : Style → (depth : ℕ) → List ℕ
end_in_group style depth =
    printed_line style (codes "(" ++ (escaped style (codes "end") ++ (codes " occurred inside a group at level " ++ (decimal depth ++ codes ")"))))

-- `\end` where a conditional is open that is this primitive and began on this line
abbrev pub end_in_conditional : Style → (number line : ℕ) → List ℕ
end_in_conditional style number line =
    printed_line style (codes "(" ++ (escaped style (codes "end") ++ (codes " occurred when " ++ (escaped style (primitive_word number)
    ++ (codes " on line " ++ (decimal line ++ codes " was incomplete)"))))))

-- The lines of a stop: there the `\` of `\end` is always that character.
abbrev pub emergency : Style → List ℕ
emergency style = printed_line style (codes "! Emergency stop.")

abbrev pub no_end_line : Style → List ℕ
no_end_line style = printed_line style (codes "*** (job aborted, no legal \\end found)")

abbrev pub no_file_line : Style → List ℕ
no_file_line style = printed_line style (codes "*** (job aborted, file error in nonstop mode)")

-- the line for a token that only typesetting would use
abbrev pub token_line_bytes : Style → Bool → Meaning Unit → List ℕ
token_line_bytes style in_line m = fresh_line in_line ++ printed_line style (123 ∷ (meaning_head style m ++ 125 ∷ []))

abbrev pub runaway_word : Scanned → List ℕ
runaway_word scanned.Definition = codes "definition"
runaway_word scanned.Use = codes "argument"
runaway_word scanned.Text = codes "text"

-- the list built so far, where a definition, an argument or a text runs away
abbrev pub runaway_bytes : Scanned → Style → Bool → List Token → List ℕ
runaway_bytes what style in_line ts =
    fresh_line in_line ++ (printed_line style (codes "Runaway " ++ (runaway_word what ++ codes "?")) ++ runaway_list style ts)

-- A message: a space where the column isn't 0, and the list shown.
abbrev pub message_bytes : Style → Bool → List Token → List ℕ
message_bytes style in_line ts = (if in_line then printed style 32 else []) ++ shown_all style ts

-- The report of `\errmessage`: its text is the list.
abbrev pub error_message_bytes : Style → Bool → ℕ → List Token → List ℕ
error_message_bytes style in_line line ts = reported_line style in_line line (list_text style ts)

-- A token as `\string` gives it: a name's text, or the character itself. Only these come to a reading.
abbrev pub string_text : Style → Token → List ℕ
string_text style (Char category c) = c ∷ []
string_text style (Named n) = name_text style n
string_text style (Marked n) = name_text style n
string_text style t = []

-- what `\show` has before the meaning of a name; a character has nothing there
abbrev pub shown_name : Style → Token → List ℕ
shown_name style (Named n) = name_text style n ++ codes "="
shown_name style (Marked n) = name_text style n ++ codes "="
shown_name style t = []

-- The line feed behind the `macro:` of a macro. As other line feeds that end lines it is no printed character.
abbrev pub macro_feed : {L : Type 0} → Meaning L → List ℕ
macro_feed (means.Macro long outer list) = 10 ∷ []
macro_feed m = []

-- the end of what is shown: the tokens of a list, and then the number of the line that is being read
abbrev pub shown_end : Style → (line : ℕ) → (ts : List Token) → List ℕ
shown_end style line ts = printed_line style (list_text style ts ++ codes ".") ++ printed_line style (codes "l." ++ decimal line)

-- What `\show` writes: on a fresh line the token and its meaning, of a macro the tokens of its list `ts` on a line of their own, and
-- then the number of the line that is being read. Of other meanings `ts` is empty.
abbrev pub shown_meaning_bytes : Style → (in_line : Bool) → (line : ℕ) → Token → Meaning Unit → (ts : List Token) → List ℕ
shown_meaning_bytes style in_line line t m ts =
    fresh_line in_line ++ (printed_all style (codes "> " ++ (shown_name style t ++ meaning_head style m)) ++ (macro_feed m ++ shown_end style line ts))

-- What `\showthe` writes: on a fresh line the text of a value, or the tokens `ts` of its list, and then the number of the line that is being
-- read. A value with a list has no text, and another no list.
abbrev pub shown_value_bytes : Style → (in_line : Bool) → (line : ℕ) → (text : List ℕ) → (ts : List Token) → List ℕ
shown_value_bytes style in_line line text ts = fresh_line in_line ++ (printed_all style (codes "> " ++ text) ++ shown_end style line ts)
