-- What the engine's reports stand for, and the parts in which their texts and those of `\show` are written.
use Rattle.std.specs.Prelude.{ℕ, ℤ, Bool, List, [], ◌++◌, codes, decimal}
use Rattle.tex_syntax.specs.declared.words.Report.{Report}
use Rattle.tex_syntax.specs.declared.words.Report.TheVariants.{BadCharacterCode, BadRegisterCode, BadMathchar, IncompatibleMagnification, IllegalMagnification, CantUseAfter, InvalidCode, CodeTooGreat, FileEnded, Forbidden, IllegalNumber, UseMismatch, ExtraBrace, ParagraphEnded, PrefixWith, LongOrOuterWith, MissingEndcsname, ExtraEndcsname, ForgottenEndgroup, ExtraEndgroup, MissingRelation, ExtraFiOrElse, IncompleteConditional}
use Rattle.tex_syntax.specs.declared.words.Scanned.{Scanned}
use Rattle.tex_defs.specs.declared.Token.{Token}
use Rattle.tex_defs.specs.declared.Token.TheVariants.{Named, Marked}
use Rattle.plain_tokens.specs.Printed.{Style, escaped, primitive_word, name_text, meaning_head}
use Rattle.plain_state.specs.Reports.{report_text, scanned_word, fresh_line, second_line}
use Rattle.token_show.specs.Bytes.{all_printed}

-- what stands before the name where a file ended, or the name of an \outer macro came
abbrev pub ended_opening : Scanned → List ℕ
ended_opening what = codes "File ended while scanning " ++ (scanned_word what ++ codes " of ")

abbrev pub forbidden_opening : Scanned → List ℕ
forbidden_opening what = codes "Forbidden control sequence found while scanning " ++ (scanned_word what ++ codes " of ")

-- where prefixes stand that don't go with the command
abbrev pub prefix_opening : Style → List ℕ
prefix_opening style = codes "You can't use `" ++ (escaped style (codes "long") ++ (codes "' or `" ++ (escaped style (codes "outer") ++ codes "' with `")))

-- a report's text, up to the name or meaning in it
abbrev pub opening : Style → Report → List ℕ
opening style (FileEnded what name) = ended_opening what
opening style (Forbidden what name) = forbidden_opening what
opening style (IllegalNumber name) = codes "Illegal parameter number in definition of "
opening style (UseMismatch name) = codes "Use of "
opening style (ExtraBrace name) = codes "Argument of "
opening style (ParagraphEnded name) = codes "Paragraph ended before "
opening style (PrefixWith m) = codes "You can't use a prefix with `"
opening style (CantUseAfter m number) = codes "You can't use `"
opening style (LongOrOuterWith m) = prefix_opening style
opening style (MissingRelation number) = codes "Missing = inserted for "
opening style (ExtraFiOrElse number) = codes "Extra "
opening style (IncompleteConditional number line) = codes "Incomplete "
opening style r = report_text style r

-- no number and no escape character stands in it
abbrev pub IsFixed : Report → Type 0
IsFixed (BadCharacterCode n) = ⊥
IsFixed (BadRegisterCode n) = ⊥
IsFixed (BadMathchar n) = ⊥
IsFixed (IncompatibleMagnification n earlier) = ⊥
IsFixed (IllegalMagnification n) = ⊥
IsFixed (InvalidCode n greatest) = ⊥
IsFixed (CodeTooGreat n greatest) = ⊥
IsFixed (LongOrOuterWith m) = ⊥
IsFixed MissingEndcsname = ⊥
IsFixed ExtraEndcsname = ⊥
IsFixed ForgottenEndgroup = ⊥
IsFixed ExtraEndgroup = ⊥
IsFixed r = Unit {0}

-- the name or meaning in a report's text, if there is one
abbrev pub subject : Style → Report → List ℕ
subject style (FileEnded what name) = name_text style name
subject style (Forbidden what name) = name_text style name
subject style (IllegalNumber name) = name_text style name
subject style (UseMismatch name) = name_text style name
subject style (ExtraBrace name) = name_text style name
subject style (ParagraphEnded name) = name_text style name
subject style (PrefixWith m) = meaning_head style m
subject style (CantUseAfter m number) = meaning_head style m
subject style (LongOrOuterWith m) = meaning_head style m
subject style (MissingRelation number) = escaped style (primitive_word number)
subject style (ExtraFiOrElse number) = escaped style (primitive_word number)
subject style (IncompleteConditional number line) = escaped style (primitive_word number)
subject style r = []

-- and what stands behind it: words, and in one report a number behind them
abbrev pub closing_words : Report → List ℕ
closing_words (PrefixWith m) = codes "'"
closing_words (CantUseAfter m number) = codes "' after "
closing_words (LongOrOuterWith m) = codes "'"
closing_words (UseMismatch name) = codes " doesn't match its definition"
closing_words (ExtraBrace name) = codes " has an extra }"
closing_words (ParagraphEnded name) = codes " was complete"
closing_words (IncompleteConditional number line) = codes "; all text was ignored after line "
closing_words r = []

abbrev pub closing : Report → List ℕ
closing (IncompleteConditional number line) = closing_words (IncompleteConditional number line) ++ decimal line
closing r = closing_words r

-- The same, printed. Of a report with a second line it is all of that line but the dot, behind a line feed where the column isn't 0.
abbrev pub closing_printed : (newline : ℤ) → (in_line : Bool) → Report → List ℕ
closing_printed newline in_line (IncompatibleMagnification n earlier) = fresh_line in_line ++ all_printed newline (second_line (IncompatibleMagnification n earlier))
closing_printed newline in_line r = all_printed newline (closing r)

-- the name of a primitive that closes the text, if there is one
abbrev pub closing_name : Style → Report → List ℕ
closing_name style (CantUseAfter m number) = escaped style (primitive_word number)
closing_name style r = []

-- the name that `\show` has before a meaning, and what stands between them
abbrev pub token_name : Style → Token → List ℕ
token_name style (Named n) = name_text style n
token_name style (Marked n) = name_text style n
token_name style t = []

abbrev pub equals_behind : Token → List ℕ
equals_behind (Named n) = codes "="
equals_behind (Marked n) = codes "="
equals_behind t = []
