-- Texts put behind one another, and printed.
use Rattle.std.proofs.Common.{◌≡◌, ◌++◌, ◌∙◌, ap, sym, refl, append_assoc, ℕ, ℤ, List, [], ◌∷◌, codes, Bool}
use Rattle.std.specs.List.{flat_map}
use Rattle.std.specs.Fmt.{decimal}
use Rattle.std.proofs.lemmas.List.{append-nil}
use Rattle.std.proofs.lemmas.Grind.{flat_map-append}
use Rattle.tex_syntax.specs.declared.words.Report.{Report}
use Rattle.tex_syntax.specs.declared.words.Report.TheVariants.{UndefinedName, InvalidCharacter, ImproperConstant, MissingNumber, NumberTooBig, BadCharacterCode, BadRegisterCode, BadMathchar, CantUseAfter, DimensionTooLarge, IllegalUnit, IncompatibleMagnification, IllegalMagnification, ArithmeticOverflow, IncompatibleUnits, InvalidCode, CodeTooGreat, MissingBrace, FileEnded, Forbidden, MissingName, NotConsecutive, AlreadyNine, IllegalNumber, UseMismatch, ExtraBrace, ParagraphEnded, PrefixWith, LongOrOuterWith, MissingEndcsname, ExtraEndcsname, TooManyBraces, ForgottenEndgroup, ExtraEndgroup, MissingRightBrace, MissingRelation, ExtraFiOrElse, IncompleteConditional}
use Rattle.tex_syntax.specs.declared.words.Scanned.{Scanned}
use Rattle.tex_syntax.specs.declared.words.Scanned.TheVariants as scanned
use Rattle.tex_syntax.specs.declared.words.UnitTaken.TheVariants as unit
use Rattle.tex_defs.specs.declared.Name.{Name}
use Rattle.tex_defs.specs.declared.Token.{Token}
use Rattle.tex_defs.specs.declared.Token.TheVariants.{Char, Named, Marked, Place, Number, EndPlaces}
use Rattle.tex_defs.specs.declared.Meaning.{Meaning}
use Rattle.plain_tokens.specs.Printed.{Style, escaped, meaning_head, list_text, shown_all, printed_by, printed_all}
use Rattle.plain_state.specs.Reports as plain
use Rattle.plain_state.specs.Reports.{fresh_line, in_line_after, second_line, report_text, report_bytes, error_message_bytes, shown_name, macro_feed, shown_meaning_bytes, shown_value_bytes}
use Rattle.token_show.specs.Bytes.{all_printed}
use Rattle.transcript.specs.Reported.{opening, subject, closing, closing_printed, closing_name, token_name, equals_behind}

-- PIECES, each printed as f prints its characters

module _ (f : ℕ → List ℕ) where
  pub three : (a b c d x y z : List ℕ) → x ≡ a ++ flat_map f b → y ≡ x ++ flat_map f c → z ≡ y ++ flat_map f d → z ≡ a ++ flat_map f (b ++ (c ++ d))
  three a b c d x y z h i j = rw (j, i, h) (simp (flat_map-append, append_assoc))

  pub four : (a b c d e x y z w : List ℕ) → x ≡ a ++ flat_map f b → y ≡ x ++ flat_map f c → z ≡ y ++ flat_map f d → w ≡ z ++ flat_map f e →
      w ≡ a ++ flat_map f (b ++ (c ++ (d ++ e)))
  four a b c d e x y z w h i j k = rw (k, j, i, h) (simp (flat_map-append, append_assoc))

  -- a word behind the escape character
  pub word : (a p s l m x y z : List ℕ) → x ≡ a ++ flat_map f p → y ≡ x ++ flat_map f s → z ≡ y ++ flat_map f (l ++ m) → z ≡ a ++ flat_map f (p ++ ((s ++ l) ++ m))
  word a p s l m x y z h i j = rw (j, i, h) (simp (flat_map-append, append_assoc))

  -- the same from the beginning, and three pieces as the end of a line
  pub word_begun : (p s l m o x y z : List ℕ) → o ≡ [] → x ≡ o ++ flat_map f p → y ≡ x ++ flat_map f s → z ≡ y ++ flat_map f (l ++ m) → z ≡ flat_map f (p ++ ((s ++ l) ++ m))
  word_begun p s l m o x y z k h i j = rw (j, i, h, k) (simp (flat_map-append, append_assoc))

  pub three_line : (b c d o x y z line : List ℕ) → o ≡ [] → x ≡ o ++ flat_map f b → y ≡ x ++ flat_map f c → z ≡ y ++ flat_map f d → line ≡ z ++ 10 ∷ [] →
      line ≡ flat_map f (b ++ (c ++ d)) ++ 10 ∷ []
  three_line b c d o x y z line k h i j l = rw (l, j, i, h, k) (simp (flat_map-append, append_assoc))

  -- a name between these
  pub left_parts : (a b c name d before shown behind : List ℕ) → before ≡ flat_map f (a ++ (b ++ c)) → shown ≡ flat_map f name → behind ≡ flat_map f d ++ 10 ∷ [] →
      before ++ (shown ++ behind) ≡ flat_map f (a ++ (b ++ (c ++ (name ++ d)))) ++ 10 ∷ []
  left_parts a b c name d before shown behind h i j = rw (h, i, j) (simp (flat_map-append, append_assoc))

  -- two words behind the escape character
  pub prefix : (a p s l m o n x y z v w : List ℕ) → x ≡ a ++ flat_map f p → y ≡ x ++ flat_map f s → z ≡ y ++ flat_map f (l ++ m) → v ≡ z ++ flat_map f s → w ≡ v ++ flat_map f (o ++ n) →
      w ≡ a ++ flat_map f (p ++ ((s ++ l) ++ (m ++ ((s ++ o) ++ n))))
  prefix a p s l m o n x y z v w h i j k q = rw (q, k, j, i, h) (simp (flat_map-append, append_assoc))

  -- a line with a word behind the escape character and a number
  pub numbered : (a p s l m n q x y z v w line : List ℕ) → x ≡ a ++ flat_map f p → y ≡ x ++ flat_map f s → z ≡ y ++ flat_map f (l ++ m) → v ≡ z ++ flat_map f n →
      w ≡ v ++ flat_map f q → line ≡ w ++ 10 ∷ [] →
      line ≡ a ++ (flat_map f (p ++ ((s ++ l) ++ (m ++ (n ++ q)))) ++ 10 ∷ [])
  numbered a p s l m n q x y z v w line h i j k e o = rw (o, e, k, j, i, h) (simp (flat_map-append, append_assoc))

  -- a report's text between what stands around it
  report_around : (fresh mark opening subject closing dot line number : List ℕ) →
      ((fresh ++ flat_map f mark) ++ flat_map f opening) ++ (flat_map f subject ++ (flat_map f closing ++ (flat_map f dot ++ (10 ∷ (flat_map f line ++ (flat_map f number ++ 10 ∷ []))))))
      ≡ fresh ++ ((flat_map f (mark ++ ((opening ++ (subject ++ closing)) ++ dot)) ++ 10 ∷ []) ++ (flat_map f (line ++ number) ++ 10 ∷ []))
  report_around fresh mark opening subject closing dot line number = simp (flat_map-append, append_assoc)

  -- and with a name behind
  pub report_named : (fresh mark opening subject closing name dot line number start before shown close last behind first second said : List ℕ) →
      start ≡ fresh ++ flat_map f mark → before ≡ start ++ flat_map f opening → shown ≡ flat_map f subject → close ≡ flat_map f closing → last ≡ flat_map f name →
      behind ≡ flat_map f dot ++ (10 ∷ (flat_map f line ++ (flat_map f number ++ 10 ∷ []))) →
      first ≡ before ++ (shown ++ close) → second ≡ last ++ behind → said ≡ first ++ second →
      said ≡ fresh ++ ((flat_map f (mark ++ ((opening ++ (subject ++ (closing ++ name))) ++ dot)) ++ 10 ∷ []) ++ (flat_map f (line ++ number) ++ 10 ∷ []))
  report_named fresh mark opening subject closing name dot line number start before shown close last behind first second said m b s k n h i j w =
      rw (w, i, j, b, m, s, k, n, h) (simp (flat_map-append, append_assoc))

  -- and with a second line, behind what stands before it where g says
  pub report_of_two : (g : List ℕ → List ℕ) (fresh mark opening line_two dot line number start before shown close last behind first second said : List ℕ) →
      start ≡ fresh ++ flat_map f mark → before ≡ start ++ flat_map f opening → shown ≡ [] → close ≡ g before ++ flat_map f line_two → last ≡ [] →
      behind ≡ flat_map f dot ++ (10 ∷ (flat_map f line ++ (flat_map f number ++ 10 ∷ []))) →
      first ≡ before ++ (shown ++ close) → second ≡ last ++ behind → said ≡ first ++ second →
      said ≡ (fresh ++ flat_map f (mark ++ opening)) ++ (g (fresh ++ flat_map f (mark ++ opening)) ++ ((flat_map f (line_two ++ dot) ++ 10 ∷ []) ++ (flat_map f (line ++ number) ++ 10 ∷ [])))
  report_of_two g fresh mark opening line_two dot line number start before shown close last behind first second said m b s k n h i j w =
      let e : before ≡ fresh ++ flat_map f (mark ++ opening) = rw (b, m) (simp (flat_map-append, append_assoc)) in
      rw (w, i, j, s, k, n, h, e) (simp (flat_map-append, append_assoc))

  -- a report whose text is one list
  pub message_around : (fresh mark text dot line number : List ℕ) →
      (fresh ++ flat_map f mark) ++ (flat_map f text ++ (flat_map f dot ++ (10 ∷ (flat_map f line ++ (flat_map f number ++ 10 ∷ [])))))
      ≡ fresh ++ ((flat_map f (mark ++ (text ++ dot)) ++ 10 ∷ []) ++ (flat_map f (line ++ number) ++ 10 ∷ []))
  message_around fresh mark text dot line number = simp (flat_map-append, append_assoc)

  line_around : (fresh front middle close : List ℕ) → (fresh ++ flat_map f front) ++ (flat_map f middle ++ (flat_map f close ++ 10 ∷ [])) ≡ fresh ++ (flat_map f (front ++ (middle ++ close)) ++ 10 ∷ [])
  line_around fresh front middle close = simp (flat_map-append, append_assoc)

  -- a line of one text between what stands around it
  pub line_parts : (fresh front middle close start before shown empty closed behind : List ℕ) →
      start ≡ fresh → before ≡ start ++ flat_map f front → shown ≡ flat_map f middle → empty ≡ [] → closed ≡ empty ++ flat_map f close → behind ≡ closed ++ 10 ∷ [] →
      before ++ (shown ++ behind) ≡ fresh ++ (flat_map f (front ++ (middle ++ close)) ++ 10 ∷ [])
  line_parts fresh front middle close start before shown empty closed behind i b s e k h = rw (b, i, s, h, k, e) (line_around fresh front middle close)

  pub around_parts : (fresh mark opening subject closing dot line number start before shown behind : List ℕ) →
      start ≡ fresh ++ flat_map f mark → before ≡ start ++ flat_map f opening → shown ≡ flat_map f subject → behind ≡ flat_map f closing ++ (flat_map f dot ++ (10 ∷ (flat_map f line ++ (flat_map f number ++ 10 ∷ [])))) →
      before ++ (shown ++ behind) ≡ fresh ++ ((flat_map f (mark ++ ((opening ++ (subject ++ closing)) ++ dot)) ++ 10 ∷ []) ++ (flat_map f (line ++ number) ++ 10 ∷ []))
  around_parts fresh mark opening subject closing dot line number start before shown behind m b s h = rw (b, m, s, h) (report_around fresh mark opening subject closing dot line number)

  -- what is shown of a token between what stands around it, over three parts
  pub shown_around : (fresh mark name equals head feed list dot line number : List ℕ) →
      ((fresh ++ flat_map f mark) ++ (flat_map f name ++ flat_map f equals)) ++ ((flat_map f head ++ feed) ++ (flat_map f list ++ (flat_map f dot ++ (10 ∷ (flat_map f line ++ (flat_map f number ++ 10 ∷ []))))))
      ≡ fresh ++ (flat_map f (mark ++ ((name ++ equals) ++ head)) ++ (feed ++ ((flat_map f (list ++ dot) ++ 10 ∷ []) ++ (flat_map f (line ++ number) ++ 10 ∷ []))))
  shown_around fresh mark name equals head feed list dot line number = simp (flat_map-append, append_assoc)

  -- and of a value, over two
  pub value_around : (fresh mark text list dot line number : List ℕ) →
      ((fresh ++ flat_map f mark) ++ (flat_map f text ++ [])) ++ (flat_map f list ++ (flat_map f dot ++ (10 ∷ (flat_map f line ++ (flat_map f number ++ 10 ∷ [])))))
      ≡ fresh ++ (flat_map f (mark ++ text) ++ ((flat_map f (list ++ dot) ++ 10 ∷ []) ++ (flat_map f (line ++ number) ++ 10 ∷ [])))
  value_around fresh mark text list dot line number = simp (append-nil, flat_map-append, append_assoc)

-- REPORTS

around_prefix : (p a m b n rest : List ℕ) → (p ++ (a ++ (m ++ (b ++ n)))) ++ rest ≡ p ++ (a ++ (m ++ (b ++ (n ++ rest))))
around_prefix p a m b n rest = simp append_assoc

-- where a file ended or the name of an \outer macro came
ended_is : (style : Style) (what : Scanned) (name : Name) → opening style (FileEnded what name) ++ (subject style (FileEnded what name) ++ []) ≡ report_text style (FileEnded what name)
ended_is style scanned.Definition name = ap (λ (t : List ℕ). codes "File ended while scanning definition of " ++ t) (append-nil (subject style (FileEnded scanned.Definition name)))
ended_is style scanned.Use name = ap (λ (t : List ℕ). codes "File ended while scanning use of " ++ t) (append-nil (subject style (FileEnded scanned.Use name)))
ended_is style scanned.Text name = ap (λ (t : List ℕ). codes "File ended while scanning text of " ++ t) (append-nil (subject style (FileEnded scanned.Text name)))

forbidden_is : (style : Style) (what : Scanned) (name : Name) → opening style (Forbidden what name) ++ (subject style (Forbidden what name) ++ []) ≡ report_text style (Forbidden what name)
forbidden_is style scanned.Definition name = ap (λ (t : List ℕ). codes "Forbidden control sequence found while scanning definition of " ++ t) (append-nil (subject style (Forbidden scanned.Definition name)))
forbidden_is style scanned.Use name = ap (λ (t : List ℕ). codes "Forbidden control sequence found while scanning use of " ++ t) (append-nil (subject style (Forbidden scanned.Use name)))
forbidden_is style scanned.Text name = ap (λ (t : List ℕ). codes "Forbidden control sequence found while scanning text of " ++ t) (append-nil (subject style (Forbidden scanned.Text name)))

-- a report's text is its opening, the name or meaning in it, and what stands behind that
report_is : (style : Style) (r : Report) → opening style r ++ (subject style r ++ (closing r ++ closing_name style r)) ≡ report_text style r
report_is style UndefinedName = refl
report_is style InvalidCharacter = refl
report_is style ImproperConstant = refl
report_is style MissingNumber = refl
report_is style NumberTooBig = refl
report_is style (BadCharacterCode n) = append-nil (opening style (BadCharacterCode n))
report_is style (BadRegisterCode n) = append-nil (opening style (BadRegisterCode n))
report_is style (BadMathchar n) = append-nil (opening style (BadMathchar n))
report_is style (CantUseAfter m number) = refl
report_is style DimensionTooLarge = refl
report_is style (IllegalUnit unit.Pt) = refl
report_is style (IllegalUnit unit.Mu) = refl
report_is style (IllegalUnit unit.Filll) = refl
report_is style (IncompatibleMagnification n m) = append-nil (opening style (IncompatibleMagnification n m))
report_is style (IllegalMagnification n) = append-nil (opening style (IllegalMagnification n))
report_is style ArithmeticOverflow = refl
report_is style IncompatibleUnits = refl
report_is style (InvalidCode n greatest) = append-nil (opening style (InvalidCode n greatest))
report_is style (CodeTooGreat n greatest) = append-nil (opening style (CodeTooGreat n greatest))
report_is style MissingBrace = refl
report_is style (FileEnded what name) = ended_is style what name
report_is style (Forbidden what name) = forbidden_is style what name
report_is style MissingName = refl
report_is style NotConsecutive = refl
report_is style AlreadyNine = refl
report_is style (IllegalNumber name) = ap (λ (t : List ℕ). codes "Illegal parameter number in definition of " ++ t) (append-nil (subject style (IllegalNumber name)))
report_is style (UseMismatch name) = refl
report_is style (ExtraBrace name) = refl
report_is style (ParagraphEnded name) = refl
report_is style (PrefixWith m) = refl
report_is style (LongOrOuterWith m) = around_prefix (codes "You can't use `") (escaped style (codes "long")) (codes "' or `") (escaped style (codes "outer")) (codes "' with `") (subject style (LongOrOuterWith m) ++ closing (LongOrOuterWith m))
report_is style MissingEndcsname = append-nil (opening style MissingEndcsname)
report_is style ExtraEndcsname = append-nil (opening style ExtraEndcsname)
report_is style TooManyBraces = refl
report_is style ForgottenEndgroup = append-nil (opening style ForgottenEndgroup)
report_is style ExtraEndgroup = append-nil (opening style ExtraEndgroup)
report_is style MissingRightBrace = refl
report_is style (MissingRelation number) = ap (λ (t : List ℕ). codes "Missing = inserted for " ++ t) (append-nil (subject style (MissingRelation number)))
report_is style (ExtraFiOrElse number) = ap (λ (t : List ℕ). codes "Extra " ++ t) (append-nil (subject style (ExtraFiOrElse number)))
report_is style (IncompleteConditional number line) =
    ap (λ (t : List ℕ). codes "Incomplete " ++ (subject style (IncompleteConditional number line) ++ t)) (append-nil (closing (IncompleteConditional number line)))

pub report_parts : (style : Style) (b : Bool) (line : ℕ) (r : Report) (start before shown close last behind first second said : List ℕ) →
    start ≡ fresh_line b ++ printed_all style (codes "! ") → before ≡ start ++ printed_all style (opening style r) → shown ≡ printed_all style (subject style r) →
    close ≡ closing_printed style.newline (in_line_after b before) r → last ≡ printed_all style (closing_name style r) →
    behind ≡ printed_all style (codes ".") ++ (10 ∷ (printed_all style (codes "l.") ++ (printed_all style (decimal line) ++ 10 ∷ []))) →
    first ≡ before ++ (shown ++ close) → second ≡ last ++ behind → said ≡ first ++ second →
    said ≡ report_bytes style b line r
report_parts style b line (IncompatibleMagnification n earlier) start before shown close last behind first second said m i s k z h x y w =
    let r = IncompatibleMagnification n earlier in
    report_of_two (printed_by style.newline) (λ t. fresh_line (in_line_after b t)) (fresh_line b) (codes "! ") (report_text style r) (second_line r) (codes ".") (codes "l.") (decimal line)
    start before shown close last behind first second said m i s k z h x y w
report_parts style b line r start before shown close last behind first second said m i s k n h x y z =
    report_named (printed_by style.newline) (fresh_line b) (codes "! ") (opening style r) (subject style r) (closing r) (closing_name style r) (codes ".") (codes "l.") (decimal line)
    start before shown close last behind first second said m i s k n h x y z
    ∙ ap (λ (text : List ℕ). plain.reported_line style b line text) (report_is style r)

-- the same opening, of a report and with a newline character that have other names
pub opening_by : (style : Style) (r r' : Report) (newline : ℤ) (old new : List ℕ) → r ≡ r' → newline ≡ style.newline → new ≡ old ++ all_printed newline (opening style r') → new ≡ old ++ all_printed style.newline (opening style r)
opening_by style r r' newline old new is e h =
    h ∙ ap (λ (n : ℤ). old ++ all_printed n (opening style r')) e ∙ ap (λ (x : Report). old ++ all_printed style.newline (opening style x)) (sym is)

-- the second line of a report, with a newline character that has another name
pub second_line_by : (newline newline' : ℤ) (b : Bool) (r : Report) (n : ℤ) (earlier : ℕ) (text : List ℕ) → r ≡ IncompatibleMagnification n earlier → newline' ≡ newline →
    text ≡ fresh_line b ++ all_printed newline' (second_line (IncompatibleMagnification n earlier)) → text ≡ closing_printed newline b r
second_line_by newline newline' b r n earlier text is e h =
    h ∙ ap (λ (m : ℤ). closing_printed m b (IncompatibleMagnification n earlier)) e ∙ ap (λ (x : Report). closing_printed newline b x) (sym is)

-- the words behind the name of an open conditional, with a newline character that has another name
abbrev begun_text : (line : ℕ) → List ℕ
begun_text line = codes " on line " ++ (decimal line ++ codes " was incomplete)")

pub begun_by : (newline newline' : ℤ) (line : ℕ) (text behind : List ℕ) → behind ≡ text → newline' ≡ newline → text ≡ all_printed newline' (begun_text line) ++ 10 ∷ [] → behind ≡ all_printed newline (begun_text line) ++ 10 ∷ []
begun_by newline newline' line text behind is e h = is ∙ h ∙ ap (λ (n : ℤ). all_printed n (begun_text line) ++ 10 ∷ []) e

-- the report of a message
pub message_parts : (style : Style) (b : Bool) (line : ℕ) (ts : List Token) (before shown behind : List ℕ) →
    before ≡ fresh_line b ++ printed_all style (codes "! ") → shown ≡ shown_all style ts →
    behind ≡ printed_all style (codes ".") ++ (10 ∷ (printed_all style (codes "l.") ++ (printed_all style (decimal line) ++ 10 ∷ []))) →
    before ++ (shown ++ behind) ≡ error_message_bytes style b line ts
message_parts style b line ts before shown behind m s h =
    rw (m, s, h) (message_around (printed_by style.newline) (fresh_line b) (codes "! ") (list_text style ts) (codes ".") (codes "l.") (decimal line))

-- WHAT IS SHOWN

name_is : (style : Style) (t : Token) → token_name style t ++ equals_behind t ≡ shown_name style t
name_is style (Char category c) = refl
name_is style (Named n) = refl
name_is style (Marked n) = refl
name_is style (Place c) = refl
name_is style (Number n) = refl
name_is style EndPlaces = refl

-- the three parts are the whole
pub shown_parts : (style : Style) (b : Bool) (line : ℕ) (t : Token) (m : Meaning Unit) (ts : List Token) (mark name equals head feed list behind first second third said : List ℕ) →
    mark ≡ fresh_line b ++ printed_all style (codes "> ") → name ≡ printed_all style (token_name style t) → equals ≡ printed_all style (equals_behind t) →
    head ≡ printed_all style (meaning_head style m) → feed ≡ macro_feed m → list ≡ shown_all style ts →
    behind ≡ printed_all style (codes ".") ++ (10 ∷ (printed_all style (codes "l.") ++ (printed_all style (decimal line) ++ 10 ∷ []))) →
    first ≡ mark ++ (name ++ equals) → second ≡ head ++ feed → third ≡ list ++ behind → said ≡ first ++ (second ++ third) →
    said ≡ shown_meaning_bytes style b line t m ts
shown_parts style b line t m ts mark name equals head feed list behind first second third said i j k l n o p q r s h =
    rw (h, q, r, s, i, j, k, l, n, o, p) (shown_around (printed_by style.newline) (fresh_line b) (codes "> ") (token_name style t) (equals_behind t) (meaning_head style m) (macro_feed m) (list_text style ts) (codes ".") (codes "l.") (decimal line)
    ∙ ap (λ (x : List ℕ). fresh_line b ++ (printed_all style (codes "> " ++ (x ++ meaning_head style m)) ++ (macro_feed m
    ++ (plain.printed_line style (list_text style ts ++ codes ".") ++ plain.printed_line style (codes "l." ++ decimal line))))) (name_is style t))

-- and the two parts of a value
pub value_parts : (style : Style) (b : Bool) (line : ℕ) (text : List ℕ) (ts : List Token) (mark shown list behind first second said : List ℕ) →
    mark ≡ fresh_line b ++ printed_all style (codes "> ") → shown ≡ printed_all style text → list ≡ shown_all style ts →
    behind ≡ printed_all style (codes ".") ++ (10 ∷ (printed_all style (codes "l.") ++ (printed_all style (decimal line) ++ 10 ∷ []))) →
    first ≡ mark ++ (shown ++ []) → second ≡ list ++ behind → said ≡ first ++ second →
    said ≡ shown_value_bytes style b line text ts
value_parts style b line text ts mark shown list behind first second said i j k l m n h =
    rw (h, m, n, i, j, k, l) (value_around (printed_by style.newline) (fresh_line b) (codes "> ") text (list_text style ts) (codes ".") (codes "l.") (decimal line))
