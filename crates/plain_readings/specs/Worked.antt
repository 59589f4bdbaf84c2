-- Readings worked out: what each asks for, item by item, as it is fed, and the lists that it holds then.
use Rattle.std.specs.Prelude.{ℕ, zero, suc, ℤ, pos, negsuc, ◌≡◌, Bool, true, false, List, [], ◌∷◌, Option, Some, None}
use Rattle.tex_defs.specs.declared.Token.{Token}
use Rattle.tex_defs.specs.declared.Token.TheVariants as token
use Rattle.tex_defs.specs.declared.Name.TheVariants as name
use Rattle.tex_defs.specs.declared.Meaning.TheVariants as means
use Rattle.tex_defs.specs.declared.Meaning.{Meaning}
use Rattle.tex_defs.specs.declared.RegisterKind.TheVariants as register
use Rattle.tex_defs.specs.declared.Seen.{Seen}
use Rattle.tex_syntax.specs.declared.words.Want.TheVariants.{Raw, Expanded, Copied, Nonblank, Unentered}
use Rattle.tex_syntax.specs.declared.words.Want.TheVariants as want
use Rattle.tex_syntax.specs.declared.words.Report.TheVariants.{ImproperConstant, MissingNumber, NumberTooBig, BadCharacterCode, BadRegisterCode, IncompatibleUnits, DimensionTooLarge, MissingBrace, MissingEndcsname, ExtraBrace, ParagraphEnded, UseMismatch}
use Rattle.plain_tokens.specs.Categories.{begin_group, end_group, parameter, space, letter, other}
use Rattle.conditionals.specs.declared.choice.Aim.{Aim}
use Rattle.conditionals.specs.declared.choice.Aim.TheVariants.{Other, Case, Fi as AimsAtFi}
use Rattle.conditionals.specs.declared.skip.Ender.{Ender}
use Rattle.conditionals.specs.declared.skip.Ender.TheVariants.{Fi, Else, Or}
use Rattle.conditionals.specs.Worked.{an_if, an_ifcase, a_fi, an_else, an_or, let_fi, marked_fi}
use Rattle.rows.specs.declared.words.Datum.TheVariants.{Number}
use Rattle.rows.specs.declared.words.Datum.TheVariants as datum
use Rattle.rows.specs.declared.words.Value.TheVariants as value
use Rattle.rows.specs.declared.words.Keyword.TheVariants.{By, Plus, Minus, Fil, L, True, Em, Ex, Pt}
use Rattle.rows.specs.declared.words.Phrase.TheVariants.{Command, Integer, Factor, Dimension, Glue as GlueOf, Keyword, Text, Definition}
use Rattle.tex_syntax.specs.declared.words.Scanned.TheVariants as scanned
use Rattle.rows.specs.declared.command.Effect.TheVariants.{MakeName, StartInput, PutBack, Reach}
use Rattle.equivalents.specs.declared.values.CodeKind.TheVariants as code
use Rattle.equivalents.specs.declared.values.Glue.{Glue}
use Rattle.equivalents.specs.declared.values.Loc.{Loc}
use Rattle.equivalents.specs.declared.values.Loc.TheVariants as loc
use Rattle.equivalents.specs.declared.values.Val.TheVariants as val
use Rattle.equivalents.specs.First.{magnification}
use Rattle.rows.specs.Worked.{character, primitive, call, asked, number, x, y, x_name, a_letter, a_space}
use Rattle.rows.specs.Readings.{Fed, Tok, Val, Noted, Fetched, Verbatim, Cut, Ask, More, Inner, Done, Acts, ActsOn, Ends, Calls, Fails, RunsAway, Tells, Inserts, Puts, Fetches, Magnifies}
use Rattle.plain_readings.specs.Integers.{number_ask, ends_with}
use Rattle.plain_readings.specs.Keywords.{keyword_ask, ends_found}
use Rattle.plain_readings.specs.Calls.{par_token}
use Rattle.plain_readings.specs.Readings.{Kind, Reads, Spelling, FileName, Behind, Skips, Arguments, Reading, ask, lists}
use Rattle.plain_readings.specs.Scanning.{Scanning, Builds, SkippedText, scanning}

-- what a reading asks for before each item and behind the last, and the lists that it holds then
abbrev pub steps : Kind → List Fed → List Ask
steps k fed = asked (ask k) fed

abbrev pub held : (List Fed → List (List Token)) → List Fed → List (List (List Token))
held now [] = now [] ∷ []
held now (item ∷ fed) = now [] ∷ held (λ more. now (item ∷ more)) fed

abbrev pub holds : Kind → List Fed → List (List (List Token))
holds k fed = held (lists k) fed

-- characters of category 12 by their codes
abbrev pub others : List ℕ → List Fed → List Fed
others [] fed = fed
others (c ∷ cs) fed = Tok (character other c) ∷ others cs fed

-- INTEGERS

-- the end of an integer
abbrev pub number_end : ℤ → (give_back : Bool) → Ask
number_end n back = number_ask (ends_with n back)

-- where it asks so many times for a token by expansion, and then this comes
abbrev pub expanded : ℕ → List Ask → List Ask
expanded zero asks = asks
expanded (suc n) asks = More Expanded ∷ expanded n asks

-- 12 and a space; -'17 and a letter; "1F; `a and a space; `\x; +-+7
pub record WorkedIntegers : Type 0 where
  pub decimal : steps (Reads Integer) (others (49 ∷ 50 ∷ []) (Tok a_space ∷ [])) ≡ More Nonblank ∷ More Expanded ∷ More Expanded ∷ number_end (pos 12) false ∷ []
  pub octal :
      steps (Reads Integer) (others (45 ∷ 39 ∷ 49 ∷ 55 ∷ []) (Tok a_letter ∷ [])) ≡
      More Nonblank ∷ More Nonblank ∷ More Expanded ∷ More Expanded ∷ More Expanded ∷ number_end (negsuc 14) true ∷ []
  pub hexadecimal :
      steps (Reads Integer) (others (34 ∷ 49 ∷ []) (Tok (character letter 70) ∷ Tok a_letter ∷ [])) ≡
      More Nonblank ∷ More Expanded ∷ More Expanded ∷ More Expanded ∷ number_end (pos 31) true ∷ []
  pub code : steps (Reads Integer) (others (96 ∷ []) (Tok a_letter ∷ Tok a_space ∷ [])) ≡ More Nonblank ∷ More Raw ∷ More Expanded ∷ number_end (pos 97) false ∷ []
  pub code_of_name : steps (Reads Integer) (others (96 ∷ []) (Tok x ∷ Tok y ∷ [])) ≡ More Nonblank ∷ More Raw ∷ More Expanded ∷ number_end (pos 120) true ∷ []
  pub signs :
      steps (Reads Integer) (others (43 ∷ 45 ∷ 43 ∷ 55 ∷ []) (Tok a_letter ∷ [])) ≡
      More Nonblank ∷ More Nonblank ∷ More Nonblank ∷ More Nonblank ∷ More Expanded ∷ number_end (negsuc 6) true ∷ []

-- a letter; '8; ` and a name of two characters; 2147483647, and 2147483648 with one digit more, reported once
pub record WorkedReports : Type 0 where
  pub missing : steps (Reads Integer) (Tok a_letter ∷ Noted ∷ []) ≡ More Nonblank ∷ Tells MissingNumber true ∷ number_end (pos 0) false ∷ []
  pub no_octal : steps (Reads Integer) (others (39 ∷ 56 ∷ []) (Noted ∷ [])) ≡ More Nonblank ∷ More Expanded ∷ Tells MissingNumber true ∷ number_end (pos 0) false ∷ []
  pub improper : steps (Reads Integer) (others (96 ∷ []) (Tok (primitive 1) ∷ Noted ∷ [])) ≡ More Nonblank ∷ More Raw ∷ Tells ImproperConstant true ∷ number_end (pos 48) false ∷ []
  pub greatest :
      steps (Reads Integer) (others (50 ∷ 49 ∷ 52 ∷ 55 ∷ 52 ∷ 56 ∷ 51 ∷ 54 ∷ 52 ∷ 55 ∷ []) (Tok a_space ∷ [])) ≡
      More Nonblank ∷ expanded 10 (number_end (pos 2147483647) false ∷ [])
  pub too_big :
      steps (Reads Integer) (others (50 ∷ 49 ∷ 52 ∷ 55 ∷ 52 ∷ 56 ∷ 51 ∷ 54 ∷ 52 ∷ 56 ∷ []) (Noted ∷ Tok (character other 57) ∷ Tok a_space ∷ [])) ≡
      More Nonblank ∷ expanded 9 (Tells NumberTooBig false ∷ More Expanded ∷ More Expanded ∷ number_end (pos 2147483647) false ∷ [])

-- INTERNAL INTEGERS

-- a name that means this
abbrev pub named : Meaning Unit → Fed
named m = Tok (record { token = token.Named x_name; meaning = m })

-- glue of 3 mu, 1 fil and 2
abbrev pub a_glue : Glue
a_glue = record { width = pos 196608; stretch = pos 65536; stretch_order = 1; shrink = pos 2; shrink_order = 0 }

-- behind a parameter, or a register's name, which stands there
abbrev pub fetches : Loc → List Ask → List Ask
fetches l asks = More Nonblank ∷ Fetches l ∷ asks

-- behind the name of registers or of codes, whose number comes
abbrev pub numbers : List Ask → List Ask
numbers asks = More Nonblank ∷ Inner Integer false ∷ asks

-- `\count 3`; `-\count 0`; a value of -2^31; the first and the last integer parameter, and the first and the last dimension parameter
pub record WorkedNumbers : Type 0 where
  pub count :
      steps (Reads Integer) (Tok (primitive 41) ∷ number (pos 3) ∷ Fetched (val.Number (pos 7)) ∷ []) ≡ numbers (Fetches (loc.Register register.Count 3) ∷ number_end (pos 7) false ∷ [])
  pub negative :
      steps (Reads Integer) (others (45 ∷ []) (Tok (primitive 41) ∷ number (pos 0) ∷ Fetched (val.Number (negsuc 4)) ∷ [])) ≡
      More Nonblank ∷ numbers (Fetches (loc.Register register.Count 0) ∷ number_end (pos 5) false ∷ [])
  pub least : steps (Reads Integer) (Tok (primitive 85) ∷ Fetched (val.Number (negsuc 2147483647)) ∷ []) ≡ fetches (loc.Integer 0) (number_end (negsuc 2147483646) false ∷ [])
  pub last : steps (Reads Integer) (Tok (primitive 139) ∷ Fetched (val.Number (pos 1)) ∷ []) ≡ fetches (loc.Integer 54) (number_end (pos 1) false ∷ [])
  pub dimension : steps (Reads Integer) (Tok (primitive 140) ∷ Fetched (val.Number (pos 65536)) ∷ []) ≡ fetches (loc.Dimension 0) (number_end (pos 65536) false ∷ [])
  pub last_dimension : steps (Reads Integer) (Tok (primitive 160) ∷ Fetched (val.Number (pos 2)) ∷ []) ≡ fetches (loc.Dimension 20) (number_end (pos 2) false ∷ [])
  pub dimen :
      steps (Reads Integer) (Tok (primitive 42) ∷ number (pos 255) ∷ Fetched (val.Number (pos 9)) ∷ []) ≡ numbers (Fetches (loc.Register register.Dimen 255) ∷ number_end (pos 9) false ∷ [])

-- `\skip 0`; the first parameter that is glue, the last that isn't in mu, and the first that is; `-\muskip 0`, and `\muskip 256`, which comes to
-- two reports
pub record WorkedGlue : Type 0 where
  pub skip : steps (Reads Integer) (Tok (primitive 43) ∷ number (pos 0) ∷ Fetched (val.Skip a_glue) ∷ []) ≡ numbers (Fetches (loc.Register register.Skip 0) ∷ number_end (pos 196608) false ∷ [])
  pub first : steps (Reads Integer) (Tok (primitive 161) ∷ Fetched (val.Skip a_glue) ∷ []) ≡ fetches (loc.Glue 0) (number_end (pos 196608) false ∷ [])
  pub last : steps (Reads Integer) (Tok (primitive 175) ∷ Fetched (val.Skip a_glue) ∷ []) ≡ fetches (loc.Glue 14) (number_end (pos 196608) false ∷ [])
  pub mu : steps (Reads Integer) (Tok (primitive 176) ∷ Fetched (val.Skip a_glue) ∷ Noted ∷ []) ≡ fetches (loc.Glue 15) (Tells IncompatibleUnits false ∷ number_end (pos 196608) false ∷ [])
  pub negative_mu :
      steps (Reads Integer) (others (45 ∷ []) (Tok (primitive 44) ∷ number (pos 0) ∷ Fetched (val.Skip a_glue) ∷ Noted ∷ [])) ≡
      More Nonblank ∷ numbers (Fetches (loc.Register register.Muskip 0) ∷ Tells IncompatibleUnits false ∷ number_end (negsuc 196607) false ∷ [])
  pub no_register :
      steps (Reads Integer) (Tok (primitive 44) ∷ number (pos 256) ∷ Noted ∷ Fetched (val.Skip a_glue) ∷ Noted ∷ []) ≡
      numbers (Tells (BadRegisterCode (pos 256)) false ∷ Fetches (loc.Register register.Muskip 0) ∷ Tells IncompatibleUnits false ∷ number_end (pos 196608) false ∷ [])

-- `\catcode 65` and `\delcode 255`; `\catcode -1`; names of `\chardef`, of `\mathchardef` behind a sign, and of `\countdef`; `\toks`, the first token
-- parameter and a name of `\toksdef`, which are no numbers
pub record WorkedMeanings : Type 0 where
  pub category :
      steps (Reads Integer) (Tok (primitive 35) ∷ number (pos 65) ∷ Fetched (val.Number (pos 11)) ∷ []) ≡ numbers (Fetches (loc.Code code.Category 65) ∷ number_end (pos 11) false ∷ [])
  pub delimiter :
      steps (Reads Integer) (Tok (primitive 40) ∷ number (pos 255) ∷ Fetched (val.Number (negsuc 0)) ∷ []) ≡ numbers (Fetches (loc.Code code.Delimiter 255) ∷ number_end (negsuc 0) false ∷ [])
  pub no_character :
      steps (Reads Integer) (Tok (primitive 35) ∷ number (negsuc 0) ∷ Noted ∷ Fetched (val.Number (pos 9)) ∷ []) ≡
      numbers (Tells (BadCharacterCode (negsuc 0)) false ∷ Fetches (loc.Code code.Category 0) ∷ number_end (pos 9) false ∷ [])
  pub chardef : steps (Reads Integer) (named (means.CharGiven 65) ∷ []) ≡ More Nonblank ∷ number_end (pos 65) false ∷ []
  pub mathchardef : steps (Reads Integer) (others (45 ∷ []) (named (means.MathGiven 32767) ∷ [])) ≡ More Nonblank ∷ More Nonblank ∷ number_end (negsuc 32766) false ∷ []
  pub countdef : steps (Reads Integer) (named (means.Register register.Count 9) ∷ Fetched (val.Number (pos 4)) ∷ []) ≡ fetches (loc.Register register.Count 9) (number_end (pos 4) false ∷ [])
  pub toks : steps (Reads Integer) (Tok (primitive 45) ∷ Noted ∷ []) ≡ More Nonblank ∷ Tells MissingNumber true ∷ number_end (pos 0) false ∷ []
  pub everypar : steps (Reads Integer) (Tok (primitive 179) ∷ []) ≡ More Nonblank ∷ Tells MissingNumber true ∷ []
  pub toksdef : steps (Reads Integer) (named (means.Register register.Toks 1) ∷ []) ≡ More Nonblank ∷ Tells MissingNumber true ∷ []

pub record WorkedInternals : Type 0 where
  pub plain : WorkedNumbers
  pub glue : WorkedGlue
  pub others : WorkedMeanings

-- FACTORS, which end with a number and whether a point stands behind it

abbrev pub factor_ends : ℤ → (point : Bool) → (give_back : Bool) → Ask
factor_ends n point back = Done (value.Plain (datum.Factor n point)) back

-- `12.`, where the point is given back; `7,`; `'7.`, where it is none of a fraction; 1 and a space; a letter; `\count 3`
pub record WorkedFactors : Type 0 where
  pub point : steps (Reads Factor) (others (49 ∷ 50 ∷ 46 ∷ []) []) ≡ More Nonblank ∷ expanded 2 (factor_ends (pos 12) true true ∷ [])
  pub comma : steps (Reads Factor) (others (55 ∷ 44 ∷ []) []) ≡ More Nonblank ∷ expanded 1 (factor_ends (pos 7) true true ∷ [])
  pub octal : steps (Reads Factor) (others (39 ∷ 55 ∷ 46 ∷ []) []) ≡ More Nonblank ∷ expanded 2 (factor_ends (pos 7) false true ∷ [])
  pub space : steps (Reads Factor) (others (49 ∷ []) (Tok a_space ∷ [])) ≡ More Nonblank ∷ expanded 1 (factor_ends (pos 1) false false ∷ [])
  pub missing : steps (Reads Factor) (Tok a_letter ∷ Noted ∷ []) ≡ More Nonblank ∷ Tells MissingNumber true ∷ factor_ends (pos 0) false false ∷ []
  pub count :
      steps (Reads Factor) (Tok (primitive 41) ∷ number (pos 3) ∷ Fetched (val.Number (pos 7)) ∷ []) ≡
      numbers (Fetches (loc.Register register.Count 3) ∷ factor_ends (pos 7) false false ∷ [])

-- DIMENSIONS, which end with a number of scaled points and an order of infinity

abbrev pub dimen_ends : ℤ → (order : ℕ) → (give_back : Bool) → Ask
dimen_ends n order back = Done (value.Plain (datum.Dimension n order)) back

abbrev pub plain : Kind
plain = Reads (Dimension (record { mu = false; infinite = false }))

abbrev pub a_stretch : Kind
a_stretch = Reads (Dimension (record { mu = false; infinite = true }))

abbrev pub in_mu : Kind
in_mu = Reads (Dimension (record { mu = true; infinite = false }))

-- a keyword was there, or wasn't; a number came, and whether a point stands behind it
abbrev pub word : (found : Bool) → Fed
word found = Val (value.Plain (datum.Found found)) []

abbrev pub a_factor : ℤ → (point : Bool) → Fed
a_factor n point = Val (value.Plain (datum.Factor n point)) []

-- 1.5truept at a magnification of 2000; 2fill, whose last keyword isn't there; `\dimen 0`, which is 2^30; `\toks` in mu, which comes to two reports
pub record WorkedDimensions : Type 0 where
  pub magnified :
      steps plain
      (Tok (character other 49) ∷ a_factor (pos 1) true ∷ others (46 ∷ 53 ∷ []) (Tok (character letter 116) ∷ word false ∷ word false ∷ word true ∷ Noted ∷ Fetched (val.Number (pos 2000)) ∷ word true ∷
      Tok a_space ∷ [])) ≡
      More Nonblank ∷ Inner Factor true ∷ expanded 3 (Inner (Keyword Em) true ∷ Inner (Keyword Ex) false ∷ Inner (Keyword True) false ∷ Magnifies ∷ Fetches (loc.Integer magnification) ∷
      Inner (Keyword Pt) false ∷ More Expanded ∷ dimen_ends (pos 49152) 0 false ∷ [])
  pub infinite :
      steps a_stretch (Tok (character other 50) ∷ a_factor (pos 2) false ∷ word true ∷ word true ∷ word false ∷ Tok a_letter ∷ []) ≡
      More Nonblank ∷ Inner Factor true ∷ Inner (Keyword Fil) false ∷ Inner (Keyword L) false ∷ Inner (Keyword L) false ∷ More Expanded ∷ dimen_ends (pos 131072) 2 true ∷ []
  pub dimen :
      steps plain (Tok (primitive 42) ∷ number (pos 0) ∷ Fetched (val.Number (pos 1073741824)) ∷ Noted ∷ []) ≡
      numbers (Fetches (loc.Register register.Dimen 0) ∷ Tells DimensionTooLarge false ∷ dimen_ends (pos 1073741823) 0 false ∷ [])
  pub missing :
      steps in_mu (Tok (primitive 45) ∷ Noted ∷ Noted ∷ []) ≡ More Nonblank ∷ Tells MissingNumber true ∷ Tells IncompatibleUnits false ∷ dimen_ends (pos 0) 0 false ∷ []

-- GLUE

abbrev pub glue_ends : Glue → Ask
glue_ends g = Done (value.Plain (datum.Glue g)) false

abbrev pub a_dimension : ℤ → (order : ℕ) → Fed
a_dimension n order = Val (value.Plain (datum.Dimension n order)) []

-- the width and the stretch of a glue, and no shrink
abbrev pub stretched : (width stretch : ℤ) → (order : ℕ) → Glue
stretched w s o = record { width = w; stretch = s; stretch_order = o; shrink = pos 0; shrink_order = 0 }

-- 1pt plus 2fil; -1pt; `-\skip 0`, of which each part is negated; `\muskip 256` in glue that isn't in mu, which comes to two reports
pub record WorkedWholeGlue : Type 0 where
  pub plus :
      steps (Reads (GlueOf false)) (Tok (character other 49) ∷ a_dimension (pos 65536) 0 ∷ word true ∷ a_dimension (pos 131072) 1 ∷ word false ∷ []) ≡
      More Nonblank ∷ Inner (Dimension (record { mu = false; infinite = false })) true ∷ Inner (Keyword Plus) false ∷ Inner (Dimension (record { mu = false; infinite = true })) false ∷
      Inner (Keyword Minus) false ∷ glue_ends (stretched (pos 65536) (pos 131072) 1) ∷ []
  pub minus :
      steps (Reads (GlueOf true)) (others (45 ∷ 49 ∷ []) (a_dimension (pos 65536) 0 ∷ word false ∷ word false ∷ [])) ≡
      More Nonblank ∷ More Nonblank ∷ Inner (Dimension (record { mu = true; infinite = false })) true ∷ Inner (Keyword Plus) false ∷ Inner (Keyword Minus) false ∷
      glue_ends (stretched (negsuc 65535) (pos 0) 0) ∷ []
  pub skip :
      steps (Reads (GlueOf false)) (others (45 ∷ []) (Tok (primitive 43) ∷ number (pos 0) ∷ Fetched (val.Skip a_glue) ∷ [])) ≡
      More Nonblank ∷ numbers (Fetches (loc.Register register.Skip 0) ∷
      glue_ends (record { width = negsuc 196607; stretch = negsuc 65535; stretch_order = 1; shrink = negsuc 1; shrink_order = 0 }) ∷ [])
  pub muskip :
      steps (Reads (GlueOf false)) (Tok (primitive 44) ∷ number (pos 256) ∷ Noted ∷ Fetched (val.Skip a_glue) ∷ Noted ∷ []) ≡
      numbers (Tells (BadRegisterCode (pos 256)) false ∷ Fetches (loc.Register register.Muskip 0) ∷ Tells IncompatibleUnits false ∷ glue_ends a_glue ∷ [])

pub record WorkedMeasures : Type 0 where
  pub factors : WorkedFactors
  pub dimensions : WorkedDimensions
  pub glue : WorkedWholeGlue

-- KEYWORDS

abbrev pub by_word : Kind
by_word = Reads (Keyword By)

-- the end of a keyword
abbrev pub found_end : Bool → Ask
found_end found = keyword_ask (ends_found found)

-- letters by their codes
abbrev pub letters : List ℕ → List Fed → List Fed
letters [] fed = fed
letters (c ∷ cs) fed = Tok (character letter c) ∷ letters cs fed

abbrev pub letter_token : ℕ → Token
letter_token c = token.Char letter c

-- a name that means the letter `b`
abbrev pub implicit_b : Seen
implicit_b = record { token = token.Named x_name; meaning = means.Char letter 98 }

-- `by`; `BY`, where the `Y` has category 12; `l`. Spaces are skipped before it, but for one that is its first letter.
pub record WorkedFound : Type 0 where
  pub found : steps by_word (letters (98 ∷ 121 ∷ []) []) ≡ More Expanded ∷ More Expanded ∷ found_end true ∷ []
  pub capitals : steps by_word (letters (66 ∷ []) (others (89 ∷ []) [])) ≡ More Expanded ∷ More Expanded ∷ found_end true ∷ []
  pub behind_spaces : steps by_word (Tok a_space ∷ Tok a_space ∷ letters (98 ∷ 121 ∷ []) []) ≡ More Expanded ∷ More Expanded ∷ More Expanded ∷ More Expanded ∷ found_end true ∷ []
  pub space_letter : steps by_word (Tok (character space 98) ∷ letters (121 ∷ []) []) ≡ More Expanded ∷ More Expanded ∷ found_end true ∷ []
  pub single : steps (Reads (Keyword L)) (letters (76 ∷ []) []) ≡ More Expanded ∷ found_end true ∷ []

-- `b` and a space, which goes back, and then the `b`; a digit; a name that means the letter `b`; `plua` in place of `plus`, and `minut` in place of
-- `minus`; no list is held
pub record WorkedGivenBack : Type 0 where
  pub space :
      steps by_word (letters (98 ∷ []) (Tok a_space ∷ Noted ∷ Noted ∷ [])) ≡
      More Expanded ∷ More Expanded ∷ Puts a_space.token 1 ∷ Puts (letter_token 98) 0 ∷ found_end false ∷ []
  pub space_held : holds by_word (letters (98 ∷ []) (Tok a_space ∷ Noted ∷ [])) ≡ [] ∷ [] ∷ [] ∷ [] ∷ []
  pub digit : steps by_word (others (50 ∷ []) (Noted ∷ [])) ≡ More Expanded ∷ Puts (token.Char other 50) 0 ∷ found_end false ∷ []
  pub name : steps by_word (Tok implicit_b ∷ Noted ∷ []) ≡ More Expanded ∷ Puts implicit_b.token 0 ∷ found_end false ∷ []
  pub fourth :
      steps (Reads (Keyword Plus)) (letters (112 ∷ 108 ∷ 117 ∷ 97 ∷ []) (Noted ∷ Noted ∷ Noted ∷ Noted ∷ [])) ≡
      More Expanded ∷ More Expanded ∷ More Expanded ∷ More Expanded ∷ Puts (letter_token 97) 3 ∷ Puts (letter_token 117) 2 ∷ Puts (letter_token 108) 1 ∷
      Puts (letter_token 112) 0 ∷ found_end false ∷ []
  pub fifth :
      steps (Reads (Keyword Minus)) (letters (109 ∷ 105 ∷ 110 ∷ 117 ∷ 116 ∷ []) (Noted ∷ [])) ≡
      More Expanded ∷ More Expanded ∷ More Expanded ∷ More Expanded ∷ More Expanded ∷ Puts (letter_token 116) 4 ∷ Puts (letter_token 117) 3 ∷ []

-- behind the token with which it begins: a `b`, a `y`, and `l` where that is all
pub record WorkedLent : Type 0 where
  pub first : ask by_word (letters (98 ∷ []) []) ≡ More Expanded
  pub refused : ask by_word (letters (121 ∷ []) []) ≡ Puts (letter_token 121) 0
  pub whole : ask (Reads (Keyword L)) (letters (108 ∷ []) []) ≡ found_end true

pub record WorkedKeywords : Type 0 where
  pub found : WorkedFound
  pub given_back : WorkedGivenBack
  pub lent : WorkedLent

-- `\csname`

abbrev pub csname : Kind
csname = Spelling (call 56)

abbrev pub endcsname : Seen
endcsname = primitive 4

-- `\csname a \endcsname`, where the space is gathered; without characters; where another name means `\endcsname`; where `\relax` comes
pub record WorkedNames : Type 0 where
  pub name :
      steps csname (Tok a_letter ∷ Tok a_space ∷ Tok endcsname ∷ []) ≡
      More Expanded ∷ More Expanded ∷ More Expanded ∷ ActsOn (call 56) MakeName (a_letter.token ∷ a_space.token ∷ []) ∷ []
  pub name_held :
      holds csname (Tok a_letter ∷ Tok a_space ∷ Tok endcsname ∷ []) ≡
      ([] ∷ []) ∷ ((a_letter.token ∷ []) ∷ []) ∷ ((a_letter.token ∷ a_space.token ∷ []) ∷ []) ∷ ((a_letter.token ∷ a_space.token ∷ []) ∷ []) ∷ []
  pub empty : steps csname (Tok endcsname ∷ []) ≡ More Expanded ∷ ActsOn (call 56) MakeName [] ∷ []
  pub let_name : steps csname (Tok (record { token = token.Named x_name; meaning = means.Prim 4 }) ∷ []) ≡ More Expanded ∷ ActsOn (call 56) MakeName [] ∷ []
  pub missing :
      steps csname (Tok a_letter ∷ Tok (primitive 1) ∷ Noted ∷ []) ≡
      More Expanded ∷ More Expanded ∷ Tells MissingEndcsname true ∷ ActsOn (call 56) MakeName (a_letter.token ∷ []) ∷ []
  pub missing_held :
      holds csname (Tok a_letter ∷ Tok (primitive 1) ∷ Noted ∷ []) ≡
      ([] ∷ []) ∷ ((a_letter.token ∷ []) ∷ []) ∷ ((a_letter.token ∷ []) ∷ []) ∷ ((a_letter.token ∷ []) ∷ []) ∷ []

-- `\input`

abbrev pub input : Kind
input = FileName (call 63)

-- a name that means the letter `a`
abbrev pub implicit_letter : Seen
implicit_letter = record { token = token.Named x_name; meaning = means.Char letter 97 }

-- `\input a` and a space, which goes; and `\relax`, which is given back; an implicit letter; a character 32 of category 12; an active character
pub record WorkedFiles : Type 0 where
  pub space : steps input (Tok a_letter ∷ Tok a_space ∷ []) ≡ More Nonblank ∷ More Expanded ∷ ActsOn (call 63) (StartInput false) (a_letter.token ∷ []) ∷ []
  pub space_held : holds input (Tok a_letter ∷ Tok a_space ∷ []) ≡ ([] ∷ []) ∷ ((a_letter.token ∷ []) ∷ []) ∷ ((a_letter.token ∷ []) ∷ []) ∷ []
  pub relax : steps input (Tok a_letter ∷ Tok (primitive 1) ∷ []) ≡ More Nonblank ∷ More Expanded ∷ ActsOn (call 63) (StartInput true) (a_letter.token ∷ []) ∷ []
  pub relax_held : holds input (Tok a_letter ∷ Tok (primitive 1) ∷ []) ≡ ([] ∷ []) ∷ ((a_letter.token ∷ []) ∷ []) ∷ ((a_letter.token ∷ []) ∷ []) ∷ []
  pub implicit : steps input (Tok implicit_letter ∷ Tok a_space ∷ []) ≡ More Nonblank ∷ More Expanded ∷ ActsOn (call 63) (StartInput false) (a_letter.token ∷ []) ∷ []
  pub implicit_held : holds input (Tok implicit_letter ∷ []) ≡ ([] ∷ []) ∷ ((a_letter.token ∷ []) ∷ []) ∷ []
  pub empty : steps input (Tok (character other 32) ∷ []) ≡ More Nonblank ∷ ActsOn (call 63) (StartInput false) [] ∷ []
  pub active :
      steps input (Tok (record { token = token.Named (name.Active 126); meaning = means.Undefined }) ∷ []) ≡ More Nonblank ∷ ActsOn (call 63) (StartInput true) [] ∷ []

-- SKIPPED TEXT

-- of `\iffalse`, from line 3 on
abbrev pub skips : Aim → Kind
skips aim = Skips (call 80) aim 3

-- where it asks for so many tokens, and then this comes
abbrev pub unentered : ℕ → List Ask → List Ask
unentered zero asks = asks
unentered (suc n) asks = More Unentered ∷ unentered n asks

abbrev pub reaches : Aim → Ender → List Ask
reaches aim e = Acts (call 80) (Reach aim e) ∷ []

-- `a\else`; `\if a\else\fi\fi`, whose `\else` is the inner one's; `\ifcase\or\if\or\fi\or\fi\or`; a name that means `\fi`, behind a `\fi` that
-- `\noexpand` kept, which means `\relax`; a name that means `\fi` closes an inner one; `\if\else`, which goes on; what follows counts no more; a note ends it
pub record WorkedSkips : Type 0 where
  pub plain : steps (skips (Other true)) (Tok a_letter ∷ Tok an_else ∷ []) ≡ unentered 2 (reaches (Other true) Else)
  pub inner_else :
      steps (skips AimsAtFi) (Tok an_if ∷ Tok a_letter ∷ Tok an_else ∷ Tok a_fi ∷ Tok a_fi ∷ []) ≡ unentered 5 (reaches AimsAtFi Fi)
  pub nested :
      steps (skips (Case 2)) (Tok an_ifcase ∷ Tok an_or ∷ Tok an_if ∷ Tok an_or ∷ Tok a_fi ∷ Tok an_or ∷ Tok a_fi ∷ Tok an_or ∷ []) ≡
      unentered 8 (reaches (Case 2) Or)
  pub marked : steps (skips (Other true)) (Tok marked_fi ∷ Tok let_fi ∷ []) ≡ unentered 2 (reaches (Other true) Fi)
  pub named : steps (skips (Other true)) (Tok an_if ∷ Tok let_fi ∷ Tok an_or ∷ []) ≡ unentered 3 (reaches (Other true) Or)
  pub goes_on : steps (skips (Other true)) (Tok an_if ∷ Tok an_else ∷ []) ≡ unentered 3 []
  pub once : ask (skips (Other true)) (Tok a_fi ∷ Tok a_letter ∷ Tok an_else ∷ []) ≡ Acts (call 80) (Reach (Other true) Fi)
  pub unasked : steps (skips (Other true)) (Tok a_letter ∷ Noted ∷ []) ≡ unentered 2 (Ends ∷ [])
  pub held : holds (skips (Other true)) (Tok a_letter ∷ Tok a_fi ∷ []) ≡ [] ∷ [] ∷ [] ∷ []

-- LISTS

abbrev pub left : Seen
left = character begin_group 123

abbrev pub right : Seen
right = character end_group 125

abbrev pub full_stop : Token
full_stop = token.Char other 46

abbrev pub parameter_token : Seen
parameter_token = character parameter 35

abbrev pub one : Seen
one = character other 49

-- `{a}` as an expanded text and as one read as it stands; a list of `{` and `#` that enters an expanded text, whose brace isn't counted; a letter in
-- place of the brace; the list of `\message`; `#1{`, a list of `#1` that enters the body, where it is no parameter, and `#1`, where the token
-- behind `#` is read by expansion; `#1{a}`
pub record WorkedLists : Type 0 where
  pub text : steps (Reads (Text x_name true)) (Tok left ∷ Tok a_letter ∷ Tok right ∷ []) ≡ More want.Command ∷ More Copied ∷ More Copied ∷ Done value.List false ∷ []
  pub text_held : holds (Reads (Text x_name true)) (Tok left ∷ Tok a_letter ∷ Tok right ∷ []) ≡ ([] ∷ []) ∷ ([] ∷ []) ∷ ((a_letter.token ∷ []) ∷ []) ∷ ((a_letter.token ∷ []) ∷ []) ∷ []
  pub raw_text : steps (Reads (Text x_name false)) (Tok left ∷ Tok a_letter ∷ Tok right ∷ []) ≡ More want.Command ∷ More Raw ∷ More Raw ∷ Done value.List false ∷ []
  pub entered :
      steps (Reads (Text x_name true)) (Tok left ∷ Verbatim left.token ∷ Verbatim parameter_token.token ∷ Tok right ∷ []) ≡
      More want.Command ∷ More Copied ∷ More Copied ∷ More Copied ∷ Done value.List false ∷ []
  pub entered_held :
      holds (Reads (Text x_name true)) (Tok left ∷ Verbatim left.token ∷ Verbatim parameter_token.token ∷ Tok right ∷ []) ≡
      ([] ∷ []) ∷ ([] ∷ []) ∷ ((left.token ∷ []) ∷ []) ∷ ((left.token ∷ parameter_token.token ∷ []) ∷ []) ∷ ((left.token ∷ parameter_token.token ∷ []) ∷ []) ∷ []
  pub brace : steps (Reads (Text x_name true)) (Tok a_letter ∷ Noted ∷ Tok right ∷ []) ≡ More want.Command ∷ Tells MissingBrace true ∷ More Copied ∷ Done value.List false ∷ []
  pub message_held : holds (Reads (Command (call 9))) (Val value.List (a_letter.token ∷ []) ∷ []) ≡ [] ∷ ((a_letter.token ∷ []) ∷ []) ∷ []
  pub empty_message_held : holds (Reads (Command (call 9))) (Val value.List [] ∷ []) ≡ [] ∷ [] ∷ []
  pub number_held : holds (Reads (Command (call 57))) (Val (value.Plain (Number (pos 7))) (a_letter.token ∷ []) ∷ []) ≡ [] ∷ [] ∷ []
  pub def_held : holds (Reads (Command (call 26))) (Tok x ∷ Val value.List (token.EndPlaces ∷ []) ∷ []) ≡ [] ∷ [] ∷ ((token.EndPlaces ∷ []) ∷ []) ∷ []
  pub waiting : steps (Behind (call 54) a_letter) [] ≡ Acts (call 54) (PutBack a_letter) ∷ []
  pub waiting_held : holds (Behind (call 54) a_letter) [] ≡ [] ∷ []
  pub macro_entered :
      steps (Reads (Definition x_name true)) (Tok parameter_token ∷ Tok one ∷ Tok left ∷ Verbatim parameter_token.token ∷ Verbatim one.token ∷ Tok parameter_token ∷ Tok one ∷ []) ≡
      More Raw ∷ More Raw ∷ More Raw ∷ More Copied ∷ More Copied ∷ More Copied ∷ More Expanded ∷ More Copied ∷ []
  pub macro_entered_list :
      lists (Reads (Definition x_name true)) (Tok parameter_token ∷ Tok one ∷ Tok left ∷ Verbatim parameter_token.token ∷ Verbatim one.token ∷ Tok parameter_token ∷ Tok one ∷ []) ≡
      (token.Place 35 ∷ token.EndPlaces ∷ parameter_token.token ∷ one.token ∷ token.Number 1 ∷ []) ∷ []
  pub macro_held :
      holds (Reads (Definition x_name false)) (Tok parameter_token ∷ Tok (character other 49) ∷ Tok left ∷ Tok a_letter ∷ Tok right ∷ []) ≡
      ([] ∷ []) ∷ ([] ∷ []) ∷ ((token.Place 35 ∷ []) ∷ []) ∷ ((token.Place 35 ∷ token.EndPlaces ∷ []) ∷ []) ∷
      ((token.Place 35 ∷ token.EndPlaces ∷ a_letter.token ∷ []) ∷ []) ∷ ((token.Place 35 ∷ token.EndPlaces ∷ a_letter.token ∷ []) ∷ []) ∷ []

-- CALLS of a macro with the parameter text `#1#2.`
abbrev pub two_places : Kind
two_places = Arguments x_name false 0 (token.Place 35 ∷ token.Place 35 ∷ full_stop ∷ token.EndPlaces ∷ [])

abbrev pub a_token : Token
a_token = a_letter.token

abbrev pub b_letter : Seen
b_letter = character letter 98

abbrev pub b_token : Token
b_token = b_letter.token

-- `ab.`; `a.`, whose second argument has no token; `a}`, where the brace is given back and `\par` comes; a `\par`; `a` and a check, behind which
-- `\par` ends the call silently
pub record WorkedCalls : Type 0 where
  pub arguments :
      steps two_places (Tok a_letter ∷ Tok b_letter ∷ Tok (character other 46) ∷ []) ≡ More Raw ∷ More Raw ∷ More Raw ∷ Calls ((a_token ∷ []) ∷ (b_token ∷ []) ∷ []) ∷ []
  pub arguments_held :
      holds two_places (Tok a_letter ∷ Tok b_letter ∷ Tok (character other 46) ∷ []) ≡
      ([] ∷ []) ∷ ([] ∷ (a_token ∷ []) ∷ []) ∷ ((b_token ∷ []) ∷ (a_token ∷ []) ∷ []) ∷ ((b_token ∷ []) ∷ (a_token ∷ []) ∷ []) ∷ []
  pub empty : steps two_places (Tok a_letter ∷ Tok (character other 46) ∷ []) ≡ More Raw ∷ More Raw ∷ Calls ((a_token ∷ []) ∷ [] ∷ []) ∷ []
  pub empty_held : holds two_places (Tok a_letter ∷ Tok (character other 46) ∷ []) ≡ ([] ∷ []) ∷ ([] ∷ (a_token ∷ []) ∷ []) ∷ ((a_token ∷ []) ∷ []) ∷ []
  pub extra : steps two_places (Tok a_letter ∷ Tok right ∷ Noted ∷ []) ≡ More Raw ∷ More Raw ∷ Inserts par_token (ExtraBrace x_name) true ∷ More Raw ∷ []
  pub paragraph : steps two_places (Tok (primitive 5) ∷ []) ≡ More Raw ∷ RunsAway (ParagraphEnded x_name) ∷ []
  pub checked : steps two_places (Tok a_letter ∷ Cut ∷ Tok (primitive 5) ∷ []) ≡ More Raw ∷ More Raw ∷ More Raw ∷ Ends ∷ []
  pub checked_held : holds two_places (Tok a_letter ∷ Cut ∷ []) ≡ ([] ∷ []) ∷ ([] ∷ (a_token ∷ []) ∷ []) ∷ ([] ∷ (a_token ∷ []) ∷ []) ∷ []
  pub mismatch : steps (Arguments x_name false 0 (full_stop ∷ token.EndPlaces ∷ [])) (Tok a_letter ∷ []) ≡ More Raw ∷ Fails (UseMismatch x_name) ∷ []

-- CHECKS

abbrev pub a_text : Reading
a_text = record { kind = Reads (Text x_name true); fed = Tok left ∷ Tok a_letter ∷ [] }

abbrev pub a_command : ℕ → Reading
a_command n = record { kind = Reads (Command (call n)); fed = [] }

abbrev pub an_integer : Reading
an_integer = record { kind = Reads Integer; fed = [] }

abbrev pub a_call : List Fed → Reading
a_call fed = record { kind = two_places; fed = fed }

abbrev pub without_places : Reading
without_places = record { kind = Arguments x_name false 0 (full_stop ∷ token.EndPlaces ∷ []); fed = [] }

abbrev pub a_skip : Reading
a_skip = record { kind = skips (Other true); fed = Tok a_letter ∷ [] }

abbrev pub the_text : Option Scanning
the_text = Some (Builds scanned.Text x_name (a_token ∷ []))

-- in the text of `\message`; in a number within it; at `\expandafter`, and at `\string`, which reads its token under normal status, also where a
-- number within it inherits; in a call within the text, without places and in a place; in text that is skipped within the text, and in a number within
-- that; in `\message` before its text; where nothing is read
pub record WorkedChecks : Type 0 where
  pub text : scanning (a_text ∷ a_command 9 ∷ []) ((a_token ∷ []) ∷ []) ≡ the_text
  pub number : scanning (an_integer ∷ a_command 57 ∷ a_text ∷ a_command 9 ∷ []) ((a_token ∷ []) ∷ []) ≡ the_text
  pub behind : scanning (a_command 54 ∷ a_text ∷ a_command 9 ∷ []) ((a_token ∷ []) ∷ []) ≡ the_text
  pub unguarded : scanning (a_command 59 ∷ a_text ∷ a_command 9 ∷ []) ((a_token ∷ []) ∷ []) ≡ None
  pub within_unguarded : scanning (a_command 57 ∷ a_command 59 ∷ a_text ∷ []) ((a_token ∷ []) ∷ []) ≡ the_text
  pub call : scanning (without_places ∷ a_text ∷ []) ((a_token ∷ []) ∷ []) ≡ Some (Builds scanned.Use x_name [])
  pub argument :
      scanning (a_call (Tok b_letter ∷ []) ∷ a_text ∷ []) ([] ∷ (b_token ∷ []) ∷ (a_token ∷ []) ∷ []) ≡
      Some (Builds scanned.Use x_name [])
  pub skipped : scanning (a_skip ∷ a_text ∷ []) ((a_token ∷ []) ∷ []) ≡ Some (SkippedText 3)
  pub within_skipped : scanning (an_integer ∷ a_skip ∷ a_text ∷ []) ((a_token ∷ []) ∷ []) ≡ Some (SkippedText 3)
  pub command : scanning (a_command 9 ∷ []) [] ≡ None
  pub none : scanning [] [] ≡ None

pub record WorkedReadings : Type 0 where
  pub integers : WorkedIntegers
  pub internals : WorkedInternals
  pub reports : WorkedReports
  pub measures : WorkedMeasures
  pub keywords : WorkedKeywords
  pub names : WorkedNames
  pub files : WorkedFiles
  pub skipped : WorkedSkips
  pub built : WorkedLists
  pub calls : WorkedCalls
  pub checks : WorkedChecks
