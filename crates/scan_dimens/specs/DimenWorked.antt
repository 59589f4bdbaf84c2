-- Dimensions worked out: what a dimension asks for, item by item, as it is fed.
use Rattle.std.specs.Prelude.{ℕ, zero, suc, ℤ, pos, negsuc, ◌≡◌, Bool, true, false, List, [], ◌∷◌}
use Rattle.tex_defs.specs.declared.Meaning.TheVariants as means
use Rattle.tex_defs.specs.declared.RegisterKind.TheVariants as register
use Rattle.tex_defs.specs.declared.Seen.{Seen}
use Rattle.tex_defs.specs.declared.Token.TheVariants as token
use Rattle.tex_syntax.specs.declared.words.Want.TheVariants.{Expanded, Nonblank}
use Rattle.tex_syntax.specs.declared.words.Report.TheVariants.{MissingNumber, IncompatibleUnits, DimensionTooLarge, IllegalUnit, BadRegisterCode}
use Rattle.tex_syntax.specs.declared.words.UnitTaken.TheVariants as taken
use Rattle.plain_tokens.specs.Categories.{letter, other}
use Rattle.equivalents.specs.declared.values.CodeKind.TheVariants as code
use Rattle.equivalents.specs.declared.values.Glue.{Glue}
use Rattle.equivalents.specs.declared.values.Loc.TheVariants as loc
use Rattle.equivalents.specs.declared.values.Val.TheVariants as val
use Rattle.equivalents.specs.First.{magnification}
use Rattle.rows.specs.declared.words.Keyword.{Keyword}
use Rattle.rows.specs.declared.words.Keyword.TheVariants.{Fil, L, True, Em, Ex, Pt, In, Pc, Cm, Mm, Bp, Dd, Cc, Sp, Mu}
use Rattle.rows.specs.Worked.{character, primitive, x_name, a_space}
use Rattle.plain_readings.specs.Dimens.{Fed, Tok, Factored, Numbered, Found, Noted, Fetched, dimension}
use Rattle.plain_readings.specs.declared.asks.DimenAsk.{DimenAsk}
use Rattle.plain_readings.specs.declared.asks.DimenAsk.TheVariants.{More, Begins, Fetches, Magnifies, Tells, Done}
use Rattle.plain_readings.specs.declared.asks.DimenInner.TheVariants.{Factor, Number, Key}
use Rattle.rows.specs.declared.words.DimenKind.{DimenKind}

-- WHAT IS ASKED FOR before each item and behind the last

abbrev pub asked : (List Fed → DimenAsk) → List Fed → List DimenAsk
asked now [] = now [] ∷ []
asked now (item ∷ fed) = now [] ∷ asked (λ more. now (item ∷ more)) fed

abbrev pub steps : DimenKind → List Fed → List DimenAsk
steps k fed = asked (dimension k false) fed

-- these words, one after the other
abbrev pub words : List Keyword → List DimenAsk → List DimenAsk
words [] asks = asks
words (w ∷ ws) asks = Begins (Key w) false ∷ words ws asks

-- the token that is looked at for a unit, and then words, of which these come behind `true`
abbrev pub units : List Keyword → List DimenAsk → List DimenAsk
units ws asks = Begins (Key Em) true ∷ words (Ex ∷ True ∷ ws) asks

-- an integer, and then the words for units
abbrev pub whole : List Keyword → List DimenAsk → List DimenAsk
whole ws asks = More Nonblank ∷ Begins Factor true ∷ More Nonblank ∷ units ws asks

abbrev pub all_units : List Keyword
all_units = Pt ∷ In ∷ Pc ∷ Cm ∷ Mm ∷ Bp ∷ Dd ∷ Cc ∷ Sp ∷ []

-- so many tokens by expansion
abbrev pub expanded : ℕ → List DimenAsk → List DimenAsk
expanded zero asks = asks
expanded (suc n) asks = More Expanded ∷ expanded n asks

-- WHAT COMES

-- characters of category 12, and letters
abbrev pub others : List ℕ → List Fed → List Fed
others [] fed = fed
others (c ∷ cs) fed = Tok (character other c) ∷ others cs fed

abbrev pub a_character : ℕ → List Fed → List Fed
a_character c fed = Tok (character letter c) ∷ fed

-- so many words that aren't there, and then one that is
abbrev pub behind : ℕ → List Fed → List Fed
behind zero fed = Found true ∷ fed
behind (suc n) fed = Found false ∷ behind n fed

abbrev pub none_of : ℕ → List Fed → List Fed
none_of zero fed = fed
none_of (suc n) fed = Found false ∷ none_of n fed

-- a space ends it
abbrev pub space_behind : List Fed
space_behind = Tok a_space ∷ []

-- the first digit of an integer, and the integer that is read within, with a point directly behind its digits or without
abbrev pub integer : ℤ → (point : Bool) → List Fed → List Fed
integer n point fed = Tok (character other 49) ∷ Factored n point ∷ fed

abbrev pub a_glue : (width : ℤ) → Glue
a_glue n = record { width = n; stretch = pos 1; stretch_order = 1; shrink = pos 0; shrink_order = 0 }

-- a name of `\toks 1`
abbrev pub list_name : Seen
list_name = record { token = token.Named x_name; meaning = means.Register register.Toks 1 }

-- the kinds: a dimension, a stretch, the width of mu glue and its stretch
abbrev pub plain : DimenKind
plain = record { mu = false; infinite = false }

abbrev pub stretch : DimenKind
stretch = record { mu = false; infinite = true }

abbrev pub in_mu : DimenKind
in_mu = record { mu = true; infinite = false }

abbrev pub mu_stretch : DimenKind
mu_stretch = record { mu = true; infinite = true }

-- 1in, 1pt, 1em and 1ex and a space, which goes; 1pt and a letter, which is given back; 1sp; +-1pt
pub record WorkedUnits : Type 0 where
  pub inch : steps plain (integer (pos 1) false (a_character 105 (behind 4 space_behind))) ≡ whole (Pt ∷ In ∷ []) (More Expanded ∷ Done (pos 4736286) 0 false ∷ [])
  pub point : steps plain (integer (pos 1) false (a_character 112 (behind 3 space_behind))) ≡ whole (Pt ∷ []) (More Expanded ∷ Done (pos 65536) 0 false ∷ [])
  pub given_back : steps plain (integer (pos 1) false (a_character 112 (behind 3 (a_character 97 [])))) ≡ whole (Pt ∷ []) (More Expanded ∷ Done (pos 65536) 0 true ∷ [])
  pub em :
      steps plain (integer (pos 1) false (a_character 101 (behind 0 space_behind))) ≡
      More Nonblank ∷ Begins Factor true ∷ More Nonblank ∷ Begins (Key Em) true ∷ More Expanded ∷ Done (pos 0) 0 false ∷ []
  pub ex :
      steps plain (integer (pos 1) false (a_character 101 (behind 1 space_behind))) ≡
      More Nonblank ∷ Begins Factor true ∷ More Nonblank ∷ Begins (Key Em) true ∷ Begins (Key Ex) false ∷ More Expanded ∷ Done (pos 0) 0 false ∷ []
  pub scaled_point : steps plain (integer (pos 1) false (a_character 115 (behind 11 space_behind))) ≡ whole all_units (More Expanded ∷ Done (pos 1) 0 false ∷ [])
  pub signs :
      steps plain (others (43 ∷ 45 ∷ []) (integer (pos 1) false (a_character 112 (behind 3 space_behind)))) ≡
      More Nonblank ∷ More Nonblank ∷ whole (Pt ∷ []) (More Expanded ∷ Done (negsuc 65535) 0 false ∷ [])

-- 1pc, 1cm, 1mm, 1bp, 1dd and 1cc
pub record WorkedConversions : Type 0 where
  pub pica : steps plain (integer (pos 1) false (a_character 112 (behind 5 space_behind))) ≡ whole (Pt ∷ In ∷ Pc ∷ []) (More Expanded ∷ Done (pos 786432) 0 false ∷ [])
  pub centimetre : steps plain (integer (pos 1) false (a_character 99 (behind 6 space_behind))) ≡ whole (Pt ∷ In ∷ Pc ∷ Cm ∷ []) (More Expanded ∷ Done (pos 1864679) 0 false ∷ [])
  pub millimetre : steps plain (integer (pos 1) false (a_character 109 (behind 7 space_behind))) ≡ whole (Pt ∷ In ∷ Pc ∷ Cm ∷ Mm ∷ []) (More Expanded ∷ Done (pos 186467) 0 false ∷ [])
  pub big_point : steps plain (integer (pos 1) false (a_character 98 (behind 8 space_behind))) ≡ whole (Pt ∷ In ∷ Pc ∷ Cm ∷ Mm ∷ Bp ∷ []) (More Expanded ∷ Done (pos 65781) 0 false ∷ [])
  pub didot : steps plain (integer (pos 1) false (a_character 100 (behind 9 space_behind))) ≡ whole (Pt ∷ In ∷ Pc ∷ Cm ∷ Mm ∷ Bp ∷ Dd ∷ []) (More Expanded ∷ Done (pos 70124) 0 false ∷ [])
  pub cicero :
      steps plain (integer (pos 1) false (a_character 99 (behind 10 space_behind))) ≡ whole (Pt ∷ In ∷ Pc ∷ Cm ∷ Mm ∷ Bp ∷ Dd ∷ Cc ∷ []) (More Expanded ∷ Done (pos 841489) 0 false ∷ [])

-- .5in; 1,5pt, where the point is read again; -1.5pt; 16383.99999pt, the greatest, and 16383.999999pt; 1.5 pt, where a space goes; 1.9sp, and
-- 1.9999999sp and 1.9999999pt, whose fraction is 1; .00000762939453125pt, half a scaled point, where the seventeenth digit counts, and one below it,
-- where an eighteenth and those behind it don't
pub record WorkedFractions : Type 0 where
  pub half :
      steps plain (others (46 ∷ 53 ∷ []) (a_character 105 (behind 4 space_behind))) ≡
      More Nonblank ∷ expanded 2 (units (Pt ∷ In ∷ []) (More Expanded ∷ Done (pos 2368143) 0 false ∷ []))
  pub comma :
      steps plain (integer (pos 1) true (others (44 ∷ 53 ∷ []) (a_character 112 (behind 3 space_behind)))) ≡
      More Nonblank ∷ Begins Factor true ∷ expanded 3 (units (Pt ∷ []) (More Expanded ∷ Done (pos 98304) 0 false ∷ []))
  pub minus :
      steps plain (others (45 ∷ []) (integer (pos 1) true (others (46 ∷ 53 ∷ []) (a_character 112 (behind 3 space_behind))))) ≡
      More Nonblank ∷ More Nonblank ∷ Begins Factor true ∷ expanded 3 (units (Pt ∷ []) (More Expanded ∷ Done (negsuc 98303) 0 false ∷ []))
  pub greatest :
      steps plain (integer (pos 16383) true (others (46 ∷ 57 ∷ 57 ∷ 57 ∷ 57 ∷ 57 ∷ []) (a_character 112 (behind 3 space_behind)))) ≡
      More Nonblank ∷ Begins Factor true ∷ expanded 7 (units (Pt ∷ []) (More Expanded ∷ Done (pos 1073741823) 0 false ∷ []))
  pub rounded_up :
      steps plain (integer (pos 16383) true (others (46 ∷ 57 ∷ 57 ∷ 57 ∷ 57 ∷ 57 ∷ 57 ∷ []) (a_character 112 (behind 3 space_behind)))) ≡
      More Nonblank ∷ Begins Factor true ∷ expanded 8 (units (Pt ∷ []) (More Expanded ∷ Tells DimensionTooLarge false ∷ []))
  pub spaced :
      steps plain (integer (pos 1) true (others (46 ∷ 53 ∷ []) (Tok a_space ∷ a_character 112 (behind 3 space_behind)))) ≡
      More Nonblank ∷ Begins Factor true ∷ expanded 3 (More Nonblank ∷ units (Pt ∷ []) (More Expanded ∷ Done (pos 98304) 0 false ∷ []))
  pub dropped :
      steps plain (integer (pos 1) true (others (46 ∷ 57 ∷ []) (a_character 115 (behind 11 space_behind)))) ≡
      More Nonblank ∷ Begins Factor true ∷ expanded 3 (units all_units (More Expanded ∷ Done (pos 1) 0 false ∷ []))
  pub dropped_one :
      steps plain (integer (pos 1) true (others (46 ∷ 57 ∷ 57 ∷ 57 ∷ 57 ∷ 57 ∷ 57 ∷ 57 ∷ []) (a_character 115 (behind 11 space_behind)))) ≡
      More Nonblank ∷ Begins Factor true ∷ expanded 9 (units all_units (More Expanded ∷ Done (pos 1) 0 false ∷ []))
  pub kept_one :
      steps plain (integer (pos 1) true (others (46 ∷ 57 ∷ 57 ∷ 57 ∷ 57 ∷ 57 ∷ 57 ∷ 57 ∷ []) (a_character 112 (behind 3 space_behind)))) ≡
      More Nonblank ∷ Begins Factor true ∷ expanded 9 (units (Pt ∷ []) (More Expanded ∷ Done (pos 131072) 0 false ∷ []))
  pub last_counted :
      steps plain (others (46 ∷ 48 ∷ 48 ∷ 48 ∷ 48 ∷ 48 ∷ 55 ∷ 54 ∷ 50 ∷ 57 ∷ 51 ∷ 57 ∷ 52 ∷ 53 ∷ 51 ∷ 49 ∷ 50 ∷ 53 ∷ []) (a_character 112 (behind 3 space_behind))) ≡
      More Nonblank ∷ expanded 18 (units (Pt ∷ []) (More Expanded ∷ Done (pos 1) 0 false ∷ []))
  pub not_counted :
      steps plain (others (46 ∷ 48 ∷ 48 ∷ 48 ∷ 48 ∷ 48 ∷ 55 ∷ 54 ∷ 50 ∷ 57 ∷ 51 ∷ 57 ∷ 52 ∷ 53 ∷ 51 ∷ 49 ∷ 50 ∷ 52 ∷ 57 ∷ 57 ∷ 57 ∷ 57 ∷ []) (a_character 112 (behind 3 space_behind))) ≡
      More Nonblank ∷ expanded 22 (units (Pt ∷ []) (More Expanded ∷ Done (pos 0) 0 false ∷ []))

-- 16384pt and -16384pt, behind their reports; a token behind the unit, which is given back before the report; 1073741824sp; 1073741823sp
pub record WorkedLarge : Type 0 where
  pub positive :
      steps plain (integer (pos 16384) false (a_character 112 (behind 3 (Tok a_space ∷ Noted ∷ [])))) ≡
      whole (Pt ∷ []) (More Expanded ∷ Tells DimensionTooLarge false ∷ Done (pos 1073741823) 0 false ∷ [])
  pub negative :
      steps plain (others (45 ∷ []) (integer (pos 16384) false (a_character 112 (behind 3 (Tok a_space ∷ Noted ∷ []))))) ≡
      More Nonblank ∷ whole (Pt ∷ []) (More Expanded ∷ Tells DimensionTooLarge false ∷ Done (negsuc 1073741822) 0 false ∷ [])
  pub given_back :
      steps plain (integer (pos 16384) false (a_character 112 (behind 3 (a_character 97 (Noted ∷ []))))) ≡
      whole (Pt ∷ []) (More Expanded ∷ Tells DimensionTooLarge true ∷ Done (pos 1073741823) 0 false ∷ [])
  pub least : steps plain (integer (pos 1073741824) false (a_character 115 (behind 11 space_behind))) ≡ whole all_units (More Expanded ∷ Tells DimensionTooLarge false ∷ [])
  pub greatest : steps plain (integer (pos 1073741823) false (a_character 115 (behind 11 space_behind))) ≡ whole all_units (More Expanded ∷ Done (pos 1073741823) 0 false ∷ [])

-- 1truein at the magnifications 2000 and 500; 7.9999999truesp at 2000 and at 1000, where only the second drops the fraction as it was; 2000000truein at 1
pub record WorkedMagnification : Type 0 where
  pub halved :
      steps plain (integer (pos 1) false (a_character 116 (behind 2 (Noted ∷ Fetched (val.Number (pos 2000)) ∷ behind 1 space_behind)))) ≡
      whole [] (Magnifies ∷ Fetches (loc.Integer magnification) ∷ words (Pt ∷ In ∷ []) (More Expanded ∷ Done (pos 2368143) 0 false ∷ []))
  pub doubled :
      steps plain (integer (pos 1) false (a_character 116 (behind 2 (Noted ∷ Fetched (val.Number (pos 500)) ∷ behind 1 space_behind)))) ≡
      whole [] (Magnifies ∷ Fetches (loc.Integer magnification) ∷ words (Pt ∷ In ∷ []) (More Expanded ∷ Done (pos 9472573) 0 false ∷ []))
  pub scaled_points :
      steps plain (integer (pos 7) true (others (46 ∷ 57 ∷ 57 ∷ 57 ∷ 57 ∷ 57 ∷ 57 ∷ 57 ∷ []) (a_character 116 (behind 2 (Noted ∷ Fetched (val.Number (pos 2000)) ∷ behind 8 space_behind))))) ≡
      More Nonblank ∷ Begins Factor true ∷ expanded 9 (units [] (Magnifies ∷ Fetches (loc.Integer magnification) ∷ words all_units (More Expanded ∷ Done (pos 4) 0 false ∷ [])))
  pub scaled_points_dropped :
      steps plain (integer (pos 7) true (others (46 ∷ 57 ∷ 57 ∷ 57 ∷ 57 ∷ 57 ∷ 57 ∷ 57 ∷ []) (a_character 116 (behind 2 (Noted ∷ Fetched (val.Number (pos 1000)) ∷ behind 8 space_behind))))) ≡
      More Nonblank ∷ Begins Factor true ∷ expanded 9 (units [] (Magnifies ∷ Fetches (loc.Integer magnification) ∷ words all_units (More Expanded ∷ Done (pos 7) 0 false ∷ [])))
  pub large :
      steps plain (integer (pos 2000000) false (a_character 116 (behind 2 (Noted ∷ Fetched (val.Number (pos 1)) ∷ behind 1 space_behind)))) ≡
      whole [] (Magnifies ∷ Fetches (loc.Integer magnification) ∷ words (Pt ∷ In ∷ []) (More Expanded ∷ Tells DimensionTooLarge false ∷ []))

-- '10pt, "A pt and `A pt, whose integers are read within; '1.5pt, where the point is no unit, and 5 without one
pub record WorkedConstants : Type 0 where
  pub octal : steps plain (others (39 ∷ []) (Factored (pos 8) false ∷ a_character 112 (behind 3 space_behind))) ≡ whole (Pt ∷ []) (More Expanded ∷ Done (pos 524288) 0 false ∷ [])
  pub hexadecimal : steps plain (others (34 ∷ []) (Factored (pos 10) false ∷ a_character 112 (behind 3 space_behind))) ≡ whole (Pt ∷ []) (More Expanded ∷ Done (pos 655360) 0 false ∷ [])
  pub code : steps plain (others (96 ∷ []) (Factored (pos 65) false ∷ a_character 112 (behind 3 space_behind))) ≡ whole (Pt ∷ []) (More Expanded ∷ Done (pos 4259840) 0 false ∷ [])
  pub octal_point :
      steps plain (others (39 ∷ []) (Factored (pos 1) false ∷ others (46 ∷ []) (none_of 12 (Noted ∷ others (46 ∷ []) [])))) ≡
      whole all_units (Tells (IllegalUnit taken.Pt) false ∷ More Expanded ∷ Done (pos 65536) 0 true ∷ [])
  pub no_unit :
      steps plain (integer (pos 5) false (Tok (primitive 1) ∷ none_of 12 (Noted ∷ Tok (primitive 1) ∷ []))) ≡
      whole all_units (Tells (IllegalUnit taken.Pt) false ∷ More Expanded ∷ Done (pos 327680) 0 true ∷ [])

-- 1fil; 1.5filll; 1fillll and 1filllll, with one and two reports; .5fil, which begins with the token behind the digits; 16384fil; 1pt
pub record WorkedInfinities : Type 0 where
  pub fil :
      steps stretch (integer (pos 1) false (Found true ∷ Found false ∷ space_behind)) ≡
      More Nonblank ∷ Begins Factor true ∷ words (Fil ∷ L ∷ []) (More Expanded ∷ Done (pos 65536) 1 false ∷ [])
  pub filll :
      steps stretch (integer (pos 1) true (others (46 ∷ 53 ∷ []) (a_character 102 (Found true ∷ Found true ∷ Found true ∷ Found false ∷ space_behind)))) ≡
      More Nonblank ∷ Begins Factor true ∷ expanded 3 (Begins (Key Fil) true ∷ words (L ∷ L ∷ L ∷ []) (More Expanded ∷ Done (pos 98304) 3 false ∷ []))
  pub fillll :
      steps stretch (integer (pos 1) false (Found true ∷ Found true ∷ Found true ∷ Found true ∷ Noted ∷ Found false ∷ space_behind)) ≡
      More Nonblank ∷ Begins Factor true ∷ words (Fil ∷ L ∷ L ∷ L ∷ []) (Tells (IllegalUnit taken.Filll) false ∷ words (L ∷ []) (More Expanded ∷ Done (pos 65536) 3 false ∷ []))
  pub filllll :
      steps stretch (integer (pos 1) false (Found true ∷ Found true ∷ Found true ∷ Found true ∷ Noted ∷ Found true ∷ Noted ∷ Found false ∷ space_behind)) ≡
      More Nonblank ∷ Begins Factor true ∷
      words (Fil ∷ L ∷ L ∷ L ∷ []) (Tells (IllegalUnit taken.Filll) false ∷ words (L ∷ []) (Tells (IllegalUnit taken.Filll) false ∷ words (L ∷ []) (More Expanded ∷ Done (pos 65536) 3 false ∷ [])))
  pub large :
      steps stretch (integer (pos 16384) false (Found true ∷ Found false ∷ Tok a_space ∷ Noted ∷ [])) ≡
      More Nonblank ∷ Begins Factor true ∷ words (Fil ∷ L ∷ []) (More Expanded ∷ Tells DimensionTooLarge false ∷ Done (pos 1073741823) 1 false ∷ [])
  pub finite :
      steps stretch (integer (pos 1) false (Found false ∷ a_character 112 (behind 3 space_behind))) ≡
      More Nonblank ∷ Begins Factor true ∷ words (Fil ∷ []) (More Nonblank ∷ units (Pt ∷ []) (More Expanded ∷ Done (pos 65536) 0 false ∷ []))

-- `\hsize` and `-\dimen 1`; `\skip 1`, by its width; `\parskip`; `\dimen 300`, with its report; `\count 1` and `\catcode 65`, the factors of pt; a name of
-- `\mathchardef`; a negative factor; `\toks` and a name of a register, given back
pub record WorkedInternal : Type 0 where
  pub parameter : steps plain (Tok (primitive 143) ∷ Fetched (val.Number (pos 196608)) ∷ []) ≡ More Nonblank ∷ Fetches (loc.Dimension 3) ∷ Done (pos 196608) 0 false ∷ []
  pub dimen :
      steps plain (others (45 ∷ []) (Tok (primitive 42) ∷ Numbered (pos 1) ∷ Fetched (val.Number (pos 196608)) ∷ [])) ≡
      More Nonblank ∷ More Nonblank ∷ Begins Number false ∷ Fetches (loc.Register register.Dimen 1) ∷ Done (negsuc 196607) 0 false ∷ []
  pub skip :
      steps plain (Tok (primitive 43) ∷ Numbered (pos 1) ∷ Fetched (val.Skip (a_glue (pos 262144))) ∷ []) ≡
      More Nonblank ∷ Begins Number false ∷ Fetches (loc.Register register.Skip 1) ∷ Done (pos 262144) 0 false ∷ []
  pub bad_number :
      steps plain (Tok (primitive 42) ∷ Numbered (pos 300) ∷ Noted ∷ Fetched (val.Number (pos 196608)) ∷ []) ≡
      More Nonblank ∷ Begins Number false ∷ Tells (BadRegisterCode (pos 300)) false ∷ Fetches (loc.Register register.Dimen 0) ∷ Done (pos 196608) 0 false ∷ []
  pub count :
      steps plain (Tok (primitive 41) ∷ Numbered (pos 1) ∷ Fetched (val.Number (pos 7)) ∷ a_character 112 (behind 3 space_behind)) ≡
      More Nonblank ∷ Begins Number false ∷ Fetches (loc.Register register.Count 1) ∷ More Nonblank ∷ units (Pt ∷ []) (More Expanded ∷ Done (pos 458752) 0 false ∷ [])
  pub category :
      steps plain (Tok (primitive 35) ∷ Numbered (pos 65) ∷ Fetched (val.Number (pos 11)) ∷ a_character 112 (behind 3 space_behind)) ≡
      More Nonblank ∷ Begins Number false ∷ Fetches (loc.Code code.Category 65) ∷ More Nonblank ∷ units (Pt ∷ []) (More Expanded ∷ Done (pos 720896) 0 false ∷ [])
  pub given :
      steps plain (Tok (record { token = token.Named x_name; meaning = means.MathGiven 5 }) ∷ a_character 112 (behind 3 space_behind)) ≡
      More Nonblank ∷ More Nonblank ∷ units (Pt ∷ []) (More Expanded ∷ Done (pos 327680) 0 false ∷ [])
  pub negative :
      steps plain (others (45 ∷ []) (Tok (primitive 139) ∷ Fetched (val.Number (negsuc 1)) ∷ a_character 112 (behind 3 space_behind))) ≡
      More Nonblank ∷ More Nonblank ∷ Fetches (loc.Integer 54) ∷ More Nonblank ∷ units (Pt ∷ []) (More Expanded ∷ Done (pos 131072) 0 false ∷ [])
  pub list : steps plain (Tok (primitive 45) ∷ Noted ∷ []) ≡ More Nonblank ∷ Tells MissingNumber true ∷ Done (pos 0) 0 false ∷ []
  pub list_named : steps plain (Tok list_name ∷ Noted ∷ []) ≡ More Nonblank ∷ Tells MissingNumber true ∷ Done (pos 0) 0 false ∷ []

-- 2\hsize; 2.5\hsize below 0, whose fraction's part is cut towards zero; 1\count 1, in sp; 30000 and -30000 times a dimension below 0, too large, with the
-- sign of the signs alone; 2\toks
pub record WorkedInternalUnits : Type 0 where
  pub twice :
      steps plain (integer (pos 2) false (Tok (primitive 143) ∷ Fetched (val.Number (pos 196608)) ∷ [])) ≡
      More Nonblank ∷ Begins Factor true ∷ More Nonblank ∷ Fetches (loc.Dimension 3) ∷ Done (pos 393216) 0 false ∷ []
  pub fraction :
      steps plain (integer (pos 2) true (others (46 ∷ 53 ∷ []) (Tok (primitive 143) ∷ Fetched (val.Number (negsuc 100000)) ∷ []))) ≡
      More Nonblank ∷ Begins Factor true ∷ expanded 3 (Fetches (loc.Dimension 3) ∷ Done (negsuc 250001) 0 false ∷ [])
  pub integer_unit :
      steps plain (integer (pos 1) false (Tok (primitive 41) ∷ Numbered (pos 1) ∷ Fetched (val.Number (pos 7)) ∷ [])) ≡
      More Nonblank ∷ Begins Factor true ∷ More Nonblank ∷ Begins Number false ∷ Fetches (loc.Register register.Count 1) ∷ Done (pos 7) 0 false ∷ []
  pub large :
      steps plain (integer (pos 30000) false (Tok (primitive 143) ∷ Fetched (val.Number (negsuc 100000)) ∷ Noted ∷ [])) ≡
      More Nonblank ∷ Begins Factor true ∷ More Nonblank ∷ Fetches (loc.Dimension 3) ∷ Tells DimensionTooLarge false ∷ Done (pos 1073741823) 0 false ∷ []
  pub large_negative :
      steps plain (others (45 ∷ []) (integer (pos 30000) false (Tok (primitive 143) ∷ Fetched (val.Number (negsuc 100000)) ∷ Noted ∷ []))) ≡
      More Nonblank ∷ More Nonblank ∷ Begins Factor true ∷ More Nonblank ∷ Fetches (loc.Dimension 3) ∷ Tells DimensionTooLarge false ∷ Done (negsuc 1073741822) 0 false ∷ []
  pub list :
      steps plain (integer (pos 2) false (Tok (primitive 45) ∷ Noted ∷ [])) ≡ More Nonblank ∷ Begins Factor true ∷ More Nonblank ∷ Tells MissingNumber true ∷ Done (pos 0) 0 false ∷ []

-- `\muskip 1` where pt is read, and as a unit; in mu: 1mu, 1pt, `\muskip 1`, `\dimen 1`, twice `\dimen 1`, twice `\count 1`, and a list, which is reported twice
pub record WorkedMu : Type 0 where
  pub incompatible :
      steps plain (Tok (primitive 44) ∷ Numbered (pos 1) ∷ Fetched (val.Skip (a_glue (pos 393216))) ∷ Noted ∷ []) ≡
      More Nonblank ∷ Begins Number false ∷ Fetches (loc.Register register.Muskip 1) ∷ Tells IncompatibleUnits false ∷ Done (pos 393216) 0 false ∷ []
  pub incompatible_unit :
      steps plain (integer (pos 2) false (Tok (primitive 44) ∷ Numbered (pos 1) ∷ Fetched (val.Skip (a_glue (pos 393216))) ∷ Noted ∷ [])) ≡
      More Nonblank ∷ Begins Factor true ∷ More Nonblank ∷ Begins Number false ∷ Fetches (loc.Register register.Muskip 1) ∷ Tells IncompatibleUnits false ∷ Done (pos 786432) 0 false ∷ []
  pub mu :
      steps in_mu (integer (pos 1) false (a_character 109 (Found true ∷ space_behind))) ≡
      More Nonblank ∷ Begins Factor true ∷ More Nonblank ∷ Begins (Key Mu) true ∷ More Expanded ∷ Done (pos 65536) 0 false ∷ []
  pub no_mu :
      steps in_mu (integer (pos 1) false (a_character 112 (Found false ∷ Noted ∷ a_character 112 []))) ≡
      More Nonblank ∷ Begins Factor true ∷ More Nonblank ∷ Begins (Key Mu) true ∷ Tells (IllegalUnit taken.Mu) false ∷ More Expanded ∷ Done (pos 65536) 0 true ∷ []
  pub glue :
      steps in_mu (Tok (primitive 44) ∷ Numbered (pos 1) ∷ Fetched (val.Skip (a_glue (pos 393216))) ∷ []) ≡
      More Nonblank ∷ Begins Number false ∷ Fetches (loc.Register register.Muskip 1) ∷ Done (pos 393216) 0 false ∷ []
  pub dimen :
      steps in_mu (Tok (primitive 42) ∷ Numbered (pos 1) ∷ Fetched (val.Number (pos 196608)) ∷ Noted ∷ []) ≡
      More Nonblank ∷ Begins Number false ∷ Fetches (loc.Register register.Dimen 1) ∷ Tells IncompatibleUnits false ∷ Done (pos 196608) 0 false ∷ []
  pub dimen_unit :
      steps mu_stretch (integer (pos 2) false (Found false ∷ Tok (primitive 42) ∷ Numbered (pos 1) ∷ Fetched (val.Number (pos 196608)) ∷ Noted ∷ [])) ≡
      More Nonblank ∷ Begins Factor true ∷ words (Fil ∷ []) (More Nonblank ∷ Begins Number false ∷ Fetches (loc.Register register.Dimen 1) ∷ Tells IncompatibleUnits false ∷ Done (pos 393216) 0 false ∷ [])
  pub integer_unit :
      steps in_mu (integer (pos 2) false (Tok (primitive 41) ∷ Numbered (pos 1) ∷ Fetched (val.Number (pos 7)) ∷ Noted ∷ [])) ≡
      More Nonblank ∷ Begins Factor true ∷ More Nonblank ∷ Begins Number false ∷ Fetches (loc.Register register.Count 1) ∷ Tells IncompatibleUnits false ∷ Done (pos 14) 0 false ∷ []
  pub list : steps in_mu (Tok (primitive 45) ∷ Noted ∷ Noted ∷ []) ≡ More Nonblank ∷ Tells MissingNumber true ∷ Tells IncompatibleUnits false ∷ Done (pos 0) 0 false ∷ []

pub record WorkedDimensions : Type 0 where
  pub units_worked : WorkedUnits
  pub conversions : WorkedConversions
  pub fractions : WorkedFractions
  pub large : WorkedLarge
  pub magnification : WorkedMagnification
  pub constants : WorkedConstants
  pub infinities : WorkedInfinities
  pub internal : WorkedInternal
  pub internal_units : WorkedInternalUnits
  pub mu : WorkedMu
