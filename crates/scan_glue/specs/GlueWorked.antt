-- Glue worked out: what glue asks for, item by item, as it is fed; and sums, products and quotients. The TeXbook, chapters 12, 18 and 24.
use Rattle.std.specs.Prelude.{ℕ, ℤ, pos, negsuc, ◌≡◌, Bool, true, false, List, [], ◌∷◌, Some, None}
use Rattle.tex_defs.specs.declared.Meaning.TheVariants as means
use Rattle.tex_defs.specs.declared.RegisterKind.TheVariants as register
use Rattle.tex_defs.specs.declared.Seen.{Seen}
use Rattle.tex_defs.specs.declared.Token.TheVariants as token
use Rattle.tex_syntax.specs.declared.words.Want.TheVariants.{Nonblank}
use Rattle.tex_syntax.specs.declared.words.Report.TheVariants.{IncompatibleUnits, BadRegisterCode}
use Rattle.plain_tokens.specs.Categories.{other}
use Rattle.equivalents.specs.declared.values.Glue.{Glue}
use Rattle.equivalents.specs.declared.values.Loc.TheVariants as loc
use Rattle.equivalents.specs.declared.values.Val.TheVariants as val
use Rattle.rows.specs.declared.words.Keyword.TheVariants.{Plus, Minus}
use Rattle.rows.specs.Worked.{character, primitive, x_name}
use Rattle.plain_readings.specs.Glues.{Fed, Tok, Measured, Numbered, Found, Noted, Fetched, finite, infinite, glue}
use Rattle.plain_readings.specs.declared.asks.GlueAsk.{GlueAsk}
use Rattle.plain_readings.specs.declared.asks.GlueAsk.TheVariants.{More, Begins, Fetches, Tells, Done}
use Rattle.plain_readings.specs.declared.asks.GlueInner.TheVariants.{Dimension, Number, Key}
use Rattle.rows.specs.Arithmetic.{sum, product, quotient}

-- WHAT IS ASKED FOR before each item and behind the last

abbrev pub asked : (List Fed → GlueAsk) → List Fed → List GlueAsk
asked now [] = now [] ∷ []
asked now (item ∷ fed) = now [] ∷ asked (λ more. now (item ∷ more)) fed

abbrev pub steps : (mu : Bool) → List Fed → List GlueAsk
steps mu fed = asked (glue mu false) fed

-- the token behind the signs, and the width that begins with it
abbrev pub width_asked : (mu : Bool) → List GlueAsk → List GlueAsk
width_asked mu asks = More Nonblank ∷ Begins (Dimension (finite mu)) true ∷ asks

abbrev pub plus_asked : List GlueAsk → List GlueAsk
plus_asked asks = Begins (Key Plus) false ∷ asks

abbrev pub minus_asked : List GlueAsk → List GlueAsk
minus_asked asks = Begins (Key Minus) false ∷ asks

abbrev pub part_asked : (mu : Bool) → List GlueAsk → List GlueAsk
part_asked mu asks = Begins (Dimension (infinite mu)) false ∷ asks

-- WHAT COMES

-- signs, `+` and `-`
abbrev pub signs : List ℕ → List Fed → List Fed
signs [] fed = fed
signs (c ∷ cs) fed = Tok (character other c) ∷ signs cs fed

-- the first digit of the width, which is read within, in sp
abbrev pub a_width : ℤ → List Fed → List Fed
a_width n fed = Tok (character other 49) ∷ Measured n 0 ∷ fed

-- the keyword and a dimension
abbrev pub a_part : ℤ → (order : ℕ) → List Fed → List Fed
a_part n order fed = Found true ∷ Measured n order ∷ fed

abbrev pub no_part : List Fed → List Fed
no_part fed = Found false ∷ fed

-- a name of a register
abbrev pub skip_name : Seen
skip_name = record { token = token.Named x_name; meaning = means.Register register.Skip 1 }

abbrev pub muskip_name : Seen
muskip_name = record { token = token.Named x_name; meaning = means.Register register.Muskip 1 }

abbrev pub made : (width stretch : ℤ) → (order : ℕ) → (shrink : ℤ) → (shrink_order : ℕ) → Glue
made w s o t p = record { width = w; stretch = s; stretch_order = o; shrink = t; shrink_order = p }

-- 1pt plus 2fil minus 3fill, and with each part negated
abbrev pub stood : Glue
stood = made (pos 65536) (pos 131072) 1 (pos 196608) 2

abbrev pub stood_negated : Glue
stood_negated = made (negsuc 65535) (negsuc 131071) 1 (negsuc 196607) 2

-- 1pt; 1pt plus 2pt minus 3pt; 1pt minus 3filll; -1pt plus -2fil minus -3fill; - - +-1pt plus 2pt; 0pt plus 0fil, whose order stays
pub record WorkedScans : Type 0 where
  pub width : steps false (a_width (pos 65536) (no_part (no_part []))) ≡ width_asked false (plus_asked (minus_asked (Done (made (pos 65536) (pos 0) 0 (pos 0) 0) ∷ [])))
  pub parts :
      steps false (a_width (pos 65536) (a_part (pos 131072) 0 (a_part (pos 196608) 0 []))) ≡
      width_asked false (plus_asked (part_asked false (minus_asked (part_asked false (Done (made (pos 65536) (pos 131072) 0 (pos 196608) 0) ∷ [])))))
  pub shrink :
      steps false (a_width (pos 65536) (no_part (a_part (pos 196608) 3 []))) ≡
      width_asked false (plus_asked (minus_asked (part_asked false (Done (made (pos 65536) (pos 0) 0 (pos 196608) 3) ∷ []))))
  pub negative :
      steps false (signs (45 ∷ []) (a_width (pos 65536) (a_part (negsuc 131071) 1 (a_part (negsuc 196607) 2 [])))) ≡
      More Nonblank ∷ width_asked false (plus_asked (part_asked false (minus_asked (part_asked false (Done stood_negated ∷ [])))))
  pub signs_kept :
      steps false (signs (45 ∷ 45 ∷ 43 ∷ 45 ∷ []) (a_width (pos 65536) (a_part (pos 131072) 0 (no_part [])))) ≡
      More Nonblank ∷ More Nonblank ∷ More Nonblank ∷ More Nonblank ∷
      width_asked false (plus_asked (part_asked false (minus_asked (Done (made (negsuc 65535) (pos 131072) 0 (pos 0) 0) ∷ []))))
  pub order_kept :
      steps false (a_width (pos 0) (a_part (pos 0) 1 (no_part []))) ≡
      width_asked false (plus_asked (part_asked false (minus_asked (Done (made (pos 0) (pos 0) 1 (pos 0) 0) ∷ []))))

-- a name of `\skip 1` and -\skip 1, all of it; `\parskip`; `\skip 300`, with its report
pub record WorkedInternal : Type 0 where
  pub named : steps false (Tok skip_name ∷ Fetched (val.Skip stood) ∷ []) ≡ More Nonblank ∷ Fetches (loc.Register register.Skip 1) ∷ Done stood ∷ []
  pub negative :
      steps false (signs (45 ∷ []) (Tok (primitive 43) ∷ Numbered (pos 1) ∷ Fetched (val.Skip stood) ∷ [])) ≡
      More Nonblank ∷ More Nonblank ∷ Begins Number false ∷ Fetches (loc.Register register.Skip 1) ∷ Done stood_negated ∷ []
  pub parameter : steps false (Tok (primitive 163) ∷ Fetched (val.Skip stood) ∷ []) ≡ More Nonblank ∷ Fetches (loc.Glue 2) ∷ Done stood ∷ []
  pub bad_number :
      steps false (Tok (primitive 43) ∷ Numbered (pos 300) ∷ Noted ∷ Fetched (val.Skip stood) ∷ []) ≡
      More Nonblank ∷ Begins Number false ∷ Tells (BadRegisterCode (pos 300)) ∷ Fetches (loc.Register register.Skip 0) ∷ Done stood ∷ []

-- `\dimen`, `\count`, `\hsize` and `\toks` begin the width, as -\dimen 1
pub record WorkedWidths : Type 0 where
  pub dimen :
      steps false (signs (45 ∷ []) (Tok (primitive 42) ∷ Measured (pos 196608) 0 ∷ no_part (no_part []))) ≡
      More Nonblank ∷ width_asked false (plus_asked (minus_asked (Done (made (negsuc 196607) (pos 0) 0 (pos 0) 0) ∷ [])))
  pub count : steps false (Tok (primitive 41) ∷ []) ≡ width_asked false []
  pub parameter : steps false (Tok (primitive 143) ∷ []) ≡ width_asked false []
  pub list : steps false (Tok (primitive 45) ∷ []) ≡ width_asked false []

-- In mu glue: 1mu plus 1fil minus 2mu; `\muskip 1` and `\thinmuskip`; -\skip 1, reported. Elsewhere `\muskip 1`, by a name, reported.
pub record WorkedMu : Type 0 where
  pub parts :
      steps true (a_width (pos 65536) (a_part (pos 65536) 1 (a_part (pos 131072) 0 []))) ≡
      width_asked true (plus_asked (part_asked true (minus_asked (part_asked true (Done (made (pos 65536) (pos 65536) 1 (pos 131072) 0) ∷ [])))))
  pub muskip :
      steps true (Tok (primitive 44) ∷ Numbered (pos 1) ∷ Fetched (val.Skip stood) ∷ []) ≡
      More Nonblank ∷ Begins Number false ∷ Fetches (loc.Register register.Muskip 1) ∷ Done stood ∷ []
  pub parameter : steps true (Tok (primitive 176) ∷ Fetched (val.Skip stood) ∷ []) ≡ More Nonblank ∷ Fetches (loc.Glue 15) ∷ Done stood ∷ []
  pub skip :
      steps true (signs (45 ∷ []) (Tok (primitive 43) ∷ Numbered (pos 1) ∷ Fetched (val.Skip stood) ∷ Noted ∷ [])) ≡
      More Nonblank ∷ More Nonblank ∷ Begins Number false ∷ Fetches (loc.Register register.Skip 1) ∷ Tells IncompatibleUnits ∷ Done stood_negated ∷ []
  pub incompatible :
      steps false (Tok muskip_name ∷ Fetched (val.Skip stood) ∷ Noted ∷ []) ≡
      More Nonblank ∷ Fetches (loc.Register register.Muskip 1) ∷ Tells IncompatibleUnits ∷ Done stood ∷ []

pub record WorkedGlue : Type 0 where
  pub scans : WorkedScans
  pub internal : WorkedInternal
  pub widths : WorkedWidths
  pub mu : WorkedMu

-- 1pt plus 1pt minus 1fil and 2pt plus 3pt minus 2fil; of other orders; 1filll and -1filll, whose order stays; orders of parts of 0, on both sides;
-- 16383pt plus 16383fil twice, which is no dimension, and four times
pub record WorkedAdditions : Type 0 where
  pub equal : sum (made (pos 65536) (pos 65536) 0 (pos 65536) 1) (made (pos 131072) (pos 196608) 0 (pos 131072) 1) ≡ Some (made (pos 196608) (pos 262144) 0 (pos 196608) 1)
  pub higher : sum (made (pos 65536) (pos 65536) 0 (pos 65536) 1) (made (pos 131072) (pos 196608) 1 (pos 131072) 0) ≡ Some (made (pos 196608) (pos 196608) 1 (pos 65536) 1)
  pub cancelled : sum (made (pos 65536) (pos 65536) 3 (pos 0) 0) (made (negsuc 65535) (negsuc 65535) 3 (pos 0) 0) ≡ Some (made (pos 0) (pos 0) 3 (pos 0) 0)
  pub zero_first : sum (made (pos 65536) (pos 0) 1 (pos 196608) 0) (made (pos 65536) (pos 131072) 0 (pos 0) 3) ≡ Some (made (pos 131072) (pos 131072) 0 (pos 196608) 0)
  pub zero_second : sum (made (pos 65536) (pos 131072) 1 (pos 0) 2) (made (pos 65536) (pos 0) 3 (pos 0) 2) ≡ Some (made (pos 131072) (pos 131072) 1 (pos 0) 0)
  pub large : sum (made (pos 1073676288) (pos 1073676288) 1 (pos 0) 0) (made (pos 1073676288) (pos 1073676288) 1 (pos 0) 0) ≡ Some (made (pos 2147352576) (pos 2147352576) 1 (pos 0) 0)
  pub too_large : sum (made (pos 2147352576) (pos 0) 0 (pos 0) 0) (made (pos 1073676288) (pos 0) 0 (pos 0) 0) ≡ None

-- -1pt plus 2fil minus 3fill times -3; 1073741823sp times -1; 536870911sp and 536870912sp times 2; -5sp plus 7fil minus -3sp by 2, whose parts are cut
-- towards zero; 32766pt plus 32766fil times 1 and by 1; by 0
pub record WorkedMultiples : Type 0 where
  pub thrice : product (made (negsuc 65535) (pos 131072) 1 (pos 196608) 2) (negsuc 2) ≡ Some (made (pos 196608) (negsuc 393215) 1 (negsuc 589823) 2)
  pub greatest : product (made (pos 1073741823) (pos 0) 0 (pos 0) 0) (negsuc 0) ≡ Some (made (negsuc 1073741822) (pos 0) 0 (pos 0) 0)
  pub twice : product (made (pos 536870911) (pos 536870911) 0 (pos 0) 0) (pos 2) ≡ Some (made (pos 1073741822) (pos 1073741822) 0 (pos 0) 0)
  pub too_large : product (made (pos 536870912) (pos 0) 0 (pos 0) 0) (pos 2) ≡ None
  pub large : product (made (pos 2147352576) (pos 2147352576) 1 (pos 0) 0) (pos 1) ≡ None
  pub halved : quotient (made (negsuc 4) (pos 458752) 1 (negsuc 2) 0) (pos 2) ≡ Some (made (negsuc 1) (pos 229376) 1 (negsuc 0) 0)
  pub large_quotient : quotient (made (pos 2147352576) (pos 2147352576) 1 (pos 0) 0) (pos 1) ≡ Some (made (pos 2147352576) (pos 2147352576) 1 (pos 0) 0)
  pub by_zero : quotient stood (pos 0) ≡ None

pub record WorkedSums : Type 0 where
  pub additions : WorkedAdditions
  pub multiples : WorkedMultiples
