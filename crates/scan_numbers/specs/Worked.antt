-- Constants worked out: what `integer` asks for behind all of these tokens, the last of which comes behind the constant or ends it.
use Rattle.std.specs.Prelude.{pos, negsuc, ◌≡◌, true, false, List, [], ◌∷◌}
use Rattle.tex_defs.specs.declared.Name.TheVariants.{Active}
use Rattle.tex_defs.specs.declared.Token.TheVariants as token
use Rattle.tex_defs.specs.declared.Meaning.TheVariants as means
use Rattle.tex_defs.specs.declared.Seen.{Seen}
use Rattle.tex_syntax.specs.declared.words.Report.TheVariants.{ImproperConstant, MissingNumber, NumberTooBig}
use Rattle.plain_tokens.specs.Categories.{letter, other}
use Rattle.rows.specs.Worked.{character, primitive, x, a_letter, a_space}
use Rattle.rows.specs.Readings.{Fed, Tok, Noted}
use Rattle.plain_readings.specs.declared.asks.NumberAsk.TheVariants.{Tells}
use Rattle.plain_readings.specs.Integers.{integer, ends_with}
use Rattle.plain_readings.specs.Worked.{others}

abbrev pub ended_by : Seen → List Fed
ended_by s = Tok s ∷ []

-- '377 and a space; -'17 and 8; '17777777777, the greatest; '20000000000, reported at its last digit
pub record WorkedOctals : Type 0 where
  pub read : integer false (others (39 ∷ 51 ∷ 55 ∷ 55 ∷ []) (ended_by a_space)) ≡ ends_with (pos 255) false
  pub eight : integer false (others (45 ∷ 39 ∷ 49 ∷ 55 ∷ []) (ended_by (character other 56))) ≡ ends_with (negsuc 14) true
  pub greatest : integer false (others (39 ∷ 49 ∷ 55 ∷ 55 ∷ 55 ∷ 55 ∷ 55 ∷ 55 ∷ 55 ∷ 55 ∷ 55 ∷ 55 ∷ []) (ended_by a_space)) ≡ ends_with (pos 2147483647) false
  pub too_big : integer false (others (39 ∷ 50 ∷ 48 ∷ 48 ∷ 48 ∷ 48 ∷ 48 ∷ 48 ∷ 48 ∷ 48 ∷ 48 ∷ 48 ∷ []) []) ≡ Tells NumberTooBig false
  pub none : integer false (others (39 ∷ []) (ended_by (character other 56))) ≡ Tells MissingNumber true

-- "F0 and a space; "1F and a letter, where F has category 11; a small f ends it; -"7FFFFFFF, the least; "80000000, reported at its last
-- digit, and behind the report once more a digit, which is dropped
pub record WorkedHexadecimals : Type 0 where
  pub read : integer false (others (34 ∷ 70 ∷ 48 ∷ []) (ended_by a_space)) ≡ ends_with (pos 240) false
  pub letters : integer false (others (34 ∷ 49 ∷ []) (Tok (character letter 70) ∷ ended_by a_letter)) ≡ ends_with (pos 31) true
  pub small : integer false (others (34 ∷ 49 ∷ []) (ended_by (character letter 102))) ≡ ends_with (pos 1) true
  pub least : integer false (others (45 ∷ 34 ∷ 55 ∷ 70 ∷ 70 ∷ 70 ∷ 70 ∷ 70 ∷ 70 ∷ 70 ∷ []) (ended_by a_space)) ≡ ends_with (negsuc 2147483646) false
  pub too_big : integer true (others (34 ∷ 56 ∷ 48 ∷ 48 ∷ 48 ∷ 48 ∷ 48 ∷ 48 ∷ 48 ∷ []) []) ≡ Tells NumberTooBig false
  pub dropped :
      integer true (others (34 ∷ 56 ∷ 48 ∷ 48 ∷ 48 ∷ 48 ∷ 48 ∷ 48 ∷ 48 ∷ []) (Noted ∷ Tok (character other 65) ∷ ended_by a_space)) ≡
      ends_with (negsuc 2147483646) false

-- behind a backquote: a letter and a space; a digit, with a sign; a name of one character, and an active one; a name of two characters
-- or more, given back, and behind its report
pub record WorkedCodes : Type 0 where
  pub letter : integer false (others (96 ∷ []) (Tok a_letter ∷ ended_by a_space)) ≡ ends_with (pos 97) false
  pub digit : integer false (others (45 ∷ 96 ∷ 49 ∷ []) (ended_by (character other 50))) ≡ ends_with (negsuc 48) true
  pub name : integer false (others (96 ∷ []) (Tok x ∷ ended_by a_letter)) ≡ ends_with (pos 120) true
  pub active :
      integer false (others (96 ∷ []) (Tok (record { token = token.Named (Active 126); meaning = means.Undefined }) ∷ ended_by a_space)) ≡ ends_with (pos 126) false
  pub word : integer true (others (96 ∷ []) (ended_by (primitive 1))) ≡ Tells ImproperConstant true
  pub improper : integer true (others (96 ∷ []) (Tok (primitive 1) ∷ Noted ∷ [])) ≡ ends_with (negsuc 47) false

pub record WorkedConstants : Type 0 where
  pub octals : WorkedOctals
  pub hexadecimals : WorkedHexadecimals
  pub codes : WorkedCodes
