-- Worked rows: what some calls come to, most of which a `\par` ends, and what goes into the list in work.
use Rattle.std.specs.Prelude.{◌≡◌, ℕ, true, false, List, [], ◌∷◌, ◌++◌, None, Some, replicate}
use Rattle.tex_defs.specs.declared.Token.{Token}
use Rattle.tex_defs.specs.declared.Token.TheVariants.{Char, Named, Place, EndPlaces}
use Rattle.tex_defs.specs.declared.Name.TheVariants.{Word}
use Rattle.plain_tokens.specs.Names.{par_primitive}
use Rattle.macro_call.specs.Growths.{growth_of}
use Rattle.plain_tokens.specs.declared.par_mode.ParMode.TheVariants.{Long, Short}
use Rattle.plain_tokens.specs.Arguments.{Fed, Tok, Cut, Noted, More, ExtraBraceFound, Called, Ended, gathering}

abbrev pub letter : ℕ → Token
letter code = Char 11 code

abbrev pub left : Token
left = Char 1 123

abbrev pub right : Token
right = Char 2 125

abbrev pub par : Token
par = Named (Word par_primitive)

-- the lists of \def\a#1ab{}, \def\a#1{} and \def\a b#1#2{}
abbrev pub up_to_ab : List Token
up_to_ab = Place 35 ∷ letter 97 ∷ letter 98 ∷ EndPlaces ∷ []

abbrev pub one_place : List Token
one_place = Place 35 ∷ EndPlaces ∷ []

abbrev pub two_places : List Token
two_places = letter 98 ∷ Place 35 ∷ Place 35 ∷ EndPlaces ∷ []

-- a list with ten places
abbrev pub ten_places : List Token
ten_places = replicate 10 (Place 35) ++ EndPlaces ∷ []

pub record WorkedCalls : Type 0 where
  -- in front of the first place there is no list yet
  pub in_front : gathering two_places Short [] ≡ More [] None
  pub first : gathering two_places Short (Tok (letter 98) ∷ []) ≡ More [] (Some [])
  -- bx{y: the first argument is whole, and the second's list is begun
  pub second : gathering two_places Short (Tok (letter 98) ∷ Tok (letter 120) ∷ Tok left ∷ Tok (letter 121) ∷ []) ≡ More ((letter 120 ∷ []) ∷ []) (Some (left ∷ letter 121 ∷ []))
  -- xa: the `a` is a partial match, and isn't in the list yet
  pub matching : gathering up_to_ab Short (Tok (letter 120) ∷ Tok (letter 97) ∷ []) ≡ More [] (Some (letter 120 ∷ []))
  -- xa\par: it has entered the list, and the `\par` hasn't
  pub broken_match : gathering up_to_ab Short (Tok (letter 120) ∷ Tok (letter 97) ∷ Tok par ∷ []) ≡ Ended false [] (letter 120 ∷ letter 97 ∷ [])
  -- {x\par
  pub open_group : gathering one_place Short (Tok left ∷ Tok (letter 120) ∷ Tok par ∷ []) ≡ Ended false [] (left ∷ letter 120 ∷ [])
  -- \par alone
  pub alone : gathering one_place Short (Tok par ∷ []) ≡ Ended false [] []
  -- xa}: the brace isn't in the list, and the `\par` that is put behind it ends a \long macro's call too
  pub braced : gathering up_to_ab Long (Tok (letter 120) ∷ Tok (letter 97) ∷ Tok right ∷ []) ≡ ExtraBraceFound [] (letter 120 ∷ letter 97 ∷ [])
  pub behind_brace : gathering up_to_ab Long (Tok (letter 120) ∷ Tok (letter 97) ∷ Tok right ∷ Noted ∷ Tok par ∷ []) ≡ Ended false [] (letter 120 ∷ letter 97 ∷ [])
  -- behind the ninth argument no further place is looked for
  pub tenth : gathering ten_places Short (replicate 9 (Tok (letter 120))) ≡ Called (replicate 9 (letter 120 ∷ []))
  -- behind a check the same without a report
  pub checked : gathering one_place Long (Tok left ∷ Tok (letter 120) ∷ Cut ∷ Tok par ∷ []) ≡ Ended true [] (left ∷ letter 120 ∷ [])

-- what goes into the list in work by a token, behind the tokens before
abbrev pub grown : (text : List Token) → (fed : List Fed) → Token → List Token
grown text fed x = growth_of (gathering text Short fed) (gathering text Short (fed ++ Tok x ∷ []))

abbrev pub x_a : List Fed
x_a = Tok (letter 120) ∷ Tok (letter 97) ∷ []

pub record WorkedGrowths : Type 0 where
  -- behind xa the letters c, a, b and a `\par`
  pub broken : grown up_to_ab x_a (letter 99) ≡ letter 97 ∷ letter 99 ∷ []
  pub again : grown up_to_ab x_a (letter 97) ≡ letter 97 ∷ []
  pub whole : grown up_to_ab x_a (letter 98) ≡ []
  pub ended : grown up_to_ab x_a par ≡ letter 97 ∷ []
  -- without a delimiter, at once a letter, or behind {x the brace
  pub single : grown one_place [] (letter 120) ≡ letter 120 ∷ []
  pub group : grown one_place (Tok left ∷ Tok (letter 120) ∷ []) right ≡ []
  -- in front of the first place
  pub in_front : grown two_places [] (letter 98) ≡ []
