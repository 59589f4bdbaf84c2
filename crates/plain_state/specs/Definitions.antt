-- The list of a definition and that of a balanced text, as functions of all that was read.
-- The TeXbook, chapter 20; TeX: The Program, part 27.
use Rattle.std.specs.Prelude.{ℕ, ◌+◌, ◌-◌, ◌==◌, Bool, true, false, ◌&&◌, nat_le, if◌then◌else◌, List, [], ◌∷◌, ◌++◌, Option, Some, None, is_some}
use Rattle.tex_syntax.specs.declared.words.Want.{Want}
use Rattle.tex_syntax.specs.declared.words.Want.TheVariants.{Raw, Expanded, Copied, Command}
use Rattle.tex_syntax.specs.declared.words.Report.{Report}
use Rattle.tex_syntax.specs.declared.words.Manner.{Manner}
use Rattle.tex_syntax.specs.declared.words.Report.TheVariants.{NotConsecutive, AlreadyNine, IllegalNumber, MissingBrace}
use Rattle.tex_defs.specs.declared.Token.{Token}
use Rattle.tex_defs.specs.declared.Token.TheVariants.{Char, Place, Number, EndPlaces}
use Rattle.tex_defs.specs.declared.Meaning.{Meaning}
use Rattle.tex_defs.specs.declared.Meaning.TheVariants as means
use Rattle.tex_defs.specs.declared.Seen.{Seen}
use Rattle.plain_tokens.specs.Categories.{begin_group, end_group, parameter, other, is_between}
use Rattle.plain_state.specs.declared.body.Body.{Body}
use Rattle.plain_tokens.specs.Tokens.{has_category, is_other, means_category}

-- What a scanner is fed with: a token and what it means, a note that its report was written, or the tokens of a token
-- list behind \the.
pub data Fed : Type 0 where
  Tok : Seen → Fed
  Noted : Fed
  Given : List Token → Fed

-- What it answers, each time with the list in work: that it wants a token; a report, before which the last token may be
-- put back; that the list is complete.
pub data Answer : Type 0 where
  More : Want → List Token → Answer
  Tells : Report → (give_back : Bool) → List Token → Answer
  Done : List Token → Answer

-- TOKENS. The braces are explicit; a parameter character may be a name that means one.

abbrev pub is_parameter : Seen → Bool
is_parameter x = means_category parameter x.meaning

-- the code of the character that is meant
abbrev pub character_of : Meaning Unit → ℕ
character_of (means.Char category code) = code
character_of m = 0

-- the explicit digit n
abbrev pub is_digit : ℕ → Token → Bool
is_digit n t = is_other (48 + n) t

-- an explicit digit from 1 to n
abbrev pub is_number : ℕ → Token → Bool
is_number n (Char category code) = (category == other) && is_between 49 (48 + n) code
is_number n t = false

abbrev pub place_digit : Token → ℕ
place_digit (Char category code) = code - 48
place_digit t = 0

-- THE BODY, of a macro or of a text, up to the brace that closes it.

-- a macro's body has parameters, a text has none
abbrev pub is_reference : Body → Seen → Bool
is_reference b x = is_some b.places && is_parameter x

abbrev pub count_of : Option ℕ → ℕ
count_of None = 0
count_of (Some n) = n

-- the list, and a token behind it, if there is one
abbrev pub with_cell : List Token → Option Token → List Token
with_cell list None = list
with_cell list (Some t) = list ++ t ∷ []

abbrev pub body_want : Manner → Want
body_want m = if m.expanded then Copied else Raw

-- behind a parameter character tokens of \the are no more than others
abbrev pub number_want : Manner → Want
number_want m = if m.expanded then Expanded else Raw

-- `depth` groups are open beside the body's own. The last brace is no part of the list; where `#{` ended the
-- parameter text, that brace comes in its place. Behind a parameter character another enters alone, and the number of a
-- place is a parameter; else the token is put back, and behind the report the character is kept.
abbrev mutual
  pub body : Manner → Body → (depth : ℕ) → (list : List Token) → List Fed → Answer
  body m b depth list [] = More (body_want m) list
  body m b depth list (Noted ∷ fed) = body m b depth list fed
  body m b depth list (Given ts ∷ fed) = body m b depth (list ++ ts) fed
  body m b depth list (Tok x ∷ fed) =
      if has_category begin_group x.token then body m b (depth + 1) (list ++ x.token ∷ []) fed
      else if has_category end_group x.token then (if depth == 0 then Done (with_cell list b.brace) else body m b (depth - 1) (list ++ x.token ∷ []) fed)
      else if is_reference b x then reference m b depth x.token list fed
      else body m b depth (list ++ x.token ∷ []) fed

  pub reference : Manner → Body → (depth : ℕ) → (character : Token) → (list : List Token) → List Fed → Answer
  reference m b depth character list [] = More (number_want m) list
  reference m b depth character list (Noted ∷ fed) = reference m b depth character list fed
  reference m b depth character list (Given ts ∷ fed) = reference m b depth character list fed
  reference m b depth character list (Tok y ∷ fed) =
      if is_parameter y then body m b depth (list ++ y.token ∷ []) fed
      else if is_number (count_of b.places) y.token then body m b depth (list ++ Number (place_digit y.token) ∷ []) fed
      else illegal m b depth character list fed

  pub illegal : Manner → Body → (depth : ℕ) → (character : Token) → (list : List Token) → List Fed → Answer
  illegal m b depth character list [] = Tells (IllegalNumber m.name) true list
  illegal m b depth character list (Noted ∷ fed) = body m b depth (list ++ character ∷ []) fed
  illegal m b depth character list (Given ts ∷ fed) = illegal m b depth character list fed
  illegal m b depth character list (Tok y ∷ fed) = illegal m b depth character list fed

-- THE PARAMETER TEXT, read raw up to the first brace; `count` places stand in the list.

abbrev pub macro_body : ℕ → Option Token → Body
macro_body count brace = record { places = Some count; brace = brace }

-- where `}` comes in place of the body: the body is empty
abbrev pub no_body : (list : List Token) → List Fed → Answer
no_body list [] = Tells MissingBrace false list
no_body list (Noted ∷ fed) = Done list
no_body list (Given ts ∷ fed) = no_body list fed
no_body list (Tok x ∷ fed) = no_body list fed

-- Behind a parameter character a `{` ends the parameter text and enters it; the next digit makes a place. A tenth
-- place is dropped with the token behind it. Any other token is put back, and the place counts.
abbrev mutual
  pub parameters : Manner → (count : ℕ) → (list : List Token) → List Fed → Answer
  parameters m count list [] = More Raw list
  parameters m count list (Noted ∷ fed) = parameters m count list fed
  parameters m count list (Given ts ∷ fed) = parameters m count list fed
  parameters m count list (Tok x ∷ fed) =
      if has_category begin_group x.token then body m (macro_body count None) 0 (list ++ EndPlaces ∷ []) fed
      else if has_category end_group x.token then no_body (list ++ EndPlaces ∷ []) fed
      else if is_parameter x then place m count (character_of x.meaning) list fed
      else parameters m count (list ++ x.token ∷ []) fed

  pub place : Manner → (count character : ℕ) → (list : List Token) → List Fed → Answer
  place m count character list [] = More Raw list
  place m count character list (Noted ∷ fed) = place m count character list fed
  place m count character list (Given ts ∷ fed) = place m count character list fed
  place m count character list (Tok y ∷ fed) =
      if has_category begin_group y.token then body m (macro_body count (Some y.token)) 0 ((list ++ y.token ∷ []) ++ EndPlaces ∷ []) fed
      else if nat_le 9 count then tenth m count list fed
      else if is_digit (count + 1) y.token then parameters m (count + 1) (list ++ Place character ∷ []) fed
      else misnumbered m (count + 1) character list fed

  pub tenth : Manner → (count : ℕ) → (list : List Token) → List Fed → Answer
  tenth m count list [] = Tells AlreadyNine false list
  tenth m count list (Noted ∷ fed) = parameters m count list fed
  tenth m count list (Given ts ∷ fed) = tenth m count list fed
  tenth m count list (Tok y ∷ fed) = tenth m count list fed

  pub misnumbered : Manner → (count character : ℕ) → (list : List Token) → List Fed → Answer
  misnumbered m count character list [] = Tells NotConsecutive true list
  misnumbered m count character list (Noted ∷ fed) = parameters m count (list ++ Place character ∷ []) fed
  misnumbered m count character list (Given ts ∷ fed) = misnumbered m count character list fed
  misnumbered m count character list (Tok y ∷ fed) = misnumbered m count character list fed

-- what a definition asks for
abbrev pub definition : Manner → List Fed → Answer
definition m fed = parameters m 0 [] fed

-- A BALANCED TEXT. Its first brace, perhaps implicit, is sought by expansion, with spaces and \relax skipped before they
-- are fed; where another token comes, that is put back and a brace taken.

abbrev pub text_body : Body
text_body = record { places = None; brace = None }

abbrev pub missing : Manner → (list : List Token) → List Fed → Answer
missing m list [] = Tells MissingBrace true list
missing m list (Noted ∷ fed) = body m text_body 0 list fed
missing m list (Given ts ∷ fed) = missing m list fed
missing m list (Tok x ∷ fed) = missing m list fed

abbrev pub first : Manner → (list : List Token) → List Fed → Answer
first m list [] = More Command list
first m list (Noted ∷ fed) = first m list fed
first m list (Given ts ∷ fed) = first m list fed
first m list (Tok x ∷ fed) =
    if means_category begin_group x.meaning then body m text_body 0 list fed
    else missing m list fed

-- what a balanced text asks for
abbrev pub text : Manner → List Fed → Answer
text m fed = first m [] fed
