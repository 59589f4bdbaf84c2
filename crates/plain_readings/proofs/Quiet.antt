-- Behind the note of its report a list's reading reports nothing at once.
use Rattle.std.proofs.Common.{ℕ, ◌+◌, ◌-◌, Bool, true, false, List, [], ◌∷◌, ◌++◌, Some, None}
use Rattle.std.specs.Prelude.{◌==◌, nat_le, if◌then◌else◌}
use Rattle.tex_syntax.specs.declared.words.Manner.{Manner}
use Rattle.tex_defs.specs.declared.Token.{Token}
use Rattle.tex_defs.specs.declared.Token.TheVariants.{Place, Number, EndPlaces}
use Rattle.plain_tokens.specs.Categories.{begin_group, end_group}
use Rattle.plain_tokens.specs.Tokens.{has_category, means_category}
use Rattle.plain_state.specs.declared.body.Body.{Body}
use Rattle.plain_state.specs.Definitions.{Fed, Tok, Noted, Given, Answer, More, Tells, Done, is_parameter, character_of, is_digit, is_number, place_digit, is_reference, count_of, body, reference, illegal, macro_body, no_body, parameters, place, tenth, misnumbered, text_body, missing, first}

abbrev pub IsQuiet : Answer → Type 0
IsQuiet (More want list) = Unit {0}
IsQuiet (Tells report back list) = ⊥
IsQuiet (Done list) = Unit {0}

-- with the note behind it
abbrev pub noted : List Fed → List Fed
noted fed = fed ++ Noted ∷ []

quiet_if : (c : Bool) (p q : Answer) → IsQuiet p → IsQuiet q → IsQuiet (if c then p else q)
quiet_if true p q h i = h
quiet_if false p q h i = i

mutual
  body_quiet : (m : Manner) (b : Body) (depth : ℕ) (list : List Token) (fed : List Fed) → IsQuiet (body m b depth list (noted fed))
  body_quiet m b depth list [] = tt
  body_quiet m b depth list (Noted ∷ fed) = body_quiet m b depth list fed
  body_quiet m b depth list (Given ts ∷ fed) = body_quiet m b depth (list ++ ts) fed
  body_quiet m b depth list (Tok x ∷ fed) =
      quiet_if (has_category begin_group x.token) _ _ (body_quiet m b (depth + 1) (list ++ x.token ∷ []) fed)
      (quiet_if (has_category end_group x.token) _ _ (quiet_if (depth == 0) _ _ tt (body_quiet m b (depth - 1) (list ++ x.token ∷ []) fed))
      (quiet_if (is_reference b x) _ _ (reference_quiet m b depth x.token list fed) (body_quiet m b depth (list ++ x.token ∷ []) fed)))

  reference_quiet : (m : Manner) (b : Body) (depth : ℕ) (character : Token) (list : List Token) (fed : List Fed) → IsQuiet (reference m b depth character list (noted fed))
  reference_quiet m b depth character list [] = tt
  reference_quiet m b depth character list (Noted ∷ fed) = reference_quiet m b depth character list fed
  reference_quiet m b depth character list (Given ts ∷ fed) = reference_quiet m b depth character list fed
  reference_quiet m b depth character list (Tok y ∷ fed) =
      quiet_if (is_parameter y) _ _ (body_quiet m b depth (list ++ y.token ∷ []) fed)
      (quiet_if (is_number (count_of b.places) y.token) _ _ (body_quiet m b depth (list ++ Number (place_digit y.token) ∷ []) fed) (illegal_quiet m b depth character list fed))

  illegal_quiet : (m : Manner) (b : Body) (depth : ℕ) (character : Token) (list : List Token) (fed : List Fed) → IsQuiet (illegal m b depth character list (noted fed))
  illegal_quiet m b depth character list [] = tt
  illegal_quiet m b depth character list (Noted ∷ fed) = body_quiet m b depth (list ++ character ∷ []) fed
  illegal_quiet m b depth character list (Given ts ∷ fed) = illegal_quiet m b depth character list fed
  illegal_quiet m b depth character list (Tok y ∷ fed) = illegal_quiet m b depth character list fed

no_body_quiet : (list : List Token) (fed : List Fed) → IsQuiet (no_body list (noted fed))
no_body_quiet list [] = tt
no_body_quiet list (Noted ∷ fed) = tt
no_body_quiet list (Given ts ∷ fed) = no_body_quiet list fed
no_body_quiet list (Tok x ∷ fed) = no_body_quiet list fed

mutual
  pub parameters_quiet : (m : Manner) (count : ℕ) (list : List Token) (fed : List Fed) → IsQuiet (parameters m count list (noted fed))
  parameters_quiet m count list [] = tt
  parameters_quiet m count list (Noted ∷ fed) = parameters_quiet m count list fed
  parameters_quiet m count list (Given ts ∷ fed) = parameters_quiet m count list fed
  parameters_quiet m count list (Tok x ∷ fed) =
      quiet_if (has_category begin_group x.token) _ _ (body_quiet m (macro_body count None) 0 (list ++ EndPlaces ∷ []) fed)
      (quiet_if (has_category end_group x.token) _ _ (no_body_quiet (list ++ EndPlaces ∷ []) fed)
      (quiet_if (is_parameter x) _ _ (place_quiet m count (character_of x.meaning) list fed) (parameters_quiet m count (list ++ x.token ∷ []) fed)))

  place_quiet : (m : Manner) (count character : ℕ) (list : List Token) (fed : List Fed) → IsQuiet (place m count character list (noted fed))
  place_quiet m count character list [] = tt
  place_quiet m count character list (Noted ∷ fed) = place_quiet m count character list fed
  place_quiet m count character list (Given ts ∷ fed) = place_quiet m count character list fed
  place_quiet m count character list (Tok y ∷ fed) =
      quiet_if (has_category begin_group y.token) _ _ (body_quiet m (macro_body count (Some y.token)) 0 ((list ++ y.token ∷ []) ++ EndPlaces ∷ []) fed)
      (quiet_if (nat_le 9 count) _ _ (tenth_quiet m count list fed)
      (quiet_if (is_digit (count + 1) y.token) _ _ (parameters_quiet m (count + 1) (list ++ Place character ∷ []) fed) (misnumbered_quiet m (count + 1) character list fed)))

  tenth_quiet : (m : Manner) (count : ℕ) (list : List Token) (fed : List Fed) → IsQuiet (tenth m count list (noted fed))
  tenth_quiet m count list [] = tt
  tenth_quiet m count list (Noted ∷ fed) = parameters_quiet m count list fed
  tenth_quiet m count list (Given ts ∷ fed) = tenth_quiet m count list fed
  tenth_quiet m count list (Tok y ∷ fed) = tenth_quiet m count list fed

  misnumbered_quiet : (m : Manner) (count character : ℕ) (list : List Token) (fed : List Fed) → IsQuiet (misnumbered m count character list (noted fed))
  misnumbered_quiet m count character list [] = tt
  misnumbered_quiet m count character list (Noted ∷ fed) = parameters_quiet m count (list ++ Place character ∷ []) fed
  misnumbered_quiet m count character list (Given ts ∷ fed) = misnumbered_quiet m count character list fed
  misnumbered_quiet m count character list (Tok y ∷ fed) = misnumbered_quiet m count character list fed

-- A BALANCED TEXT

missing_quiet : (m : Manner) (list : List Token) (fed : List Fed) → IsQuiet (missing m list (noted fed))
missing_quiet m list [] = tt
missing_quiet m list (Noted ∷ fed) = body_quiet m text_body 0 list fed
missing_quiet m list (Given ts ∷ fed) = missing_quiet m list fed
missing_quiet m list (Tok x ∷ fed) = missing_quiet m list fed

pub first_quiet : (m : Manner) (list : List Token) (fed : List Fed) → IsQuiet (first m list (noted fed))
first_quiet m list [] = tt
first_quiet m list (Noted ∷ fed) = first_quiet m list fed
first_quiet m list (Given ts ∷ fed) = first_quiet m list fed
first_quiet m list (Tok x ∷ fed) = quiet_if (means_category begin_group x.meaning) _ _ (body_quiet m text_body 0 list fed) (missing_quiet m list fed)
