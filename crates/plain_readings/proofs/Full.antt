-- A definition is done only with a list that has a token.
use Rattle.std.proofs.Common.{ℕ, ◌+◌, ◌-◌, Bool, true, false, List, [], ◌∷◌, ◌++◌, Option, Some, None}
use Rattle.std.specs.Prelude.{◌≢◌, ◌==◌, nat_le, if◌then◌else◌}
use Rattle.tex_syntax.specs.declared.words.Manner.{Manner}
use Rattle.tex_defs.specs.declared.Token.{Token}
use Rattle.tex_defs.specs.declared.Token.TheVariants.{Place, Number, EndPlaces}
use Rattle.plain_tokens.specs.Categories.{begin_group, end_group}
use Rattle.plain_tokens.specs.Tokens.{has_category}
use Rattle.plain_state.specs.declared.body.Body.{Body}
use Rattle.plain_state.specs.Definitions.{Fed, Tok, Noted, Given, Answer, More, Tells, Done, is_parameter, character_of, is_digit, is_number, place_digit, is_reference, count_of, with_cell, body, reference, illegal, macro_body, no_body, parameters, place, tenth, misnumbered}

-- a list that is done has a token
abbrev pub EndsFull : Answer → Type 0
EndsFull (More want list) = Unit {0}
EndsFull (Tells report back list) = Unit {0}
EndsFull (Done list) = list ≢ []

full_if : (c : Bool) (p q : Answer) → EndsFull p → EndsFull q → EndsFull (if c then p else q)
full_if true p q h i = h
full_if false p q h i = i

-- LISTS THAT GROW

longer_some : (list ts : List Token) → list ≢ [] → list ++ ts ≢ []
longer_some [] ts h = absurd (h cc)
longer_some (t ∷ list) ts h = λ e. cc

one_more : (list : List Token) (t : Token) → list ++ t ∷ [] ≢ []
one_more [] t = λ e. cc
one_more (u ∷ list) t = λ e. cc

with_cell_some : (list : List Token) (o : Option Token) → list ≢ [] → with_cell list o ≢ []
with_cell_some list None h = h
with_cell_some list (Some t) h = one_more list t

-- THE BODY

mutual
  body_full : (m : Manner) (b : Body) (depth : ℕ) (list : List Token) (fed : List Fed) → list ≢ [] → EndsFull (body m b depth list fed)
  body_full m b depth list [] h = tt
  body_full m b depth list (Noted ∷ fed) h = body_full m b depth list fed h
  body_full m b depth list (Given ts ∷ fed) h = body_full m b depth (list ++ ts) fed (longer_some list ts h)
  body_full m b depth list (Tok x ∷ fed) h =
      let open_one : Answer = body m b (depth + 1) (list ++ x.token ∷ []) fed in
      let closed : Answer = if depth == 0 then Done (with_cell list b.brace) else body m b (depth - 1) (list ++ x.token ∷ []) fed in
      let other : Answer = if is_reference b x then reference m b depth x.token list fed else body m b depth (list ++ x.token ∷ []) fed in
      full_if (has_category begin_group x.token) open_one (if has_category end_group x.token then closed else other)
      (body_full m b (depth + 1) (list ++ x.token ∷ []) fed (one_more list x.token))
      (full_if (has_category end_group x.token) closed other
      (full_if (depth == 0) (Done (with_cell list b.brace)) (body m b (depth - 1) (list ++ x.token ∷ []) fed)
      (with_cell_some list b.brace h) (body_full m b (depth - 1) (list ++ x.token ∷ []) fed (one_more list x.token)))
      (full_if (is_reference b x) (reference m b depth x.token list fed) (body m b depth (list ++ x.token ∷ []) fed)
      (reference_full m b depth x.token list fed h) (body_full m b depth (list ++ x.token ∷ []) fed (one_more list x.token))))

  reference_full : (m : Manner) (b : Body) (depth : ℕ) (character : Token) (list : List Token) (fed : List Fed) → list ≢ [] → EndsFull (reference m b depth character list fed)
  reference_full m b depth character list [] h = tt
  reference_full m b depth character list (Noted ∷ fed) h = reference_full m b depth character list fed h
  reference_full m b depth character list (Given ts ∷ fed) h = reference_full m b depth character list fed h
  reference_full m b depth character list (Tok y ∷ fed) h =
      let number : Answer = if is_number (count_of b.places) y.token then body m b depth (list ++ Number (place_digit y.token) ∷ []) fed else illegal m b depth character list fed in
      full_if (is_parameter y) (body m b depth (list ++ y.token ∷ []) fed) number
      (body_full m b depth (list ++ y.token ∷ []) fed (one_more list y.token))
      (full_if (is_number (count_of b.places) y.token) (body m b depth (list ++ Number (place_digit y.token) ∷ []) fed) (illegal m b depth character list fed)
      (body_full m b depth (list ++ Number (place_digit y.token) ∷ []) fed (one_more list (Number (place_digit y.token)))) (illegal_full m b depth character list fed h))

  illegal_full : (m : Manner) (b : Body) (depth : ℕ) (character : Token) (list : List Token) (fed : List Fed) → list ≢ [] → EndsFull (illegal m b depth character list fed)
  illegal_full m b depth character list [] h = tt
  illegal_full m b depth character list (Noted ∷ fed) h = body_full m b depth (list ++ character ∷ []) fed (one_more list character)
  illegal_full m b depth character list (Given ts ∷ fed) h = illegal_full m b depth character list fed h
  illegal_full m b depth character list (Tok y ∷ fed) h = illegal_full m b depth character list fed h

-- THE PARAMETER TEXT, behind which the list has its end mark

no_body_full : (list : List Token) (fed : List Fed) → list ≢ [] → EndsFull (no_body list fed)
no_body_full list [] h = tt
no_body_full list (Noted ∷ fed) h = h
no_body_full list (Given ts ∷ fed) h = no_body_full list fed h
no_body_full list (Tok x ∷ fed) h = no_body_full list fed h

mutual
  pub parameters_full : (m : Manner) (count : ℕ) (list : List Token) (fed : List Fed) → EndsFull (parameters m count list fed)
  parameters_full m count list [] = tt
  parameters_full m count list (Noted ∷ fed) = parameters_full m count list fed
  parameters_full m count list (Given ts ∷ fed) = parameters_full m count list fed
  parameters_full m count list (Tok x ∷ fed) =
      let behind : Answer = if is_parameter x then place m count (character_of x.meaning) list fed else parameters m count (list ++ x.token ∷ []) fed in
      let missing : Answer = no_body (list ++ EndPlaces ∷ []) fed in
      full_if (has_category begin_group x.token) (body m (macro_body count None) 0 (list ++ EndPlaces ∷ []) fed) (if has_category end_group x.token then missing else behind)
      (body_full m (macro_body count None) 0 (list ++ EndPlaces ∷ []) fed (one_more list EndPlaces))
      (full_if (has_category end_group x.token) missing behind
      (no_body_full (list ++ EndPlaces ∷ []) fed (one_more list EndPlaces))
      (full_if (is_parameter x) (place m count (character_of x.meaning) list fed) (parameters m count (list ++ x.token ∷ []) fed)
      (place_full m count (character_of x.meaning) list fed) (parameters_full m count (list ++ x.token ∷ []) fed)))

  place_full : (m : Manner) (count character : ℕ) (list : List Token) (fed : List Fed) → EndsFull (place m count character list fed)
  place_full m count character list [] = tt
  place_full m count character list (Noted ∷ fed) = place_full m count character list fed
  place_full m count character list (Given ts ∷ fed) = place_full m count character list fed
  place_full m count character list (Tok y ∷ fed) =
      let numbered : Answer = if is_digit (count + 1) y.token then parameters m (count + 1) (list ++ Place character ∷ []) fed else misnumbered m (count + 1) character list fed in
      let begun : Answer = body m (macro_body count (Some y.token)) 0 ((list ++ y.token ∷ []) ++ EndPlaces ∷ []) fed in
      full_if (has_category begin_group y.token) begun (if nat_le 9 count then tenth m count list fed else numbered)
      (body_full m (macro_body count (Some y.token)) 0 ((list ++ y.token ∷ []) ++ EndPlaces ∷ []) fed (one_more (list ++ y.token ∷ []) EndPlaces))
      (full_if (nat_le 9 count) (tenth m count list fed) numbered
      (tenth_full m count list fed)
      (full_if (is_digit (count + 1) y.token) (parameters m (count + 1) (list ++ Place character ∷ []) fed) (misnumbered m (count + 1) character list fed)
      (parameters_full m (count + 1) (list ++ Place character ∷ []) fed) (misnumbered_full m (count + 1) character list fed)))

  tenth_full : (m : Manner) (count : ℕ) (list : List Token) (fed : List Fed) → EndsFull (tenth m count list fed)
  tenth_full m count list [] = tt
  tenth_full m count list (Noted ∷ fed) = parameters_full m count list fed
  tenth_full m count list (Given ts ∷ fed) = tenth_full m count list fed
  tenth_full m count list (Tok y ∷ fed) = tenth_full m count list fed

  misnumbered_full : (m : Manner) (count character : ℕ) (list : List Token) (fed : List Fed) → EndsFull (misnumbered m count character list fed)
  misnumbered_full m count character list [] = tt
  misnumbered_full m count character list (Noted ∷ fed) = parameters_full m count (list ++ Place character ∷ []) fed
  misnumbered_full m count character list (Given ts ∷ fed) = misnumbered_full m count character list fed
  misnumbered_full m count character list (Tok y ∷ fed) = misnumbered_full m count character list fed
