-- A token that enters where one of an expanded text is asked for goes onto the list, and another is asked for so.
use Rattle.std.proofs.Common.{◌≡◌, ℕ, ◌+◌, ◌-◌, Bool, true, false, List, [], ◌∷◌, ◌++◌, refl, sym, subst, ap, Some, None, length}
use Rattle.std.specs.Prelude.{◌==◌, nat_le, if◌then◌else◌}
use Rattle.tex_defs.specs.declared.Name.{Name}
use Rattle.tex_defs.specs.declared.Token.{Token}
use Rattle.tex_defs.specs.declared.Token.TheVariants.{Place, Number, EndPlaces}
use Rattle.tex_syntax.specs.declared.words.Manner.{Manner}
use Rattle.tex_syntax.specs.declared.words.Want.TheVariants.{Raw, Expanded, Copied, Nonblank}
use Rattle.plain_tokens.specs.Categories.{begin_group, end_group}
use Rattle.plain_tokens.specs.Tokens.{has_category, means_category}
use Rattle.plain_tokens.specs.Puts.{grow_first}
use Rattle.plain_tokens.specs.Arguments as call
use Rattle.plain_state.specs.Definitions as build
use Rattle.plain_state.specs.declared.body.Body.{Body}
use Rattle.plain_state.specs.Definitions.{Answer, More, Tells, Done, is_parameter, character_of, is_digit, is_number, place_digit, is_reference, count_of, body, reference, illegal, macro_body, no_body, parameters, place, tenth, misnumbered, text_body, missing, first}
use Rattle.rows.specs.declared.words.Phrase.TheVariants.{Command, Integer, Factor, Dimension, Glue, Keyword, Text, Definition}
use Rattle.rows.specs.Readings.{Fed, Tok, Val, Noted, Fetched, Verbatim, Cut, Ask}
use Rattle.rows.specs.Readings as reading
use Rattle.plain_readings.specs.Integers.{integer, number_ask}
use Rattle.plain_readings.specs.declared.asks.NumberAsk.{NumberAsk}
use Rattle.plain_readings.specs.declared.asks.NumberAsk.TheVariants as number
use Rattle.plain_readings.specs.Lists.{build_ask, built, build_fed, manner, text, definition}
use Rattle.plain_readings.specs.Calls.{call_ask, gathered}
use Rattle.plain_readings.specs.Factors.{as_factor, factor_ask}
use Rattle.plain_readings.specs.Measures.{dimen_fed, glue_fed}
use Rattle.plain_readings.specs.Keywords.{keyword_ask}
use Rattle.plain_readings.specs.Readings.{Kind, Reads, Spelling, FileName, Behind, Skips, Arguments, ask, lists}
use Rattle.plain_readings.proofs.Wants.{AsksUncopied}
use Rattle.plain_readings.proofs.RowWants.{row_uncopied}
use Rattle.plain_readings.proofs.MeasureWants.{dimension_uncopied, glue_uncopied}
use Rattle.plain_readings.proofs.Steps.{integer_holds, spelling_holds, naming_holds, skipping_holds}
use Rattle.plain_readings.proofs.Keywords.{keyword_holds}
use Rattle.plain_readings.proofs.Factors.{factor_is}

-- LISTS

-- what is asked for behind the token, by what was asked for
abbrev Enters : Token → Answer → Answer → Type 0
Enters t (More Copied list) b = b ≡ More Copied (list ++ t ∷ [])
Enters t a b = Unit {0}

module _ (t : Token) where
  -- with the token behind it
  abbrev entered : List build.Fed → List build.Fed
  entered fed = fed ++ build.Given (t ∷ []) ∷ []

  either : (c : Bool) (p p' q q' : Answer) → Enters t p p' → Enters t q q' → Enters t (if c then p else q) (if c then p' else q')
  either true p p' q q' h i = h
  either false p p' q q' h i = i

  body_enters : (expanded : Bool) (list : List Token) → Enters t (More (if expanded then Copied else Raw) list) (More (if expanded then Copied else Raw) (list ++ t ∷ []))
  body_enters true list = refl
  body_enters false list = tt

  number_enters : (expanded : Bool) (list : List Token) (b : Answer) → Enters t (More (if expanded then Expanded else Raw) list) b
  number_enters true list b = tt
  number_enters false list b = tt

  mutual
    body_goes : (m : Manner) (b : Body) (depth : ℕ) (list : List Token) (fed : List build.Fed) → Enters t (body m b depth list fed) (body m b depth list (entered fed))
    body_goes m b depth list [] = body_enters m.expanded list
    body_goes m b depth list (build.Noted ∷ fed) = body_goes m b depth list fed
    body_goes m b depth list (build.Given ts ∷ fed) = body_goes m b depth (list ++ ts) fed
    body_goes m b depth list (build.Tok x ∷ fed) =
        either (has_category begin_group x.token) _ _ _ _ (body_goes m b (depth + 1) (list ++ x.token ∷ []) fed)
        (either (has_category end_group x.token) _ _ _ _ (either (depth == 0) _ _ _ _ tt (body_goes m b (depth - 1) (list ++ x.token ∷ []) fed))
        (either (is_reference b x) _ _ _ _ (reference_goes m b depth x.token list fed) (body_goes m b depth (list ++ x.token ∷ []) fed)))

    reference_goes : (m : Manner) (b : Body) (depth : ℕ) (character : Token) (list : List Token) (fed : List build.Fed) →
        Enters t (reference m b depth character list fed) (reference m b depth character list (entered fed))
    reference_goes m b depth character list [] = number_enters m.expanded list _
    reference_goes m b depth character list (build.Noted ∷ fed) = reference_goes m b depth character list fed
    reference_goes m b depth character list (build.Given ts ∷ fed) = reference_goes m b depth character list fed
    reference_goes m b depth character list (build.Tok y ∷ fed) =
        either (is_parameter y) _ _ _ _ (body_goes m b depth (list ++ y.token ∷ []) fed)
        (either (is_number (count_of b.places) y.token) _ _ _ _ (body_goes m b depth (list ++ Number (place_digit y.token) ∷ []) fed) (illegal_goes m b depth character list fed))

    illegal_goes : (m : Manner) (b : Body) (depth : ℕ) (character : Token) (list : List Token) (fed : List build.Fed) →
        Enters t (illegal m b depth character list fed) (illegal m b depth character list (entered fed))
    illegal_goes m b depth character list [] = tt
    illegal_goes m b depth character list (build.Noted ∷ fed) = body_goes m b depth (list ++ character ∷ []) fed
    illegal_goes m b depth character list (build.Given ts ∷ fed) = illegal_goes m b depth character list fed
    illegal_goes m b depth character list (build.Tok y ∷ fed) = illegal_goes m b depth character list fed

  no_body_goes : (list : List Token) (fed : List build.Fed) → Enters t (no_body list fed) (no_body list (entered fed))
  no_body_goes list [] = tt
  no_body_goes list (build.Noted ∷ fed) = tt
  no_body_goes list (build.Given ts ∷ fed) = no_body_goes list fed
  no_body_goes list (build.Tok x ∷ fed) = no_body_goes list fed

  mutual
    parameters_go : (m : Manner) (count : ℕ) (list : List Token) (fed : List build.Fed) → Enters t (parameters m count list fed) (parameters m count list (entered fed))
    parameters_go m count list [] = tt
    parameters_go m count list (build.Noted ∷ fed) = parameters_go m count list fed
    parameters_go m count list (build.Given ts ∷ fed) = parameters_go m count list fed
    parameters_go m count list (build.Tok x ∷ fed) =
        either (has_category begin_group x.token) _ _ _ _ (body_goes m (macro_body count None) 0 (list ++ EndPlaces ∷ []) fed)
        (either (has_category end_group x.token) _ _ _ _ (no_body_goes (list ++ EndPlaces ∷ []) fed)
        (either (is_parameter x) _ _ _ _ (place_goes m count (character_of x.meaning) list fed) (parameters_go m count (list ++ x.token ∷ []) fed)))

    place_goes : (m : Manner) (count character : ℕ) (list : List Token) (fed : List build.Fed) → Enters t (place m count character list fed) (place m count character list (entered fed))
    place_goes m count character list [] = tt
    place_goes m count character list (build.Noted ∷ fed) = place_goes m count character list fed
    place_goes m count character list (build.Given ts ∷ fed) = place_goes m count character list fed
    place_goes m count character list (build.Tok y ∷ fed) =
        either (has_category begin_group y.token) _ _ _ _ (body_goes m (macro_body count (Some y.token)) 0 ((list ++ y.token ∷ []) ++ EndPlaces ∷ []) fed)
        (either (nat_le 9 count) _ _ _ _ (tenth_goes m count list fed)
        (either (is_digit (count + 1) y.token) _ _ _ _ (parameters_go m (count + 1) (list ++ Place character ∷ []) fed) (misnumbered_goes m (count + 1) character list fed)))

    tenth_goes : (m : Manner) (count : ℕ) (list : List Token) (fed : List build.Fed) → Enters t (tenth m count list fed) (tenth m count list (entered fed))
    tenth_goes m count list [] = tt
    tenth_goes m count list (build.Noted ∷ fed) = parameters_go m count list fed
    tenth_goes m count list (build.Given ts ∷ fed) = tenth_goes m count list fed
    tenth_goes m count list (build.Tok y ∷ fed) = tenth_goes m count list fed

    misnumbered_goes : (m : Manner) (count character : ℕ) (list : List Token) (fed : List build.Fed) →
        Enters t (misnumbered m count character list fed) (misnumbered m count character list (entered fed))
    misnumbered_goes m count character list [] = tt
    misnumbered_goes m count character list (build.Noted ∷ fed) = parameters_go m count (list ++ Place character ∷ []) fed
    misnumbered_goes m count character list (build.Given ts ∷ fed) = misnumbered_goes m count character list fed
    misnumbered_goes m count character list (build.Tok y ∷ fed) = misnumbered_goes m count character list fed

  missing_goes : (m : Manner) (list : List Token) (fed : List build.Fed) → Enters t (missing m list fed) (missing m list (entered fed))
  missing_goes m list [] = tt
  missing_goes m list (build.Noted ∷ fed) = body_goes m text_body 0 list fed
  missing_goes m list (build.Given ts ∷ fed) = missing_goes m list fed
  missing_goes m list (build.Tok x ∷ fed) = missing_goes m list fed

  first_goes : (m : Manner) (list : List Token) (fed : List build.Fed) → Enters t (first m list fed) (first m list (entered fed))
  first_goes m list [] = tt
  first_goes m list (build.Noted ∷ fed) = first_goes m list fed
  first_goes m list (build.Given ts ∷ fed) = first_goes m list fed
  first_goes m list (build.Tok x ∷ fed) =
      either (means_category begin_group x.meaning) _ _ _ _ (body_goes m text_body 0 list fed) (missing_goes m list fed)

  build_last : (fed : List Fed) → build_fed (fed ++ Verbatim t ∷ []) ≡ entered (build_fed fed)
  build_last [] = refl
  build_last (Tok x ∷ fed) = rw (build_last fed) refl
  build_last (Noted ∷ fed) = rw (build_last fed) refl
  build_last (Verbatim u ∷ fed) = rw (build_last fed) refl
  build_last (Val v ts ∷ fed) = build_last fed
  build_last (Fetched v ∷ fed) = build_last fed
  build_last (Cut ∷ fed) = build_last fed

  text_goes : (name : Name) (expanded : Bool) (fed : List Fed) → Enters t (text name expanded fed) (text name expanded (fed ++ Verbatim t ∷ []))
  text_goes name expanded fed =
      subst (λ (more : List build.Fed). Enters t (text name expanded fed) (build.text (manner name expanded) more)) (sym (build_last fed))
      (first_goes (manner name expanded) [] (build_fed fed))

  definition_goes : (name : Name) (expanded : Bool) (fed : List Fed) → Enters t (definition name expanded fed) (definition name expanded (fed ++ Verbatim t ∷ []))
  definition_goes name expanded fed =
      subst (λ (more : List build.Fed). Enters t (definition name expanded fed) (build.definition (manner name expanded) more)) (sym (build_last fed))
      (parameters_go (manner name expanded) 0 [] (build_fed fed))

-- WHAT A READING OF A LIST ASKS FOR, and its list

pub record Entering (t : Token) (a b : Ask) (before after : List (List Token)) : Type 0 where
  pub copies : b ≡ reading.More Copied
  pub listed : length before ≡ 1
  pub grows : after ≡ grow_first t before

built_enters : (t : Token) (a b : Answer) → Enters t a b → build_ask a ≡ reading.More Copied → Entering t (build_ask a) (build_ask b) (built a ∷ []) (built b ∷ [])
built_enters t (More Copied list) b h e = record { copies = ap build_ask h; listed = refl; grows = ap (λ (a : Answer). built a ∷ []) h }
built_enters t (More want list) b h e = absurd cc
built_enters t (Tells report back list) b h e = absurd cc
built_enters t (Done list) b h e = absurd cc

-- ALL READINGS

never : (t : Token) (a b : Ask) (before after : List (List Token)) → AsksUncopied a → a ≡ reading.More Copied → Entering t a b before after
never t a b before after h e = absurd (subst AsksUncopied e h)

integer_uncopied : (fed : List Fed) → AsksUncopied (number_ask (integer false fed))
integer_uncopied fed = integer_holds (λ b a. AsksUncopied (number_ask a)) (λ b want plain. plain) (λ report back. tt) (λ b n back. tt) (λ b. tt) (λ b l. tt) false false fed

as_uncopied : (decimal point : Bool) (a : NumberAsk) → AsksUncopied (number_ask a) → AsksUncopied (factor_ask (as_factor decimal point a))
as_uncopied decimal point (number.More want) h = h
as_uncopied decimal point number.Begins h = h
as_uncopied decimal point (number.Fetches l) h = h
as_uncopied decimal point (number.Tells report back) h = h
as_uncopied decimal point (number.Done n back) h = h

call_uncopied : (name : Name) (a : call.Answer) → AsksUncopied (call_ask name a)
call_uncopied name (call.Ended true args work) = tt
call_uncopied name (call.Ended false args work) = tt
call_uncopied name a = tt

-- other readings ask for none
abbrev BuildsNone : Kind → Type 0
BuildsNone (Reads (Text name expanded)) = ⊥
BuildsNone (Reads (Definition name expanded)) = ⊥
BuildsNone k = Unit {0}

uncopied : (k : Kind) (fed : List Fed) → BuildsNone k → AsksUncopied (ask k fed)
uncopied (Reads (Command c)) fed h = row_uncopied c fed
uncopied (Reads Integer) fed h = integer_uncopied fed
uncopied (Reads Factor) fed h = factor_is (λ a. AsksUncopied (factor_ask a)) fed (λ decimal point. as_uncopied decimal point (integer false fed) (integer_uncopied fed))
uncopied (Reads (Dimension k)) fed h = dimension_uncopied k false (dimen_fed fed)
uncopied (Reads (Glue mu)) fed h = glue_uncopied mu false (glue_fed fed)
uncopied (Reads (Keyword w)) fed h = keyword_holds (λ b a. AsksUncopied (keyword_ask a)) (λ b want plain. plain) (λ b found. tt) (λ b t n few. tt) w false fed
uncopied (Reads (Text name expanded)) fed h = absurd h
uncopied (Reads (Definition name expanded)) fed h = absurd h
uncopied (Spelling c) fed h = spelling_holds (λ b a. AsksUncopied a) (λ b want plain. plain) (λ report back. tt) (λ b. tt) (λ b c ts. tt) c [] false fed
uncopied (FileName c) fed h = naming_holds (λ b a. AsksUncopied a) (λ b want plain. plain) (λ report back. tt) (λ b. tt) (λ b c back ts. tt) c Nonblank tt [] false fed
uncopied (Behind c x) fed h = tt
uncopied (Skips c aim line) fed h = skipping_holds (λ b a. AsksUncopied a) (λ b want plain. plain) (λ report back. tt) (λ b. tt) (λ b d to e. tt) c aim 0 false fed
uncopied (Arguments name long number ts) [] h = tt
uncopied (Arguments name long number ts) (y ∷ fed) h = call_uncopied name (gathered long ts (y ∷ fed))

pub enters : (k : Kind) (fed : List Fed) (t : Token) → ask k fed ≡ reading.More Copied → Entering t (ask k fed) (ask k (fed ++ Verbatim t ∷ [])) (lists k fed) (lists k (fed ++ Verbatim t ∷ []))
enters (Reads (Text name expanded)) fed t e = built_enters t (text name expanded fed) (text name expanded (fed ++ Verbatim t ∷ [])) (text_goes t name expanded fed) e
enters (Reads (Definition name expanded)) fed t e =
    built_enters t (definition name expanded fed) (definition name expanded (fed ++ Verbatim t ∷ [])) (definition_goes t name expanded fed) e
enters k fed t e = never t (ask k fed) (ask k (fed ++ Verbatim t ∷ [])) (lists k fed) (lists k (fed ++ Verbatim t ∷ [])) (uncopied k fed tt) e
