-- What the search comes to, one token after the other.
use Rattle.std.proofs.Common.{◌≡◌, List, [], ◌∷◌, ◌++◌, refl, sym, ap, subst, ◌∙◌, Bool, true, false}
use Rattle.std.specs.Prelude.{if◌then◌else◌}
use Rattle.tex_defs.specs.declared.Token.{Token}
use Rattle.plain_tokens.specs.declared.par_mode.ParMode.{ParMode}
use Rattle.plain_tokens.specs.declared.par_mode.ParMode.TheVariants.{Short, Checked}
use Rattle.plain_tokens.specs.Arguments.{same, Case, Argument, ExtraBrace, ParEnded, Skipped, Going, Fed, Tok, Cut, Noted, Answer, Mismatch, Ended, Found, Sought, Gathered, Failed, case_at, search, sought, arguments, behind, call, is_checked}
use Rattle.macro_call.specs.ArgumentLaws.{IsClosed}

pub arguments_behind : (mode : ParMode) (args places : List (List Token)) (ds : List Token) (fed : List Fed) → arguments mode args (ds ∷ places) fed ≡ behind args places (search ds false mode [] [] fed)
arguments_behind mode args places ds fed = at (search ds false mode [] [] fed)
  where
    at : (found : Found) → (elim found [ Sought braced work ↦ sought args braced work | Gathered next a rest ↦ arguments next (args ++ a ∷ []) places rest | Failed next list ↦ Ended (is_checked next) args list ]) ≡ behind args places found
    at (Sought braced work) = refl
    at (Gathered next a rest) = refl
    at (Failed next list) = refl

-- what the search comes to once the case is known
abbrev pub found_after : List Token → ParMode → (kept t : List Token) → Token → List Fed → Case → Found
found_after ds mode kept t x fed (Argument a) = Gathered mode a fed
found_after ds mode kept t x fed ExtraBrace = search ds true Short (kept ++ t) [] fed
found_after ds mode kept t x fed ParEnded = Failed mode (kept ++ t)
found_after ds mode kept t x fed Skipped = search ds false mode kept t fed
found_after ds mode kept t x fed Going = search ds false mode kept (t ++ x ∷ []) fed

pub search_at : (ds : List Token) (braced : Bool) (mode : ParMode) (kept t : List Token) (x : Token) (fed : List Fed) (c : Case) → c ≡ case_at ds mode kept t x →
    search ds braced mode kept t (Tok x ∷ fed) ≡ found_after ds mode kept t x fed c
search_at ds braced mode kept t x fed c e = at (case_at ds mode kept t x) ∙ ap (found_after ds mode kept t x fed) (sym e)
  where
    at : (d : Case) → (elim d [
      | Argument a ↦ Gathered mode a fed
      | ExtraBrace ↦ search ds true Short (kept ++ t) [] fed
      | ParEnded ↦ Failed mode (kept ++ t)
      | Skipped ↦ search ds false mode kept t fed
      | Going ↦ search ds false mode kept (t ++ x ∷ []) fed
    ]) ≡ found_after ds mode kept t x fed d
    at (Argument a) = refl
    at ExtraBrace = refl
    at ParEnded = refl
    at Skipped = refl
    at Going = refl

-- what has been found stays found
abbrev Grows : Found → Found → List Fed → Type 0
Grows (Sought braced work) found more = Unit {0}
Grows (Gathered mode a rest) found more = found ≡ Gathered mode a (rest ++ more)
Grows (Failed mode list) found more = found ≡ Failed mode list

case_grows : (ds : List Token) (mode : ParMode) (kept t : List Token) (x : Token) (fed more : List Fed) (c : Case) →
    ((braced : Bool) (mode : ParMode) (kept t : List Token) → Grows (search ds braced mode kept t fed) (search ds braced mode kept t (fed ++ more)) more) →
    Grows (found_after ds mode kept t x fed c) (found_after ds mode kept t x (fed ++ more) c) more
case_grows ds mode kept t x fed more (Argument a) ih = refl
case_grows ds mode kept t x fed more ExtraBrace ih = ih true Short (kept ++ t) []
case_grows ds mode kept t x fed more ParEnded ih = refl
case_grows ds mode kept t x fed more Skipped ih = ih false mode kept t
case_grows ds mode kept t x fed more Going ih = ih false mode kept (t ++ x ∷ [])

grows_along : (f f' g g' : Found) (more : List Fed) → f ≡ f' → g ≡ g' → Grows f' g' more → Grows f g more
grows_along f f' g g' more e e' h = subst (λ (k : Found). Grows k g more) (sym e) (subst (λ (k : Found). Grows f' k more) (sym e') h)

search_grows : (fed more : List Fed) (ds : List Token) (braced : Bool) (mode : ParMode) (kept t : List Token) →
    Grows (search ds braced mode kept t fed) (search ds braced mode kept t (fed ++ more)) more
search_grows [] more ds braced mode kept t = tt
search_grows (Cut ∷ fed) more ds braced mode kept t = search_grows fed more ds false Checked kept t
search_grows (Noted ∷ fed) more ds braced mode kept t = search_grows fed more ds false mode kept t
search_grows (Tok x ∷ fed) more ds braced mode kept t =
    grows_along _ _ _ _ more
    (search_at ds braced mode kept t x fed (case_at ds mode kept t x) refl)
    (search_at ds braced mode kept t x (fed ++ more) (case_at ds mode kept t x) refl)
    (case_grows ds mode kept t x fed more (case_at ds mode kept t x) (λ braced mode kept t. search_grows fed more ds braced mode kept t))

found_stays : (args places : List (List Token)) (more : List Fed) (f g : Found) → Grows f g more → IsClosed (behind args places f) →
    ((mode : ParMode) (args : List (List Token)) (fed : List Fed) → IsClosed (arguments mode args places fed) → arguments mode args places (fed ++ more) ≡ arguments mode args places fed) →
    behind args places g ≡ behind args places f
found_stays args places more (Sought true work) g h c ih = absurd c
found_stays args places more (Sought false work) g h c ih = absurd c
found_stays args places more (Gathered mode a rest) g h c ih = ap (behind args places) h ∙ ih mode (args ++ a ∷ []) rest c
found_stays args places more (Failed mode list) g h c ih = ap (behind args places) h

arguments_stay : (places : List (List Token)) (more : List Fed) (mode : ParMode) (args : List (List Token)) (fed : List Fed) → IsClosed (arguments mode args places fed) → arguments mode args places (fed ++ more) ≡ arguments mode args places fed
arguments_stay [] more mode args fed c = refl
arguments_stay (ds ∷ places) more mode args fed c =
    arguments_behind mode args places ds (fed ++ more)
    ∙ found_stays args places more (search ds false mode [] [] fed) (search ds false mode [] [] (fed ++ more)) (search_grows fed more ds false mode [] []) (subst IsClosed (arguments_behind mode args places ds fed) c) (arguments_stay places more)
    ∙ sym (arguments_behind mode args places ds fed)

test_stays : (b : Bool) (p q : Answer) → IsClosed (if b then p else Mismatch) → (IsClosed p → q ≡ p) → (if b then q else Mismatch) ≡ (if b then p else Mismatch)
test_stays true p q c h = h c
test_stays false p q c h = refl

pub call_stays : (fed more : List Fed) (mode : ParMode) (start : List Token) (places : List (List Token)) → IsClosed (call mode start places fed) → call mode start places (fed ++ more) ≡ call mode start places fed
call_stays fed more mode [] places c = arguments_stay places more mode [] fed c
call_stays [] more mode (d ∷ ds) places c = absurd c
call_stays (Cut ∷ fed) more mode (d ∷ ds) places c = call_stays fed more Checked (d ∷ ds) places c
call_stays (Noted ∷ fed) more mode (d ∷ ds) places c = call_stays fed more mode (d ∷ ds) places c
call_stays (Tok x ∷ fed) more mode (d ∷ ds) places c = test_stays (same x d) (call mode ds places fed) (call mode ds places (fed ++ more)) c (call_stays fed more mode ds places)
