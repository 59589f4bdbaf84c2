-- Behind the note of its report a call reports no extra brace at once.
use Rattle.std.proofs.Common.{◌≡◌, Bool, true, false, List, [], ◌∷◌, ◌++◌, refl, sym, subst}
use Rattle.std.specs.Prelude.{if◌then◌else◌}
use Rattle.tex_defs.specs.declared.Token.{Token}
use Rattle.plain_tokens.specs.declared.par_mode.ParMode.{ParMode}
use Rattle.plain_tokens.specs.declared.par_mode.ParMode.TheVariants.{Short, Checked}
use Rattle.plain_tokens.specs.Arguments.{Case, Argument, ExtraBrace, ParEnded, Skipped, Going, case_at, Fed, Tok, Cut, Noted, Answer, ExtraBraceFound, Found, Sought, Gathered, Failed, search, arguments, behind, call, same}

abbrev pub noted : List Fed → List Fed
noted fed = fed ++ Noted ∷ []

-- what a search has come to behind the note
abbrev IsNoted : Found → Type 0
IsNoted (Sought braced work) = braced ≡ false
IsNoted (Gathered mode a rest) = (more : List Fed) × (rest ≡ noted more)
IsNoted (Failed mode list) = Unit {0}

module _ (ds : List Token) (mode : ParMode) (kept t : List Token) (x : Token) (fed : List Fed) where
  abbrev Found_of : Case → List Fed → Found
  Found_of c rest =
      elim c [
        | Argument a ↦ Gathered mode a rest
        | ExtraBrace ↦ search ds true Short (kept ++ t) [] rest
        | ParEnded ↦ Failed mode (kept ++ t)
        | Skipped ↦ search ds false mode kept t rest
        | Going ↦ search ds false mode kept (t ++ x ∷ []) rest
      ]

  case_noted : (c : Case) → IsNoted (search ds true Short (kept ++ t) [] (noted fed)) → IsNoted (search ds false mode kept t (noted fed)) →
      IsNoted (search ds false mode kept (t ++ x ∷ []) (noted fed)) → IsNoted (Found_of c (noted fed))
  case_noted (Argument a) h i j = (fed, refl)
  case_noted ExtraBrace h i j = h
  case_noted ParEnded h i j = tt
  case_noted Skipped h i j = i
  case_noted Going h i j = j

search_noted : (ds : List Token) (braced : Bool) (mode : ParMode) (kept t : List Token) (fed : List Fed) → IsNoted (search ds braced mode kept t (noted fed))
search_noted ds braced mode kept t [] = refl
search_noted ds braced mode kept t (Cut ∷ fed) = search_noted ds false Checked kept t fed
search_noted ds braced mode kept t (Noted ∷ fed) = search_noted ds false mode kept t fed
search_noted ds braced mode kept t (Tok x ∷ fed) =
    case_noted ds mode kept t x fed (case_at ds mode kept t x) (search_noted ds true Short (kept ++ t) [] fed) (search_noted ds false mode kept t fed)
    (search_noted ds false mode kept (t ++ x ∷ []) fed)

-- no extra brace is found
abbrev pub IsQuiet : Answer → Type 0
IsQuiet (ExtraBraceFound args work) = ⊥
IsQuiet a = Unit {0}

behind_quiet : (args places : List (List Token)) → ((mode : ParMode) (args : List (List Token)) (fed : List Fed) → IsQuiet (arguments mode args places (noted fed))) →
    (f : Found) → IsNoted f → IsQuiet (behind args places f)
behind_quiet args places quiet (Sought true work) h = absurd cc
behind_quiet args places quiet (Sought false work) h = tt
behind_quiet args places quiet (Gathered mode a rest) (more, e) =
    subst (λ (rest : List Fed). IsQuiet (arguments mode (args ++ a ∷ []) places rest)) (sym e) (quiet mode (args ++ a ∷ []) more)
behind_quiet args places quiet (Failed mode list) h = tt

arguments_quiet : (mode : ParMode) (args places : List (List Token)) (fed : List Fed) → IsQuiet (arguments mode args places (noted fed))
arguments_quiet mode args [] fed = tt
arguments_quiet mode args (ds ∷ places) fed =
    behind_quiet args places (λ mode args fed. arguments_quiet mode args places fed) (search ds false mode [] [] (noted fed)) (search_noted ds false mode [] [] fed)

quiet_if : (b : Bool) (p q : Answer) → IsQuiet p → IsQuiet q → IsQuiet (if b then p else q)
quiet_if true p q h i = h
quiet_if false p q h i = i

pub call_quiet : (mode : ParMode) (start : List Token) (places : List (List Token)) (fed : List Fed) → IsQuiet (call mode start places (noted fed))
call_quiet mode [] places fed = arguments_quiet mode [] places fed
call_quiet mode (d ∷ ds) places [] = tt
call_quiet mode (d ∷ ds) places (Cut ∷ fed) = call_quiet Checked (d ∷ ds) places fed
call_quiet mode (d ∷ ds) places (Noted ∷ fed) = call_quiet mode (d ∷ ds) places fed
call_quiet mode (d ∷ ds) places (Tok x ∷ fed) = quiet_if (same x d) _ _ (call_quiet mode ds places fed) tt
