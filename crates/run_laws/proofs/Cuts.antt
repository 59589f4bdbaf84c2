-- A call that wants a token wants one also behind the note that a check came.
use Rattle.std.proofs.Common.{◌≡◌, Bool, true, false, List, [], ◌∷◌, ◌++◌, take, refl, sym, subst}
use Rattle.std.specs.Prelude.{if◌then◌else◌, not, ◌||◌}
use Rattle.tex_defs.specs.declared.Name.{Name}
use Rattle.tex_defs.specs.declared.Token.{Token}
use Rattle.tex_syntax.specs.declared.words.Want.TheVariants.{Raw}
use Rattle.plain_tokens.specs.Arguments as call
use Rattle.plain_tokens.specs.declared.par_mode.ParMode.{ParMode}
use Rattle.plain_tokens.specs.declared.par_mode.ParMode.TheVariants.{Short, Checked}
use Rattle.plain_tokens.specs.Arguments.{Case, Argument, ExtraBrace, ParEnded, Skipped, Going, Found, Gathered, Failed, case_at, search, same, start_of, places_of, delimiters_of, is_nil, is_some_place, has_parameters, mode_of}
use Rattle.rows.specs.Readings.{Fed, Tok, Noted, Cut, More}
use Rattle.plain_readings.specs.Calls.{call_ask, call_fed, gathered, arguments}

abbrev WantsMore : call.Answer → Type 0
WantsMore (call.More args work) = Unit {0}
WantsMore a = ⊥

module _ (args places : List (List Token)) where
  abbrev FoundMore : Found → Type 0
  FoundMore found = WantsMore (call.behind args places found)

  module _ (onward : (mode : ParMode) (a : List Token) (fed : List call.Fed) → FoundMore (Gathered mode a fed) → FoundMore (Gathered mode a (fed ++ call.Cut ∷ []))) (ds : List Token) where
    module _ (mode : ParMode) (kept t : List Token) (x : Token) (fed : List call.Fed) where
      abbrev Found_of : Case → List call.Fed → Found
      Found_of c rest =
          elim c [
            | Argument a ↦ Gathered mode a rest
            | ExtraBrace ↦ search ds true Short (kept ++ t) [] rest
            | ParEnded ↦ Failed mode (kept ++ t)
            | Skipped ↦ search ds false mode kept t rest
            | Going ↦ search ds false mode kept (t ++ x ∷ []) rest
          ]

      abbrev GoesOn : Bool → ParMode → (kept t : List Token) → Type 0
      GoesOn braced next keeps ts = FoundMore (search ds braced next keeps ts fed) → FoundMore (search ds braced next keeps ts (fed ++ call.Cut ∷ []))

      case_cut : (c : Case) → GoesOn true Short (kept ++ t) [] → GoesOn false mode kept t → GoesOn false mode kept (t ++ x ∷ []) → FoundMore (Found_of c fed) → FoundMore (Found_of c (fed ++ call.Cut ∷ []))
      case_cut (Argument a) f g i h = onward mode a fed h
      case_cut ExtraBrace f g i h = f h
      case_cut ParEnded f g i h = absurd h
      case_cut Skipped f g i h = g h
      case_cut Going f g i h = i h

    search_cut : (braced : Bool) (mode : ParMode) (kept t : List Token) (fed : List call.Fed) → FoundMore (search ds braced mode kept t fed) → FoundMore (search ds braced mode kept t (fed ++ call.Cut ∷ []))
    search_cut braced mode kept t [] h = tt
    search_cut braced mode kept t (call.Cut ∷ fed) h = search_cut false Checked kept t fed h
    search_cut braced mode kept t (call.Noted ∷ fed) h = search_cut false mode kept t fed h
    search_cut braced mode kept t (call.Tok x ∷ fed) h =
        case_cut mode kept t x fed (case_at ds mode kept t x) (search_cut true Short (kept ++ t) [] fed) (search_cut false mode kept t fed) (search_cut false mode kept (t ++ x ∷ []) fed) h

arguments_cut : (mode : ParMode) (args places : List (List Token)) (fed : List call.Fed) → WantsMore (call.arguments mode args places fed) → WantsMore (call.arguments mode args places (fed ++ call.Cut ∷ []))
arguments_cut mode args [] fed h = absurd h
arguments_cut mode args (ds ∷ places) fed h = search_cut args places (λ next a rest. arguments_cut next (args ++ a ∷ []) places rest) ds false mode [] [] fed h

same_cut : (b : Bool) (p q : call.Answer) → (WantsMore p → WantsMore q) → WantsMore (if b then p else call.Mismatch) → WantsMore (if b then q else call.Mismatch)
same_cut true p q f h = f h
same_cut false p q f h = absurd h

call_cut : (mode : ParMode) (start : List Token) (places : List (List Token)) (fed : List call.Fed) → WantsMore (call.call mode start places fed) → WantsMore (call.call mode start places (fed ++ call.Cut ∷ []))
call_cut mode [] places fed h = arguments_cut mode [] places fed h
call_cut mode (d ∷ ds) places [] h = tt
call_cut mode (d ∷ ds) places (call.Cut ∷ fed) h = call_cut Checked (d ∷ ds) places fed h
call_cut mode (d ∷ ds) places (call.Noted ∷ fed) h = call_cut mode (d ∷ ds) places fed h
call_cut mode (d ∷ ds) places (call.Tok x ∷ fed) h = same_cut (same x d) _ _ (call_cut mode ds places fed) h

-- behind the note alone
first_cut : (mode : ParMode) (start : List Token) (delimiters : List (List Token)) → (not (is_nil start) || is_some_place delimiters) ≡ true → WantsMore (call.call mode start (take 9 delimiters) (call.Cut ∷ []))
first_cut mode (d ∷ ds) delimiters p = tt
first_cut mode [] (ds ∷ delimiters) p = tt
first_cut mode [] [] p = absurd cc

cut_last : (fed : List Fed) → call_fed (fed ++ Cut ∷ []) ≡ call_fed fed ++ call.Cut ∷ []
cut_last [] = refl
cut_last (Tok x ∷ fed) = rw (cut_last fed) refl
cut_last (Noted ∷ fed) = rw (cut_last fed) refl
cut_last (Cut ∷ fed) = rw (cut_last fed) refl
cut_last (y ∷ fed) = cut_last fed

module _ (name : Name) where
  more_asked : (a : call.Answer) → call_ask name a ≡ More Raw → WantsMore a
  more_asked (call.More args work) e = tt
  more_asked (call.Ended true args work) e = absurd cc
  more_asked (call.Ended false args work) e = absurd cc
  more_asked a e = absurd cc

  asks_more : (a : call.Answer) → WantsMore a → call_ask name a ≡ More Raw
  asks_more (call.More args work) h = refl
  asks_more a h = absurd h

  pub cut_asks : (long : Bool) (ts : List Token) (fed : List Fed) → has_parameters ts ≡ true → arguments name long ts fed ≡ More Raw → arguments name long ts (fed ++ Cut ∷ []) ≡ More Raw
  cut_asks long ts [] p e = asks_more (gathered long ts (Cut ∷ [])) (first_cut (mode_of long) (start_of ts) (delimiters_of ts) p)
  cut_asks long ts (y ∷ fed) p e =
      asks_more (gathered long ts ((y ∷ fed) ++ Cut ∷ []))
      (subst (λ (more : List call.Fed). WantsMore (call.call (mode_of long) (start_of ts) (places_of ts) more)) (sym (cut_last (y ∷ fed)))
      (call_cut (mode_of long) (start_of ts) (places_of ts) (call_fed (y ∷ fed)) (more_asked (gathered long ts (y ∷ fed)) e)))
