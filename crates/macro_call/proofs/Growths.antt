-- What goes into the list in work, by the case of a token.
use Rattle.std.proofs.Common.{◌≡◌, ◌<◌, List, [], ◌∷◌, ◌++◌, length, drop, Bool, true, false, Some, refl, ap, ◌∙◌, arith}
use Rattle.std.proofs.lemmas.List.{drop_at, drop_all, append-nil}
use Rattle.tex_defs.specs.declared.Token.{Token}
use Rattle.plain_tokens.specs.declared.par_mode.ParMode.{ParMode}
use Rattle.plain_tokens.specs.Arguments.{Case, Argument, ExtraBrace, ParEnded, Skipped, Going, in_work, More, sought, arguments, behind, arguments_in, work_in}
use Rattle.macro_call.specs.Growths.{target_by, target_of, growth_of}
use Rattle.macro_call.specs.Stages.{target_at}
use Rattle.macro_call.proofs.ArgumentRuns.{found_after}

-- what is answered in a place has the list in work and the arguments so far
pub work-sought : (args : List (List Token)) (braced : Bool) (ts : List Token) → work_in (sought args braced ts) ≡ Some ts
work-sought args true ts = refl
work-sought args false ts = refl

pub arguments-sought : (args : List (List Token)) (braced : Bool) (ts : List Token) → arguments_in (sought args braced ts) ≡ args
arguments-sought args true ts = refl
arguments-sought args false ts = refl

-- what is answered where a place is reached
pub arguments-more : (mode : ParMode) (args places : List (List Token)) → 0 < length places → arguments mode args places [] ≡ More args (Some [])
arguments-more mode args [] some = absurd (omega (arith, some))
arguments-more mode args (ds ∷ places) some = refl

arguments-begun : (mode : ParMode) (args places : List (List Token)) → arguments_in (arguments mode args places []) ≡ args
arguments-begun mode args [] = refl
arguments-begun mode args (ds ∷ places) = refl

module _ (ds : List Token) (mode : ParMode) (kept t : List Token) (x : Token) (args places : List (List Token)) where
  none_more : drop (length args) args ≡ []
  none_more = drop_all (length args) args (omega arith)

  target_met : (met : Case) → target_by (drop (length args) (arguments_in (behind args places (found_after ds mode kept t x [] met)))) (work_in (behind args places (found_after ds mode kept t x [] met))) ≡ target_at ds kept t x met
  target_met (Argument a) =
      ap (λ (us : List (List Token)). target_by (drop (length args) us) (work_in (arguments mode (args ++ a ∷ []) places []))) (arguments-begun mode (args ++ a ∷ []) places)
      ∙ ap (λ (us : List (List Token)). target_by us (work_in (arguments mode (args ++ a ∷ []) places []))) (drop_at args (a ∷ []) (length args) refl)
  target_met ExtraBrace = ap (λ (us : List (List Token)). target_by us (Some (in_work ds (kept ++ t) []))) none_more ∙ append-nil (kept ++ t)
  target_met ParEnded = ap (λ (us : List (List Token)). target_by us (Some (kept ++ t))) none_more
  target_met Skipped = ap (λ (us : List (List Token)). target_by us (Some (in_work ds kept t))) none_more
  target_met Going = ap (λ (us : List (List Token)). target_by us (Some (in_work ds kept (t ++ x ∷ [])))) none_more

  -- the target is what the list in work becomes
  pub whole_met : (braced : Bool) (a : List Token) → target_of (sought args braced (in_work ds kept t)) (behind args places (found_after ds mode kept t x [] (Argument a))) ≡ a
  whole_met true a = target_met (Argument a)
  whole_met false a = target_met (Argument a)

  pub growth_met : (braced : Bool) (met : Case) → growth_of (sought args braced (in_work ds kept t)) (behind args places (found_after ds mode kept t x [] met)) ≡ drop (length (in_work ds kept t)) (target_at ds kept t x met)
  growth_met true met = ap (drop (length (in_work ds kept t))) (target_met met)
  growth_met false met = ap (drop (length (in_work ds kept t))) (target_met met)
