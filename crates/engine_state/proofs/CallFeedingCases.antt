-- What a token comes to in a call: the answer behind it, by what was gathered before.
use Rattle.std.proofs.Common.{◌≡◌, List, [], ◌∷◌, ◌++◌, drop, refl, sym, ap, subst, ◌∙◌, Bool, true, false, append_assoc}
use Rattle.std.proofs.lemmas.List.{append-nil}
use Rattle.std.specs.Prelude.{Option, Some, None, option_map, if◌then◌else◌}
use Rattle.tex_defs.specs.declared.Token.{Token}
use Rattle.plain_tokens.specs.declared.par_mode.ParMode.{ParMode}
use Rattle.plain_tokens.specs.Arguments.{same, Case, Argument, ExtraBrace, ParEnded, Skipped, Going, Tok, Answer, More, Called, Mismatch, arguments_in, work_in, start_of, places_of, in_work, case_at, partial, unmatched, open_after, behind, call}
use Rattle.macro_call.specs.PlainScans.{Scan, resume_scan, resume_at, scan_work, places_behind}
use Rattle.macro_call.specs.Stages.{Stage, kept_in, read_in}
use Rattle.macro_call.proofs.ArgumentMatches.{joined, unmatched_on}
use Rattle.macro_call.proofs.ArgumentRuns.{found_after, search_at}
use Rattle.macro_call.proofs.Growths.{work-sought}
use Rattle.engine_state.specs.Calls.{HasWork}

-- Where these arguments and this list in work were gathered.
pub data FedCase (args : List (List Token)) (work : Option (List Token)) (a : Answer) : Type 0 where
  -- no place is reached
  Waits : work ≡ None → args ≡ [] → work_in a ≡ None → arguments_in a ≡ [] → FedCase args work a
  -- the first one is
  Enters : work ≡ None → args ≡ [] → work_in a ≡ Some [] → arguments_in a ≡ [] → FedCase args work a
  -- the list in work goes on
  Grown : (was more : List Token) → work ≡ Some was → work_in a ≡ Some (was ++ more) → arguments_in a ≡ args → FedCase args work a
  -- it becomes the last argument
  Last : (was arg : List Token) → work ≡ Some was → a ≡ Called (args ++ arg ∷ []) → FedCase args work a
  -- it becomes an argument, and the next place is reached
  Next : (was arg : List Token) → work ≡ Some was → a ≡ More (args ++ arg ∷ []) (Some []) → FedCase args work a

-- IN FRONT OF THE FIRST PLACE

module _ (args : List (List Token)) (work : Option (List Token)) (none : work ≡ None) (bare : args ≡ []) where
  matched : (mode : ParMode) (start : List Token) (places : List (List Token)) → FedCase args work (call mode start places [])
  matched mode [] [] = Waits none bare refl refl
  matched mode [] (ds ∷ places) = Enters none bare refl refl
  matched mode (d ∷ ds) places = Waits none bare refl refl

  start_turn : (mode : ParMode) (start : List Token) (places : List (List Token)) (x : Token) → work_in (call mode start places []) ≡ None → FedCase args work (call mode start places (Tok x ∷ []))
  start_turn mode [] [] x now = Waits none bare refl refl
  start_turn mode [] (ds ∷ places) x now = cc
  start_turn mode (d ∷ ds) places x now = by_test (same x d) where
    by_test : (b : Bool) → FedCase args work (if b then call mode ds places [] else Mismatch)
    by_test true = matched mode ds places
    by_test false = Waits none bare refl refl

-- IN A PLACE

module _ (ds : List Token) (mode : ParMode) (kept t : List Token) (x : Token) (args places : List (List Token)) (work : Option (List Token)) (is : work ≡ Some (in_work ds kept t)) where
  -- all that was read
  all_read : kept ++ t ≡ in_work ds kept t ++ partial ds 0 t
  all_read = ap (λ (l : List Token). kept ++ l) (sym (joined ds 0 t)) ∙ sym (append_assoc kept (unmatched ds 0 t) (partial ds 0 t))

  abbrev one_more : List Token
  one_more = unmatched ds (open_after 0 (unmatched ds 0 t)) (partial ds 0 t ++ x ∷ [])

  goes_on : in_work ds kept (t ++ x ∷ []) ≡ in_work ds kept t ++ one_more
  goes_on = ap (λ (l : List Token). kept ++ l) (unmatched_on ds 0 t x) ∙ sym (append_assoc kept (unmatched ds 0 t) one_more)

  whole_turn : (places : List (List Token)) (a : List Token) → FedCase args work (behind args places (found_after ds mode kept t x [] (Argument a)))
  whole_turn [] a = Last (in_work ds kept t) a is refl
  whole_turn (ps ∷ places) a = Next (in_work ds kept t) a is refl

  place_turn : (met : Case) → FedCase args work (behind args places (found_after ds mode kept t x [] met))
  place_turn (Argument a) = whole_turn places a
  place_turn ExtraBrace = Grown (in_work ds kept t) (partial ds 0 t) is (ap (λ (l : List Token). Some l) (append-nil (kept ++ t) ∙ all_read)) refl
  place_turn ParEnded = Grown (in_work ds kept t) (partial ds 0 t) is (ap (λ (l : List Token). Some l) all_read) refl
  place_turn Skipped = Grown (in_work ds kept t) [] is (ap (λ (l : List Token). Some l) (sym (append-nil (in_work ds kept t)))) refl
  place_turn Going = Grown (in_work ds kept t) one_more is (ap (λ (l : List Token). Some l) goes_on) refl

-- WHERE THE SCANNER STANDS

pub turn : (text : List Token) (scan : Scan) (x : Token) → HasWork scan → work_in (resume_scan text scan []) ≡ scan_work scan → FedCase scan.args (scan_work scan) (resume_scan text scan (Tok x ∷ []))
turn text scan x has now = by_present scan.present refl where
  by_present : (o : Option Stage) → scan.present ≡ o → FedCase scan.args (scan_work scan) (resume_at (drop scan.at text) scan o (Tok x ∷ []))
  by_present None is =
      let none : scan_work scan ≡ None = ap (option_map (λ (s : Stage). s.list)) is in
      let rest : List Token = drop scan.at text in
      start_turn scan.args (scan_work scan) none (has none) scan.mode (start_of rest) (places_of rest) x (ap (λ (o : Option Stage). work_in (resume_at rest scan o [])) (sym is) ∙ now ∙ none)
  by_present (Some s) is =
      let rest : List Token = drop scan.at text in
      let ds : List Token = start_of rest in
      let met : Case = case_at ds scan.mode (kept_in s) (read_in ds s) x in
      let work : scan_work scan ≡ Some (in_work ds (kept_in s) (read_in ds s)) =
      sym now ∙ ap (λ (o : Option Stage). work_in (resume_at rest scan o [])) is ∙ work-sought scan.args scan.braced (in_work ds (kept_in s) (read_in ds s)) in
      subst (λ (f : _). FedCase scan.args (scan_work scan) (behind scan.args (places_behind scan.args rest) f)) (sym (search_at ds scan.braced scan.mode (kept_in s) (read_in ds s) x [] met refl))
      (place_turn ds scan.mode (kept_in s) (read_in ds s) x scan.args (places_behind scan.args rest) (scan_work scan) work met)
