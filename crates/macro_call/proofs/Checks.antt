-- A check makes no difference to a token that isn't `\par`.
use Rattle.std.proofs.Common.{◌≡◌, List, [], ◌∷◌, ◌++◌, drop, Option, None, Some, refl, sym, ap, ◌∙◌, Bool, true, false}
use Rattle.std.specs.Prelude.{◌&&◌, if◌then◌else◌}
use Rattle.tex_defs.specs.declared.Token.{Token}
use Rattle.plain_tokens.specs.Tokens.{is_space_token}
use Rattle.plain_tokens.specs.declared.par_mode.ParMode.{ParMode}
use Rattle.plain_tokens.specs.declared.par_mode.ParMode.TheVariants.{Long, Short, Checked}
use Rattle.plain_tokens.specs.Arguments.{start_of, places_of, same, is_par, is_nil, is_short, is_extra, is_single, is_group, is_delimited, inner, front, partial, without_braces, Case, Argument, ExtraBrace, ParEnded, Skipped, Going, Tok, Answer, Mismatch, case_at, in_work, search, arguments, behind, call, arguments_in, work_in}
use Rattle.macro_call.specs.Stages.{Stage, kept_in, read_in}
use Rattle.macro_call.specs.PlainScans.{Scan, ChecksShowAtPars, cut_scan, resume_at, places_behind}
use Rattle.macro_call.proofs.ArgumentRuns.{arguments_behind, found_after, search_at}
use Rattle.macro_call.proofs.Growths.{arguments-sought, work-sought}

no_par : (mode : ParMode) (x : Token) → is_par x ≡ false → (is_short mode && is_par x) ≡ false
no_par Long x e = refl
no_par Short x e = e
no_par Checked x e = e

-- the case by whether the token is a `\par` that may end the call
abbrev case_by : List Token → (kept t : List Token) → Token → Bool → Case
case_by [] kept t x par =
    if is_extra t x then ExtraBrace
    else if par then ParEnded
    else if is_nil t && is_space_token x then Skipped
    else if is_single (t ++ x ∷ []) then Argument (t ++ x ∷ [])
    else if is_group (t ++ x ∷ []) then Argument (inner (t ++ x ∷ []))
    else Going
case_by (d ∷ ds) kept t x par =
    if is_delimited (d ∷ ds) (t ++ x ∷ []) then Argument (without_braces (kept ++ front (d ∷ ds) (t ++ x ∷ [])))
    else if is_extra t x then ExtraBrace
    else if par && is_nil (partial (d ∷ ds) 0 (t ++ x ∷ [])) then ParEnded
    else Going

case_is : (ds : List Token) (mode : ParMode) (kept t : List Token) (x : Token) → case_at ds mode kept t x ≡ case_by ds kept t x (is_short mode && is_par x)
case_is [] mode kept t x = refl
case_is (d ∷ ds) mode kept t x = refl

case_plain : (ds : List Token) (mode : ParMode) (kept t : List Token) (x : Token) → is_par x ≡ false → case_at ds mode kept t x ≡ case_by ds kept t x false
case_plain ds mode kept t x e = case_is ds mode kept t x ∙ ap (case_by ds kept t x) (no_par mode x e)

-- no `\par` ended the call
abbrev GoesOn : Case → Type 0
GoesOn (Argument a) = Unit {0}
GoesOn ExtraBrace = Unit {0}
GoesOn ParEnded = ⊥
GoesOn Skipped = Unit {0}
GoesOn Going = Unit {0}

either : (b : Bool) (p q : Case) → GoesOn p → GoesOn q → GoesOn (if b then p else q)
either true p q h k = h
either false p q h k = k

goes_on : (ds kept t : List Token) (x : Token) → GoesOn (case_by ds kept t x false)
goes_on [] kept t x =
    either (is_extra t x) _ _ tt
    (either (is_nil t && is_space_token x) _ _ tt
    (either (is_single (t ++ x ∷ [])) _ _ tt
    (either (is_group (t ++ x ∷ [])) _ _ tt tt)))
goes_on (d ∷ ds) kept t x = either (is_delimited (d ∷ ds) (t ++ x ∷ [])) _ _ tt (either (is_extra t x) _ _ tt tt)

-- Where nothing follows, how a `\par` is taken makes no difference.
arguments_begin : (m n : ParMode) (args places : List (List Token)) → arguments m args places [] ≡ arguments n args places []
arguments_begin m n args [] = refl
arguments_begin m n args (ds ∷ places) = refl

call_begins : (m n : ParMode) (start : List Token) (places : List (List Token)) → call m start places [] ≡ call n start places []
call_begins m n [] places = arguments_begin m n [] places
call_begins m n (d ∷ ds) places = refl

found_same : (m n : ParMode) (args places : List (List Token)) (ds kept t : List Token) (x : Token) (c : Case) → GoesOn c →
    behind args places (found_after ds m kept t x [] c) ≡ behind args places (found_after ds n kept t x [] c)
found_same m n args places ds kept t x (Argument a) h = arguments_begin m n (args ++ a ∷ []) places
found_same m n args places ds kept t x ExtraBrace h = refl
found_same m n args places ds kept t x ParEnded h = absurd h
found_same m n args places ds kept t x Skipped h = refl
found_same m n args places ds kept t x Going h = refl

module _ (m n : ParMode) (x : Token) (plain : is_par x ≡ false) where
  search_same : (b c : Bool) (args places : List (List Token)) (ds kept t : List Token) →
      behind args places (search ds b m kept t (Tok x ∷ [])) ≡ behind args places (search ds c n kept t (Tok x ∷ []))
  search_same b c args places ds kept t =
      ap (behind args places) (search_at ds b m kept t x [] (case_by ds kept t x false) (sym (case_plain ds m kept t x plain)))
      ∙ found_same m n args places ds kept t x (case_by ds kept t x false) (goes_on ds kept t x)
      ∙ sym (ap (behind args places) (search_at ds c n kept t x [] (case_by ds kept t x false) (sym (case_plain ds n kept t x plain))))

  arguments_same : (args places : List (List Token)) → arguments m args places (Tok x ∷ []) ≡ arguments n args places (Tok x ∷ [])
  arguments_same args [] = refl
  arguments_same args (ds ∷ places) =
      arguments_behind m args places ds (Tok x ∷ [])
      ∙ search_same false false args places ds [] []
      ∙ sym (arguments_behind n args places ds (Tok x ∷ []))

  call_same : (start : List Token) (places : List (List Token)) → call m start places (Tok x ∷ []) ≡ call n start places (Tok x ∷ [])
  call_same [] places = arguments_same [] places
  call_same (d ∷ ds) places = ap (λ (p : Answer). if same x d then p else Mismatch) (call_begins m n ds places)

args_at : (rest : List Token) (scan : Scan) (o : Option Stage) → arguments_in (resume_at rest (cut_scan scan) o []) ≡ arguments_in (resume_at rest scan o [])
args_at rest scan None = ap arguments_in (call_begins Checked scan.mode (start_of rest) (places_of rest))
args_at rest scan (Some s) = sym (arguments-sought scan.args scan.braced (in_work (start_of rest) (kept_in s) (read_in (start_of rest) s)))

work_at : (rest : List Token) (scan : Scan) (o : Option Stage) → work_in (resume_at rest (cut_scan scan) o []) ≡ work_in (resume_at rest scan o [])
work_at rest scan None = ap work_in (call_begins Checked scan.mode (start_of rest) (places_of rest))
work_at rest scan (Some s) = sym (work-sought scan.args scan.braced (in_work (start_of rest) (kept_in s) (read_in (start_of rest) s)))

answer_at : (rest : List Token) (scan : Scan) (o : Option Stage) (x : Token) → is_par x ≡ false → resume_at rest (cut_scan scan) o (Tok x ∷ []) ≡ resume_at rest scan o (Tok x ∷ [])
answer_at rest scan None x plain = call_same Checked scan.mode x plain (start_of rest) (places_of rest)
answer_at rest scan (Some s) x plain = search_same Checked scan.mode x plain false scan.braced scan.args (places_behind scan.args rest) (start_of rest) (kept_in s) (read_in (start_of rest) s)

pub checks_show : ChecksShowAtPars
checks_show = record {
  args = λ text scan. args_at (drop scan.at text) scan scan.present;
  work = λ text scan. work_at (drop scan.at text) scan scan.present;
  answer = λ text scan x plain. answer_at (drop scan.at text) scan scan.present x plain;
}
