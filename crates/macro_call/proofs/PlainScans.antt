-- What plain scanners answer.
use Rattle.std.proofs.Common.{◌≡◌, List, [], ◌∷◌, drop, Option, None, Some, refl, sym}
use Rattle.tex_defs.specs.declared.Token.{Token}
use Rattle.tex_defs.specs.declared.Token.TheVariants.{Char, Named, Marked, Place, Number, EndPlaces}
use Rattle.plain_tokens.specs.declared.par_mode.ParMode.{ParMode}
use Rattle.plain_tokens.specs.declared.par_mode.ParMode.TheVariants.{Checked}
use Rattle.plain_tokens.specs.Arguments.{start_of, places_of, Fed, Cut, Noted, call, gathering}
use Rattle.macro_call.specs.Stages.{Stage}
use Rattle.macro_call.specs.PlainScans.{Scan, ScansGather, first_scan, cut_scan, noted_scan, resume_scan, resume_at, places_behind}
use Rattle.macro_call.proofs.ArgumentRuns.{arguments_behind}

pub first_gathers : (text : List Token) (mode : ParMode) (fed : List Fed) → resume_scan text (first_scan text mode) fed ≡ gathering text mode fed
first_gathers [] mode fed = refl
first_gathers (Place c ∷ xs) mode fed = sym (arguments_behind mode [] (places_behind [] xs) (start_of xs) fed)
first_gathers (EndPlaces ∷ xs) mode fed = refl
first_gathers (Char a b ∷ xs) mode fed = refl
first_gathers (Named n ∷ xs) mode fed = refl
first_gathers (Marked n ∷ xs) mode fed = refl
first_gathers (Number n ∷ xs) mode fed = refl

cut_call : (mode : ParMode) (start : List Token) (places : List (List Token)) (fed : List Fed) → call mode start places (Cut ∷ fed) ≡ call Checked start places fed
cut_call mode [] [] fed = refl
cut_call mode [] (ds ∷ places) fed = refl
cut_call mode (d ∷ ds) places fed = refl

note_call : (mode : ParMode) (start : List Token) (places : List (List Token)) (fed : List Fed) → call mode start places (Noted ∷ fed) ≡ call mode start places fed
note_call mode [] [] fed = refl
note_call mode [] (ds ∷ places) fed = refl
note_call mode (d ∷ ds) places fed = refl

cut_at : (rest : List Token) (scan : Scan) (o : Option Stage) (fed : List Fed) → resume_at rest scan o (Cut ∷ fed) ≡ resume_at rest (cut_scan scan) o fed
cut_at rest scan None fed = cut_call scan.mode (start_of rest) (places_of rest) fed
cut_at rest scan (Some s) fed = refl

note_at : (rest : List Token) (scan : Scan) (o : Option Stage) (fed : List Fed) → resume_at rest scan o (Noted ∷ fed) ≡ resume_at rest (noted_scan scan) o fed
note_at rest scan None fed = note_call scan.mode (start_of rest) (places_of rest) fed
note_at rest scan (Some s) fed = refl

pub scans_gather : ScansGather
scans_gather = record {
  first = first_gathers;
  cut = λ text scan fed. cut_at (drop scan.at text) scan scan.present fed;
  noted = λ text scan fed. note_at (drop scan.at text) scan scan.present fed;
}
