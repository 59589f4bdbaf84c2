-- Behind a note no reading reports at once, nor has it a name relaxed, but a dimension, and glue, of which the number of reports falls.
use Rattle.std.proofs.Common.{◌≡◌, ◌≤◌, ◌-◌, ℕ, Bool, true, false, List, [], ◌∷◌, ◌++◌, refl, sym, subst, arith}
use Rattle.tex_defs.specs.declared.Name.{Name}
use Rattle.tex_defs.specs.declared.Token.{Token}
use Rattle.plain_tokens.specs.Arguments as call
use Rattle.plain_tokens.specs.Arguments.{start_of, places_of, mode_of}
use Rattle.plain_state.specs.Definitions as build
use Rattle.tex_syntax.specs.declared.words.Want.TheVariants.{Nonblank}
use Rattle.rows.specs.declared.words.Phrase.TheVariants.{Command, Integer, Factor, Dimension, Glue, Keyword, Text, Definition}
use Rattle.rows.specs.declared.stage.Note.{Note}
use Rattle.rows.specs.Laws.{is_noted}
use Rattle.rows.specs.Readings.{Fed, Tok, Val, Noted, Fetched, Verbatim, Cut, Ask, Relaxes}
use Rattle.rows.specs.Commands.{command_ask}
use Rattle.rows.specs.Run.{due}
use Rattle.rows.proofs.Runs.{row_holds}
use Rattle.plain_readings.specs.Integers.{number_ask}
use Rattle.plain_readings.specs.Lists.{build_ask, build_fed, manner, text, definition}
use Rattle.plain_readings.specs.Calls.{call_ask, call_fed, gathered}
use Rattle.plain_readings.specs.Keywords.{keyword_ask}
use Rattle.plain_readings.specs.Readings.{Kind, Reads, Spelling, FileName, Behind, Skips, Arguments, ask}
use Rattle.plain_readings.specs.Laws.{reports_due, GivesValue, IsSingle}
use Rattle.plain_readings.proofs.Quiet as quiet
use Rattle.plain_readings.proofs.Quiet.{parameters_quiet, first_quiet}
use Rattle.plain_readings.proofs.Extra as extra
use Rattle.plain_readings.proofs.Extra.{call_quiet}
use Rattle.plain_readings.proofs.Steps.{integer_holds, spelling_holds, naming_holds, skipping_holds}
use Rattle.plain_readings.proofs.Keywords.{keyword_holds}
use Rattle.plain_readings.proofs.Values.{values}
use Rattle.plain_readings.proofs.Factors.{factor_reports}
use Rattle.plain_readings.proofs.Measuring.{dimension_reports, glue_reports}

-- how many reports may come at once, and names be relaxed
abbrev pub notes_due : Ask → ℕ
notes_due (Relaxes c n) = 1
notes_due a = reports_due a

pub reports_too : (a : Ask) → notes_due a ≡ 0 → reports_due a ≡ 0
reports_too (Relaxes c n) h = refl
reports_too a h = h

-- nothing is due where a note came last
abbrev IsQuiet : Bool → Ask → Type 0
IsQuiet true a = notes_due a ≡ 0
IsQuiet false a = Unit {0}

told_last : (b : Bool) (fed : List Fed) → is_noted b (fed ++ Noted ∷ []) ≡ true
told_last b [] = refl
told_last b (Noted ∷ fed) = told_last true fed
told_last b (Tok x ∷ fed) = told_last false fed
told_last b (Val v ts ∷ fed) = told_last false fed
told_last b (Fetched v ∷ fed) = told_last false fed
told_last b (Verbatim t ∷ fed) = told_last false fed
told_last b (Cut ∷ fed) = told_last false fed

quiet_last : (a : Ask) (b : Bool) (fed : List Fed) → IsQuiet (is_noted b (fed ++ Noted ∷ [])) a → notes_due a ≡ 0
quiet_last a b fed h = subst (λ (t : Bool). IsQuiet t a) (told_last b fed) h

any : (b : Bool) (a : Ask) → notes_due a ≡ 0 → IsQuiet b a
any true a h = h
any false a h = tt

due_quiet : (n : Note) → IsQuiet false (command_ask (due n))
due_quiet n = tt

build_last : (fed : List Fed) → build_fed (fed ++ Noted ∷ []) ≡ quiet.noted (build_fed fed)
build_last [] = refl
build_last (Tok x ∷ fed) = rw (build_last fed) refl
build_last (Noted ∷ fed) = rw (build_last fed) refl
build_last (Verbatim t ∷ fed) = rw (build_last fed) refl
build_last (Val v ts ∷ fed) = build_last fed
build_last (Fetched v ∷ fed) = build_last fed
build_last (Cut ∷ fed) = build_last fed

call_last : (fed : List Fed) → call_fed (fed ++ Noted ∷ []) ≡ extra.noted (call_fed fed)
call_last [] = refl
call_last (Tok x ∷ fed) = rw (call_last fed) refl
call_last (Noted ∷ fed) = rw (call_last fed) refl
call_last (Cut ∷ fed) = rw (call_last fed) refl
call_last (Val v ts ∷ fed) = call_last fed
call_last (Fetched v ∷ fed) = call_last fed
call_last (Verbatim t ∷ fed) = call_last fed

build_quiet : (a : build.Answer) → quiet.IsQuiet a → notes_due (build_ask a) ≡ 0
build_quiet (build.More want list) h = refl
build_quiet (build.Tells report back list) h = absurd h
build_quiet (build.Done list) h = refl

ask_quiet : (name : Name) (a : call.Answer) → extra.IsQuiet a → notes_due (call_ask name a) ≡ 0
ask_quiet name (call.More args work) h = refl
ask_quiet name (call.ExtraBraceFound args work) h = absurd h
ask_quiet name (call.Called args) h = refl
ask_quiet name call.Mismatch h = refl
ask_quiet name (call.Ended true args work) h = refl
ask_quiet name (call.Ended false args work) h = refl

arguments_quiet : (name : Name) (long : Bool) (number : ℕ) (ts : List Token) (fed : List Fed) → notes_due (ask (Arguments name long number ts) (fed ++ Noted ∷ [])) ≡ 0
arguments_quiet name long number ts [] = ask_quiet name (gathered long ts (Noted ∷ [])) (call_quiet (mode_of long) (start_of ts) (places_of ts) [])
arguments_quiet name long number ts (y ∷ fed) =
    ask_quiet name (gathered long ts ((y ∷ fed) ++ Noted ∷ []))
    (subst (λ (fed : List call.Fed). extra.IsQuiet (call.call (mode_of long) (start_of ts) (places_of ts) fed)) (sym (call_last (y ∷ fed)))
    (call_quiet (mode_of long) (start_of ts) (places_of ts) (call_fed (y ∷ fed))))

-- a factor puts nothing in front, and relaxes no name
factor_quiet : (a : Ask) → GivesValue Factor [] a → reports_due a ≡ 0 → notes_due a ≡ 0
factor_quiet (Relaxes c n) v h = absurd v
factor_quiet a v h = h

integer_quiet : (fed : List Fed) → notes_due (ask (Reads Integer) (fed ++ Noted ∷ [])) ≡ 0
integer_quiet fed =
    quiet_last (ask (Reads Integer) (fed ++ Noted ∷ [])) false fed
    (integer_holds (λ b a. IsQuiet b (number_ask a)) (λ b want plain. any b _ refl) (λ report back. tt) (λ b n back. any b _ refl) (λ b. any b _ refl) (λ b l. any b _ refl) false false (fed ++ Noted ∷ []))

pub told_quiet : (k : Kind) (fed : List Fed) → IsSingle k → notes_due (ask k (fed ++ Noted ∷ [])) ≡ 0
told_quiet (Reads (Command c)) fed h =
    quiet_last (ask (Reads (Command c)) (fed ++ Noted ∷ [])) false fed
    (row_holds (λ b a. IsQuiet b (command_ask a)) (λ b want. any b _ refl) (λ b k begins low. any b _ refl) (λ b c e. any b _ refl) (λ b c e ts. any b _ refl) (λ b c n ts. any b _ refl) (λ b. any b _ refl) due_quiet c
    (fed ++ Noted ∷ []))
told_quiet (Reads Integer) fed h = integer_quiet fed
told_quiet (Reads Factor) fed h =
    factor_quiet (ask (Reads Factor) (fed ++ Noted ∷ [])) (values (Reads Factor) (fed ++ Noted ∷ []))
    (rw (factor_reports (fed ++ Noted ∷ [])) (reports_too (ask (Reads Integer) (fed ++ Noted ∷ [])) (integer_quiet fed)))
told_quiet (Reads (Dimension k)) fed h = absurd h
told_quiet (Reads (Glue mu)) fed h = absurd h
told_quiet (Reads (Keyword w)) fed h =
    quiet_last (ask (Reads (Keyword w)) (fed ++ Noted ∷ [])) false fed
    (keyword_holds (λ b a. IsQuiet b (keyword_ask a)) (λ b want plain. any b _ refl) (λ b found. any b _ refl) (λ b t n few. any b _ refl) w false (fed ++ Noted ∷ []))
told_quiet (Reads (Text name expanded)) fed h =
    build_quiet (text name expanded (fed ++ Noted ∷ []))
    (subst (λ (fed : List build.Fed). quiet.IsQuiet (build.text (manner name expanded) fed)) (sym (build_last fed)) (first_quiet (manner name expanded) [] (build_fed fed)))
told_quiet (Reads (Definition name expanded)) fed h =
    build_quiet (definition name expanded (fed ++ Noted ∷ []))
    (subst (λ (fed : List build.Fed). quiet.IsQuiet (build.definition (manner name expanded) fed)) (sym (build_last fed)) (parameters_quiet (manner name expanded) 0 [] (build_fed fed)))
told_quiet (Spelling c) fed h =
    quiet_last (ask (Spelling c) (fed ++ Noted ∷ [])) false fed
    (spelling_holds IsQuiet (λ b want plain. any b _ refl) (λ report back. tt) (λ b. any b _ refl) (λ b c ts. any b _ refl) c [] false (fed ++ Noted ∷ []))
told_quiet (FileName c) fed h =
    quiet_last (ask (FileName c) (fed ++ Noted ∷ [])) false fed
    (naming_holds IsQuiet (λ b want plain. any b _ refl) (λ report back. tt) (λ b. any b _ refl) (λ b c back ts. any b _ refl) c Nonblank tt [] false (fed ++ Noted ∷ []))
told_quiet (Behind c x) fed h = refl
told_quiet (Skips c aim line) fed h =
    quiet_last (ask (Skips c aim line) (fed ++ Noted ∷ [])) false fed
    (skipping_holds IsQuiet (λ b want plain. any b _ refl) (λ report back. tt) (λ b. any b _ refl) (λ b d to e. any b _ refl) c aim 0 false (fed ++ Noted ∷ []))
told_quiet (Arguments name long number ts) fed h = arguments_quiet name long number ts fed

pub single : (k : Kind) (fed : List Fed) → IsSingle k → reports_due (ask k (fed ++ Noted ∷ [])) ≡ 0
single k fed h = reports_too (ask k (fed ++ Noted ∷ [])) (told_quiet k fed h)

single_notes : (k : Kind) (fed : List Fed) → IsSingle k → reports_due (ask k (fed ++ Noted ∷ [])) ≤ reports_due (ask k fed) - 1
single_notes k fed h = omega (arith, single k fed h)

pub notes : (k : Kind) (fed : List Fed) → reports_due (ask k (fed ++ Noted ∷ [])) ≤ reports_due (ask k fed) - 1
notes (Reads (Dimension k)) fed = dimension_reports k fed
notes (Reads (Glue mu)) fed = glue_reports mu fed
notes k fed = single_notes k fed tt
