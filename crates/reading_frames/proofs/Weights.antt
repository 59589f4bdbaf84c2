-- The weights of frames, by what they ask for.
use Rattle.std.proofs.Common.{◌≡◌, ◌≤◌, ◌<◌, ℕ, ◌+◌, Bool, true, false, List, [], ◌∷◌, Option, Some, arith, refl, sym, subst, ap, ◌∙◌}
use Rattle.tex_defs.specs.declared.Token.{Token}
use Rattle.tex_defs.specs.declared.Token.TheVariants.{EndPlaces}
use Rattle.tex_syntax.specs.declared.words.Manner.{Manner}
use Rattle.tex_syntax.specs.declared.words.Report.{Report}
use Rattle.tex_syntax.specs.declared.words.Report.TheVariants.{MissingNumber, IncompatibleUnits, BadCharacterCode, BadRegisterCode}
use Rattle.list_builder.specs.declared.stage.Stage.{Stage}
use Rattle.list_builder.specs.declared.stage.Stage.TheVariants as stage
use Rattle.list_builder.specs.Stages as stages
use Rattle.plain_state.specs.Definitions as build
use Rattle.rows.specs.declared.words.Value.{Value}
use Rattle.rows.specs.declared.command.Head.{Head}
use Rattle.rows.specs.declared.stage.Note.{Note}
use Rattle.rows.specs.declared.stage.Note.TheVariants as note
use Rattle.rows.specs.Run.{due}
use Rattle.rows.specs.Run.{row as row_asked}
use Rattle.equivalents.specs.declared.values.Loc.{Loc}
use Rattle.tex_defs.specs.declared.Seen.{Seen}
use Rattle.rows.specs.Commands.{CommandAsk, command_ask}
use Rattle.equivalents.specs.Locations.{SeenValue}
use Rattle.rows.specs.Readings.{Fed, Tok, Val, Noted, Fetched, Ask, Inner, Fetches}
use Rattle.row_frames.specs.declared.frame.RowFrame.{RowFrame}
use Rattle.row_frames.specs.Resumes as row
use Rattle.plain_readings.specs.Readings.{Reads}
use Rattle.plain_readings.specs.Lists.{build_ask}
use Rattle.plain_readings.specs.Laws.{after}
use Rattle.plain_readings.specs.Dimens as dimens
use Rattle.plain_readings.specs.declared.asks.DimenAsk.{DimenAsk}
use Rattle.plain_readings.specs.Glues as glues
use Rattle.plain_readings.specs.declared.asks.GlueAsk.{GlueAsk}
use Rattle.plain_readings.specs.declared.asks.NumberAsk.{NumberAsk}
use Rattle.plain_readings.specs.declared.asks.FactorAsk.{FactorAsk}
use Rattle.plain_readings.specs.declared.asks.KeywordAsk.{KeywordAsk}
use Rattle.plain_readings.specs.Integers.{number_ask}
use Rattle.plain_readings.specs.Factors.{factor_ask}
use Rattle.plain_readings.specs.Keywords.{keyword_ask}
use Rattle.plain_readings.specs.Measures.{dimen_ask, dimen_value, glue_ask, glue_value}
use Rattle.plain_readings.specs.Weights.{value_frame, act_frame, value_weight, act_weight, behind_weight, fetching_behind, ask_weight, IsNoted}
use Rattle.conditionals.specs.declared.choice.Aim.{Aim}
use Rattle.plain_readings.proofs.Weights.{effect_light, note_heavy, begins_light}
use Rattle.scan_dimens.specs.Resumes as keyword
use Rattle.scan_dimens.specs.declared.keyword.KeywordScan.{KeywordScan}
use Rattle.scan_dimens.specs.DimenResumes as dimen
use Rattle.scan_dimens.specs.declared.dimen.DimenScan.{DimenScan}
use Rattle.scan_glue.specs.GlueResumes as glue
use Rattle.scan_glue.specs.declared.glue.GlueScan.{GlueScan}
use Rattle.scan_numbers.specs.Resumes as number
use Rattle.scan_numbers.specs.FactorResumes as factor
use Rattle.scan_numbers.specs.declared.number.NumberScan.{NumberScan}
use Rattle.scan_numbers.specs.declared.factor.FactorScan.{FactorScan}
use Rattle.reading_frames.specs.Views.{Lists, has_no_token}
use Rattle.reading_frames.specs.Resumes.{resume, resume_command, name_at, file_at, skip_at, resume_build, build_at}
use Rattle.reading_frames.specs.Stack.{asks_in, frames_of}
use Rattle.reading_frames.specs.Weights.{frame_end, own_weight, asks_weight, innermost_weight, begun_weight, fed_weight, IsReported, IsEnd}
use Rattle.reading_frames.specs.declared.ask.Opening.{Opening}
use Rattle.reading_frames.specs.declared.ask.Opening.TheVariants as opening
use Rattle.rows.specs.declared.command.Call.{Call}
use Rattle.rows.specs.declared.words.Phrase.{Phrase}
use Rattle.rows.specs.declared.words.Phrase.TheVariants as phrase
use Rattle.reading_frames.specs.declared.command.CommandScan.{CommandScan}
use Rattle.reading_frames.specs.declared.command.CommandScan.TheVariants as command
use Rattle.reading_frames.specs.declared.spelling.SpellPlace.{SpellPlace}
use Rattle.reading_frames.specs.declared.spelling.SpellPlace.TheVariants as spell
use Rattle.reading_frames.specs.declared.skip.SkipPlace.{SkipPlace}
use Rattle.reading_frames.specs.declared.skip.SkipPlace.TheVariants as skip
use Rattle.reading_frames.specs.declared.file_name.FilePlace.{FilePlace}
use Rattle.reading_frames.specs.declared.file_name.FilePlace.TheVariants as file
use Rattle.reading_frames.specs.declared.text.BuildPlace.{BuildPlace}
use Rattle.reading_frames.specs.declared.text.BuildPlace.TheVariants as at
use Rattle.reading_frames.specs.declared.text.BuildScan.{BuildScan}
use Rattle.reading_frames.specs.declared.frame.Frame.{Frame}
use Rattle.reading_frames.specs.declared.frame.Frame.TheVariants.{Command, Integer, Factor, Dimension, Glue, Keyword, Build, Spelling, FileName, Behind, Skips, Call as Called}
use Rattle.reading_frames.proofs.Rows.{noted_holds, value_holds}
use Rattle.reading_frames.proofs.Asking.{frame_asks}
use Rattle.reading_frames.proofs.Keywords.{keyword_light, keyword_small, keyword_noted, keyword_unfetched, keyword_unended}
use Rattle.reading_frames.proofs.Integers.{integer_light, integer_fed, integer_noted, integer_fetched, integer_unended}
use Rattle.reading_frames.proofs.Factors.{factor_light, factor_fed, factor_noted, factor_fetched, factor_unended}
use Rattle.reading_frames.proofs.Dimens.{dimension_light, dimension_noted, dimension_fetched, dimension_valued, dimension_unended}
use Rattle.reading_frames.proofs.Glues.{glue_light, glue_noted, glue_fetched, glue_valued, glue_unended}

-- a report, by what may follow it
report_light : (report : Report) → after report + fetching_behind report ≤ 3
report_light MissingNumber = omega arith
report_light IncompatibleUnits = omega arith
report_light (BadCharacterCode n) = omega arith
report_light (BadRegisterCode n) = omega arith
report_light report = omega arith

-- COMMANDS

abbrev pub command_weight : CommandAsk → ℕ
command_weight a = ask_weight behind_weight (command_ask a)

row_noted : (f : RowFrame) → command_weight (row.resume f (Noted ∷ [])) ≤ behind_weight
row_noted f =
    noted_holds (λ (a : CommandAsk). command_weight a ≤ behind_weight) (λ want. omega arith) (λ k. omega arith) (λ c e. effect_light e) (λ c e ts. omega arith) (λ c n ts. omega arith)
    (omega arith) f

row_valued : (f : RowFrame) (v : Value) (ts : List Token) → command_weight (row.resume f (Val v ts ∷ [])) ≤ 64
row_valued f v ts =
    value_holds (λ (a : CommandAsk). command_weight a ≤ 64) (λ want. omega arith) (λ k. omega arith) (λ c e. omega (arith, effect_light e)) (λ c e ts. omega arith)
    (λ c n ts. omega arith) (omega arith) (λ report. omega (arith, report_light report)) v ts f

pub command_noted : (s : CommandScan) → IsNoted (command_ask (resume_command s [] [])) → command_weight (resume_command s [] (Noted ∷ [])) < command_weight (resume_command s [] [])
command_noted (command.Reads f) h = omega (arith, row_noted f, note_heavy behind_weight (command_ask (row.resume f [])) h)
command_noted (command.Acts c e) h = absurd h
command_noted (command.ActsOn c e b) h = absurd h
command_noted (command.Defines c n b) h = absurd h
command_noted command.Ended h = absurd h

command_valued : (s : CommandScan) (v : Value) (ts : List Token) → command_weight (resume_command s [] (Val v ts ∷ [])) ≤ 64
command_valued (command.Reads f) v ts = row_valued f v ts
command_valued (command.Acts c e) v ts = omega (arith, effect_light e)
command_valued (command.ActsOn c e b) v ts = omega arith
command_valued (command.Defines c n b) v ts = omega arith
command_valued command.Ended v ts = omega arith

command_same : (s : CommandScan) (held : Lists) → command_weight (resume_command s held []) ≡ command_weight (resume_command s [] [])
command_same (command.Reads f) held = refl
command_same (command.Acts c e) held = refl
command_same (command.ActsOn c e b) held = refl
command_same (command.Defines c n b) held = refl
command_same command.Ended held = refl

-- a list that has a token or not
abbrev pub sample : (is_empty : Bool) → List Token
sample true = []
sample false = EndPlaces ∷ []

pub sampled : (is_empty : Bool) → is_empty ≡ has_no_token (sample is_empty)
sampled true = refl
sampled false = refl

pub command_light : (s : CommandScan) (v : Value) (b : Bool) (new : CommandScan) (held : Lists) → resume_command s [] (Val v (sample b) ∷ []) ≡ resume_command new held [] →
    command_weight (resume_command new [] []) < value_frame + value_weight
command_light s v b new held e =
    let same : command_weight (resume_command s [] (Val v (sample b) ∷ [])) ≡ command_weight (resume_command new [] []) =
    ap (λ (a : CommandAsk). command_weight a) e ∙ command_same new held in
    omega (arith, same, command_valued s v (sample b))

-- LISTS

stage_at : (m : Manner) (s : Stage) (list : List Token) → ask_weight value_weight (build_ask (stages.resume m s list [])) ≤ 59
stage_at m stage.First list = omega arith
stage_at m stage.FirstMissing list = omega arith
stage_at m (stage.Parameters count) list = omega arith
stage_at m (stage.Place count character) list = omega arith
stage_at m (stage.Misnumbered count character) list = omega arith
stage_at m (stage.Tenth count) list = omega arith
stage_at m stage.BodyMissing list = omega arith
stage_at m (stage.InBody b depth) list = omega arith
stage_at m (stage.Reference b depth character) list = omega arith
stage_at m (stage.Illegal b depth character) list = omega arith

build_at_light : (m : Manner) (p : BuildPlace) (list : List Token) → ask_weight value_weight (build_ask (build_at m p list [])) ≤ 59
build_at_light m (at.At s) list = stage_at m s list
build_at_light m at.Whole list = omega arith

stage_same : (m : Manner) (s : Stage) (list : List Token) → ask_weight value_weight (build_ask (stages.resume m s list [])) ≡ ask_weight value_weight (build_ask (stages.resume m s [] []))
stage_same m stage.First list = refl
stage_same m stage.FirstMissing list = refl
stage_same m (stage.Parameters count) list = refl
stage_same m (stage.Place count character) list = refl
stage_same m (stage.Misnumbered count character) list = refl
stage_same m (stage.Tenth count) list = refl
stage_same m stage.BodyMissing list = refl
stage_same m (stage.InBody b depth) list = refl
stage_same m (stage.Reference b depth character) list = refl
stage_same m (stage.Illegal b depth character) list = refl

build_same : (m : Manner) (p : BuildPlace) (list : List Token) → ask_weight value_weight (build_ask (build_at m p list [])) ≡ ask_weight value_weight (build_ask (build_at m p [] []))
build_same m (at.At s) list = stage_same m s list
build_same m at.Whole list = refl

stage_noted : (m : Manner) (s : Stage) → IsNoted (build_ask (stages.resume m s [] [])) →
    ask_weight value_weight (build_ask (stages.resume m s [] (build.Noted ∷ []))) < ask_weight value_weight (build_ask (stages.resume m s [] []))
stage_noted m stage.First h = absurd h
stage_noted m stage.FirstMissing h = omega arith
stage_noted m (stage.Parameters count) h = absurd h
stage_noted m (stage.Place count character) h = absurd h
stage_noted m (stage.Misnumbered count character) h = omega arith
stage_noted m (stage.Tenth count) h = omega arith
stage_noted m stage.BodyMissing h = omega arith
stage_noted m (stage.InBody b depth) h = absurd h
stage_noted m (stage.Reference b depth character) h = absurd h
stage_noted m (stage.Illegal b depth character) h = omega arith

build_noted_at : (m : Manner) (p : BuildPlace) → IsNoted (build_ask (build_at m p [] [])) →
    ask_weight value_weight (build_ask (build_at m p [] (Noted ∷ []))) < ask_weight value_weight (build_ask (build_at m p [] []))
build_noted_at m (at.At s) h = stage_noted m s h
build_noted_at m at.Whole h = absurd h

pub build_noted : (s new : BuildScan) (list : List Token) → resume_build s [] (Noted ∷ []) ≡ resume_build new list [] → IsNoted (build_ask (resume_build s [] [])) →
    ask_weight value_weight (build_ask (resume_build new [] [])) < ask_weight value_weight (build_ask (resume_build s [] []))
build_noted s new list e h =
    let same : ask_weight value_weight (build_ask (resume_build s [] (Noted ∷ []))) ≡ ask_weight value_weight (build_ask (resume_build new [] [])) =
    ap (λ a. ask_weight value_weight (build_ask a)) e ∙ build_same new.manner new.place list in
    omega (arith, same, build_noted_at s.manner s.place h)

-- `\csname`

name_light_at : (c : Call) (p : SpellPlace) → command_weight (name_at c p [] []) ≤ 61
name_light_at c spell.Inside = omega arith
name_light_at c spell.NoEnd = omega arith
name_light_at c spell.Whole = omega arith
name_light_at c spell.Stopped = omega arith

-- `\input`

file_light_at : (c : Call) (p : FilePlace) → command_weight (file_at c p [] []) ≤ 61
file_light_at c file.Before = omega arith
file_light_at c file.Inside = omega arith
file_light_at c (file.Whole back) = omega arith
file_light_at c file.Stopped = omega arith

-- skipped text

skip_light_at : (c : Call) (aim : Aim) (p : SkipPlace) → command_weight (skip_at c aim p []) ≤ 61
skip_light_at c aim (skip.Inside s) = omega arith
skip_light_at c aim (skip.Whole e) = omega arith
skip_light_at c aim skip.Stopped = omega arith

-- ALL

inner_light : (k : Phrase) (begins : Bool) → ask_weight behind_weight (Inner k begins) ≤ 92
inner_light k false = omega arith
inner_light (phrase.Dimension k) true = omega arith
inner_light (phrase.Glue mu) true = omega arith
inner_light k true = omega arith

due_light : (n : Note) → command_weight (due n) ≤ 92
due_light (note.Tells report back) = omega (arith, report_light report)
due_light (note.Inserts t report back) = omega (arith, report_light report)
due_light (note.Relaxes c n) = omega arith

command_most : (s : CommandScan) → command_weight (resume_command s [] []) ≤ 92
command_most (command.Reads f) = frame_asks (λ (a : CommandAsk). command_weight a ≤ 92) (λ want. omega arith) inner_light (λ c e. omega (arith, effect_light e)) due_light f
command_most (command.Acts c e) = omega (arith, effect_light e)
command_most (command.ActsOn c e b) = omega arith
command_most (command.Defines c n b) = omega arith
command_most command.Ended = omega arith

pub all_light : (f : Frame) → asks_weight f ≤ 92
all_light (Command s h) = command_most s
all_light (Integer s) = omega (arith, integer_light s)
all_light (Factor s) = omega (arith, factor_light s)
all_light (Dimension s) = omega (arith, dimension_light s)
all_light (Glue s) = omega (arith, glue_light s)
all_light (Keyword s) = omega (arith, keyword_small s)
all_light (Build s) = omega (arith, build_at_light s.manner s.place [])
all_light (Spelling s) = omega (arith, name_light_at s.call s.place)
all_light (FileName s) = omega (arith, file_light_at s.call s.place)
all_light (Behind c x) = omega arith
all_light (Skips s) = omega (arith, skip_light_at s.call s.aim s.place)
all_light (Called name) = omega arith

pub small : (fs : List Frame) → innermost_weight fs < act_frame + act_weight
small [] = omega arith
small (f ∷ fs) = omega (arith, all_light f)

-- the innermost, whichever frames lie beneath it
pub innermost_falls : (fs : List Frame) (o : Option Frame) (f new : Frame) (beneath : List Frame) → fs ≡ frames_of o beneath → Some f ≡ o → (IsNoted (resume f [] []) → asks_weight new < asks_weight f) →
    IsReported (asks_in fs []) → asks_weight new < innermost_weight fs
innermost_falls fs o f new beneath is begun falls =
    subst (λ (gs : List Frame). IsReported (asks_in gs []) → asks_weight new < innermost_weight gs) (ap (λ (p : Option Frame). frames_of p beneath) begun ∙ sym is) falls

-- BEHIND A VALUE

pub keyword_valued : (s : KeywordScan) → asks_weight (Keyword s) < value_frame + value_weight
keyword_valued s = omega (arith, keyword_small s)

pub integer_valued : (s : NumberScan) → asks_weight (Integer s) < value_frame + value_weight
integer_valued s = omega (arith, integer_light s)

pub factor_valued : (s : FactorScan) → asks_weight (Factor s) < value_frame + value_weight
factor_valued s = omega (arith, factor_light s)

pub measured : (s new : DimenScan) (v : Value) → ((fed : List dimens.Fed) → dimen.resume s (dimen_value v ∷ fed) ≡ dimen.resume new fed) → asks_weight (Dimension new) < value_frame + value_weight
measured s new v e =
    let same = ap (λ (a : DimenAsk). ask_weight value_weight (dimen_ask a)) (e []) in
    omega (arith, same, dimension_valued s v)

pub glued : (s new : GlueScan) (v : Value) → ((fed : List glues.Fed) → glue.resume s (glue_value v ∷ fed) ≡ glue.resume new fed) → asks_weight (Glue new) < value_frame + value_weight
glued s new v e =
    let same = ap (λ (a : GlueAsk). ask_weight value_weight (glue_ask a)) (e []) in
    omega (arith, same, glue_valued s v)

-- BEHIND A TOKEN

-- a frame of another kind than integers, factors and keywords never weighs more
most_fed : (f : Frame) → fed_weight f ≡ 92 → (new : Frame) → asks_weight new ≤ fed_weight f
most_fed f e new = omega (arith, e, all_light new)

pub command_fed : (f : Frame) (s : CommandScan) (h : Head) (new : Frame) → f ≡ Command s h → asks_weight new ≤ fed_weight f
command_fed f s h new is = most_fed f (ap fed_weight is) new

pub number_fed : (f : Frame) (s new : NumberScan) (x : Seen) → f ≡ Integer s → ((fed : List Fed) → number.resume s (Tok x ∷ fed) ≡ number.resume new fed) → asks_weight (Integer new) ≤ fed_weight f
number_fed f s new x is e =
    let same = ap (λ (a : NumberAsk). ask_weight value_weight (number_ask a)) (e []) in
    let most = ap fed_weight is in
    omega (arith, same, most, integer_fed s x)

pub fraction_fed : (f : Frame) (s new : FactorScan) (x : Seen) → f ≡ Factor s → ((fed : List Fed) → factor.resume_factor s (Tok x ∷ fed) ≡ factor.resume_factor new fed) → asks_weight (Factor new) ≤ fed_weight f
fraction_fed f s new x is e =
    let same = ap (λ (a : FactorAsk). ask_weight value_weight (factor_ask a)) (e []) in
    let most = ap fed_weight is in
    omega (arith, same, most, factor_fed s x)

pub dimension_fed : (f : Frame) (s new : DimenScan) → f ≡ Dimension s → asks_weight (Dimension new) ≤ fed_weight f
dimension_fed f s new is = omega (arith, ap fed_weight is, dimension_light new)

pub glue_fed : (f : Frame) (s new : GlueScan) → f ≡ Glue s → asks_weight (Glue new) ≤ fed_weight f
glue_fed f s new is = omega (arith, ap fed_weight is, glue_light new)

pub keyword_fed : (f : Frame) (s new : KeywordScan) → f ≡ Keyword s → keyword.kept_in new ≤ keyword.kept_in s + 1 → asks_weight (Keyword new) ≤ fed_weight f
keyword_fed f s new is more = omega (arith, ap fed_weight is, more, keyword_light new)

-- BEHIND A NOTE a frame that reported weighs less.

pub command_falls : (f : Frame) (s new : CommandScan) (p : Head) → f ≡ Command s p → resume_command s [] (Noted ∷ []) ≡ resume_command new [] [] → IsNoted (resume f [] []) →
    asks_weight (Command new p) < asks_weight f
command_falls f s new p is e =
    subst (λ (g : Frame). IsNoted (resume g [] []) → asks_weight (Command new p) < asks_weight g) (sym is)
    (λ (h : IsNoted (command_ask (resume_command s [] []))).
    let same : command_weight (resume_command s [] (Noted ∷ [])) ≡ command_weight (resume_command new [] []) = ap (λ (a : CommandAsk). command_weight a) e in
    omega (arith, same, command_noted s h))

pub keyword_falls : (f : Frame) (s new : KeywordScan) → f ≡ Keyword s → ((fed : List Fed) → keyword.resume s (Noted ∷ fed) ≡ keyword.resume new fed) → IsNoted (resume f [] []) →
    asks_weight (Keyword new) < asks_weight f
keyword_falls f s new is e =
    subst (λ (g : Frame). IsNoted (resume g [] []) → asks_weight (Keyword new) < asks_weight g) (sym is)
    (λ (h : IsNoted (keyword_ask (keyword.resume s []))). let same = ap (λ (a : KeywordAsk). ask_weight value_weight (keyword_ask a)) (e []) in omega (arith, same, keyword_noted s h))

pub number_falls : (f : Frame) (s new : NumberScan) → f ≡ Integer s → ((fed : List Fed) → number.resume s (Noted ∷ fed) ≡ number.resume new fed) → IsNoted (resume f [] []) →
    asks_weight (Integer new) < asks_weight f
number_falls f s new is e =
    subst (λ (g : Frame). IsNoted (resume g [] []) → asks_weight (Integer new) < asks_weight g) (sym is)
    (λ (h : IsNoted (number_ask (number.resume s []))). let same = ap (λ (a : NumberAsk). ask_weight value_weight (number_ask a)) (e []) in omega (arith, same, integer_noted s h))

pub fraction_falls : (f : Frame) (s new : FactorScan) → f ≡ Factor s → ((fed : List Fed) → factor.resume_factor s (Noted ∷ fed) ≡ factor.resume_factor new fed) → IsNoted (resume f [] []) →
    asks_weight (Factor new) < asks_weight f
fraction_falls f s new is e =
    subst (λ (g : Frame). IsNoted (resume g [] []) → asks_weight (Factor new) < asks_weight g) (sym is)
    (λ (h : IsNoted (factor_ask (factor.resume_factor s []))). let same = ap (λ (a : FactorAsk). ask_weight value_weight (factor_ask a)) (e []) in omega (arith, same, factor_noted s h))

pub dimension_falls : (f : Frame) (s new : DimenScan) → f ≡ Dimension s → ((fed : List dimens.Fed) → dimen.resume s (dimens.Noted ∷ fed) ≡ dimen.resume new fed) → IsNoted (resume f [] []) →
    asks_weight (Dimension new) < asks_weight f
dimension_falls f s new is e =
    subst (λ (g : Frame). IsNoted (resume g [] []) → asks_weight (Dimension new) < asks_weight g) (sym is)
    (λ (h : IsNoted (dimen_ask (dimen.resume s []))). let same = ap (λ (a : DimenAsk). ask_weight value_weight (dimen_ask a)) (e []) in omega (arith, same, dimension_noted s h))

pub glue_falls : (f : Frame) (s new : GlueScan) → f ≡ Glue s → ((fed : List glues.Fed) → glue.resume s (glues.Noted ∷ fed) ≡ glue.resume new fed) → IsNoted (resume f [] []) →
    asks_weight (Glue new) < asks_weight f
glue_falls f s new is e =
    subst (λ (g : Frame). IsNoted (resume g [] []) → asks_weight (Glue new) < asks_weight g) (sym is)
    (λ (h : IsNoted (glue_ask (glue.resume s []))). let same = ap (λ (a : GlueAsk). ask_weight value_weight (glue_ask a)) (e []) in omega (arith, same, glue_noted s h))

-- BEHIND WHAT STANDS AT A LOCATION a frame that asked for it weighs less.

fetches_heavy : (f : Frame) (l : Loc) → value_weight ≡ frame_end f → resume f [] [] ≡ Fetches l → asks_weight f ≡ value_weight + 3
fetches_heavy f l end e = ap (λ (a : Ask). ask_weight (frame_end f) a) e ∙ ap (λ (n : ℕ). n + 3) (sym end)

pub number_fetched : (f : Frame) (s new : NumberScan) (v : SeenValue) → f ≡ Integer s → ((fed : List Fed) → number.resume s (Fetched v ∷ fed) ≡ number.resume new fed) →
    (l : Loc) → resume f [] [] ≡ Fetches l → asks_weight (Integer new) < asks_weight f
number_fetched f s new v is e l asks =
    let same = ap (λ (a : NumberAsk). ask_weight value_weight (number_ask a)) (e []) in
    omega (arith, same, fetches_heavy f l (sym (ap frame_end is)) asks, integer_fetched s v)

pub fraction_fetched : (f : Frame) (s new : FactorScan) (v : SeenValue) → f ≡ Factor s → ((fed : List Fed) → factor.resume_factor s (Fetched v ∷ fed) ≡ factor.resume_factor new fed) →
    (l : Loc) → resume f [] [] ≡ Fetches l → asks_weight (Factor new) < asks_weight f
fraction_fetched f s new v is e l asks =
    let same = ap (λ (a : FactorAsk). ask_weight value_weight (factor_ask a)) (e []) in
    omega (arith, same, fetches_heavy f l (sym (ap frame_end is)) asks, factor_fetched s v)

pub measure_fetched : (f : Frame) (s new : DimenScan) (v : SeenValue) → f ≡ Dimension s → ((fed : List dimens.Fed) → dimen.resume s (dimens.Fetched v ∷ fed) ≡ dimen.resume new fed) →
    (l : Loc) → resume f [] [] ≡ Fetches l → asks_weight (Dimension new) < asks_weight f
measure_fetched f s new v is e l asks =
    let same = ap (λ (a : DimenAsk). ask_weight value_weight (dimen_ask a)) (e []) in
    omega (arith, same, fetches_heavy f l (sym (ap frame_end is)) asks, dimension_fetched s v)

pub skip_fetched : (f : Frame) (s new : GlueScan) (v : SeenValue) → f ≡ Glue s → ((fed : List glues.Fed) → glue.resume s (glues.Fetched v ∷ fed) ≡ glue.resume new fed) →
    (l : Loc) → resume f [] [] ≡ Fetches l → asks_weight (Glue new) < asks_weight f
skip_fetched f s new v is e l asks =
    let same = ap (λ (a : GlueAsk). ask_weight value_weight (glue_ask a)) (e []) in
    omega (arith, same, fetches_heavy f l (sym (ap frame_end is)) asks, glue_fetched s v)

-- a keyword asks for nothing that stands at a location
pub keyword_fetched : (f : Frame) (s new : KeywordScan) → f ≡ Keyword s → (l : Loc) → resume f [] [] ≡ Fetches l → asks_weight (Keyword new) < asks_weight f
keyword_fetched f s new is l e = absurd (keyword_unfetched s l (sym (ap (λ (g : Frame). resume g [] []) is) ∙ e))

pub build_falls : (f : Frame) (s new : BuildScan) (list : List Token) → f ≡ Build s → resume_build s [] (Noted ∷ []) ≡ resume_build new list [] → IsNoted (resume f [] []) →
    asks_weight (Build new) < asks_weight f
build_falls f s new list is e =
    subst (λ (g : Frame). IsNoted (resume g [] []) → asks_weight (Build new) < asks_weight g) (sym is)
    (λ (h : IsNoted (build_ask (resume_build s [] []))). build_noted s new list e h)

-- A READING THAT BEGINS

pub command_begun : (c : Call) (s : CommandScan) (h : Head) (o : Opening) → o ≡ opening.Reads (phrase.Command c) → ((held : Lists) (fed : List Fed) → row_asked c fed ≡ resume_command s held fed) →
    asks_weight (Command s h) ≤ begun_weight o
command_begun c s h o is e =
    let same : command_weight (row_asked c []) ≡ command_weight (resume_command s [] []) = ap (λ (a : CommandAsk). command_weight a) (e [] []) in
    let most : begun_weight o ≡ 11 = ap begun_weight is in
    omega (arith, same, most, begins_light (Reads (phrase.Command c)) tt)

-- AN END WITHOUT A VALUE

build_unended : (a : build.Answer) → IsEnd (build_ask a) → ⊥
build_unended (build.More want list) h = h
build_unended (build.Tells report back list) h = h
build_unended (build.Done list) h = h

pub frame_ends : (f : Frame) → IsEnd (resume f [] []) → own_weight f ≡ act_frame
frame_ends (Command s p) h = refl
frame_ends (Integer s) h = absurd (integer_unended s h)
frame_ends (Factor s) h = absurd (factor_unended s h)
frame_ends (Dimension s) h = absurd (dimension_unended (dimen.resume s []) h)
frame_ends (Glue s) h = absurd (glue_unended (glue.resume s []) h)
frame_ends (Keyword s) h = absurd (keyword_unended s h)
frame_ends (Build s) h = absurd (build_unended (resume_build s [] []) h)
frame_ends (Spelling s) h = refl
frame_ends (FileName s) h = refl
frame_ends (Behind c x) h = refl
frame_ends (Skips s) h = refl
frame_ends (Called name) h = refl

-- a frame weighs more than nothing
pub frame_heavy : (f : Frame) → value_frame ≤ own_weight f
frame_heavy (Integer s) = omega arith
frame_heavy (Factor s) = omega arith
frame_heavy (Dimension s) = omega arith
frame_heavy (Glue s) = omega arith
frame_heavy (Keyword s) = omega arith
frame_heavy (Build s) = omega arith
frame_heavy f = omega arith
