-- A reading gives the last token back only directly behind a token.
use Rattle.std.proofs.Common.{ℕ, ◌+◌, ◌-◌, Bool, true, false, List, [], ◌∷◌, ◌++◌, Option, Some, None, refl}
use Rattle.std.specs.Prelude.{if◌then◌else◌, ◌==◌, nat_le}
use Rattle.tex_defs.specs.declared.Name.{Name}
use Rattle.tex_defs.specs.declared.Token.{Token}
use Rattle.tex_defs.specs.declared.Token.TheVariants.{Place, Number, EndPlaces}
use Rattle.tex_syntax.specs.declared.words.Want.TheVariants.{Nonblank}
use Rattle.tex_syntax.specs.declared.words.Manner.{Manner}
use Rattle.plain_tokens.specs.Categories.{begin_group, end_group}
use Rattle.plain_tokens.specs.Tokens.{has_category, means_category}
use Rattle.plain_tokens.specs.Arguments as call
use Rattle.plain_tokens.specs.declared.par_mode.ParMode.{ParMode}
use Rattle.plain_tokens.specs.declared.par_mode.ParMode.TheVariants.{Short, Checked}
use Rattle.plain_tokens.specs.Arguments.{Case, Argument, ExtraBrace, ParEnded, Skipped, Going, Found, Gathered, Failed, case_at, search, is_checked, same, start_of, places_of, mode_of}
use Rattle.plain_state.specs.Definitions as build
use Rattle.plain_state.specs.declared.body.Body.{Body}
use Rattle.plain_state.specs.Definitions.{is_parameter, character_of, is_digit, is_number, place_digit, is_reference, count_of, body, reference, illegal, macro_body, no_body, parameters, place, tenth, misnumbered, text_body, missing, first}
use Rattle.equivalents.specs.declared.values.Loc.{Loc}
use Rattle.equivalents.specs.declared.values.Loc.TheVariants as loc
use Rattle.conditionals.specs.declared.choice.Aim.{Aim}
use Rattle.conditionals.specs.declared.skip.Ender.{Ender}
use Rattle.conditionals.specs.Skipping.{part, ends_at, open_behind}
use Rattle.rows.specs.declared.words.Datum.{Datum}
use Rattle.rows.specs.declared.words.Datum.TheVariants as datum
use Rattle.rows.specs.declared.words.Phrase.TheVariants.{Command, Integer, Factor, Dimension, Glue, Keyword, Text, Definition}
use Rattle.rows.specs.Internal.{byte_of, is_list, is_glue}
use Rattle.rows.specs.declared.stage.Note.{Note}
use Rattle.rows.specs.declared.stage.Note.TheVariants as note
use Rattle.rows.specs.declared.command.Action.{Action}
use Rattle.rows.specs.declared.command.Action.TheVariants as action
use Rattle.rows.specs.declared.command.Call.{Call}
use Rattle.rows.specs.declared.command.Effect.{Effect}
use Rattle.rows.specs.declared.command.Test.{Test}
use Rattle.rows.specs.declared.command.Test.TheVariants as test
use Rattle.rows.specs.Stages.{datum_at, number}
use Rattle.rows.specs.Tests.{tested}
use Rattle.rows.specs.Effects.{value_made, shows_datum, list_to, set_to, comes_to}
use Rattle.rows.specs.Table.{action_of}
use Rattle.rows.specs.Readings.{Fed, Tok, Noted, Verbatim, Cut, Ask, ActsOn}
use Rattle.rows.specs.Commands.{CommandAsk, command_ask}
use Rattle.rows.specs.Run.{row, due}
use Rattle.plain_readings.specs.Lists.{build_ask, build_fed, manner}
use Rattle.plain_readings.specs.Calls.{call_ask, call_fed}
use Rattle.plain_readings.specs.Measures.{glue_ask}
use Rattle.plain_readings.specs.declared.asks.GlueAsk.{GlueAsk}
use Rattle.plain_readings.specs.declared.asks.GlueAsk.TheVariants as glue_asks
use Rattle.plain_readings.specs.Skips.{ended, skipping}
use Rattle.plain_readings.specs.Keywords.{keyword_ask}
use Rattle.plain_readings.specs.Readings.{Kind, Reads, Spelling, FileName, Behind, Skips, Arguments, ask}
use Rattle.plain_readings.specs.Laws.{is_met, Returns, GivesBack, Comes, ComeInTurn}
use Rattle.plain_readings.proofs.Lent.{met_holds}
use Rattle.plain_readings.proofs.Keywords.{keyword_holds}
use Rattle.plain_readings.proofs.BackInput.{Gives, direct, integer_gives, factor_gives, spelling_gives, naming_gives}
use Rattle.plain_readings.proofs.DimenBackInput.{dimension_gives}

-- ROWS, whatever they were fed with

due_gives : (n : Note) → GivesBack true (command_ask (due n))
due_gives (note.Tells report back) = direct back
due_gives (note.Inserts t report back) = direct back
due_gives (note.Relaxes c n) = tt

module _ (met : Bool) (c : Call) (ts : List Token) where
  -- no row opens a file
  abbrev IsOther : Effect → Type 0
  IsOther e = GivesBack met (ActsOn c e ts)

  other_if : (b : Bool) (d e : Effect) → IsOther d → IsOther e → IsOther (if b then d else e)
  other_if true d e h i = h
  other_if false d e h i = i

  made_other : (d : Datum) → IsOther (value_made d)
  made_other (datum.At l) = other_if (is_list l) _ _ tt tt
  made_other d = tt

  shown_other : (d : Datum) → IsOther (shows_datum d)
  shown_other (datum.At l) = tt
  shown_other d = tt

  list_other : (l : Loc) (d : Datum) → IsOther (list_to l d)
  list_other l (datum.At m) = tt
  list_other l d = tt

  set_other : (l : Loc) (d : Datum) → IsOther (set_to l d)
  set_other l d = other_if (is_list l) _ _ (list_other l d) (other_if (is_glue l) _ _ tt tt)

  test_other : (t : Test) (ds : List Datum) → IsOther (tested t ds)
  test_other (test.Always value) ds = tt
  test_other t ds = tt

  comes_other : (a : Action) (ds : List Datum) → IsOther (comes_to a ds)
  comes_other action.ShowValue ds = shown_other (datum_at 0 ds)
  comes_other (action.SetAt l) ds = set_other l (datum_at 0 ds)
  comes_other (action.SetRegister kind) ds = set_other (loc.Register kind (byte_of (number 0 ds))) (datum_at 1 ds)
  comes_other action.MakeValue ds = made_other (datum_at 0 ds)
  comes_other (action.Test test) ds = test_other test ds
  comes_other a ds = tt

row_gives : (c : Call) (fed : List Fed) → GivesBack (is_met false fed) (command_ask (row c fed))
row_gives c fed =
    met_holds (λ b a. GivesBack b (command_ask a)) (λ b want. tt) (λ b k. tt) (λ k. tt) (λ b c e. tt) (λ b c ds ts. comes_other b c ts (action_of c.head) ds) (λ b c n ts. tt) (λ b. tt) due_gives (λ b report. tt) c fed

-- GLUE AND SKIPPED TEXT give no token back

glue_gives : (b : Bool) (a : GlueAsk) → GivesBack b (glue_ask a)
glue_gives b (glue_asks.More want) = tt
glue_gives b (glue_asks.Begins i begins) = tt
glue_gives b (glue_asks.Fetches l) = tt
glue_gives b (glue_asks.Tells report) = tt
glue_gives b (glue_asks.Done g) = tt

ended_gives : (c : Call) (aim : Aim) (b : Bool) (o : Option Ender) (onward : CommandAsk) → GivesBack b (command_ask onward) → GivesBack b (command_ask (ended c aim o onward))
ended_gives c aim b None onward h = h
ended_gives c aim b (Some e) onward h = tt

skipping_gives : (c : Call) (aim : Aim) (depth : ℕ) (b : Bool) (fed : List Fed) → GivesBack b (command_ask (skipping c aim depth fed))
skipping_gives c aim depth b [] = tt
skipping_gives c aim depth b (Tok x ∷ fed) = ended_gives c aim b (ends_at depth (part x.meaning)) _ (skipping_gives c aim (open_behind depth (part x.meaning)) b fed)
skipping_gives c aim depth b (y ∷ fed) = tt

-- LISTS: a text and the list of a macro

abbrev BuildGives : Bool → (List Fed → build.Answer) → List Fed → Type 0
BuildGives b asks fed = Gives b (λ more. build_ask (asks more)) fed

build_if : (b c : Bool) (p q : List Fed → build.Answer) (fed : List Fed) → BuildGives b p fed → BuildGives b q fed → BuildGives b (λ more. if c then p more else q more) fed
build_if b true p q fed h i = h
build_if b false p q fed h i = i

mutual
  body_gives : (m : Manner) (b : Body) (depth : ℕ) (list : List Token) (met : Bool) (fed : List Fed) → BuildGives met (λ more. body m b depth list (build_fed more)) fed
  body_gives m b depth list met [] = λ h. tt
  body_gives m b depth list met (Noted ∷ fed) = λ h. body_gives m b depth list false fed h.1
  body_gives m b depth list met (Verbatim t ∷ fed) = λ h. body_gives m b depth (list ++ t ∷ []) false fed h.1
  body_gives m b depth list met (Tok x ∷ fed) =
      λ h. build_if true (has_category begin_group x.token) _ _ fed (body_gives m b (depth + 1) (list ++ x.token ∷ []) true fed)
      (build_if true (has_category end_group x.token) _ _ fed (build_if true (depth == 0) _ _ fed (λ h. tt) (body_gives m b (depth - 1) (list ++ x.token ∷ []) true fed))
      (build_if true (is_reference b x) _ _ fed (reference_gives m b depth x.token list true fed) (body_gives m b depth (list ++ x.token ∷ []) true fed))) h.1
  body_gives m b depth list met (y ∷ fed) = λ h. body_gives m b depth list false fed h.1

  reference_gives : (m : Manner) (b : Body) (depth : ℕ) (character : Token) (list : List Token) (met : Bool) (fed : List Fed) →
      BuildGives met (λ more. reference m b depth character list (build_fed more)) fed
  reference_gives m b depth character list met [] = λ h. tt
  reference_gives m b depth character list met (Tok y ∷ fed) =
      λ h. build_if true (is_parameter y) _ _ fed (body_gives m b depth (list ++ y.token ∷ []) true fed)
      (build_if true (is_number (count_of b.places) y.token) _ _ fed (body_gives m b depth (list ++ Number (place_digit y.token) ∷ []) true fed)
      (illegal_gives m b depth character list fed)) h.1
  reference_gives m b depth character list met (y ∷ fed) = λ h. reference_gives m b depth character list false fed h.1

  illegal_gives : (m : Manner) (b : Body) (depth : ℕ) (character : Token) (list : List Token) (fed : List Fed) →
      BuildGives true (λ more. illegal m b depth character list (build_fed more)) fed
  illegal_gives m b depth character list [] = λ h. refl
  illegal_gives m b depth character list (Noted ∷ fed) = λ h. body_gives m b depth (list ++ character ∷ []) false fed h.1
  illegal_gives m b depth character list (y ∷ fed) = λ h. absurd h.0

no_body_gives : (list : List Token) (fed : List Fed) → BuildGives true (λ more. no_body list (build_fed more)) fed
no_body_gives list [] = λ h. tt
no_body_gives list (Noted ∷ fed) = λ h. tt
no_body_gives list (y ∷ fed) = λ h. absurd h.0

mutual
  parameters_give : (m : Manner) (count : ℕ) (list : List Token) (met : Bool) (fed : List Fed) → BuildGives met (λ more. parameters m count list (build_fed more)) fed
  parameters_give m count list met [] = λ h. tt
  parameters_give m count list met (Tok x ∷ fed) =
      λ h. build_if true (has_category begin_group x.token) _ _ fed (body_gives m (macro_body count None) 0 (list ++ EndPlaces ∷ []) true fed)
      (build_if true (has_category end_group x.token) _ _ fed (no_body_gives (list ++ EndPlaces ∷ []) fed)
      (build_if true (is_parameter x) _ _ fed (place_gives m count (character_of x.meaning) list true fed) (parameters_give m count (list ++ x.token ∷ []) true fed))) h.1
  parameters_give m count list met (y ∷ fed) = λ h. parameters_give m count list false fed h.1

  place_gives : (m : Manner) (count character : ℕ) (list : List Token) (met : Bool) (fed : List Fed) → BuildGives met (λ more. place m count character list (build_fed more)) fed
  place_gives m count character list met [] = λ h. tt
  place_gives m count character list met (Tok y ∷ fed) =
      λ h. build_if true (has_category begin_group y.token) _ _ fed (body_gives m (macro_body count (Some y.token)) 0 ((list ++ y.token ∷ []) ++ EndPlaces ∷ []) true fed)
      (build_if true (nat_le 9 count) _ _ fed (tenth_gives m count list fed)
      (build_if true (is_digit (count + 1) y.token) _ _ fed (parameters_give m (count + 1) (list ++ Place character ∷ []) true fed) (misnumbered_gives m (count + 1) character list fed))) h.1
  place_gives m count character list met (y ∷ fed) = λ h. place_gives m count character list false fed h.1

  tenth_gives : (m : Manner) (count : ℕ) (list : List Token) (fed : List Fed) → BuildGives true (λ more. tenth m count list (build_fed more)) fed
  tenth_gives m count list [] = λ h. tt
  tenth_gives m count list (Noted ∷ fed) = λ h. parameters_give m count list false fed h.1
  tenth_gives m count list (y ∷ fed) = λ h. absurd h.0

  misnumbered_gives : (m : Manner) (count character : ℕ) (list : List Token) (fed : List Fed) → BuildGives true (λ more. misnumbered m count character list (build_fed more)) fed
  misnumbered_gives m count character list [] = λ h. refl
  misnumbered_gives m count character list (Noted ∷ fed) = λ h. parameters_give m count (list ++ Place character ∷ []) false fed h.1
  misnumbered_gives m count character list (y ∷ fed) = λ h. absurd h.0

missing_gives : (m : Manner) (list : List Token) (fed : List Fed) → BuildGives true (λ more. missing m list (build_fed more)) fed
missing_gives m list [] = λ h. refl
missing_gives m list (Noted ∷ fed) = λ h. body_gives m text_body 0 list false fed h.1
missing_gives m list (y ∷ fed) = λ h. absurd h.0

first_gives : (m : Manner) (list : List Token) (met : Bool) (fed : List Fed) → BuildGives met (λ more. first m list (build_fed more)) fed
first_gives m list met [] = λ h. tt
first_gives m list met (Tok x ∷ fed) = λ h. build_if true (means_category begin_group x.meaning) _ _ fed (body_gives m text_body 0 list true fed) (missing_gives m list fed) h.1
first_gives m list met (y ∷ fed) = λ h. first_gives m list false fed h.1

-- CALLS: an extra `}` and a `\par` that ends one are given back

module _ (name : Name) where
  abbrev CallGives : Bool → (List Fed → call.Answer) → List Fed → Type 0
  CallGives b asks fed = Gives b (λ more. call_ask name (asks more)) fed

  call_if : (b c : Bool) (p q : List Fed → call.Answer) (fed : List Fed) → CallGives b p fed → CallGives b q fed → CallGives b (λ more. if c then p more else q more) fed
  call_if b true p q fed h i = h
  call_if b false p q fed h i = i

  sought_gives : (args : List (List Token)) (braced : Bool) (work : List Token) (b : Bool) → Returns b braced → GivesBack b (call_ask name (call.sought args braced work))
  sought_gives args true work b r = r
  sought_gives args false work b r = tt

  failed_gives : (args : List (List Token)) (silent : Bool) (list : List Token) (fed : List Fed) → CallGives true (λ more. call.Ended silent args list) fed
  failed_gives args true list fed = λ h. tt
  failed_gives args false list [] = λ h. refl
  failed_gives args false list (y ∷ fed) = λ h. absurd h.0

  module _ (args places : List (List Token)) where
    abbrev FoundGives : Bool → (List Fed → Found) → List Fed → Type 0
    FoundGives b found fed = CallGives b (λ more. call.behind args places (found more)) fed

    module _ (onward : (mode : ParMode) (a : List Token) (b : Bool) (fed : List Fed) → FoundGives b (λ more. Gathered mode a (call_fed more)) fed) (ds : List Token) where
      module _ (mode : ParMode) (kept t : List Token) (x : Token) (fed : List Fed) where
        abbrev Found_of : Case → List call.Fed → Found
        Found_of c rest =
            elim c [
              | Argument a ↦ Gathered mode a rest
              | ExtraBrace ↦ search ds true Short (kept ++ t) [] rest
              | ParEnded ↦ Failed mode (kept ++ t)
              | Skipped ↦ search ds false mode kept t rest
              | Going ↦ search ds false mode kept (t ++ x ∷ []) rest
            ]

        case_gives : (c : Case) → FoundGives true (λ more. search ds true Short (kept ++ t) [] (call_fed more)) fed → FoundGives true (λ more. search ds false mode kept t (call_fed more)) fed →
            FoundGives true (λ more. search ds false mode kept (t ++ x ∷ []) (call_fed more)) fed → FoundGives true (λ more. Found_of c (call_fed more)) fed
        case_gives (Argument a) h i j = onward mode a true fed
        case_gives ExtraBrace h i j = h
        case_gives ParEnded h i j = failed_gives args (is_checked mode) (kept ++ t) fed
        case_gives Skipped h i j = i
        case_gives Going h i j = j

      search_gives : (braced : Bool) (mode : ParMode) (kept t : List Token) (b : Bool) → Returns b braced → (fed : List Fed) → FoundGives b (λ more. search ds braced mode kept t (call_fed more)) fed
      search_gives braced mode kept t b r [] = λ h. sought_gives args braced _ b r
      search_gives braced mode kept t b r (Cut ∷ fed) = λ h. search_gives false Checked kept t false tt fed h.1
      search_gives braced mode kept t b r (Noted ∷ fed) = λ h. search_gives false mode kept t false tt fed h.1
      search_gives braced mode kept t b r (Tok x ∷ fed) =
          λ h. case_gives mode kept t x.token fed (case_at ds mode kept t x.token) (search_gives true Short (kept ++ t) [] true refl fed) (search_gives false mode kept t true tt fed)
          (search_gives false mode kept (t ++ x.token ∷ []) true tt fed) h.1
      search_gives true mode kept t b r (y ∷ fed) = λ h. absurd h.0
      search_gives false mode kept t b r (y ∷ fed) = λ h. search_gives false mode kept t false tt fed h.1

  arguments_give : (mode : ParMode) (args places : List (List Token)) (b : Bool) (fed : List Fed) → CallGives b (λ more. call.arguments mode args places (call_fed more)) fed
  arguments_give mode args [] b fed = λ h. tt
  arguments_give mode args (ds ∷ places) b fed = search_gives args places (λ mode a b fed. arguments_give mode (args ++ a ∷ []) places b fed) ds false mode [] [] b tt fed

  call_gives : (mode : ParMode) (start : List Token) (places : List (List Token)) (b : Bool) (fed : List Fed) → CallGives b (λ more. call.call mode start places (call_fed more)) fed
  call_gives mode [] places b fed = arguments_give mode [] places b fed
  call_gives mode (d ∷ ds) places b [] = λ h. tt
  call_gives mode (d ∷ ds) places b (Cut ∷ fed) = λ h. call_gives Checked (d ∷ ds) places false fed h.1
  call_gives mode (d ∷ ds) places b (Tok x ∷ fed) = λ h. call_if true (same x.token d) _ _ fed (call_gives mode ds places true fed) (λ h. tt) h.1
  call_gives mode (d ∷ ds) places b (y ∷ fed) = λ h. call_gives mode (d ∷ ds) places false fed h.1

  -- at first it wants a token
  whole_gives : (mode : ParMode) (start : List Token) (places : List (List Token)) (y : Fed) (fed : List Fed) →
      ComeInTurn (λ more. call_ask name (call.call mode start places (call_fed (y ∷ more)))) fed → GivesBack (is_met false (y ∷ fed)) (call_ask name (call.call mode start places (call_fed (y ∷ fed))))
  whole_gives mode [] [] y fed h = tt
  whole_gives mode [] (ds ∷ places) y fed h = call_gives mode [] (ds ∷ places) false (y ∷ fed) (tt, h)
  whole_gives mode (d ∷ ds) places y fed h = call_gives mode (d ∷ ds) places false (y ∷ fed) (tt, h)

-- ALL KINDS

-- what comes in turn may come behind what came so
last_in_turn : (asks : List Fed → Ask) (fed : List Fed) (y : Fed) → ComeInTurn asks fed → Comes (asks fed) y → ComeInTurn asks (fed ++ y ∷ [])
last_in_turn asks [] y t c = (c, tt)
last_in_turn asks (z ∷ fed) y t c = (t.0, last_in_turn (λ more. asks (z ∷ more)) fed y t.1 c)

pub in_turn : (k : Kind) (fed : List Fed) (y : Fed) → ComeInTurn (ask k) fed → Comes (ask k fed) y → ComeInTurn (ask k) (fed ++ y ∷ [])
in_turn k fed y t c = last_in_turn (ask k) fed y t c

pub directly : (k : Kind) (fed : List Fed) → ComeInTurn (ask k) fed → GivesBack (is_met false fed) (ask k fed)
directly (Reads (Command c)) fed h = row_gives c fed
directly (Reads Integer) fed h = integer_gives false false fed h
directly (Reads Factor) fed h = factor_gives false fed h
directly (Reads (Dimension k)) fed h = dimension_gives k false false fed h
directly (Reads (Glue mu)) fed h = glue_gives (is_met false fed) _
directly (Reads (Keyword w)) fed h = keyword_holds (λ b a. GivesBack (is_met false fed) (keyword_ask a)) (λ b want plain. tt) (λ b found. tt) (λ b t n few. tt) w false fed
directly (Reads (Text name expanded)) fed h = first_gives (manner name expanded) [] false fed h
directly (Reads (Definition name expanded)) fed h = parameters_give (manner name expanded) 0 [] false fed h
directly (Spelling c) fed h = spelling_gives c [] false fed h
directly (FileName c) fed h = naming_gives c Nonblank [] false fed h
directly (Behind c x) fed h = tt
directly (Skips c aim line) fed h = skipping_gives c aim 0 (is_met false fed) fed
directly (Arguments name long number ts) [] h = tt
directly (Arguments name long number ts) (y ∷ fed) h = whole_gives name (mode_of long) (start_of ts) (places_of ts) y fed h.1
