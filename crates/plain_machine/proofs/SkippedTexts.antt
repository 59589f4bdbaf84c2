-- Text that is skipped is fed with tokens alone, each by a step, and stands in no other reading's way.
use Rattle.std.proofs.Common.{◌≡◌, ℕ, ◌+◌, ◌≤◌, ◌<◌, ◌^◌, Bool, true, false, List, [], ◌∷◌, ◌++◌, length, drop, map, refl, sym, ap, ◌∙◌, subst, arith}
use Rattle.std.specs.Prelude.{Option, Some, None, if◌then◌else◌, nat_lt}
use Rattle.tex_syntax.specs.declared.words.Want.TheVariants.{Unentered}
use Rattle.tex_syntax.specs.declared.words.Report.TheVariants.{InvalidCharacter}
use Rattle.tex_syntax.specs.declared.words.Outcome.{Outcome}
use Rattle.tex_syntax.specs.declared.words.Outcome.TheVariants.{AtFatal}
use Rattle.tex_defs.specs.declared.Seen.{Seen}
use Rattle.tex_defs.specs.declared.Token.{Token}
use Rattle.tex_defs.specs.declared.Fatal.TheVariants.{NoFile, HundredErrors}
use Rattle.tex_defs.specs.Places.{Transcript}
use Rattle.plain_tokens.specs.Lines.{first_line}
use Rattle.plain_tokens.specs.Lookup.{token_of, new_name}
use Rattle.plain_tokens.specs.Meanings.{met as met_token}
use Rattle.plain_tokens.specs.Pending.{Pulled, TokenFrom, LexemeFrom, LineTaken, InvalidMet, FileOver, NothingLeft, pulled}
use Rattle.plain_tokens.specs.Printed.{Style}
use Rattle.plain_tokens.specs.Tokens.{is_outer, space_token, character_codes}
use Rattle.plain_state.specs.Reports.{hundred_line, emergency, no_file_line}
use Rattle.command_words.specs.Words.{file_name}
use Rattle.equivalents.specs.Groups.{Groups}
use Rattle.equivalents.specs.Parameters.{style_in}
use Rattle.conditionals.specs.declared.choice.Aim.{Aim}
use Rattle.conditionals.specs.declared.skip.Ender.{Ender}
use Rattle.conditionals.specs.Choices as choices
use Rattle.conditionals.specs.Open.{above_sought}
use Rattle.conditionals.specs.Skipping.{greatest_count, part, ends_at, open_behind}
use Rattle.prim_table.specs.Primitives.{primitive_names}
use Rattle.rows.specs.declared.command.Call.{Call}
use Rattle.rows.specs.declared.command.Effect.{Effect}
use Rattle.rows.specs.declared.command.Effect.TheVariants as effect
use Rattle.rows.specs.Commands.{CommandAsk, command_ask}
use Rattle.rows.specs.Readings.{Fed, Tok, Val, Ask, More, Acts, ActsOn, Ends as Closes}
use Rattle.plain_readings.specs.Readings.{Kind, Skips, Reading, ask, fed_with}
use Rattle.plain_readings.specs.Scanning.{Scanning, SkippedText, scanning}
use Rattle.plain_readings.specs.Skips.{skipping, ended}
use Rattle.plain_machine.specs.States.{State, Files, Move, Handed, Taken, FirstTaken, ListsEnded, Skipped, FileClosed, FileOpened, Spelt, NameInProgress, Feeds, CalledWith, Defined, ListSet, Begun, BegunWith, Ended, Closed, Written, Stopped, made}
use Rattle.plain_machine.specs.Plan.{Page, page_of, style_of, plan, planned, ruled, answered, handed, met, met_outer, entered, checked, at_line, reported, reports_room, behind_report, stomach, wanted, enters_names, feeding, given_back, reached, input_begun, unless_found, no_end, Ends, Goes, next, job_due, first_state}
use Rattle.plain_machine.specs.Runs.{step_of, steps, Moves, Begins, AtRule, AtJob}
use Rattle.plain_machine.specs.Skips.{IsShort, IsBeneath, AreBeneath, AreShort}
use Rattle.plain_machine.proofs.Joins.{next_due, next_plan, due_kept}
use Rattle.plain_machine.proofs.Laws.{SameMove, goes_one_way}
use Rattle.plain_machine.proofs.Tame.{Tame, Flat, back_flat, behind_tame, reached_tame, checked_tame, reported_tame, kind_tame, wanted_tame, stomach_tame, met_tame, lexeme_tame, answered_tame}

-- OPEN READINGS

kind_beneath_later : (m n : ℕ) (k : Kind) → m ≤ n → IsBeneath m k → IsBeneath n k
kind_beneath_later m n (Skips c aim line) le h = absurd h
kind_beneath_later m n k le h = omega (arith, le, h)

beneath_later : (m n : ℕ) (rs : List Reading) → m ≤ n → AreBeneath m rs → AreBeneath n rs
beneath_later m n [] le h = tt
beneath_later m n (r ∷ rs) le h = (kind_beneath_later m n r.kind le h.0, beneath_later m n rs le h.1)

kind_short_later : (m n : ℕ) (k : Kind) (fed : List Fed) → m ≤ n → IsShort m k fed → IsShort n k fed
kind_short_later m n (Skips c aim line) fed le h = record { text = h.text; is = h.is; short = omega (arith, le, h.short) }
kind_short_later m n k fed le h = omega (arith, le, h)

short_later : (m n : ℕ) (work : List Reading) → m ≤ n → AreShort m work → AreShort n work
short_later m n [] le h = tt
short_later m n (r ∷ rs) le h = (kind_short_later m n r.kind r.fed le h.0, beneath_later m n rs le h.1)

kind_beneath_short : (n : ℕ) (k : Kind) (fed : List Fed) → IsBeneath n k → IsShort n k fed
kind_beneath_short n (Skips c aim line) fed h = absurd h
kind_beneath_short n k fed h = h

beneath_short : (n : ℕ) (rs : List Reading) → AreBeneath n rs → AreShort n rs
beneath_short n [] h = tt
beneath_short n (r ∷ rs) h = (kind_beneath_short n r.kind r.fed h.0, h.1)

beneath_fed : (n : ℕ) (y : Fed) (rs : List Reading) → AreBeneath n rs → AreBeneath n (fed_with y rs)
beneath_fed n y [] h = tt
beneath_fed n y (r ∷ rs) h = h

beneath_dropped : (n : ℕ) (rs : List Reading) → AreBeneath n rs → AreBeneath n (drop 1 rs)
beneath_dropped n [] h = tt
beneath_dropped n (r ∷ rs) h = h.1

-- MOVES MADE ONE AFTER ANOTHER, from a state of a run of n steps: the readings stay short.
abbrev Safe : ℕ → List Move → State → Type 0
Safe n [] s = AreShort n s.work
Safe n (m ∷ ms) s = AreShort n s.work × Safe (n + step_of m) ms (made m (record s { due = ms }))

safe_now : (n : ℕ) (ms : List Move) (s : State) → Safe n ms s → AreShort n s.work
safe_now n [] s h = h
safe_now n (m ∷ ms) s h = h.0

-- what is true of moves with a choice among them
one_of : (P : List Move → Type 0) (b : Bool) (xs ys : List Move) → P xs → P ys → P (if b then xs else ys)
one_of P true xs ys h i = h
one_of P false xs ys h i = i

-- MOVES THAT LEAVE THE READINGS
abbrev Calm : List Move → Type 0
Calm [] = Unit {0}
Calm (Feeds y ∷ ms) = ⊥
Calm (CalledWith p ∷ ms) = ⊥
Calm (Defined global name long outer ts ∷ ms) = ⊥
Calm (ListSet global l ts ∷ ms) = ⊥
Calm (Begun k ∷ ms) = ⊥
Calm (BegunWith k ∷ ms) = ⊥
Calm (Ended v ts ∷ ms) = ⊥
Calm (Closed ∷ ms) = ⊥
Calm (m ∷ ms) = Calm ms

calm_safe : (n : ℕ) (ms : List Move) (s : State) → Calm ms → AreShort n s.work → Safe n ms s
calm_safe n [] s h i = i
calm_safe n (Feeds y ∷ ms) s h i = absurd h
calm_safe n (CalledWith p ∷ ms) s h i = absurd h
calm_safe n (Defined global name long outer ts ∷ ms) s h i = absurd h
calm_safe n (ListSet global l ts ∷ ms) s h i = absurd h
calm_safe n (Begun k ∷ ms) s h i = absurd h
calm_safe n (BegunWith k ∷ ms) s h i = absurd h
calm_safe n (Ended v ts ∷ ms) s h i = absurd h
calm_safe n (Closed ∷ ms) s h i = absurd h
calm_safe n (m ∷ ms) s h i = (i, calm_safe (n + step_of m) ms (made m (record s { due = ms })) h (short_later n (n + step_of m) s.work (omega arith) i))

calm_behind : (style : Style) (reports : ℕ) → Calm (behind_report style reports [])
calm_behind style reports = one_of Calm (nat_lt reports reports_room) [] (Written Transcript (hundred_line style) ∷ Stopped (AtFatal HundredErrors) ∷ []) tt tt

-- MOVES BY WHICH A TOKEN IS FED at most, as the last of them
abbrev FeedsLast : List Move → Type 0
FeedsLast [] = Unit {0}
FeedsLast (Feeds (Tok x) ∷ []) = Unit {0}
FeedsLast (Feeds y ∷ ms) = ⊥
FeedsLast (CalledWith p ∷ ms) = ⊥
FeedsLast (Defined global name long outer ts ∷ ms) = ⊥
FeedsLast (ListSet global l ts ∷ ms) = ⊥
FeedsLast (Begun k ∷ ms) = ⊥
FeedsLast (BegunWith k ∷ ms) = ⊥
FeedsLast (Ended v ts ∷ ms) = ⊥
FeedsLast (Closed ∷ ms) = ⊥
FeedsLast (m ∷ ms) = FeedsLast ms

map_last : (x : Seen) (text : List Seen) → map Tok text ++ Tok x ∷ [] ≡ map Tok (text ++ x ∷ [])
map_last x [] = refl
map_last x (y ∷ text) = ap (λ (fed : List Fed). Tok y ∷ fed) (map_last x text)

length_last : (x : Seen) (text : List Seen) → length (text ++ x ∷ []) ≡ length text + 1
length_last x [] = refl
length_last x (y ∷ text) = omega (arith, length_last x text)

kind_fed : (n k : ℕ) (kind : Kind) (fed : List Fed) (x : Seen) → n < k → IsShort n kind fed → IsShort k kind (fed ++ Tok x ∷ [])
kind_fed n k (Skips c aim line) fed x lt h = record {
  text = h.text ++ x ∷ [];
  is = ap (λ (fed : List Fed). fed ++ Tok x ∷ []) h.is ∙ map_last x h.text;
  short = omega (arith, lt, h.short, length_last x h.text);
}
kind_fed n k kind fed x lt h = omega (arith, lt, h)

short_fed : (n k : ℕ) (work : List Reading) (x : Seen) → n < k → AreShort n work → AreShort k (fed_with (Tok x) work)
short_fed n k [] x lt h = tt
short_fed n k (r ∷ rs) x lt h = (kind_fed n k r.kind r.fed x lt h.0, beneath_later n k rs (omega (arith, lt)) h.1)

feeds_safe : (n k : ℕ) (ms : List Move) (s : State) → n < k → FeedsLast ms → AreShort n s.work → Safe k ms s
feeds_safe n k [] s lt h i = short_later n k s.work (omega (arith, lt)) i
feeds_safe n k (Feeds (Tok x) ∷ []) s lt h i = (short_later n k s.work (omega (arith, lt)) i, short_fed n (k + 0) s.work x (omega (arith, lt)) i)
feeds_safe n k (Feeds (Tok x) ∷ m ∷ ms) s lt h i = absurd h
feeds_safe n k (Feeds y ∷ ms) s lt h i = absurd h
feeds_safe n k (CalledWith p ∷ ms) s lt h i = absurd h
feeds_safe n k (Defined global name long outer ts ∷ ms) s lt h i = absurd h
feeds_safe n k (ListSet global l ts ∷ ms) s lt h i = absurd h
feeds_safe n k (Begun kind ∷ ms) s lt h i = absurd h
feeds_safe n k (BegunWith kind ∷ ms) s lt h i = absurd h
feeds_safe n k (Ended v ts ∷ ms) s lt h i = absurd h
feeds_safe n k (Closed ∷ ms) s lt h i = absurd h
feeds_safe n k (m ∷ ms) s lt h i =
    (short_later n k s.work (omega (arith, lt)) i, feeds_safe n (k + step_of m) ms (made m (record s { due = ms })) (omega (arith, lt)) h i)

-- a name joins the others before the token is fed
feeds_entered : (names : List (List ℕ)) (ms : List Move) → FeedsLast ms → FeedsLast (entered names ++ ms)
feeds_entered [] ms h = h
feeds_entered (name ∷ names) ms h = h

-- MOVES WHERE NO TEXT IS SKIPPED, behind which none is, or text begins to be skipped

-- one by which it doesn't begin
abbrev SkipsNone : Move → Type 0
SkipsNone (Begun (Skips c aim line)) = ⊥
SkipsNone (BegunWith (Skips c aim line)) = ⊥
SkipsNone m = Unit {0}

beneath_made : (n : ℕ) (m : Move) (s : State) → 0 < n → SkipsNone m → AreBeneath n s.work → AreBeneath n (made m s).work
beneath_made n (Feeds y) s pos h i = beneath_fed n y s.work i
beneath_made n (CalledWith p) s pos h i = beneath_dropped n s.work i
beneath_made n (Defined global name long outer ts) s pos h i = beneath_dropped n s.work i
beneath_made n (ListSet global l ts) s pos h i = beneath_dropped n s.work i
beneath_made n (Begun (Skips c aim line)) s pos h i = absurd h
beneath_made n (Begun k) s pos h i = (pos, i)
beneath_made n (BegunWith (Skips c aim line)) s pos h i = absurd h
beneath_made n (BegunWith k) s pos h i = (pos, i)
beneath_made n (Ended v ts) s pos h i = beneath_fed n (Val v ts) (drop 1 s.work) (beneath_dropped n s.work i)
beneath_made n Closed s pos h i = beneath_dropped n s.work i
beneath_made n m s pos h i = i

-- what is safe wherever no text is skipped
abbrev SafeOnward : List Move → Type 0
SafeOnward ms = (n : ℕ) (s : State) → 0 < n → AreBeneath n s.work → Safe n ms s

one_safe : (m : Move) (ms : List Move) → SkipsNone m → SafeOnward ms → SafeOnward (m ∷ ms)
one_safe m ms h f n s pos i =
    let t : State = record s { due = ms } in
    let later : AreBeneath (n + step_of m) s.work = beneath_later n (n + step_of m) s.work (omega arith) i in
    (beneath_short n s.work i, f (n + step_of m) (made m t) (omega (arith, pos)) (beneath_made (n + step_of m) m t (omega (arith, pos)) h later))

none_safe : SafeOnward []
none_safe n s pos i = beneath_short n s.work i

tame_safe : (ms : List Move) → Tame ms → SafeOnward ms
tame_safe [] h = none_safe
tame_safe (Handed t ∷ ms) h = absurd h
tame_safe (Taken line ∷ ms) h = absurd h
tame_safe (FirstTaken line ∷ ms) h = absurd h
tame_safe (Skipped ∷ ms) h = absurd h
tame_safe (FileClosed ∷ ms) h = absurd h
tame_safe (FileOpened name ∷ ms) h = absurd h
tame_safe (Begun (Skips c aim line) ∷ []) h =
    λ n s pos i. (beneath_short n s.work i, (record { text = []; is = refl; short = omega (arith, pos) }, beneath_later n (n + 0) s.work (omega arith) i))
tame_safe (Begun (Skips c aim line) ∷ m ∷ ms) h = absurd h
tame_safe (BegunWith (Skips c aim line) ∷ ms) h = absurd h
tame_safe (Begun k ∷ ms) h = one_safe (Begun k) ms tt (tame_safe ms h)
tame_safe (BegunWith k ∷ ms) h = one_safe (BegunWith k) ms tt (tame_safe ms h)
tame_safe (m ∷ ms) h = one_safe m ms tt (tame_safe ms h)

flat_safe : (ms ns : List Move) → Flat ms → SafeOnward ns → SafeOnward (ms ++ ns)
flat_safe [] ns h f = f
flat_safe (Handed t ∷ ms) ns h f = absurd h
flat_safe (Taken line ∷ ms) ns h f = absurd h
flat_safe (FirstTaken line ∷ ms) ns h f = absurd h
flat_safe (Skipped ∷ ms) ns h f = absurd h
flat_safe (FileClosed ∷ ms) ns h f = absurd h
flat_safe (FileOpened name ∷ ms) ns h f = absurd h
flat_safe (Begun k ∷ ms) ns h f = absurd h
flat_safe (BegunWith k ∷ ms) ns h f = absurd h
flat_safe (m ∷ ms) ns h f = one_safe m (ms ++ ns) tt (flat_safe ms ns h f)

-- `\input`: a file is opened by its name
unless_tame : (page : Page) (name : List ℕ) (o : Option (List ℕ)) → Tame (unless_found page name o)
unless_tame page name (Some bytes) = tt
unless_tame page name None =
    behind_tame (style_of page) page.reports (Written Transcript (emergency (style_of page) ++ no_file_line (style_of page)) ∷ Stopped (AtFatal NoFile) ∷ []) tt

input_safe : (files : Files) (page : Page) (back : Bool) (name : List ℕ) → SafeOnward (input_begun files page back name)
input_safe files page back name =
    let last : List Move = unless_found page name (files 0 name) in
    let opens : List Move = FileOpened name ∷ last in
    flat_safe (given_back back page.last) (Spelt name ∷ Closed ∷ NameInProgress false ∷ ListsEnded ∷ opens) (back_flat back page.last)
    (flat_safe (Spelt name ∷ Closed ∷ NameInProgress false ∷ ListsEnded ∷ []) opens tt (one_safe (FileOpened name) last tt (tame_safe last (unless_tame page name (files 0 name)))))

-- THE NEXT TOKEN OR LINE
module _ (page : Page) (enters : Bool) (o : Option Scanning) (onward : Seen → List Move) (tame : (x : Seen) → Tame (onward x)) where
  token_safe : (x : Seen) → SafeOnward (met page o onward x)
  token_safe x = tame_safe (met page o onward x) (met_tame page o onward x tame)

  lexeme_safe : (names : List (List ℕ)) (x : Seen) → SafeOnward (entered names ++ met page o onward x)
  lexeme_safe names x = tame_safe (entered names ++ met page o onward x) (lexeme_tame names page o onward x tame)

  handed_safe : (r : Pulled) → SafeOnward (handed page enters o onward r)
  handed_safe (TokenFrom t q) =
      let ms : List Move = met page o onward (met_token page.now.meanings t) in
      one_safe ListsEnded (Handed t ∷ ms) tt (one_safe (Handed t) ms tt (token_safe (met_token page.now.meanings t)))
  handed_safe (LexemeFrom x q) =
      let t : Token = token_of enters page.names x in
      let ms : List Move = entered (new_name enters page.names x) ++ met page o onward (met_token page.now.meanings t) in
      one_safe ListsEnded (Handed t ∷ ms) tt (one_safe (Handed t) ms tt (lexeme_safe (new_name enters page.names x) (met_token page.now.meanings t)))
  handed_safe (LineTaken line q) = one_safe ListsEnded (Taken line ∷ []) tt (one_safe (Taken line) [] tt none_safe)
  handed_safe (InvalidMet q) =
      let ms : List Move = reported page InvalidCharacter [] in
      one_safe ListsEnded (Skipped ∷ ms) tt (one_safe Skipped ms tt (tame_safe ms (reported_tame page InvalidCharacter [] tt)))
  handed_safe (FileOver q) =
      let ms : List Move = checked (at_line q.number page) o in
      one_safe ListsEnded (FileClosed ∷ ms) tt (one_safe FileClosed ms tt (tame_safe ms (checked_tame (at_line q.number page) o)))
  handed_safe NothingLeft = tame_safe (ListsEnded ∷ no_end page) tt

  -- Where no reading is open none begins before a token has come.
  module _ (n : ℕ) (s : State) (w : s.work ≡ []) where
    none_short : AreShort n s.work
    none_short = subst (AreShort n) (sym w) tt

    one_beneath : AreBeneath (n + 0 + 1) s.work
    one_beneath = subst (AreBeneath (n + 0 + 1)) (sym w) tt

    first_safe : o ≡ None → (r : Pulled) → Safe n (handed page enters o onward r) s
    first_safe none (TokenFrom t q) =
        (none_short, (short_later n (n + 0) s.work (omega arith) none_short, token_safe (met_token page.now.meanings t) (n + 0 + 1) _ (omega arith) one_beneath))
    first_safe none (LexemeFrom x q) =
        let t : Token = token_of enters page.names x in
        (none_short, (short_later n (n + 0) s.work (omega arith) none_short, lexeme_safe (new_name enters page.names x) (met_token page.now.meanings t) (n + 0 + 1) _ (omega arith) one_beneath))
    first_safe none (LineTaken line q) = calm_safe n (ListsEnded ∷ Taken line ∷ []) s tt none_short
    first_safe none (InvalidMet q) = calm_safe n (ListsEnded ∷ Skipped ∷ reported page InvalidCharacter []) s (calm_behind (style_of page) page.reports) none_short
    first_safe none (FileOver q) =
        calm_safe n (ListsEnded ∷ FileClosed ∷ checked (at_line q.number page) o) s (subst (λ (o : Option Scanning). Calm (checked (at_line q.number page) o)) (sym none) tt) none_short
    first_safe none NothingLeft = calm_safe n (ListsEnded ∷ no_end page) s tt none_short

-- TEXT THAT IS SKIPPED

-- It asks for a token, acts on its ender, or ends.
module _ (P : Ask → Type 0) (c : Call) (aim : Aim) (more : P (More Unentered)) (acts : (e : Ender) → P (Acts c (effect.Reach aim e))) (closes : P Closes) where
  ended_asks : (o : Option Ender) (a : CommandAsk) → P (command_ask a) → P (command_ask (ended c aim o a))
  ended_asks None a h = h
  ended_asks (Some e) a h = acts e

  skipping_asks : (depth : ℕ) (fed : List Fed) → P (command_ask (skipping c aim depth fed))
  skipping_asks depth [] = more
  skipping_asks depth (Tok x ∷ fed) =
      ended_asks (ends_at depth (part x.meaning)) (skipping c aim (open_behind depth (part x.meaning)) fed) (skipping_asks (open_behind depth (part x.meaning)) fed)
  skipping_asks depth (y ∷ fed) = closes

-- the token is fed, also at a check
module _ (page : Page) (line : ℕ) where
  abbrev feeds : Seen → List Move
  feeds x = Feeds (Tok x) ∷ []

  feeds_behind : (x : Seen) → FeedsLast (behind_report (style_of page) page.reports (feeds x))
  feeds_behind x = one_of FeedsLast (nat_lt page.reports reports_room) (feeds x) (Written Transcript (hundred_line (style_of page)) ∷ Stopped (AtFatal HundredErrors) ∷ []) tt tt

  met_feeds : (x : Seen) → FeedsLast (met page (Some (SkippedText line)) feeds x)
  met_feeds x =
      one_of FeedsLast (is_outer x.meaning) (met_outer page (Some (SkippedText line)) x.token feeds) (feeds x) (feeds_behind (met_token page.now.meanings space_token)) tt

  skips_handed : (n : ℕ) (s : State) → AreShort n s.work → (r : Pulled) → Safe n (handed page false (Some (SkippedText line)) feeds r) s
  skips_handed n s i (TokenFrom t q) =
      let x : Seen = met_token page.now.meanings t in
      (i, (short_later n (n + 0) s.work (omega arith) i, feeds_safe n (n + 0 + 1) (met page (Some (SkippedText line)) feeds x) _ (omega arith) (met_feeds x) i))
  skips_handed n s i (LexemeFrom x q) =
      let names : List (List ℕ) = new_name false page.names x in
      let ms : List Move = met page (Some (SkippedText line)) feeds (met_token page.now.meanings (token_of false page.names x)) in
      (i, (short_later n (n + 0) s.work (omega arith) i, feeds_safe n (n + 0 + 1) (entered names ++ ms) _ (omega arith) (feeds_entered names ms (met_feeds (met_token page.now.meanings (token_of false page.names x)))) i))
  skips_handed n s i (LineTaken line q) = calm_safe n (ListsEnded ∷ Taken line ∷ []) s tt i
  skips_handed n s i (InvalidMet q) = calm_safe n (ListsEnded ∷ Skipped ∷ reported page InvalidCharacter []) s (calm_behind (style_of page) page.reports) i
  skips_handed n s i (FileOver q) =
      calm_safe n (ListsEnded ∷ FileClosed ∷ checked (at_line q.number page) (Some (SkippedText line))) s (calm_behind (style_of page) page.reports) i
  skips_handed n s i NothingLeft = calm_safe n (ListsEnded ∷ no_end page) s tt i

-- THE RULE

begun_safe : (s : State) (work : List Reading) (r : Reading) (c : Call) (e : Effect) (ts : List Token) → SafeOnward (answered s work r (ActsOn c e ts))
begun_safe s work r c (effect.StartInput back) ts = input_safe s.files (page_of s) back (file_name (character_codes ts))
begun_safe s work r c e ts = tame_safe (answered s work r (ActsOn c e ts)) (answered_tame s work r (ActsOn c e ts) tt)

answered_safe : (s : State) (work : List Reading) (r : Reading) (a : Ask) → SafeOnward (answered s work r a)
answered_safe s work r (More want) =
    handed_safe (page_of s) (enters_names want) (scanning work s.gathered) (λ x. wanted (page_of s) want (feeding r x) x)
    (λ x. wanted_tame (page_of s) want (feeding r x) x (kind_tame r.kind r.fed x)) (pulled s.groups.now.categories s.pending)
answered_safe s work r (ActsOn c e ts) = begun_safe s work r c e ts
answered_safe s work r a = tame_safe (answered s work r a) (answered_tame s work r a tt)

module _ (n : ℕ) (s : State) (short : AreShort n s.work) where
  -- by the innermost reading
  module _ (k : Kind) (fed : List Fed) (rs : List Reading) (w : s.work ≡ record { kind = k; fed = fed } ∷ rs) where
    abbrev reading : Reading
    reading = record { kind = k; fed = fed }

    parts : IsShort n k fed × AreBeneath n rs
    parts = subst (AreShort n) w short

    closed_beneath : AreBeneath (n + 0) (drop 1 s.work)
    closed_beneath = subst (λ (work : List Reading). AreBeneath (n + 0) (drop 1 work)) (sym w) (beneath_later n (n + 0) rs (omega arith) parts.1)

    closed_safe : 0 < n → (ms : List Move) → Tame ms → Safe n (Closed ∷ ms) s
    closed_safe pos ms h = (short, tame_safe ms h (n + 0) (made Closed (record s { due = ms })) (omega (arith, pos)) closed_beneath)

    other_safe : IsBeneath n k → 0 < n → Safe n (answered s (reading ∷ rs) reading (ask k fed)) s
    other_safe h pos = answered_safe s (reading ∷ rs) reading (ask k fed) n s pos (subst (AreBeneath n) (sym w) (h, parts.1))

  skips_safe : (c : Call) (aim : Aim) (line : ℕ) (fed : List Fed) (rs : List Reading) (w : s.work ≡ record { kind = Skips c aim line; fed = fed } ∷ rs) →
      Safe n (answered s (record { kind = Skips c aim line; fed = fed } ∷ rs) (record { kind = Skips c aim line; fed = fed }) (ask (Skips c aim line) fed)) s
  skips_safe c aim line fed rs w =
      let k : Kind = Skips c aim line in
      let r : Reading = record { kind = k; fed = fed } in
      let page : Page = page_of s in
      let pos : 0 < n = omega (arith, (parts k fed rs w).0.short) in
      skipping_asks (λ (a : Ask). Safe n (answered s (r ∷ rs) r a) s) c aim (skips_handed page line n s short (pulled s.groups.now.categories s.pending))
      (λ e. closed_safe k fed rs w pos (reached page c (choices.step aim (above_sought aim page.conditionals) e)) (reached_tame page c (choices.step aim (above_sought aim page.conditionals) e)))
      (closed_safe k fed rs w pos [] tt) 0 fed

  kind_safe : (k : Kind) (fed : List Fed) (rs : List Reading) (w : s.work ≡ record { kind = k; fed = fed } ∷ rs) →
      Safe n (answered s (record { kind = k; fed = fed } ∷ rs) (record { kind = k; fed = fed }) (ask k fed)) s
  kind_safe (Skips c aim line) fed rs w = skips_safe c aim line fed rs w
  kind_safe k fed rs w = other_safe k fed rs w (parts k fed rs w).0 (parts k fed rs w).0

  work_safe : (work : List Reading) → s.work ≡ work → Safe n (planned s work) s
  work_safe [] w = first_safe (page_of s) false None (stomach (page_of s)) (stomach_tame (page_of s)) n s w refl (pulled s.groups.now.categories s.pending)
  work_safe (r ∷ rs) w = kind_safe r.kind r.fed rs w

  ruled_safe : (o : Option (List ℕ)) → Safe n (ruled s o) s
  ruled_safe None = work_safe s.work refl
  ruled_safe (Some bytes) = calm_safe n (ListsEnded ∷ FirstTaken (first_line bytes) ∷ []) s tt short

  plan_safe : (o : Option Outcome) → Safe n (plan s o) s
  plan_safe None = ruled_safe s.pending.next
  plan_safe (Some o) = short

-- RUNS

ends : (s : State) → s.due ≡ [] → plan s s.stopped ≡ [] → next s ≡ Ends
unfolding next
ends s e f = rw e (rw f refl)

module _ (n : ℕ) (s u : State) (m : Move) (goes : next s ≡ Goes m u) where
  went_by : (d : Move) (ds : List Move) → next s ≡ Goes d (made d (record s { due = ds })) → Safe n (d ∷ ds) s → Safe (n + step_of m) u.due u
  went_by d ds e h =
      let t : State = made d (record s { due = ds }) in
      let same : SameMove d m t u = goes_one_way s t u d m e goes in
      let there : Safe (n + step_of d) t.due t = subst (λ (ms : List Move). Safe (n + step_of d) ms t) (sym (due_kept d (record s { due = ds }))) h.1 in
      subst (λ (x : State). Safe (n + step_of m) x.due x) same.state (subst (λ (x : Move). Safe (n + step_of x) t.due t) same.move there)

  went_plan : (ms : List Move) → s.due ≡ [] → plan s s.stopped ≡ ms → Safe n ms s → Safe (n + step_of m) u.due u
  went_plan [] e f h = let none : next s ≡ Ends = ends s e f in absurd (cc (none, goes))
  went_plan (d ∷ ds) e f h = went_by d ds (next_plan s d ds e f) h

  went_due : (ms : List Move) → s.due ≡ ms → Safe n ms s → Safe (n + step_of m) u.due u
  went_due [] e h = went_plan (plan s s.stopped) e refl (plan_safe n s h s.stopped)
  went_due (d ∷ ds) e h = went_by d ds (next_due s d ds e) h

ran : (n : ℕ) (s t : State) (ms : List Move) → Safe n s.due s → Moves s ms t → AreShort (n + steps ms) t.work
ran n s t [] h moves = short_later n (n + 0) t.work (omega arith) (subst (λ (x : State). AreShort n x.work) moves (safe_now n s.due s h))
ran n s t (m ∷ ms) h moves =
    short_later ((n + step_of m) + steps ms) (n + steps (m ∷ ms)) t.work (omega arith) (ran (n + step_of m) moves.0 t ms (went_due n s moves.0 m moves.1.0 s.due refl h) moves.1.1)

job_calm : (style : Style) (file : List ℕ) (job : Option (List ℕ)) → Calm (job_due style file job)
job_calm style file None = tt
job_calm style file (Some bytes) = tt

job_safe : (n : ℕ) (groups : Groups) (quiet : Bool) (file : List ℕ) (job : Option (List ℕ)) (files : Files) →
    Safe n (first_state groups quiet file job files).due (first_state groups quiet file job files)
job_safe n groups quiet file job files =
    let style : Style = style_in groups.now primitive_names in
    calm_safe n (job_due style file job) (first_state groups quiet file job files) (job_calm style file job) tt

begins_safe : (n : ℕ) (s : State) → Begins s → AreShort n s.work → Safe n s.due s
begins_safe n s (AtRule e) h = subst (λ (ms : List Move). Safe n ms s) (sym e) h
begins_safe n s (AtJob groups quiet file job files e) h = subst (λ (x : State). Safe n x.due x) (sym e) (job_safe n groups quiet file job files)

pub texts_rise : (n : ℕ) (s t : State) (ms : List Move) → Begins s → AreShort n s.work → Moves s ms t → AreShort (n + steps ms) t.work
texts_rise n s t ms b short moves = ran n s t ms (begins_safe n s b short) moves

pub texts_count : (groups : Groups) (quiet : Bool) (file : List ℕ) (job : Option (List ℕ)) (files : Files) (t : State) (ms : List Move) →
    Moves (first_state groups quiet file job files) ms t → steps ms < 2 ^ 64 → AreShort greatest_count t.work
texts_count groups quiet file job files t ms moves few =
    short_later (0 + steps ms) greatest_count t.work (omega (arith, few)) (ran 0 (first_state groups quiet file job files) t ms (job_safe 0 groups quiet file job files) moves)
