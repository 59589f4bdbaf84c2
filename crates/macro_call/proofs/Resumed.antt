-- What a scanner will answer behind a token in a place.
use Rattle.std.proofs.Common.{◌≡◌, ℕ, ◌+◌, ◌<◌, List, [], ◌∷◌, ◌++◌, length, take, drop, map, Bool, Option, None, Some, refl, sym, ap, ap₂, subst, ◌∙◌, arith}
use Rattle.std.specs.Prelude.{option_map}
use Rattle.std.proofs.lemmas.List.{take-append-drop}
use Rattle.std.proofs.lemmas.Option.{same_Some}
use Rattle.tex_defs.specs.declared.Token.{Token}
use Rattle.token_lists.specs.Ids.{build_id, IsBuilding}
use Rattle.token_lists.specs.Table.{Entry}
use Rattle.token_lists.specs.Accounts.{Moves, none, holds}
use Rattle.plain_tokens.specs.declared.par_mode.ParMode.{ParMode}
use Rattle.plain_tokens.specs.Arguments.{start_of, unmatched, Case, Argument, Fed, Tok, Answer, search, behind, call, case_at, in_work, More, sought, arguments_in, work_in}
use Rattle.plain_tokens.specs.Arguments as plain
use Rattle.macro_call.proofs.ArgumentRuns.{search_at, found_after}
use Rattle.macro_call.specs.declared.present.Present.{Present}
use Rattle.macro_call.specs.declared.scan.ArgScan.{ArgScan}
use Rattle.macro_call.specs.declared.ask.CallAsk.{CallAsk}
use Rattle.macro_args.specs.Args.{cell_tokens, args_in, args_hold}
use Rattle.macro_call.specs.Cursors.{IsAhead, rest_at, delimiter_at}
use Rattle.macro_call.specs.Holds.{present_holds}
use Rattle.macro_call.specs.Growths.{target_of, growth_of}
use Rattle.macro_call.specs.Stages.{Stage, IsStage, stage_of, kept_in, read_in, target_at, gained}
use Rattle.macro_call.specs.Tables.{IsOnly}
use Rattle.macro_call.specs.PlainScans.{resume_at, places_behind}
use Rattle.macro_call.specs.Scans.{scan_of, resume, behind_at, scan_holds, Owns, Gains, IsSound, IsInPlace, Answers, answer_of, asks_brace, work_of, work_by, ScannersHaveLists}
use Rattle.macro_call.proofs.Completed.{holds_both, args_stay, args_listed, macro_apart, macro_tokens, shared_kept}
use Rattle.macro_call.proofs.Growths.{work-sought, arguments-sought, whole_met, growth_met}
use Rattle.macro_call.proofs.Tables.{on_kept}
use Rattle.macro_call.proofs.Undelimited.{plain_kept, plain_read, unmatched_nil}

-- what is answered where this is the present argument
abbrev pub resume_by : List (Option Entry) → (macro : ℕ) → ArgScan → Option Present → List Fed → Answer
resume_by table macro scan o fed = resume_at (rest_at table macro scan.cursor) (scan_of table scan) (option_map (λ p. stage_of table p) o) fed

-- the list in work is the list of the stage
works : (ds : List Token) (s : Stage) → IsStage ds s → in_work ds (kept_in s) (read_in ds s) ≡ s.list
works [] s h = ap₂ (λ (k t : List Token). k ++ unmatched [] 0 t) (plain_kept s h) (plain_read s h) ∙ unmatched_nil 0 s.list
works (d ∷ ds) s h = ap (λ (ys : List Token). kept_in s ++ ys) h.1.rest ∙ take-append-drop s.from s.list

in_place_by : (table : List (Option Entry)) (macro : ℕ) (scan : ArgScan) (o : Option Present) (p : Present) → o ≡ Some p → IsInPlace table macro scan o → IsInPlace table macro scan (Some p)
in_place_by table macro scan o p e h = subst (IsInPlace table macro scan) e h

-- in front of the first place there is no list yet
front_more : (mode : ParMode) (start : List Token) (places : List (List Token)) → 0 < length start → call mode start places [] ≡ More [] None
front_more mode [] places some = absurd (omega arith)
front_more mode (d ∷ ds) places some = refl

lists_by : (table : List (Option Entry)) (macro : ℕ) (scan : ArgScan) (o : Option Present) → IsInPlace table macro scan o →
    (args_in table scan.args ≡ arguments_in (resume_by table macro scan o [])) × (work_by table o ≡ work_in (resume_by table macro scan o []))
lists_by table macro scan None h =
    let more = front_more scan.mode (start_of (rest_at table macro scan.cursor)) (plain.places_of (rest_at table macro scan.cursor)) h.2 in
    (ap (λ (n : ℕ). map (λ cell. cell_tokens table cell) (take n scan.args.lists)) h.0 ∙ sym (ap arguments_in more), sym (ap work_in more))
lists_by table macro scan (Some p) h =
    let list = in_work (delimiter_at table macro scan.cursor) (kept_in (stage_of table p)) (read_in (delimiter_at table macro scan.cursor) (stage_of table p)) in (
      sym (arguments-sought (args_in table scan.args) scan.braced list),
      ap Some (sym (works (delimiter_at table macro scan.cursor) (stage_of table p) h.1)) ∙ sym (work-sought (args_in table scan.args) scan.braced list),
    )

pub has_lists : ScannersHaveLists
has_lists table macro scan sound =
    let both = lists_by table macro scan scan.present sound.in_place in
    record { args = both.0; work = both.1 }

module _ (old_table table : List (Option Entry)) (macro : ℕ) (old : ArgScan) (x : Token) (p : Present) (present : old.present ≡ Some p) (sound : IsSound old_table macro old)
    (others : IsOnly old_table table (build_id p.build)) (account : Moves old_table table none none) where
  pub here : IsInPlace old_table macro old (Some p)
  here = in_place_by old_table macro old old.present p present sound.in_place

  old_args : args_in table old.args ≡ args_in old_table old.args
  old_args = args_stay old_table table macro old p present here.0 sound.owns sound.outside others

  old_rest : rest_at table macro old.cursor ≡ rest_at old_table macro old.cursor
  old_rest = ap (drop old.cursor.index) (macro_tokens old_table table macro old p present here.0 sound.owns sound.outside others)

  -- what is answered once the case is known
  pub case_on : (c : Case) → c ≡ case_at (delimiter_at old_table macro old.cursor) old.mode (kept_in (stage_of old_table p)) (read_in (delimiter_at old_table macro old.cursor) (stage_of old_table p)) x → (fed : List Fed) →
      resume old_table macro old (Tok x ∷ fed) ≡ behind (args_in old_table old.args) (behind_at old_table macro old)
      (found_after (delimiter_at old_table macro old.cursor) old.mode (kept_in (stage_of old_table p)) (read_in (delimiter_at old_table macro old.cursor) (stage_of old_table p)) x fed c)
  case_on c is fed =
      ap (λ (o : Option Present). resume_by old_table macro old o (Tok x ∷ fed)) present
      ∙ ap (behind (args_in old_table old.args) (behind_at old_table macro old))
      (search_at (delimiter_at old_table macro old.cursor) old.braced old.mode (kept_in (stage_of old_table p)) (read_in (delimiter_at old_table macro old.cursor) (stage_of old_table p)) x fed c is)

  -- what it becomes
  pub target : (a : List Token) → Argument a ≡ case_at (delimiter_at old_table macro old.cursor) old.mode (kept_in (stage_of old_table p)) (read_in (delimiter_at old_table macro old.cursor) (stage_of old_table p)) x →
      target_of (resume old_table macro old []) (resume old_table macro old (Tok x ∷ [])) ≡ a
  target a is =
      ap₂ target_of (ap (λ (o : Option Present). resume_by old_table macro old o []) present) (case_on (Argument a) is [])
      ∙ whole_met (delimiter_at old_table macro old.cursor) old.mode (kept_in (stage_of old_table p)) (read_in (delimiter_at old_table macro old.cursor) (stage_of old_table p)) x
      (args_in old_table old.args) (behind_at old_table macro old) old.braced a

  -- what goes into the list in work
  pub growth : (met : Case) → met ≡ case_at (delimiter_at old_table macro old.cursor) old.mode (kept_in (stage_of old_table p)) (read_in (delimiter_at old_table macro old.cursor) (stage_of old_table p)) x →
      growth_of (resume old_table macro old []) (resume old_table macro old (Tok x ∷ [])) ≡ gained (delimiter_at old_table macro old.cursor) (stage_of old_table p) x met
  growth met is =
      ap₂ growth_of (ap (λ (o : Option Present). resume_by old_table macro old o []) present) (case_on met is [])
      ∙ growth_met (delimiter_at old_table macro old.cursor) old.mode (kept_in (stage_of old_table p)) (read_in (delimiter_at old_table macro old.cursor) (stage_of old_table p)) x
      (args_in old_table old.args) (behind_at old_table macro old) old.braced met
      ∙ ap (λ (ts : List Token). drop (length ts) (target_at (delimiter_at old_table macro old.cursor) (kept_in (stage_of old_table p)) (read_in (delimiter_at old_table macro old.cursor) (stage_of old_table p)) x met))
      (works (delimiter_at old_table macro old.cursor) (stage_of old_table p) here.1)

  module _ (q : Present) (n : Option Present) (now_present : n ≡ Some q) (same_build : build_id q.build ≡ build_id p.build) (building : IsBuilding table q.build) where
    now_holds : (h : ℕ) → present_holds n h + args_hold old.args h ≡ scan_holds old h
    now_holds h = ap (λ (o : Option Present). present_holds o h + args_hold old.args h) now_present ∙ ap (λ (k : ℕ). holds k h + args_hold old.args h) same_build
        ∙ sym (holds_both old_table table macro old p present here.0 sound.owns sound.outside others h)

    pub now_owns : (mode : ParMode) (braced : Bool) → Owns table (record { cursor = old.cursor; mode = mode; braced = braced; present = n; args = old.args })
    now_owns mode braced = record {
      covered = λ h. omega (arith, now_holds h, sound.owns h, account h);
      building = λ r e. subst (λ (s : Present). IsBuilding table s.build) (same_Some q r (sym now_present ∙ e)) building;
      filled = sound.filled;
      listed = args_listed old_table table macro old p present here.0 sound.owns sound.outside others sound.listed;
    }

    pub now_gains : (mode : ParMode) (braced : Bool) → Gains old_table (scan_holds old) (scan_holds (record { cursor = old.cursor; mode = mode; braced = braced; present = n; args = old.args }))
    now_gains mode braced = record { others = λ h l. omega (arith, now_holds h); fresh = λ h l. omega (arith, now_holds h, sound.owns h, l) }

    pub now_moves : (mode : ParMode) (braced : Bool) → Moves old_table table (scan_holds old) (scan_holds (record { cursor = old.cursor; mode = mode; braced = braced; present = n; args = old.args }))
    now_moves mode braced = λ h. omega (arith, now_holds h, account h)

    module _ (mode : ParMode) (braced : Bool) (kept t : List Token) (stands : IsStage (delimiter_at old_table macro old.cursor) (stage_of table q)) (k : kept_in (stage_of table q) ≡ kept) (r : read_in (delimiter_at old_table macro old.cursor) (stage_of table q) ≡ t) (ahead : IsAhead table macro old.cursor q.matched q.next) where
      resumed : (fed : List Fed) → resume_by table macro (record { cursor = old.cursor; mode = mode; braced = braced; present = n; args = old.args }) n fed
          ≡ behind (args_in old_table old.args) (behind_at old_table macro old) (search (delimiter_at old_table macro old.cursor) braced mode kept t fed)
      resumed fed =
          ap (λ (o : Option Present). resume_by table macro (record { cursor = old.cursor; mode = mode; braced = braced; present = n; args = old.args }) o fed) now_present
          ∙ ap₂ (λ (args : List (List Token)) (rest : List Token). behind args (places_behind args rest) (search (start_of rest) braced mode (kept_in (stage_of table q)) (read_in (start_of rest) (stage_of table q)) fed)) old_args old_rest
          ∙ ap₂ (λ (u v : List Token). behind (args_in old_table old.args) (behind_at old_table macro old) (search (delimiter_at old_table macro old.cursor) braced mode u v fed)) k r

      now_in_place : IsInPlace table macro (record { cursor = old.cursor; mode = mode; braced = braced; present = n; args = old.args }) (Some q)
      now_in_place = (
        building,
        subst (λ (rest : List Token). IsStage (start_of rest) (stage_of table q)) (sym old_rest) stands,
        here.2,
        ahead,
      )

      now_sound : IsSound table macro (record { cursor = old.cursor; mode = mode; braced = braced; present = n; args = old.args })
      now_sound = record {
        owns = (now_owns mode braced).covered;
        on = on_kept old_table table (build_id p.build) macro others (macro_apart old_table table macro old p present here.0 sound.owns sound.outside others) old.cursor sound.on;
        outside = omega (arith, now_holds macro, account macro, sound.outside);
        filled = sound.filled;
        listed = args_listed old_table table macro old p present here.0 sound.owns sound.outside others sound.listed;
        in_place = subst (IsInPlace table macro (record { cursor = old.cursor; mode = mode; braced = braced; present = n; args = old.args })) (sym now_present) now_in_place;
      }

      work : work_of table (record { cursor = old.cursor; mode = mode; braced = braced; present = n; args = old.args }) ≡ Some (in_work (delimiter_at old_table macro old.cursor) kept t)
      work = ap (work_by table) now_present
          ∙ ap Some (sym (works (delimiter_at old_table macro old.cursor) (stage_of table q) stands) ∙ ap₂ (λ (u v : List Token). in_work (delimiter_at old_table macro old.cursor) u v) k r)

      pub goes : (a : CallAsk) → braced ≡ asks_brace a → ((args : List (List Token)) (ts : List Token) → answer_of a args (Some ts) ≡ sought args braced ts) →
          ((fed : List Fed) → resume old_table macro old (Tok x ∷ fed) ≡ behind (args_in old_table old.args) (behind_at old_table macro old) (search (delimiter_at old_table macro old.cursor) braced mode kept t fed)) →
          Answers old_table table macro old (record { cursor = old.cursor; mode = mode; braced = braced; present = n; args = old.args }) x a
      goes a asked is on = record {
        answers = ap₂ (answer_of a) old_args work ∙ is (args_in old_table old.args) (in_work (delimiter_at old_table macro old.cursor) kept t) ∙ sym (on []);
        args = old_args ∙ sym (ap arguments_in (on []) ∙ arguments-sought (args_in old_table old.args) braced (in_work (delimiter_at old_table macro old.cursor) kept t));
        work = work ∙ sym (ap work_in (on []) ∙ work-sought (args_in old_table old.args) braced (in_work (delimiter_at old_table macro old.cursor) kept t));
        braced = asked;
        goes_on = λ o. record { sound = now_sound; same = λ fed. on fed ∙ sym (resumed fed) };
        owns = now_owns mode braced;
        moves = now_moves mode braced;
        gains = now_gains mode braced;
        kept = shared_kept old_table table macro old p present here.0 sound.owns sound.outside others;
      }
