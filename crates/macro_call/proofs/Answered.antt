-- What a scanner answers to a token in a place.
use Rattle.std.proofs.Common.{◌≡◌, ℕ, ◌<◌, ◌≤◌, length, List, [], ◌∷◌, ◌++◌, drop, Bool, true, false, Option, None, Some, refl, sym, ap, ap₂, subst, ◌∙◌, arith, inl, inr, Result, Ok, Err}
use Rattle.std.specs.Prelude.{unwrap_or, option_map}
use Rattle.std.specs.Result.{IfOk, OnErr}
use Rattle.tex_defs.specs.declared.Full.{Full}
use Rattle.std.proofs.lemmas.Option.{none-some}
use Rattle.std.proofs.lemmas.Bool.{cases_lt}
use Rattle.tex_defs.specs.declared.Token.{Token}
use Rattle.token_lists.specs.Ids.{build_id, IsBuilding}
use Rattle.token_lists.specs.Table.{Entry, tokens_at, holders_at}
use Rattle.token_lists.specs.Accounts.{Moves, Keeps, none}
use Rattle.plain_tokens.specs.declared.par_mode.ParMode.{ParMode}
use Rattle.plain_tokens.specs.declared.par_mode.ParMode.TheVariants.{Short}
use Rattle.plain_tokens.specs.Arguments.{Fed, Tok, Ended, arguments, is_checked, arguments_in, work_in, case_at}
use Rattle.macro_call.specs.declared.cursor.Cursor.{Cursor}
use Rattle.macro_call.specs.declared.present.Present.{Present}
use Rattle.macro_call.specs.declared.present.Step.{Step}
use Rattle.macro_call.specs.declared.present.Step.TheVariants as step
use Rattle.macro_call.specs.declared.scan.ArgScan.{ArgScan}
use Rattle.macro_call.specs.declared.ask.CallAsk.{CallAsk}
use Rattle.macro_call.specs.declared.ask.CallAsk.TheVariants as ask
use Rattle.macro_args.specs.Args.{args_in}
use Rattle.macro_call.specs.Cursors.{delimiter_at}
use Rattle.macro_call.specs.Stages.{Stage, stage_of, kept_in, read_in, gained}
use Rattle.macro_call.specs.Tables.{IsGrownByPart}
use Rattle.macro_call.specs.PlainScans.{Scan, with_work, places_behind}
use Rattle.macro_call.specs.Scans.{resume, left_at, behind_at, scan_holds, IsSound, Answers, TookIn, CutIn, IsCutShort, Completes, Enters, args_with, work_by, work_tokens}
use Rattle.macro_call.specs.Growths.{target_of}
use Rattle.macro_call.proofs.Growths.{arguments-more}
use Rattle.macro_call.proofs.Completed.{args_stay, macro_tokens, shared_kept}
use Rattle.macro_call.proofs.Resumed.{case_on, target, growth, goes, now_owns, now_moves, now_gains, here}

pub record Parts (old_table table : List (Option Entry)) (macro : ℕ) (cursor : Cursor) (mode : ParMode) (x : Token) (s : Step) (o n : Option Present) : Type 0 where
  pub p : Present
  pub q : Present
  pub was : o ≡ Some p
  pub now : n ≡ Some q
  pub took : TookIn old_table table macro cursor mode x s (Some p) (Some q)

pub parts : (old_table table : List (Option Entry)) (macro : ℕ) (cursor : Cursor) (mode : ParMode) (x : Token) (s : Step) (o n : Option Present) → TookIn old_table table macro cursor mode x s o n → Parts old_table table macro cursor mode x s o n
parts old_table table macro cursor mode x s None n h = absurd h
parts old_table table macro cursor mode x s (Some p) None h = absurd h
parts old_table table macro cursor mode x s (Some p) (Some q) h = record { p = p; q = q; was = refl; now = refl; took = h }

pub parts_at : (old_table table : List (Option Entry)) (macro : ℕ) (cursor : Cursor) (mode : ParMode) (x : Token) (s r : Step) (o n : Option Present) → s ≡ r → TookIn old_table table macro cursor mode x s o n → Parts old_table table macro cursor mode x r o n
parts_at old_table table macro cursor mode x s r o n e h = subst (λ (t : Step). Parts old_table table macro cursor mode x t o n) e (parts old_table table macro cursor mode x s o n h)

module _ (old_table table : List (Option Entry)) (macro : ℕ) (old : ArgScan) (x : Token) (n : Option Present) (sound : IsSound old_table macro old) (account : Moves old_table table none none) where
  pub going : Parts old_table table macro old.cursor old.mode x step.Going old.present n → Answers old_table table macro old (record { cursor = old.cursor; mode = old.mode; braced = false; present = n; args = old.args }) x ask.More
  going t = goes old_table table macro old x t.p t.was sound t.took.2 account t.q n t.now t.took.0 t.took.1 old.mode false _ _ t.took.3.goes_on.2 t.took.3.goes_on.0 t.took.3.goes_on.1 t.took.4 ask.More refl (λ args ts. refl)
      (case_on old_table table macro old x t.p t.was sound t.took.2 account _ t.took.3.met)

  pub skipped : Parts old_table table macro old.cursor old.mode x step.Skipped old.present n → Answers old_table table macro old (record { cursor = old.cursor; mode = old.mode; braced = false; present = n; args = old.args }) x ask.More
  skipped t = goes old_table table macro old x t.p t.was sound t.took.2 account t.q n t.now t.took.0 t.took.1 old.mode false _ _ t.took.3.goes_on.2 t.took.3.goes_on.0 t.took.3.goes_on.1 t.took.4 ask.More refl (λ args ts. refl)
      (case_on old_table table macro old x t.p t.was sound t.took.2 account _ t.took.3.met)

  pub braced : Parts old_table table macro old.cursor old.mode x step.ExtraBrace old.present n → Answers old_table table macro old (record { cursor = old.cursor; mode = Short; braced = true; present = n; args = old.args }) x ask.ExtraBrace
  braced t = goes old_table table macro old x t.p t.was sound t.took.2 account t.q n t.now t.took.0 t.took.1 Short true _ _ t.took.3.goes_on.2 t.took.3.goes_on.0 t.took.3.goes_on.1 t.took.4 ask.ExtraBrace refl (λ args ts. refl)
      (case_on old_table table macro old x t.p t.was sound t.took.2 account _ t.took.3.met)

  pub ended : (silent : Bool) → silent ≡ is_checked old.mode → Parts old_table table macro old.cursor old.mode x step.ParEnded old.present n → Answers old_table table macro old (record { cursor = old.cursor; mode = old.mode; braced = false; present = n; args = old.args }) x (ask.ParEnded silent)
  ended silent is t = record {
    answers = ap₂ (λ (b : Bool) (ts : List Token). Ended b (args_in table old.args) ts) is (ap (λ (o : Option Present). unwrap_or (work_by table o) []) t.now ∙ t.took.3.goes_on)
        ∙ ap (λ (us : List (List Token)). Ended (is_checked old.mode) us (kept_in (stage_of old_table t.p) ++ read_in (delimiter_at old_table macro old.cursor) (stage_of old_table t.p)))
        (args_stay old_table table macro old t.p t.was (here old_table table macro old x t.p t.was sound t.took.2 account).0 sound.owns sound.outside t.took.2)
        ∙ sym (case_on old_table table macro old x t.p t.was sound t.took.2 account _ t.took.3.met []);
    args = args_stay old_table table macro old t.p t.was (here old_table table macro old x t.p t.was sound t.took.2 account).0 sound.owns sound.outside t.took.2
        ∙ sym (ap arguments_in (case_on old_table table macro old x t.p t.was sound t.took.2 account _ t.took.3.met []));
    work = ap (work_by table) t.now ∙ ap Some t.took.3.goes_on ∙ sym (ap work_in (case_on old_table table macro old x t.p t.was sound t.took.2 account _ t.took.3.met []));
    braced = refl;
    goes_on = λ o. absurd o;
    owns = now_owns old_table table macro old x t.p t.was sound t.took.2 account t.q n t.now t.took.0 t.took.1 old.mode false;
    moves = λ h. omega (arith, now_moves old_table table macro old x t.p t.was sound t.took.2 account t.q n t.now t.took.0 t.took.1 old.mode false h);
    gains =
        let g = now_gains old_table table macro old x t.p t.was sound t.took.2 account t.q n t.now t.took.0 t.took.1 old.mode false in
        record { others = λ h l. omega (arith, g.others h l); fresh = λ h l. omega (arith, g.fresh h l) };
    kept = shared_kept old_table table macro old t.p t.was (here old_table table macro old x t.p t.was sound t.took.2 account).0 sound.owns sound.outside t.took.2;
  }

  -- the argument is whole
  module _ (taken : ArgScan) (is : taken ≡ record { cursor = old.cursor; mode = old.mode; braced = false; present = n; args = old.args }) (between_table : List (Option Entry)) (mid : ArgScan)
      (t : Parts old_table table macro old.cursor old.mode x step.Argument old.present n) (done : Completes table between_table macro taken mid) where
    building : IsBuilding old_table t.p.build
    building = (here old_table table macro old x t.p t.was sound t.took.2 account).0

    taken_args : args_in table taken.args ≡ args_in old_table old.args
    taken_args = ap (λ (s : ArgScan). args_in table s.args) is ∙ args_stay old_table table macro old t.p t.was building sound.owns sound.outside t.took.2

    taken_places : behind_at table macro taken ≡ behind_at old_table macro old
    taken_places = ap (λ (s : ArgScan). behind_at table macro s) is
        ∙ ap₂ (λ (us : List (List Token)) (ts : List Token). places_behind us (drop old.cursor.index ts)) (args_stay old_table table macro old t.p t.was building sound.owns sound.outside t.took.2)
        (macro_tokens old_table table macro old t.p t.was building sound.owns sound.outside t.took.2)

    taken_mode : mid.mode ≡ old.mode
    taken_mode = done.mode ∙ ap (λ (s : ArgScan). s.mode) is

    value : work_tokens table taken ≡ tokens_at table (build_id t.q.build)
    value = ap (work_tokens table) is ∙ ap (λ (o : Option Present). unwrap_or (work_by table o) []) t.now

    mid_args : args_in between_table mid.args ≡ args_in old_table old.args ++ tokens_at table (build_id t.q.build) ∷ []
    mid_args = done.args ∙ ap₂ (λ (us : List (List Token)) (ts : List Token). us ++ ts ∷ []) taken_args value

    taken_moves : Moves old_table table (scan_holds old) (scan_holds taken)
    taken_moves = subst (λ (s : ArgScan). Moves old_table table (scan_holds old) (scan_holds s)) (sym is) (now_moves old_table table macro old x t.p t.was sound t.took.2 account t.q n t.now t.took.0 t.took.1 old.mode false)

    mid_moves : Moves old_table between_table (scan_holds old) (scan_holds mid)
    mid_moves h = omega (arith, taken_moves h, done.moves h)

    taken_holds : (h : ℕ) → scan_holds taken h ≡ scan_holds old h
    taken_holds h = omega (arith, taken_moves h, account h)

    mid_few : (h : ℕ) → scan_holds mid h ≤ scan_holds old h
    mid_few h = omega (arith, taken_holds h, done.fewer h)

    taken_kept : Keeps old_table table (scan_holds old)
    taken_kept = shared_kept old_table table macro old t.p t.was building sound.owns sound.outside t.took.2

    mid_kept : Keeps old_table between_table (scan_holds old)
    mid_kept = record {
      tokens = λ h l. done.kept.tokens h (omega (arith, taken_moves h, l)) ∙ taken_kept.tokens h l;
      places = λ h l. done.kept.places h (omega (arith, taken_moves h, l)) ∙ taken_kept.places h l;
    }

    whole_on : (fed : List Fed) → resume old_table macro old (Tok x ∷ fed) ≡ arguments mid.mode (args_in between_table mid.args) (left_at between_table macro mid) fed
    whole_on fed =
        case_on old_table table macro old x t.p t.was sound t.took.2 account _ t.took.3.met fed
        ∙ ap (λ (m : ParMode). arguments m (args_in old_table old.args ++ tokens_at table (build_id t.q.build) ∷ []) (behind_at old_table macro old) fed) (sym taken_mode)
        ∙ ap₂ (λ (us ps : List (List Token)). arguments mid.mode us ps fed) (sym mid_args) (sym (done.places ∙ taken_places))

    pub whole_answers : (new_table : List (Option Entry)) (new : ArgScan) (a : CallAsk) → Enters between_table new_table macro mid new a → Answers old_table new_table macro old new x a
    whole_answers new_table new a e = record {
      answers = e.answers ∙ sym (whole_on []);
      args = e.args ∙ sym (ap arguments_in (whole_on []));
      work = e.work ∙ sym (ap work_in (whole_on []));
      braced = e.braced;
      goes_on = λ o. record { sound = e.sound o; same = λ fed. whole_on fed ∙ e.same o fed };
      owns = e.owns;
      moves = λ h. omega (arith, mid_moves h, e.moves h);
      gains = record {
        others = λ h l. elim (cases_lt 0 (holders_at between_table h)) [
          | inl some ↦ omega (arith, mid_few h, e.gains.others h some)
          | inr none ↦ omega (arith, mid_moves h, none, l, e.gains.fresh h (omega (arith, none)))
        ];
        fresh = λ h l. elim (cases_lt 0 (holders_at between_table h)) [
          | inl some ↦ omega (arith, mid_few h, e.gains.others h some, sound.owns h, l)
          | inr none ↦ omega (arith, e.gains.fresh h (omega (arith, none)))
        ];
      };
      kept = record {
        tokens = λ h l. e.kept.tokens h (omega (arith, mid_moves h, l)) ∙ mid_kept.tokens h l;
        places = λ h l. e.kept.places h (omega (arith, mid_moves h, l)) ∙ mid_kept.places h l;
      };
    }

    whole_cut_mid : 0 < length (left_at between_table macro mid) → IsCutShort old_table between_table macro old mid x
    whole_cut_mid some = record {
      owns = record { covered = done.between.owns; building = λ r e. absurd (no_some r (sym done.between.none ∙ e)); filled = done.between.filled; listed = done.between.listed };
      moves = mid_moves;
      gains = record { others = λ h l. mid_few h; fresh = λ h l. omega (arith, mid_few h, sound.owns h, l) };
      kept = mid_kept;
      stage = inr (record {
        none = done.between.none;
        mode = taken_mode;
        unbraced = done.between.unbraced;
        args = mid_args
            ∙ ap (λ (a : List Token). args_in old_table old.args ++ a ∷ []) (sym (target old_table table macro old x t.p t.was sound t.took.2 account (tokens_at table (build_id t.q.build)) t.took.3.met))
            ∙ sym (ap (λ (o : Option Present). args_with (option_map (λ s. stage_of old_table s) o) (args_in old_table old.args) (target_of (resume old_table macro old []) (resume old_table macro old (Tok x ∷ [])))) t.was);
        due = whole_on [] ∙ arguments-more mid.mode (args_in between_table mid.args) (left_at between_table macro mid) some;
        same = whole_on;
      });
    }
      where
        no_some : (r : Present) → None ≡ Some r → ⊥
        no_some r e = none-some r e

    pub whole_cut : (new_table : List (Option Entry)) (new : ArgScan) → new_table ≡ between_table → new ≡ mid → 0 < length (left_at between_table macro mid) → IsCutShort old_table new_table macro old new x
    whole_cut new_table new e f some = subst (λ (u : List (Option Entry)). IsCutShort old_table u macro old new x) (sym e) (subst (λ (s : ArgScan). IsCutShort old_table between_table macro old s x) (sym f) (whole_cut_mid some))

    pub whole_ok : (new_table : List (Option Entry)) (new : ArgScan) (r : Result CallAsk Full) → IfOk r (λ a. Enters between_table new_table macro mid new a) → IfOk r (λ a. Answers old_table new_table macro old new x a)
    whole_ok new_table new (Ok a) h = whole_answers new_table new a h
    whole_ok new_table new (Err f) h = tt

    pub whole_err : (new_table : List (Option Entry)) (new : ArgScan) (r : Result CallAsk Full) → OnErr r (new_table ≡ between_table) → OnErr r (new ≡ mid) → OnErr r (0 < length (left_at between_table macro mid)) → OnErr r (IsCutShort old_table new_table macro old new x)
    whole_err new_table new (Ok a) e f some = tt
    whole_err new_table new (Err g) e f some = whole_cut new_table new e f some

-- a scanner as plain data, where the argument stands so
abbrev seen : ArgScan → Stage → List (List Token) → Scan
seen scan s us = record { at = scan.cursor.index; mode = scan.mode; braced = scan.braced; present = Some s; args = us }

abbrev seen_at : List (Option Entry) → ArgScan → Option Present → Scan
seen_at table scan o = record { at = scan.cursor.index; mode = scan.mode; braced = scan.braced; present = option_map (λ p. stage_of table p) o; args = args_in table scan.args }

-- the memory is full at a step
pub cut_step : (old_table table : List (Option Entry)) (macro : ℕ) (old : ArgScan) (x : Token) (o n : Option Present) → old.present ≡ o → IsSound old_table macro old → Moves old_table table none none → CutIn old_table table macro old.cursor old.mode x o n →
    IsCutShort old_table table macro old (record { cursor = old.cursor; mode = old.mode; braced = old.braced; present = n; args = old.args }) x
cut_step old_table table macro old x None n e sound account h = absurd h
cut_step old_table table macro old x (Some p) None e sound account h = absurd h
cut_step old_table table macro old x (Some p) (Some q) e sound account h =
    let building = (here old_table table macro old x p e sound h.2 account).0 in
    let same_stage : stage_of table q ≡ record { list = tokens_at table (build_id q.build); from = p.from; matched = p.matched; depth = p.depth } =
    ap₂ (λ (f m : ℕ). record { list = tokens_at table (build_id q.build); from = f; matched = m; depth = q.depth }) h.3.from h.3.matched
    ∙ ap (λ (d : ℕ). record { list = tokens_at table (build_id q.build); from = p.from; matched = p.matched; depth = d }) h.3.depth in
    let met = case_at (delimiter_at old_table macro old.cursor) old.mode (kept_in (stage_of old_table p)) (read_in (delimiter_at old_table macro old.cursor) (stage_of old_table p)) x in
    record {
      owns = now_owns old_table table macro old x p e sound h.2 account q (Some q) refl h.0 h.1 old.mode old.braced;
      moves = now_moves old_table table macro old x p e sound h.2 account q (Some q) refl h.0 h.1 old.mode old.braced;
      gains = now_gains old_table table macro old x p e sound h.2 account q (Some q) refl h.0 h.1 old.mode old.braced;
      kept = shared_kept old_table table macro old p e building sound.owns sound.outside h.2;
      stage = inl (record {
        was = tokens_at old_table (build_id p.build);
        now = tokens_at table (build_id q.build);
        before = ap (work_by old_table) e;
        after = refl;
        part = subst (IsGrownByPart (tokens_at old_table (build_id p.build)) (tokens_at table (build_id q.build))) (sym (growth old_table table macro old x p e sound h.2 account met refl))
            (subst (λ (i : ℕ). IsGrownByPart (tokens_at old_table (build_id p.build)) (tokens_at table i) (gained (delimiter_at old_table macro old.cursor) (stage_of old_table p) x met)) (sym h.0) h.4);
        args = args_stay old_table table macro old p e building sound.owns sound.outside h.2;
        scan = ap₂ (λ (s : Stage) (us : List (List Token)). seen old s us) same_stage (args_stay old_table table macro old p e building sound.owns sound.outside h.2)
            ∙ sym (ap (λ (o : Option Present). with_work (seen_at old_table old o) (tokens_at table (build_id q.build))) e);
      });
    }
