use Rattle.std.proofs.Common.{◌∙◌, [], ◌∷◌, map, refl, ap, subst, Some}
use Rattle.rows.specs.declared.command.Effect.{Effect}
use Rattle.plain_tokens.specs.Tokens.{character_codes}
use Rattle.rows.specs.Readings.{ActsOn}
use Rattle.reading_frames.specs.Views.{kept_list_of}
use Rattle.equivalents.specs.Cases.{case_codes, case_changed}
use Rattle.rows.specs.Suiting.{IsSuited}
use Rattle.plain_machine.specs.Plan.{acts_on, put_text}
use Rattle.plain_machine.proofs.Pulls.{text_none}
use Rattle.plain_machine.specs.States.{Closed}
use Rattle.plain_machine.proofs.Doing.{did_none}
use Rattle.engine_state.specs.Book.{with_work}
use Rattle.engine_state.specs.Stands.{page_of, state_of}
use Rattle.engine_state.specs.declared.engine.Engine.{Engine}
use Rattle.plain_machine.specs.Weights.{pending_weight}
use Rattle.engine_state.proofs.Counting.{counts_of}
use Rattle.engine_state.proofs.Joining.{column_went, same_err, ok_to, err_to, went_by}
use Rattle.gullet.proofs.Stepping.{free_of}
use Rattle.stomach.proofs.ActingAlone.{front_stands}
use Rattle.stomach.proofs.ActsEnding.{small_gathered}
use Rattle.engine_state.proofs.CuttingReadings.{column_in, in_by, stands_in}
use Rattle.engine_state.proofs.AtLocations.{only_frames}
use Rattle.stomach.proofs.RuleCloses.{acts_else, closed_as, column_did, column_stands, name_free}
use Rattle.stomach.proofs.Lighter.{closed_lighter_as}
use Rattle.stomach.proofs.RuleHalts.{rules_by}
use Rattle.stomach.proofs.rules.act_on.Goals.{in-Message+in_ok-write_message-in-Message, in-MakeName+in_ok-make_name-in-MakeName, in-ChangeCase+in_ok-put_changed-in-ChangeCase, in_default}
use Rattle.stomach.proofs.rules.act_on.Goals as goal

pub returns-in_err-write_message-in-Message-clause-err : goal.returns-in_err-write_message-in-Message-clause-err
returns-in_err-write_message-in-Message-clause-err g c = let e = c.args.engine.now in let e' = c.write_message.new.self in let i = c.in_err-write_message-in-Message in
    same_err c.from_residual.result i.field-0.0 _ c.from_residual.ensures.1
    (λ sizes f book r rs st asks. in_by sizes _ e' _ _ _ _ i.field-0.0 (ap (λ (x : Effect). acts_on (page_of e book) c.args.call x (kept_list_of c.args.listed e.input.builds)) c.in-Message.is)
    (stands_in sizes e e' (with_work (r ∷ rs) book) _ _ _ i.field-0.0 (i.ensures.err sizes f (with_work (r ∷ rs) book) (Closed ∷ [])) (only_frames e e' c.write_message.ensures.only) st))

pub returns-in-ErrorMessage-clause-rule : goal.returns-in-ErrorMessage-clause-rule
returns-in-ErrorMessage-clause-rule g c = let e = c.args.engine.now in let n = c.report_list in
    ok_to n.result (λ ruled h sizes f book r rs st asks. rules_by sizes _ n.new.engine _ _ _ _ ruled (ap (λ (x : Effect). acts_on (page_of e book) c.args.call x (kept_list_of c.args.listed e.input.builds)) c.in-ErrorMessage.is) (h sizes f book r rs st)) n.ensures.rule

pub returns-in-ErrorMessage-clause-err : goal.returns-in-ErrorMessage-clause-err
returns-in-ErrorMessage-clause-err g c = let e = c.args.engine.now in let n = c.report_list in
    err_to n.result (λ why h sizes f book r rs st asks. in_by sizes _ n.new.engine _ _ _ _ why (ap (λ (x : Effect). acts_on (page_of e book) c.args.call x (kept_list_of c.args.listed e.input.builds)) c.in-ErrorMessage.is) (h sizes f book r rs st)) n.ensures.err

pub returns-in_err-make_name-in-MakeName-clause-err : goal.returns-in_err-make_name-in-MakeName-clause-err
returns-in_err-make_name-in-MakeName-clause-err g c = let e = c.args.engine.now in let e' = c.make_name.new.engine in let i = c.in_err-make_name-in-MakeName in
    same_err c.from_residual-in_err-make_name-in-MakeName.result i.field-0.0 _ c.from_residual-in_err-make_name-in-MakeName.ensures.1
    (λ sizes f book r rs st asks. in_by sizes _ e' _ _ _ _ i.field-0.0 (ap (λ (x : Effect). acts_on (page_of e book) c.args.call x (kept_list_of c.args.listed e.input.builds)) c.in-MakeName.is)
    (column_in sizes _ e' f _ e.in_line _ i.field-0.0 c.make_name.ensures.column
    (stands_in sizes e e' (with_work (r ∷ rs) book) _ _ _ i.field-0.0 (i.ensures.err sizes _ (with_work (r ∷ rs) book) (Closed ∷ []) st) c.make_name.ensures.frames st)))

pub returns-in_err-put_changed-in-ChangeCase-clause-err : goal.returns-in_err-put_changed-in-ChangeCase-clause-err
returns-in_err-put_changed-in-ChangeCase-clause-err g c = let e = c.args.engine.now in let e' = c.put_changed.new.self in let i = c.in_err-put_changed-in-ChangeCase in
    same_err c.from_residual-in_err-put_changed-in-ChangeCase.result i.field-0.0 _ c.from_residual-in_err-put_changed-in-ChangeCase.ensures.1
    (λ sizes f book r rs st asks. in_by sizes _ e' _ _ _ _ i.field-0.0 (ap (λ (x : Effect). acts_on (page_of e book) c.args.call x (kept_list_of c.args.listed e.input.builds)) c.in-ChangeCase.is)
    (column_in sizes _ e' f _ e.in_line _ i.field-0.0 c.put_changed.ensures.front.others.in_line
    (stands_in sizes e e' (with_work (r ∷ rs) book) _ _ _ i.field-0.0 (i.ensures.err sizes _ (with_work (r ∷ rs) book) (Closed ∷ []) (counts_of sizes e (with_work (r ∷ rs) book) st) c.requires.idle) c.put_changed.ensures.front.frames st)))

pub returns-in-SetList-clause-rule : goal.returns-in-SetList-clause-rule
returns-in-SetList-clause-rule g c = let e = c.args.engine.now in let e' = c.set_list.new.engine in let i = c.in_ok-set_list-in-SetList.ensures in let is = c.in-SetList.is in let ts = kept_list_of c.args.listed e.input.builds in
    λ sizes f book r rs st asks.
    column_went sizes _ e' f _ e.in_line _ 0 c.set_list.ensures.column
    (went_by sizes _ e' _ _ _ _ 0 (ap (λ (x : Effect). acts_on (page_of e book) c.args.call x ts) is)
    (i.rule (subst IsSuited is (small_gathered sizes e book r rs c.args.call c.args.effect ts st asks)) sizes _ book r rs st (asks ∙ ap (λ (x : Effect). Some (ActsOn c.args.call x ts)) is)))

pub returns-in_err-set_list-in-SetList-clause-err : goal.returns-in_err-set_list-in-SetList-clause-err
returns-in_err-set_list-in-SetList-clause-err g c = let e = c.args.engine.now in let e' = c.set_list.new.engine in let i = c.in_err-set_list-in-SetList in let is = c.in-SetList.is in let ts = kept_list_of c.args.listed e.input.builds in
    same_err c.from_residual-in_err-set_list-in-SetList.result i.field-0.0 _ c.from_residual-in_err-set_list-in-SetList.ensures.1
    (λ sizes f book r rs st asks. in_by sizes _ e' _ _ _ _ i.field-0.0 (ap (λ (x : Effect). acts_on (page_of e book) c.args.call x ts) is)
    (column_in sizes _ e' f _ e.in_line _ i.field-0.0 c.set_list.ensures.column
    (i.ensures.err (subst IsSuited is (small_gathered sizes e book r rs c.args.call c.args.effect ts st asks)) sizes _ book r rs st (asks ∙ ap (λ (x : Effect). Some (ActsOn c.args.call x ts)) is))))

pub returns-in-SetList-clause-light : goal.returns-in-SetList-clause-light
returns-in-SetList-clause-light g c free = λ asks. c.in_ok-set_list-in-SetList.ensures.light c.requires.uncalled (ActsOn c.args.call c.args.effect []) asks tt

pub returns-clause-rule : goal.returns-clause-rule
returns-clause-rule g c = let e = c.args.engine.now in let e1 = c.match-effect.engine in let e2 = c.close_reading.new.self in let k = c.close_reading.ensures in
    elim c.match-effect.branch [
      | in-Message+in_ok-write_message-in-Message w ↦ rw w.out-is (λ sizes f book r rs st asks.
          let n = w.write_message.new.self in
          closed_as e1 e2 n w.engine-is k.stands k.state k.others.in_line sizes _ book r rs f _ _ _ _ (ap (λ (x : Effect). acts_on (page_of e book) c.args.call x (kept_list_of c.args.listed e.input.builds)) w.in-Message.is)
          (w.in_ok-write_message-in-Message.ensures.did sizes f (with_work (r ∷ rs) book)) refl (column_stands sizes e n (with_work (r ∷ rs) book) w.write_message.ensures.only st))
      | in-MakeName+in_ok-make_name-in-MakeName w ↦ rw w.out-is (λ sizes f book r rs st asks.
          let n = w.make_name.new.engine in let i = w.in_ok-make_name-in-MakeName.ensures in
          closed_as e1 e2 n w.engine-is k.stands k.state k.others.in_line sizes _ book r rs f _ _ _ _ (ap (λ (x : Effect). acts_on (page_of e book) c.args.call x (kept_list_of c.args.listed e.input.builds)) w.in-MakeName.is)
          (column_did sizes _ _ n f _ e.in_line _ w.make_name.ensures.column (i.did sizes _ (with_work (r ∷ rs) book) st)) (name_free (page_of e book) (character_codes (kept_list_of c.args.listed e.input.builds))) (i.stands sizes (with_work (r ∷ rs) book) st))
      | in-ChangeCase+in_ok-put_changed-in-ChangeCase w ↦ rw w.out-is (λ sizes f book r rs st asks.
          let n = w.put_changed.new.self in let i = w.in_ok-put_changed-in-ChangeCase.ensures in
          let changed = map (case_changed (case_codes w.in-ChangeCase.upper (page_of e book).now)) (kept_list_of c.args.listed e.input.builds) in
          closed_as e1 e2 n w.engine-is k.stands k.state k.others.in_line sizes _ book r rs f _ _ (put_text changed) _ (ap (λ (x : Effect). acts_on (page_of e book) c.args.call x (kept_list_of c.args.listed e.input.builds)) w.in-ChangeCase.is)
          (column_did sizes _ _ n f _ e.in_line _ w.put_changed.ensures.front.others.in_line (i.did sizes _ (with_work (r ∷ rs) book) (counts_of sizes e (with_work (r ∷ rs) book) st) c.requires.idle)) (free_of (put_text changed) (text_none changed))
          (front_stands sizes e n (with_work (r ∷ rs) book) w.put_changed.ensures.front i.idle st))
      | in_default w ↦ rw w.out-is (λ sizes f book r rs st asks.
          closed_as e1 e2 e w.engine-is k.stands k.state k.others.in_line sizes _ book r rs f _ _ [] _ (acts_else (page_of e book) c.args.call c.args.effect (kept_list_of c.args.listed e.input.builds) w.in_default.not-Message w.in_default.not-ErrorMessage w.in_default.not-MakeName w.in_default.not-ChangeCase w.in_default.not-SetList)
          (did_none sizes (state_of e (with_work (r ∷ rs) book)) _) refl st)
    ]

pub returns-clause-light : goal.returns-clause-light
returns-clause-light g c = let e = c.args.engine.now in let e1 = c.match-effect.engine in let e2 = c.close_reading.new.self in let k = c.close_reading.ensures in
    λ free asks. elim c.match-effect.branch [
      | in-Message+in_ok-write_message-in-Message w ↦
          let n = w.write_message.new.self in
          closed_lighter_as e e1 e2 n (ActsOn c.args.call c.args.effect []) w.engine-is c.requires.uncalled asks tt (only_frames e n w.write_message.ensures.only)
          (ap (λ (x : Engine). pending_weight x.input.pending) w.write_message.ensures.only.same) k.same k.frames k.weight
      | in-MakeName+in_ok-make_name-in-MakeName w ↦
          closed_lighter_as e e1 e2 w.make_name.new.engine (ActsOn c.args.call c.args.effect []) w.engine-is c.requires.uncalled asks tt w.make_name.ensures.frames
          w.in_ok-make_name-in-MakeName.ensures.light k.same k.frames k.weight
      | in-ChangeCase+in_ok-put_changed-in-ChangeCase w ↦
          closed_lighter_as e e1 e2 w.put_changed.new.self (ActsOn c.args.call c.args.effect []) w.engine-is c.requires.uncalled asks tt w.put_changed.ensures.front.frames
          w.put_changed.ensures.front.light k.same k.frames k.weight
      | in_default w ↦
          closed_lighter_as e e1 e2 e (ActsOn c.args.call c.args.effect []) w.engine-is c.requires.uncalled asks tt (record { readings = refl; lists = refl; call = refl }) refl k.same k.frames k.weight
    ]
