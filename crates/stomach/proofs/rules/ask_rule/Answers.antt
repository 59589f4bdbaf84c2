use Rattle.std.proofs.Common.{◌∷◌, List, ap, ◌∙◌, sym, subst}
use Rattle.std.specs.Prelude.{Some}
use Rattle.tex_defs.specs.declared.Token.{Token}
use Rattle.rows.specs.Readings as reading
use Rattle.reading_frames.specs.Weights.{IsReported}
use Rattle.reading_frames.specs.declared.ask.Ask.TheVariants.{More, Inner, Done, Acts, ActsOn, Defines, Ends, Tells, Inserts, Puts, Relaxes, Magnifies, Fetches}
use Rattle.reading_frames.specs.Views.{IsFetchedAt, kept_list_of}
use Rattle.plain_machine.specs.States.{no_files}
use Rattle.engine_state.specs.Book.{with_work}
use Rattle.engine_state.specs.Stands.{page_of}
use Rattle.engine_state.specs.declared.outcome.Ruled.TheVariants.{Free}
use Rattle.engine_state.proofs.CallWeighing.{steps_as_one, free_steps}
use Rattle.gullet.proofs.Ending.{no_ok, no_on}
use Rattle.engine_state.proofs.Joining.{same_err, ok_to, ok_both, err_to, column_went}
use Rattle.engine_state.proofs.CuttingReadings.{column_in, in_by}
use Rattle.engine_state.proofs.Uncalled.{all_of}
use Rattle.engine_state.proofs.Weighing.{noted_lighter}
use Rattle.stomach.proofs.RuleAsks.{acts_as, asked_bare, asked_cuts, asked_here, asked_rules, asked_steps, more_taken, none_kept, not_started, reports_bare, reports_here}
use Rattle.engine_state.proofs.ValueTexts.{fetchable}
use Rattle.stomach.proofs.Fetching.{fetched_alone}
use Rattle.stomach.proofs.RuleCloses.{closed_alone, closed_lighter}
use Rattle.stomach.proofs.RuleHalts.{rules_in, rules_by}
use Rattle.stomach.proofs.rules.ask_rule.Goals as goal

-- A TOKEN IS WANTED

pub returns-in-More-clause-rule : goal.returns-in-More-clause-rule
returns-in-More-clause-rule g c = let e = c.args.engine.now in let n = c.token_rule in let i = c.in-More in
    ok_both n.result (λ ruled h same sizes f book. asked_rules e n.new.engine _ _ c.args.ask (More i.want) ruled i.is c.requires.stands sizes f
    (λ b r rs st. rules_in sizes e n.new.engine (with_work (r ∷ rs) b) _ _ _ ruled (all_of sizes e (with_work (r ∷ rs) b) st) same
    (h sizes f (with_work (r ∷ rs) b) (more_taken sizes e i.want (with_work (r ∷ rs) b) c.requires.uncalled (asked_here e c.args.ask (More i.want) i.is c.requires.asks) st))) book) n.ensures.rule n.ensures.halts

pub returns-in-More-clause-err : goal.returns-in-More-clause-err
returns-in-More-clause-err g c = let e = c.args.engine.now in let n = c.token_rule in let i = c.in-More in
    err_to n.result (λ why h sizes f book. asked_cuts e n.new.engine _ _ c.args.ask (More i.want) why i.is c.requires.stands sizes f
    (λ b r rs st. h sizes f (with_work (r ∷ rs) b) (more_taken sizes e i.want (with_work (r ∷ rs) b) c.requires.uncalled (asked_here e c.args.ask (More i.want) i.is c.requires.asks) st)) book) n.ensures.err

pub returns-in-More-clause-step : goal.returns-in-More-clause-step
returns-in-More-clause-step g c = let e = c.args.engine.now in let n = c.token_rule in let i = c.in-More in
    steps_as_one n.result _ _ (sym (asked_steps e (Some (reading.More i.want)) c.requires.uncalled (asked_here e c.args.ask (More i.want) i.is c.requires.asks))) n.ensures.step

-- A READING BEGINS OR ENDS

pub returns-in_ok-begin_inner-in-Inner-clause-rule : goal.returns-in_ok-begin_inner-in-Inner-clause-rule
returns-in_ok-begin_inner-in-Inner-clause-rule g c = let e = c.args.engine.now in let e' = c.begin_inner.new.engine in let i = c.in-Inner in let n = c.in_ok-begin_inner-in-Inner.ensures in let s = g.S.Sink.told c.args.out.now in
    λ sizes f book. asked_rules e e' s s c.args.ask (Inner i.kind i.begins) Free i.is c.requires.stands sizes f (λ b r rs st. column_went sizes _ e' f s e.in_line _ 0 n.column (n.rule sizes _ b r rs st (asked_here e c.args.ask (Inner i.kind i.begins) i.is c.requires.asks))) book

pub returns-in_err-begin_inner-in-Inner-clause-err : goal.returns-in_err-begin_inner-in-Inner-clause-err
returns-in_err-begin_inner-in-Inner-clause-err g c = let e = c.args.engine.now in let e' = c.begin_inner.new.engine in let i = c.in-Inner in let n = c.in_err-begin_inner-in-Inner in let s = g.S.Sink.told c.args.out.now in
    same_err c.from_residual.result n.field-0.0 _ c.from_residual.ensures.1
    (λ sizes f book. asked_cuts e e' s s c.args.ask (Inner i.kind i.begins) n.field-0.0 i.is c.requires.stands sizes f (λ b r rs st. column_in sizes _ e' f s e.in_line _ n.field-0.0 n.ensures.column (n.ensures.err sizes _ b r rs st)) book)

pub returns-in_ok-begin_inner-in-Inner-clause-light : goal.returns-in_ok-begin_inner-in-Inner-clause-light
returns-in_ok-begin_inner-in-Inner-clause-light g c free = let i = c.in-Inner in c.in_ok-begin_inner-in-Inner.ensures.light (asked_bare c.args.engine.now c.args.ask (Inner i.kind i.begins) i.is c.requires.asks)

pub returns-in_ok-begin_inner-in-Inner-clause-step : goal.returns-in_ok-begin_inner-in-Inner-clause-step
returns-in_ok-begin_inner-in-Inner-clause-step g c = let e = c.args.engine.now in let i = c.in-Inner in asked_steps e (Some (reading.Inner i.kind i.begins)) c.requires.uncalled (asked_here e c.args.ask (Inner i.kind i.begins) i.is c.requires.asks)

pub returns-in_ok-done-in-Done-clause-rule : goal.returns-in_ok-done-in-Done-clause-rule
returns-in_ok-done-in-Done-clause-rule g c = let e = c.args.engine.now in let e' = c.done.new.engine in let i = c.in-Done in let n = c.in_ok-done-in-Done.ensures in let s = g.S.Sink.told c.args.out.now in
    λ sizes f book. asked_rules e e' s s c.args.ask (Done i.value i.back) Free i.is c.requires.stands sizes f (λ b r rs st. column_went sizes _ e' f s e.in_line _ 0 n.column (n.rule sizes _ b r rs st (asked_here e c.args.ask (Done i.value i.back) i.is c.requires.asks))) book

pub returns-in_err-done-in-Done-clause-err : goal.returns-in_err-done-in-Done-clause-err
returns-in_err-done-in-Done-clause-err g c = let e = c.args.engine.now in let e' = c.done.new.engine in let i = c.in-Done in let n = c.in_err-done-in-Done in let s = g.S.Sink.told c.args.out.now in
    same_err c.from_residual-in_err-done-in-Done.result n.field-0.0 _ c.from_residual-in_err-done-in-Done.ensures.1
    (λ sizes f book. asked_cuts e e' s s c.args.ask (Done i.value i.back) n.field-0.0 i.is c.requires.stands sizes f (λ b r rs st. column_in sizes _ e' f s e.in_line _ n.field-0.0 n.ensures.column (n.ensures.err sizes _ b r rs st)) book)

pub returns-in_ok-done-in-Done-clause-light : goal.returns-in_ok-done-in-Done-clause-light
returns-in_ok-done-in-Done-clause-light g c free = let i = c.in-Done in c.in_ok-done-in-Done.ensures.light (asked_bare c.args.engine.now c.args.ask (Done i.value i.back) i.is c.requires.asks)

pub returns-in_ok-done-in-Done-clause-step : goal.returns-in_ok-done-in-Done-clause-step
returns-in_ok-done-in-Done-clause-step g c = let e = c.args.engine.now in let i = c.in-Done in asked_steps e (Some (reading.Done i.value i.back)) c.requires.uncalled (asked_here e c.args.ask (Done i.value i.back) i.is c.requires.asks)

-- A COMMAND ACTS

pub returns-in-Acts-clause-rule : goal.returns-in-Acts-clause-rule
returns-in-Acts-clause-rule g c = let e = c.args.engine.now in let n = c.act in let i = c.in-Acts in
    ok_to n.result (λ ruled h sizes f book. asked_rules e n.new.engine _ _ c.args.ask (Acts i.call i.effect) ruled i.is c.requires.stands sizes f (λ b r rs st. h sizes f b r rs st (asked_here e c.args.ask (Acts i.call i.effect) i.is c.requires.asks)) book) n.ensures.rule

pub returns-in-Acts-clause-err : goal.returns-in-Acts-clause-err
returns-in-Acts-clause-err g c = let e = c.args.engine.now in let n = c.act in let i = c.in-Acts in
    err_to n.result (λ why h sizes f book. asked_cuts e n.new.engine _ _ c.args.ask (Acts i.call i.effect) why i.is c.requires.stands sizes f (λ b r rs st. h sizes f b r rs st (asked_here e c.args.ask (Acts i.call i.effect) i.is c.requires.asks)) book) n.ensures.err

pub returns-in-Acts-clause-light : goal.returns-in-Acts-clause-light
returns-in-Acts-clause-light g c = let e = c.args.engine.now in let n = c.act in let i = c.in-Acts in
    ok_to n.result (λ ruled h free. h free (asked_bare e c.args.ask (Acts i.call i.effect) i.is c.requires.asks)) n.ensures.light

pub returns-in-Acts-clause-step : goal.returns-in-Acts-clause-step
returns-in-Acts-clause-step g c = let e = c.args.engine.now in let n = c.act in let i = c.in-Acts in
    free_steps n.result _ (asked_steps e _ c.requires.uncalled (asked_here e c.args.ask (Acts i.call i.effect) i.is c.requires.asks)) n.ensures.step

pub returns-in-ActsOn-clause-rule : goal.returns-in-ActsOn-clause-rule
returns-in-ActsOn-clause-rule g c = let e = c.args.engine.now in let n = c.act_on in let i = c.in-ActsOn in
    let none = not_started e _ c.requires.uncalled (asked_here e c.args.ask (ActsOn i.call i.effect i.listed) i.is c.requires.asks) c.requires.no_start in
    ok_to n.result (λ ruled h sizes f book. asked_rules e n.new.engine _ _ c.args.ask (ActsOn i.call i.effect i.listed) ruled i.is c.requires.stands sizes f
    (λ b r rs st. rules_by sizes _ n.new.engine _ _ _ _ ruled (acts_as no_files (page_of e b) i.call i.effect (kept_list_of i.listed e.input.builds) none) (h sizes f b r rs st (asked_here e c.args.ask (ActsOn i.call i.effect i.listed) i.is c.requires.asks))) book) n.ensures.rule

pub returns-in-ActsOn-clause-err : goal.returns-in-ActsOn-clause-err
returns-in-ActsOn-clause-err g c = let e = c.args.engine.now in let n = c.act_on in let i = c.in-ActsOn in
    let none = not_started e _ c.requires.uncalled (asked_here e c.args.ask (ActsOn i.call i.effect i.listed) i.is c.requires.asks) c.requires.no_start in
    err_to n.result (λ why h sizes f book. asked_cuts e n.new.engine _ _ c.args.ask (ActsOn i.call i.effect i.listed) why i.is c.requires.stands sizes f
    (λ b r rs st. in_by sizes _ n.new.engine _ _ _ _ why (acts_as no_files (page_of e b) i.call i.effect (kept_list_of i.listed e.input.builds) none) (h sizes f b r rs st (asked_here e c.args.ask (ActsOn i.call i.effect i.listed) i.is c.requires.asks))) book) n.ensures.err

pub returns-in-ActsOn-clause-light : goal.returns-in-ActsOn-clause-light
returns-in-ActsOn-clause-light g c = let e = c.args.engine.now in let n = c.act_on in let i = c.in-ActsOn in
    ok_to n.result (λ ruled h free. h free (asked_bare e c.args.ask (ActsOn i.call i.effect i.listed) i.is c.requires.asks ∙ ap (λ (ts : List Token). Some (reading.ActsOn i.call i.effect ts)) (none_kept i.listed))) n.ensures.light

pub returns-in-ActsOn-clause-step : goal.returns-in-ActsOn-clause-step
returns-in-ActsOn-clause-step g c = let e = c.args.engine.now in let n = c.act_on in let i = c.in-ActsOn in
    free_steps n.result _ (asked_steps e _ c.requires.uncalled (asked_here e c.args.ask (ActsOn i.call i.effect i.listed) i.is c.requires.asks)) n.ensures.step

pub returns-in_ok-define-in-Defines-clause-rule : goal.returns-in_ok-define-in-Defines-clause-rule
returns-in_ok-define-in-Defines-clause-rule g c = let e = c.args.engine.now in let e' = c.define.new.engine in let i = c.in-Defines in let n = c.in_ok-define-in-Defines.ensures in let s = g.S.Sink.told c.args.out.now in
    λ sizes f book. asked_rules e e' s s c.args.ask (Defines i.call i.name i.listed) Free i.is c.requires.stands sizes f (λ b r rs st. column_went sizes _ e' f s e.in_line _ 0 n.column (n.rule sizes _ b r rs st (asked_here e c.args.ask (Defines i.call i.name i.listed) i.is c.requires.asks))) book

pub returns-in_err-define-in-Defines-clause-err : goal.returns-in_err-define-in-Defines-clause-err
returns-in_err-define-in-Defines-clause-err g c = let e = c.args.engine.now in let e' = c.define.new.engine in let i = c.in-Defines in let n = c.in_err-define-in-Defines in let s = g.S.Sink.told c.args.out.now in
    same_err c.from_residual-in_err-define-in-Defines.result n.field-0.0 _ c.from_residual-in_err-define-in-Defines.ensures.1
    (λ sizes f book. asked_cuts e e' s s c.args.ask (Defines i.call i.name i.listed) n.field-0.0 i.is c.requires.stands sizes f
    (λ b r rs st. column_in sizes _ e' f s e.in_line _ n.field-0.0 n.ensures.column (n.ensures.err sizes _ b r rs st (asked_here e c.args.ask (Defines i.call i.name i.listed) i.is c.requires.asks))) book)

pub returns-in_ok-define-in-Defines-clause-light : goal.returns-in_ok-define-in-Defines-clause-light
returns-in_ok-define-in-Defines-clause-light g c free = let i = c.in-Defines in
    c.in_ok-define-in-Defines.ensures.light c.requires.uncalled (asked_bare c.args.engine.now c.args.ask (Defines i.call i.name i.listed) i.is c.requires.asks ∙ ap (λ (ts : List Token). Some (reading.Defines i.call i.name ts)) (none_kept i.listed))

pub returns-in_ok-define-in-Defines-clause-step : goal.returns-in_ok-define-in-Defines-clause-step
returns-in_ok-define-in-Defines-clause-step g c = let e = c.args.engine.now in let i = c.in-Defines in asked_steps e _ c.requires.uncalled (asked_here e c.args.ask (Defines i.call i.name i.listed) i.is c.requires.asks)

pub returns-in-Ends-clause-rule : goal.returns-in-Ends-clause-rule
returns-in-Ends-clause-rule g c = let e = c.args.engine.now in let e' = c.close_reading.new.self in let i = c.in-Ends in let n = c.close_reading.ensures in let s = g.S.Sink.told c.args.out.now in
    λ sizes f book. asked_rules e e' s s c.args.ask Ends Free i.is c.requires.stands sizes f (λ b r rs st. closed_alone e e' n.stands n.state n.others.in_line sizes b r rs f s st) book

pub returns-in-Ends-clause-light : goal.returns-in-Ends-clause-light
returns-in-Ends-clause-light g c free = let e = c.args.engine.now in let i = c.in-Ends in let n = c.close_reading.ensures in
    closed_lighter e c.close_reading.new.self reading.Ends c.requires.uncalled (asked_bare e c.args.ask Ends i.is c.requires.asks) tt n.same n.frames n.weight

pub returns-in-Ends-clause-step : goal.returns-in-Ends-clause-step
returns-in-Ends-clause-step g c = let e = c.args.engine.now in let i = c.in-Ends in asked_steps e _ c.requires.uncalled (asked_here e c.args.ask Ends i.is c.requires.asks)

-- A VALUE IS FETCHED

pub fetch-requires : goal.fetch-requires
fetch-requires g c = let i = c.in-Fetches in record { within = fetchable c.args.engine.now.input.groups i.loc (subst IsFetchedAt i.is c.requires.found) }

pub returns-in-Fetches-clause-rule : goal.returns-in-Fetches-clause-rule
returns-in-Fetches-clause-rule g c = let e = c.args.engine.now in let e' = c.fetch.new.self in let i = c.in-Fetches in let n = c.fetch.ensures in let s = g.S.Sink.told c.args.out.now in
    λ sizes f book. asked_rules e e' s s c.args.ask (Fetches i.loc) Free i.is c.requires.stands sizes f (λ b r rs st. fetched_alone e e' i.loc n.stands n.state n.same sizes b r rs f s st) book

pub returns-in-Fetches-clause-light : goal.returns-in-Fetches-clause-light
returns-in-Fetches-clause-light g c free = let e = c.args.engine.now in let i = c.in-Fetches in let n = c.fetch.ensures in
    noted_lighter e c.fetch.new.self c.requires.uncalled (n.same.call ∙ c.requires.uncalled) n.same.pending (n.weight (asked_bare e c.args.ask (Fetches i.loc) i.is c.requires.asks)) n.frames

pub returns-in-Fetches-clause-step : goal.returns-in-Fetches-clause-step
returns-in-Fetches-clause-step g c = let e = c.args.engine.now in let i = c.in-Fetches in asked_steps e _ c.requires.uncalled (asked_here e c.args.ask (Fetches i.loc) i.is c.requires.asks)

pub returns-in-Fetches-clause-err : goal.returns-in-Fetches-clause-err
returns-in-Fetches-clause-err g c = tt

pub returns-in-Fetches-clause-idle : goal.returns-in-Fetches-clause-idle
returns-in-Fetches-clause-idle g c = c.fetch.ensures.same.making ∙ c.requires.idle

-- A READING PUTS A TOKEN IN FRONT, or makes a name `\relax`

pub returns-in_ok-put-in-Puts-clause-rule : goal.returns-in_ok-put-in-Puts-clause-rule
returns-in_ok-put-in-Puts-clause-rule g c = let e = c.args.engine.now in let e' = c.put.new.engine in let i = c.in-Puts in let n = c.in_ok-put-in-Puts.ensures in let s = g.S.Sink.told c.args.out.now in
    λ sizes f book. asked_rules e e' s s c.args.ask (Puts i.token i.field-1) Free i.is c.requires.stands sizes f (λ b r rs st. column_went sizes _ e' f s e.in_line _ 0 n.column (n.rule sizes _ b r rs st)) book

pub returns-in_err-put-in-Puts-clause-err : goal.returns-in_err-put-in-Puts-clause-err
returns-in_err-put-in-Puts-clause-err g c = let e = c.args.engine.now in let e' = c.put.new.engine in let i = c.in-Puts in let n = c.in_err-put-in-Puts in let s = g.S.Sink.told c.args.out.now in
    same_err c.from_residual-in_err-put-in-Puts.result n.field-0.0 _ c.from_residual-in_err-put-in-Puts.ensures.1
    (λ sizes f book. asked_cuts e e' s s c.args.ask (Puts i.token i.field-1) n.field-0.0 i.is c.requires.stands sizes f (λ b r rs st. column_in sizes _ e' f s e.in_line _ n.field-0.0 n.ensures.column (n.ensures.err sizes _ b r rs st)) book)

pub returns-in_ok-put-in-Puts-clause-light : goal.returns-in_ok-put-in-Puts-clause-light
returns-in_ok-put-in-Puts-clause-light g c free = let i = c.in-Puts in c.in_ok-put-in-Puts.ensures.light (subst IsReported (sym (asked_bare c.args.engine.now c.args.ask (Puts i.token i.field-1) i.is c.requires.asks)) tt)

pub returns-in_ok-put-in-Puts-clause-step : goal.returns-in_ok-put-in-Puts-clause-step
returns-in_ok-put-in-Puts-clause-step g c = let e = c.args.engine.now in let i = c.in-Puts in asked_steps e _ c.requires.uncalled (asked_here e c.args.ask (Puts i.token i.field-1) i.is c.requires.asks)

pub returns-in_ok-relax-in-Relaxes-clause-rule : goal.returns-in_ok-relax-in-Relaxes-clause-rule
returns-in_ok-relax-in-Relaxes-clause-rule g c = let e = c.args.engine.now in let e' = c.relax.new.engine in let i = c.in-Relaxes in let n = c.in_ok-relax-in-Relaxes.ensures in let s = g.S.Sink.told c.args.out.now in
    λ sizes f book. asked_rules e e' s s c.args.ask (Relaxes i.call i.name) Free i.is c.requires.stands sizes f (λ b r rs st. column_went sizes _ e' f s e.in_line _ 0 n.column (n.rule sizes _ b r rs st)) book

pub returns-in_err-relax-in-Relaxes-clause-err : goal.returns-in_err-relax-in-Relaxes-clause-err
returns-in_err-relax-in-Relaxes-clause-err g c = let e = c.args.engine.now in let e' = c.relax.new.engine in let i = c.in-Relaxes in let n = c.in_err-relax-in-Relaxes in let s = g.S.Sink.told c.args.out.now in
    same_err c.from_residual-in_err-relax-in-Relaxes.result n.field-0.0 _ c.from_residual-in_err-relax-in-Relaxes.ensures.1
    (λ sizes f book. asked_cuts e e' s s c.args.ask (Relaxes i.call i.name) n.field-0.0 i.is c.requires.stands sizes f (λ b r rs st. column_in sizes _ e' f s e.in_line _ n.field-0.0 n.ensures.column (n.ensures.err sizes _ b r rs st)) book)

pub returns-in_ok-relax-in-Relaxes-clause-light : goal.returns-in_ok-relax-in-Relaxes-clause-light
returns-in_ok-relax-in-Relaxes-clause-light g c free = let i = c.in-Relaxes in c.in_ok-relax-in-Relaxes.ensures.light (subst IsReported (sym (asked_bare c.args.engine.now c.args.ask (Relaxes i.call i.name) i.is c.requires.asks)) tt)

pub returns-in_ok-relax-in-Relaxes-clause-step : goal.returns-in_ok-relax-in-Relaxes-clause-step
returns-in_ok-relax-in-Relaxes-clause-step g c = let e = c.args.engine.now in let i = c.in-Relaxes in asked_steps e _ c.requires.uncalled (asked_here e c.args.ask (Relaxes i.call i.name) i.is c.requires.asks)

pub returns-in_ok-relax-in-Relaxes-clause-idle : goal.returns-in_ok-relax-in-Relaxes-clause-idle
returns-in_ok-relax-in-Relaxes-clause-idle g c = c.relax.ensures.idle ∙ c.requires.idle

-- A READING REPORTS

pub returns-in-Tells-clause-rule : goal.returns-in-Tells-clause-rule
returns-in-Tells-clause-rule g c = let e = c.args.engine.now in let n = c.tell in let i = c.in-Tells in
    ok_to n.result (λ ruled h sizes f book. asked_rules e n.new.engine _ _ c.args.ask (Tells i.report i.back) ruled i.is c.requires.stands sizes f (λ b r rs st. h sizes f b r rs (reports_here e c.args.ask (Tells i.report i.back) i.is c.requires.asks c.requires.uncalled tt) (all_of sizes e (with_work (r ∷ rs) b) st)) book) n.ensures.rule

pub returns-in-Tells-clause-err : goal.returns-in-Tells-clause-err
returns-in-Tells-clause-err g c = let e = c.args.engine.now in let n = c.tell in let i = c.in-Tells in
    err_to n.result (λ why h sizes f book. asked_cuts e n.new.engine _ _ c.args.ask (Tells i.report i.back) why i.is c.requires.stands sizes f (λ b r rs st. h sizes f b r rs (reports_here e c.args.ask (Tells i.report i.back) i.is c.requires.asks c.requires.uncalled tt) (all_of sizes e (with_work (r ∷ rs) b) st)) book) n.ensures.err

pub returns-in-Tells-clause-light : goal.returns-in-Tells-clause-light
returns-in-Tells-clause-light g c = let e = c.args.engine.now in let n = c.tell in let i = c.in-Tells in
    ok_to n.result (λ ruled h free. h free (reports_bare e c.args.ask (Tells i.report i.back) i.is c.requires.asks c.requires.uncalled tt)) n.ensures.light

pub returns-in-Tells-clause-step : goal.returns-in-Tells-clause-step
returns-in-Tells-clause-step g c = let e = c.args.engine.now in let n = c.tell in let i = c.in-Tells in
    free_steps n.result _ (asked_steps e _ c.requires.uncalled (asked_here e c.args.ask (Tells i.report i.back) i.is c.requires.asks)) n.ensures.step

pub returns-in-Inserts-clause-rule : goal.returns-in-Inserts-clause-rule
returns-in-Inserts-clause-rule g c = let e = c.args.engine.now in let n = c.tell-in-Inserts in let i = c.in-Inserts in
    ok_to n.result (λ ruled h sizes f book. asked_rules e n.new.engine _ _ c.args.ask (Inserts i.token i.report i.back) ruled i.is c.requires.stands sizes f (λ b r rs st. h sizes f b r rs (reports_here e c.args.ask (Inserts i.token i.report i.back) i.is c.requires.asks c.requires.uncalled tt) (all_of sizes e (with_work (r ∷ rs) b) st)) book) n.ensures.rule

pub returns-in-Inserts-clause-err : goal.returns-in-Inserts-clause-err
returns-in-Inserts-clause-err g c = let e = c.args.engine.now in let n = c.tell-in-Inserts in let i = c.in-Inserts in
    err_to n.result (λ why h sizes f book. asked_cuts e n.new.engine _ _ c.args.ask (Inserts i.token i.report i.back) why i.is c.requires.stands sizes f (λ b r rs st. h sizes f b r rs (reports_here e c.args.ask (Inserts i.token i.report i.back) i.is c.requires.asks c.requires.uncalled tt) (all_of sizes e (with_work (r ∷ rs) b) st)) book) n.ensures.err

pub returns-in-Inserts-clause-light : goal.returns-in-Inserts-clause-light
returns-in-Inserts-clause-light g c = let e = c.args.engine.now in let n = c.tell-in-Inserts in let i = c.in-Inserts in
    ok_to n.result (λ ruled h free. h free (reports_bare e c.args.ask (Inserts i.token i.report i.back) i.is c.requires.asks c.requires.uncalled tt)) n.ensures.light

pub returns-in-Inserts-clause-step : goal.returns-in-Inserts-clause-step
returns-in-Inserts-clause-step g c = let e = c.args.engine.now in let n = c.tell-in-Inserts in let i = c.in-Inserts in
    free_steps n.result _ (asked_steps e _ c.requires.uncalled (asked_here e c.args.ask (Inserts i.token i.report i.back) i.is c.requires.asks)) n.ensures.step

-- THE MAGNIFICATION IS CHECKED

pub returns-in-Magnifies-clause-rule : goal.returns-in-Magnifies-clause-rule
returns-in-Magnifies-clause-rule g c = let e = c.args.engine.now in let n = c.magnify in let i = c.in-Magnifies in
    ok_to n.result (λ ruled h sizes f book. asked_rules e n.new.engine _ _ c.args.ask Magnifies ruled i.is c.requires.stands sizes f (λ b r rs st. h sizes f b r rs st) book) n.ensures.rule

pub returns-in-Magnifies-clause-err : goal.returns-in-Magnifies-clause-err
returns-in-Magnifies-clause-err g c = let e = c.args.engine.now in let n = c.magnify in let i = c.in-Magnifies in
    err_to n.result (λ why h sizes f book. asked_cuts e n.new.engine _ _ c.args.ask Magnifies why i.is c.requires.stands sizes f (λ b r rs st. h sizes f b r rs st) book) n.ensures.err

pub returns-in-Magnifies-clause-light : goal.returns-in-Magnifies-clause-light
returns-in-Magnifies-clause-light g c = let e = c.args.engine.now in let n = c.magnify in let i = c.in-Magnifies in
    ok_to n.result (λ ruled h free. h free (subst IsReported (sym (asked_bare e c.args.ask Magnifies i.is c.requires.asks)) tt)) n.ensures.light

pub returns-in-Magnifies-clause-step : goal.returns-in-Magnifies-clause-step
returns-in-Magnifies-clause-step g c = let e = c.args.engine.now in let n = c.magnify in let i = c.in-Magnifies in
    free_steps n.result _ (asked_steps e _ c.requires.uncalled (asked_here e c.args.ask Magnifies i.is c.requires.asks)) n.ensures.step

-- WHAT ELSE IS SAID

pub returns-in-More-clause-light : goal.returns-in-More-clause-light
returns-in-More-clause-light g c = c.token_rule.ensures.light

pub returns-in-More-clause-idle : goal.returns-in-More-clause-idle
returns-in-More-clause-idle g c = c.token_rule.ensures.idle

pub returns-in-Acts-clause-idle : goal.returns-in-Acts-clause-idle
returns-in-Acts-clause-idle g c = c.act.ensures.idle

pub returns-in-ActsOn-clause-idle : goal.returns-in-ActsOn-clause-idle
returns-in-ActsOn-clause-idle g c = c.act_on.ensures.idle

pub returns-in-Tells-clause-idle : goal.returns-in-Tells-clause-idle
returns-in-Tells-clause-idle g c = c.tell.ensures.idle

pub returns-in-Magnifies-clause-idle : goal.returns-in-Magnifies-clause-idle
returns-in-Magnifies-clause-idle g c = c.magnify.ensures.idle

pub returns-in-Inserts-clause-idle : goal.returns-in-Inserts-clause-idle
returns-in-Inserts-clause-idle g c = c.tell-in-Inserts.ensures.idle

pub returns-in_ok-begin_inner-in-Inner-clause-err : goal.returns-in_ok-begin_inner-in-Inner-clause-err
returns-in_ok-begin_inner-in-Inner-clause-err g c = tt

pub returns-in_ok-begin_inner-in-Inner-clause-idle : goal.returns-in_ok-begin_inner-in-Inner-clause-idle
returns-in_ok-begin_inner-in-Inner-clause-idle g c = c.begin_inner.ensures.idle ∙ c.requires.idle

pub returns-in_err-begin_inner-in-Inner-clause-light : goal.returns-in_err-begin_inner-in-Inner-clause-light
returns-in_err-begin_inner-in-Inner-clause-light g c = no_ok _ _ c.from_residual.result c.from_residual.ensures.1

pub returns-in_err-begin_inner-in-Inner-clause-step : goal.returns-in_err-begin_inner-in-Inner-clause-step
returns-in_err-begin_inner-in-Inner-clause-step g c = no_ok _ _ c.from_residual.result c.from_residual.ensures.1

pub returns-in_err-begin_inner-in-Inner-clause-rule : goal.returns-in_err-begin_inner-in-Inner-clause-rule
returns-in_err-begin_inner-in-Inner-clause-rule g c = no_ok _ _ c.from_residual.result c.from_residual.ensures.1

pub returns-in_err-begin_inner-in-Inner-clause-idle : goal.returns-in_err-begin_inner-in-Inner-clause-idle
returns-in_err-begin_inner-in-Inner-clause-idle g c = no_on _ _ c.from_residual.result c.from_residual.ensures.1

pub returns-in_ok-done-in-Done-clause-err : goal.returns-in_ok-done-in-Done-clause-err
returns-in_ok-done-in-Done-clause-err g c = tt

pub returns-in_ok-done-in-Done-clause-idle : goal.returns-in_ok-done-in-Done-clause-idle
returns-in_ok-done-in-Done-clause-idle g c = c.in_ok-done-in-Done.ensures.idle

pub returns-in_err-done-in-Done-clause-light : goal.returns-in_err-done-in-Done-clause-light
returns-in_err-done-in-Done-clause-light g c = no_ok _ _ c.from_residual-in_err-done-in-Done.result c.from_residual-in_err-done-in-Done.ensures.1

pub returns-in_err-done-in-Done-clause-step : goal.returns-in_err-done-in-Done-clause-step
returns-in_err-done-in-Done-clause-step g c = no_ok _ _ c.from_residual-in_err-done-in-Done.result c.from_residual-in_err-done-in-Done.ensures.1

pub returns-in_err-done-in-Done-clause-rule : goal.returns-in_err-done-in-Done-clause-rule
returns-in_err-done-in-Done-clause-rule g c = no_ok _ _ c.from_residual-in_err-done-in-Done.result c.from_residual-in_err-done-in-Done.ensures.1

pub returns-in_err-done-in-Done-clause-idle : goal.returns-in_err-done-in-Done-clause-idle
returns-in_err-done-in-Done-clause-idle g c = no_on _ _ c.from_residual-in_err-done-in-Done.result c.from_residual-in_err-done-in-Done.ensures.1

pub returns-in-Ends-clause-err : goal.returns-in-Ends-clause-err
returns-in-Ends-clause-err g c = tt

pub returns-in-Ends-clause-idle : goal.returns-in-Ends-clause-idle
returns-in-Ends-clause-idle g c = c.close_reading.ensures.idle ∙ c.requires.idle
