use Rattle.std.proofs.Common.{◌≡◌, [], ap, refl, sym, subst, ◌∙◌}
use Rattle.std.specs.Prelude.{OnOk, IfErr}
use Rattle.tex_defs.specs.declared.Sizes.{Sizes}
use Rattle.tex_defs.specs.declared.Seen.{Seen}
use Rattle.tex_defs.specs.Places.{World}
use Rattle.plain_tokens.specs.Meanings.{name_meaning, seen_as}
use Rattle.plain_machine.specs.declared.broken.Broken.TheVariants as broken
use Rattle.plain_machine.specs.Plan.{Page, called}
use Rattle.input_state.specs.Calls.{call_kind}
use Rattle.input_state.specs.Stored.{Stored}
use Rattle.engine_state.specs.Book.{Book}
use Rattle.engine_state.specs.Clauses.{GoesFree}
use Rattle.engine_state.specs.Rules.{Cuts, Went}
use Rattle.engine_state.specs.Stands.{Stands, state_of, page_of}
use Rattle.plain_machine.specs.Weights.{pending_weight}
use Rattle.engine_state.specs.declared.engine.Engine.{Engine}
use Rattle.engine_state.proofs.Uncalled.{all_of}
use Rattle.engine_state.proofs.Counting.{counts_of}
use Rattle.engine_state.proofs.Joining.{on_ok, same_err, skip_onward, went_by}
use Rattle.engine_state.proofs.AtLocations.{same_engine}
use Rattle.gullet.proofs.CallBeginning.{at_once_has, gathers_has, none_stays, gathers_stays, called_none, called_went, called_cuts, begun_went, begun_cuts, on_both, if_both}
use Rattle.engine_state.proofs.CallWeighing.{on_err, on_err_to}
use Rattle.engine_state.proofs.CallsIn.{first_asks}
use Rattle.gullet.proofs.ExpandingWeighs.{put_light, called_light}
use Rattle.gullet.proofs.call_name.call_name.Goals as goal

-- WHERE NOTHING IS CALLED

pub returns-in-None-clause-ok : goal.returns-in-None-clause-ok
returns-in-None-clause-ok c = let e = c.args.engine.now in let n = c.in_ok-call_at_once.ensures in
    let same = ap (λ (i : Stored). record e { input = i }) (n.others (none_stays c.in_ok-call_at_once.field-0 c.in-None.is)) in
    λ sizes w book st. subst (λ (x : Engine). Went sizes (state_of e book) x w w (called (page_of e book) c.args.token) 0) (sym same)
    (went_by sizes (state_of e book) e w w [] _ 0 (called_none e book c.args.token c.name_of-name.result c.name_of-name.ensures (sym n.kind ∙ c.in-None.is)) (skip_onward sizes e book w (all_of sizes e book st)))

pub returns-in-None-clause-idle : goal.returns-in-None-clause-idle
returns-in-None-clause-idle c = ap (λ (i : Stored). i.making) (c.in_ok-call_at_once.ensures.others (none_stays c.in_ok-call_at_once.field-0 c.in-None.is))

pub returns-in-None-clause-light : goal.returns-in-None-clause-light
returns-in-None-clause-light c =
    λ none light. put_light c.args.engine.now none light c.call_at_once.new.self (ap (λ (i : Stored). i.call) (c.in_ok-call_at_once.ensures.others (none_stays c.in_ok-call_at_once.field-0 c.in-None.is))) (ap (λ (i : Stored). pending_weight i.pending) (c.in_ok-call_at_once.ensures.others (none_stays c.in_ok-call_at_once.field-0 c.in-None.is)))

-- WHERE THE BODY IS PUT

pub returns-in-AtOnce-clause-ok : goal.returns-in-AtOnce-clause-ok
returns-in-AtOnce-clause-ok c = let e = c.args.engine.now in let n = c.in_ok-call_at_once.ensures in let name = c.name_of-name.result in let is = sym n.kind ∙ c.in-AtOnce.is in
    λ sizes w book st. called_went sizes e book c.args.token name c.name_of-name.ensures st (at_once_has e.input.lists (name_meaning e.input.groups.now.meanings name) is) _ w is (ap (λ (i : Stored). record e { input = i }) (n.ok c.in-AtOnce.is)) c.call_at_once.ensures.keeps (n.refused c.in-AtOnce.is)

pub returns-in-AtOnce-clause-idle : goal.returns-in-AtOnce-clause-idle
returns-in-AtOnce-clause-idle c = ap (λ (i : Stored). i.making) (c.in_ok-call_at_once.ensures.ok c.in-AtOnce.is)

pub returns-in-AtOnce-clause-light : goal.returns-in-AtOnce-clause-light
returns-in-AtOnce-clause-light c =
    λ none light. put_light c.args.engine.now none light c.call_at_once.new.self (ap (λ (i : Stored). i.call) (c.in_ok-call_at_once.ensures.ok c.in-AtOnce.is)) (ap (λ (i : Stored). pending_weight i.pending) (c.in_ok-call_at_once.ensures.ok c.in-AtOnce.is))

pub returns-in_err-call_at_once-clause-err : goal.returns-in_err-call_at_once-clause-err
returns-in_err-call_at_once-clause-err c = let e = c.args.engine.now in let i = c.in_err-call_at_once in let n = i.ensures in let name = c.name_of-name.result in
    same_err c.from_residual.result i.field-0.0 _ c.from_residual.ensures.1
    (λ sizes w book st. called_cuts sizes e book c.args.token name c.name_of-name.ensures st (at_once_has e.input.lists (name_meaning e.input.groups.now.meanings name) n.kind) _ w i.field-0.0 n.kind (ap (λ (s : Stored). record e { input = s }) n.err) n.refused)

pub returns-in_err-call_at_once-clause-frames : goal.returns-in_err-call_at_once-clause-frames
returns-in_err-call_at_once-clause-frames c = let err = c.in_err-call_at_once.ensures.err in
    on_err c.from_residual.result (record { readings = refl; lists = ap (λ (i : Stored). i.builds) err; call = ap (λ (i : Stored). i.call) err })

pub returns-in_err-call_at_once-clause-idle : goal.returns-in_err-call_at_once-clause-idle
returns-in_err-call_at_once-clause-idle c = ap (λ (i : Stored). i.making) c.in_err-call_at_once.ensures.err

-- WHERE ARGUMENTS ARE GATHERED: the input is as it was

pub begin_call-requires-clause-none : goal.begin_call-requires-clause-none
begin_call-requires-clause-none c = ap (λ (i : Stored). i.call) (c.in_ok-call_at_once.ensures.others (gathers_stays c.in_ok-call_at_once.field-0 c.in-Gathers.is)) ∙ c.if-is_calling.ensures

pub begin_call-requires-clause-gathers : goal.begin_call-requires-clause-gathers
begin_call-requires-clause-gathers c = let n = c.in_ok-call_at_once.ensures in
    ap (λ (i : Stored). call_kind i.lists (name_meaning i.groups.now.meanings c.name_of-name.result)) (n.others (gathers_stays c.in_ok-call_at_once.field-0 c.in-Gathers.is)) ∙ (sym n.kind ∙ c.in-Gathers.is)

pub returns-in-Gathers-clause-ok : goal.returns-in-Gathers-clause-ok
returns-in-Gathers-clause-ok c = let was = c.args.engine.now in let same_input = c.in_ok-call_at_once.ensures.others (gathers_stays c.in_ok-call_at_once.field-0 c.in-Gathers.is) in
    let e : Engine = record was { input = c.call_at_once.new.self } in let same : e ≡ was = ap (λ (i : Stored). record was { input = i }) same_input in
    let n = c.begin_call in let name = c.name_of-name.result in
    let is = ap (λ (i : Stored). call_kind i.lists (name_meaning i.groups.now.meanings name)) same_input ∙ (sym c.in_ok-call_at_once.ensures.kind ∙ c.in-Gathers.is) in
    let m = gathers_has e.input.lists (name_meaning e.input.groups.now.meanings name) is in
    let long = c.is_long-long.ensures m.long m.outer tt (ap (λ (x : Seen). x.meaning) c.seen.ensures ∙ ap seen_as m.meaning) in
    subst (λ (x : Engine). OnOk n.result (GoesFree x n.new.engine (λ (page : Page). called page c.args.token))) same
    (on_both n.result (λ ok fits sizes w book st. begun_went sizes e book c.args.token name c.name_of-name.ensures st m c.is_long-long.result n.new.engine long ok n.ensures.keeps w is (λ number. fits sizes book number (counts_of sizes e book st))) n.ensures.ok n.ensures.fits)

pub returns-in-Gathers-clause-err : goal.returns-in-Gathers-clause-err
returns-in-Gathers-clause-err c = let was = c.args.engine.now in let same_input = c.in_ok-call_at_once.ensures.others (gathers_stays c.in_ok-call_at_once.field-0 c.in-Gathers.is) in
    let e : Engine = record was { input = c.call_at_once.new.self } in let same : e ≡ was = ap (λ (i : Stored). record was { input = i }) same_input in
    let n = c.begin_call in let name = c.name_of-name.result in
    let is = ap (λ (i : Stored). call_kind i.lists (name_meaning i.groups.now.meanings name)) same_input ∙ (sym c.in_ok-call_at_once.ensures.kind ∙ c.in-Gathers.is) in
    let m = gathers_has e.input.lists (name_meaning e.input.groups.now.meanings name) is in
    let long = c.is_long-long.ensures m.long m.outer tt (ap (λ (x : Seen). x.meaning) c.seen.ensures ∙ ap seen_as m.meaning) in
    subst
    (λ (x : Engine). IfErr n.result (λ full. (sizes : Sizes) (w : World) (book : Book) → Stands sizes x book → Cuts sizes (state_of x book) n.new.engine book w w (called (page_of x book) c.args.token) (broken.Full full)))
    same
    (if_both n.result (λ full err refused sizes w book st. begun_cuts sizes e book c.args.token name c.name_of-name.ensures st m c.is_long-long.result n.new.engine w full long is err (λ number. refused sizes book number (counts_of sizes e book st))) n.ensures.err n.ensures.refused)

pub returns-in-Gathers-clause-frames : goal.returns-in-Gathers-clause-frames
returns-in-Gathers-clause-frames c =
    let was = c.args.engine.now in let same_input = c.in_ok-call_at_once.ensures.others (gathers_stays c.in_ok-call_at_once.field-0 c.in-Gathers.is) in
    on_err_to c.begin_call.result (λ err. same_engine was c.begin_call.new.engine (err ∙ ap (λ (i : Stored). record was { input = i }) same_input)) c.begin_call.ensures.err

pub returns-in-Gathers-clause-idle : goal.returns-in-Gathers-clause-idle
returns-in-Gathers-clause-idle c = c.begin_call.ensures.idle ∙ ap (λ (i : Stored). i.making) (c.in_ok-call_at_once.ensures.others (gathers_stays c.in_ok-call_at_once.field-0 c.in-Gathers.is))

pub returns-in-Gathers-clause-light : goal.returns-in-Gathers-clause-light
returns-in-Gathers-clause-light c =
    let e = c.args.engine.now in let n = c.begin_call in let same_input = c.in_ok-call_at_once.ensures.others (gathers_stays c.in_ok-call_at_once.field-0 c.in-Gathers.is) in
    on_ok n.result (λ ok none light. called_light e none light n.new.engine c.name_of-name.result _ ok (first_asks c.name_of-name.result _ _) (ap (λ (i : Stored). pending_weight i.pending) same_input)) n.ensures.ok
