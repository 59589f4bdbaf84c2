use Rattle.equivalents.specs.Locations.{IsTokens}
use Rattle.equivalents.specs.Tables.{get}
use Rattle.plain_machine.specs.declared.broken.Broken.TheVariants as broken
use Rattle.engine_state.specs.Stands.{page_of}
use Rattle.engine_state.proofs.Joining.{same_err}
use Rattle.stomach.proofs.ActingAlone.{value_cuts}
use Rattle.engine_state.proofs.ValueTexts.{fetchable}
use Rattle.stomach.proofs.ListsSet.{shared_did, shared_stands, suits_list, tokens_there}
use Rattle.stomach.proofs.lists.share_list.Goals as goal

pub returns-in_err-share_list-clause-err : goal.returns-in_err-share_list-clause-err
returns-in_err-share_list-clause-err c = let i = c.in_err-share_list in let e = c.args.engine.now in
    same_err c.from_residual.result (broken.Full i.field-0.0) _ c.from_residual.ensures.1
    (λ sizes w book more st. value_cuts sizes e c.share_list.new.self book w c.args.global c.args.loc (get (page_of e book).now c.args.from) more i.field-0.0 i.ensures.err st i.ensures.refused)

pub returns-clause-did : goal.returns-clause-did
returns-clause-did c = let i = c.in_ok-share_list.ensures in
    λ takes shares sizes w book st. shared_did c.args.engine.now c.share_list.new.self c.args.global c.args.loc c.args.from i.ok sizes w book st i.refused

pub returns-clause-stands : goal.returns-clause-stands
returns-clause-stands c = let i = c.in_ok-share_list.ensures in
    λ sizes book st. shared_stands c.args.engine.now c.share_list.new.self c.args.global c.args.loc c.args.from i.ok i.keeps sizes book st

pub returns-then-not-takes_list-clause-did : goal.returns-then-not-takes_list-clause-did
returns-then-not-takes_list-clause-did c = λ takes shares. absurd (c.if-not-takes_list.ensures takes)

pub returns-then-not-takes_list-2-clause-did : goal.returns-then-not-takes_list-2-clause-did
returns-then-not-takes_list-2-clause-did c = λ takes shares. absurd (c.if-not-takes_list-2.ensures shares)

pub share_list-requires : goal.share_list-requires
share_list-requires c = let g = c.args.engine.now.input.groups in
    let h = c.if-not-takes_list.ensures in
    let from = c.if-not-takes_list-2.ensures in
    let tokens : IsTokens (get g.now c.args.from) = tokens_there g.now c.args.from from.1 in
    record { within = fetchable g c.args.loc h.0; from_within = fetchable g c.args.from from.0; suits = suits_list c.args.loc (get g.now c.args.from) h.1 tokens; list = tokens }
