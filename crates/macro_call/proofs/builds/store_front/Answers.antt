use Rattle.std.proofs.Common.{◌≡◌, ◌++◌, ◌∷◌, [], ℕ, List, length, take, sym, ap, ◌∙◌, arith, append_assoc}
use Rattle.tex_defs.specs.declared.Token.{Token}
use Rattle.token_lists.specs.Table.{tokens_at}
use Rattle.token_lists.specs.Ids.{id_of, build_id}
use Rattle.plain_tokens.specs.Arguments.{start_of}
use Rattle.macro_call.specs.Cursors.{delimiter_at}
use Rattle.macro_call.specs.Tables.{IsOnly}
use Rattle.macro_call.proofs.Fronts.{take_on}
use Rattle.macro_call.proofs.Tables.{only_join, moves_join, part_of, on_kept, rest_kept}
use Rattle.macro_call.proofs.builds.store_front.Goals as goal

pub loop-i-preserved : goal.loop-i-preserved
loop-i-preserved c =
    let id : ℕ = build_id c.args.build.now in
    let next = c.delimiting-token.result.1 in
    let same : build_id c.loop-i.build ≡ id = c.loop-i.invariant.1 in
    let others : IsOnly c.loop-i.lists c.store.new.lists id = rw (← same) c.store.ensures.others in
    let rest : delimiter_at c.store.new.lists (id_of c.args.list.now) next ≡ delimiter_at c.loop-i.lists (id_of c.args.list.now) next = ap start_of (rest_kept c.loop-i.lists c.store.new.lists id (id_of c.args.list.now) others c.requires.apart next) in
    let grown : tokens_at c.store.new.lists id ≡ tokens_at c.loop-i.lists id ++ c.delimiting-token.result.0 ∷ [] = rw same at c.in_default.ensures.grown in
    let both = take_on (delimiter_at c.args.lists.now (id_of c.args.list.now) c.args.delimiter) c.loop-i._i c.delimiting-token.result.0 (delimiter_at c.loop-i.lists (id_of c.args.list.now) next) (c.loop-i.invariant.7 ∙ c.delimiting-token.ensures.0) in (
      c.store.ensures.building,
      c.store.ensures.same ∙ same,
      on_kept c.loop-i.lists c.store.new.lists id (id_of c.args.list.now) others c.requires.apart next c.delimiting-token.ensures.1,
      omega (arith, ap length rest, ap length c.delimiting-token.ensures.0),
      only_join c.args.lists.now c.loop-i.lists c.store.new.lists id c.loop-i.invariant.4 others,
      moves_join c.args.lists.now c.loop-i.lists c.store.new.lists c.loop-i.invariant.5 c.store.ensures.account,
      grown ∙ ap (λ (l : List Token). l ++ c.delimiting-token.result.0 ∷ []) c.loop-i.invariant.6 ∙ append_assoc (tokens_at c.args.lists.now id) (take c.loop-i._i (delimiter_at c.args.lists.now (id_of c.args.list.now) c.args.delimiter)) (c.delimiting-token.result.0 ∷ []) ∙ ap (λ (l : List Token). tokens_at c.args.lists.now id ++ l) (sym both.1),
      both.0 ∙ sym rest,
      c.store.ensures.length ∙ c.loop-i.invariant.8,
    )

pub returns-in-Err-clause-err : goal.returns-in-Err-clause-err
returns-in-Err-clause-err c =
    let unchanged : tokens_at c.store.new.lists (build_id c.args.build.now) ≡ tokens_at c.loop-i.lists (build_id c.args.build.now) = ap (λ t. tokens_at t (build_id c.args.build.now)) c.in-Err.ensures.err in
    part_of (tokens_at c.args.lists.now (build_id c.args.build.now)) (tokens_at c.store.new.lists (build_id c.args.build.now)) (delimiter_at c.args.lists.now (id_of c.args.list.now) c.args.delimiter) c.loop-i._i c.args.count (omega arith) c.requires.inside (unchanged ∙ c.loop-i.invariant.6)
