use Rattle.std.proofs.Common.{◌≡◌, ◌++◌, ◌∷◌, [], List, drop, sym, ap, ◌∙◌, arith, refl, false, ◌&&◌}
use Rattle.std.specs.Prelude.{◌==◌}
use Rattle.std.proofs.lemmas.Bool.{ne_eqb}
use Rattle.tex_defs.specs.declared.Token.{Token}
use Rattle.token_lists.specs.Table.{tokens_at}
use Rattle.token_lists.specs.Ids.{build_id}
use Rattle.plain_tokens.specs.Arguments.{is_end, is_par, is_short}
use Rattle.macro_call.specs.Stages.{stage_of}
use Rattle.macro_call.proofs.Tables.{tokens_first, length_within}
use Rattle.macro_call.proofs.Undelimited.{took_argument, took_more, cut_going, plain_closes, plain_goes, plain_on, plain_by, depth_bound, not_first, not_second}
use Rattle.macro_call.proofs.present.Present.feed_group.Goals as goal
use Rattle.macro_call.proofs.present.Present.feed_group.Goals.{After-store, else-self-eq1-via-then-self-eq1+else-is_end, else-self-eq1-via-else-self-eq1, else-is_short-via-then-is_short+else-is_par, else-is_short-via-else-is_short}

pub returns-then-is_end-clause-took : goal.returns-then-is_end-clause-took
returns-then-is_end-clause-took c =
    let list : List Token = tokens_at c.args.lists.now (build_id c.args.self.now.build) in
    took_argument (stage_of c.args.lists.now c.args.self.now) _ c.args.x _ c.requires.stands (drop 1 list)
    (ap (tokens_at c.drop_first.new.self) c.drop_first.ensures.same ∙ tokens_first c.args.lists.now c.drop_first.new.self c.args.self.now.build c.requires.building c.drop_first.ensures.after)
    (plain_closes c.args.mode list c.args.self.now.depth c.args.x c.requires.stands.2 c.if-self-eq1.true (sym c.is_end.ensures ∙ c.if-is_end.true))

pub behind-depth-requires : goal.behind-depth-requires
behind-depth-requires c =
    omega (arith, depth_bound (tokens_at c.args.lists.now (build_id c.args.self.now.build)) c.args.self.now.depth c.requires.stands.2, length_within c.args.lists.now (build_id c.args.self.now.build), c.used-used.ensures.is)

module _ (c : After-store) where
  stays : ((c.args.self.now.depth == 1) && is_end c.args.x) ≡ false
  stays = elim c.else-self-eq1.branch [
    | else-self-eq1-via-then-self-eq1+else-is_end w ↦ not_second (c.args.self.now.depth == 1) (is_end c.args.x) (sym w.is_end.ensures ∙ w.if-is_end.false)
    | else-self-eq1-via-else-self-eq1 w ↦ not_first (c.args.self.now.depth == 1) (is_end c.args.x) (ne_eqb c.args.self.now.depth 1 w.if-self-eq1.false)
  ]

  no_par : (is_short c.args.mode && is_par c.args.x) ≡ false
  no_par = elim c.else-is_short.branch [
    | else-is_short-via-then-is_short+else-is_par w ↦ not_second (is_short c.args.mode) (is_par c.args.x) (sym w.is_par.ensures ∙ w.if-is_par.false)
    | else-is_short-via-else-is_short w ↦ not_first (is_short c.args.mode) (is_par c.args.x) (sym c.is_short.ensures ∙ w.if-is_short.false)
  ]

pub returns-in-Err-clause-cut_short : goal.returns-in-Err-clause-cut_short
returns-in-Err-clause-cut_short c =
    let list : List Token = tokens_at c.args.lists.now (build_id c.args.self.now.build) in
    let s = (goal.at.returns-in-Err-clause-cut_short c).After-store in
    cut_going (stage_of c.args.lists.now c.args.self.now) c.args.x _ c.requires.stands (ap (λ t. tokens_at t (build_id c.args.self.now.build)) c.in-Err.ensures.err) _
    (plain_goes c.args.mode list c.args.self.now.depth c.args.x c.requires.stands.2 c.requires.inside (no_par s) (stays s))

pub returns-clause-took : goal.returns-clause-took
returns-clause-took c =
    let list : List Token = tokens_at c.args.lists.now (build_id c.args.self.now.build) in
    let s = (goal.at.returns-clause-took c).After-store in
    let grown : tokens_at c.store.new.lists (build_id c.store.new.build) ≡ list ++ c.args.x ∷ [] = ap (tokens_at c.store.new.lists) c.store.ensures.same ∙ c.in_default.ensures.grown in
    took_more (stage_of c.args.lists.now c.args.self.now) _ c.args.x _ c.requires.stands grown refl refl
    (plain_by (list ++ c.args.x ∷ []) (tokens_at c.store.new.lists (build_id c.store.new.build)) _ c.behind-depth.result (plain_on list c.args.self.now.depth c.args.x c.requires.stands.2 c.requires.inside (stays s)) grown c.behind-depth.ensures)
    (plain_goes c.args.mode list c.args.self.now.depth c.args.x c.requires.stands.2 c.requires.inside (no_par s) (stays s))
