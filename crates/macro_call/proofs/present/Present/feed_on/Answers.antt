use Rattle.std.proofs.Common.{◌≡◌, ◌+◌, List, sym, ap, ◌∙◌, arith, refl, false, ◌&&◌}
use Rattle.tex_defs.specs.declared.Token.{Token}
use Rattle.token_lists.specs.Table.{tokens_at}
use Rattle.token_lists.specs.Ids.{id_of, build_id}
use Rattle.plain_tokens.specs.Arguments.{is_par, is_short}
use Rattle.macro_call.specs.Cursors.{delimiter_at}
use Rattle.macro_call.specs.Stages.{stage_of}
use Rattle.macro_call.proofs.Cursors.{delimiter_within}
use Rattle.macro_call.proofs.Tables.{length_within}
use Rattle.macro_call.proofs.Taken.{depth_within, took_on, took_par, cut_out, cut_all, cut_last, out_front, out_all}
use Rattle.macro_call.proofs.Undelimited.{not_first, not_second, both}
use Rattle.macro_call.proofs.present.Present.feed_on.Goals as goal
use Rattle.macro_call.proofs.present.Present.feed_on.Goals.{After-store, else-is_short-via-then-is_short+else-is_par, else-is_short-via-else-is_short}

pub behind-depth-requires : goal.behind-depth-requires
behind-depth-requires c =
    let ds : List Token = delimiter_at c.args.lists.now (id_of c.args.list.now) c.args.delimiter in
    omega (
      arith,
      depth_within ds (stage_of c.args.lists.now c.args.self.now) c.requires.stands,
      c.requires.stands.1.fits,
      length_within c.args.lists.now (build_id c.args.self.now.build),
      length_within c.args.lists.now (id_of c.args.list.now),
      delimiter_within c.args.delimiter.index (tokens_at c.args.lists.now (id_of c.args.list.now)),
      c.used-used.ensures.is,
    )

pub overflow_add-self : goal.overflow_add-self
overflow_add-self c =
    omega (
      arith,
      c.requires.stands.1.fits,
      length_within c.args.lists.now (id_of c.args.list.now),
      delimiter_within c.args.delimiter.index (tokens_at c.args.lists.now (id_of c.args.list.now)),
      c.used-used.ensures.is,
    )

pub returns-in-Err-clause-cut_short : goal.returns-in-Err-clause-cut_short
returns-in-Err-clause-cut_short c =
    let ds : List Token = delimiter_at c.args.lists.now (id_of c.args.list.now) c.args.delimiter in
    cut_out ds (stage_of c.args.lists.now c.args.self.now) c.args.x c.args.mode c.args.out c.requires.stands c.requires.releases c.requires.open_yet _ c.requires.inside c.if-out-self.true c.in-Err.ensures.err

pub returns-in-Err-store_front-clause-cut_short : goal.returns-in-Err-store_front-clause-cut_short
returns-in-Err-store_front-clause-cut_short c =
    let ds : List Token = delimiter_at c.args.lists.now (id_of c.args.list.now) c.args.delimiter in
    cut_all ds (stage_of c.args.lists.now c.args.self.now) c.args.x c.args.mode c.args.out c.requires.stands c.requires.releases c.requires.open_yet _ c.requires.inside
    (omega (arith, c.requires.releases.within, c.if-out-self.false)) c.in-Err-store_front.ensures.err

pub returns-then-out-self-clause-took : goal.returns-then-out-self-clause-took
returns-then-out-self-clause-took c =
    let ds : List Token = delimiter_at c.args.lists.now (id_of c.args.list.now) c.args.delimiter in
    took_on ds (stage_of c.args.lists.now c.args.self.now) _ c.args.x c.args.mode c.args.out c.requires.stands c.requires.releases c.requires.open_yet c.requires.inside
    (out_front _ _ c.args.self.now.matched c.args.out ds c.args.x c.if-out-self.true (omega (arith, c.requires.stands.1.fits)) (ap (tokens_at c.store_front.new.lists) c.store_front.ensures.same ∙ c.in_default.ensures.grown))
    refl (omega arith) c.behind-depth.ensures (λ e. absurd (omega (arith, c.if-out-self.true)))

pub returns-then-is_par-clause-took : goal.returns-then-is_par-clause-took
returns-then-is_par-clause-took c =
    let ds : List Token = delimiter_at c.args.lists.now (id_of c.args.list.now) c.args.delimiter in
    took_par ds (stage_of c.args.lists.now c.args.self.now) _ c.args.x c.args.mode c.args.out c.requires.stands c.requires.releases c.requires.open_yet c.requires.inside
    (ap (tokens_at c.store_front-2.new.lists) c.store_front-2.ensures.same ∙ c.in_default-store_front.ensures.grown)
    (omega (arith, c.requires.releases.within, c.if-out-self.false))
    (both (is_short c.args.mode) (is_par c.args.x) (sym c.is_short.ensures ∙ c.if-is_short.true) (sym c.is_par.ensures ∙ c.if-is_par.true))

no_par : (c : After-store) → (is_short c.args.mode && is_par c.args.x) ≡ false
no_par c = elim c.else-is_short.branch [
  | else-is_short-via-then-is_short+else-is_par w ↦ not_second (is_short c.args.mode) (is_par c.args.x) (sym w.is_par.ensures ∙ w.if-is_par.false)
  | else-is_short-via-else-is_short w ↦ not_first (is_short c.args.mode) (is_par c.args.x) (sym c.is_short.ensures ∙ w.if-is_short.false)
]

pub returns-in-Err-store-clause-cut_short : goal.returns-in-Err-store-clause-cut_short
returns-in-Err-store-clause-cut_short c =
    let ds : List Token = delimiter_at c.args.lists.now (id_of c.args.list.now) c.args.delimiter in
    cut_last ds (stage_of c.args.lists.now c.args.self.now) c.args.x c.args.mode c.args.out c.requires.stands c.requires.releases c.requires.open_yet _ c.requires.inside
    (omega (arith, c.requires.releases.within, c.if-out-self.false)) (no_par (goal.at.returns-in-Err-store-clause-cut_short c).After-store)
    (ap (λ t. tokens_at t (build_id c.args.self.now.build)) c.in-Err-store.ensures.err ∙ c.in_default-store_front.ensures.grown)

pub returns-clause-took : goal.returns-clause-took
returns-clause-took c =
    let ds : List Token = delimiter_at c.args.lists.now (id_of c.args.list.now) c.args.delimiter in
    let last : c.args.out ≡ c.args.self.now.matched + 1 = omega (arith, c.requires.releases.within, c.if-out-self.false) in
    took_on ds (stage_of c.args.lists.now c.args.self.now) _ c.args.x c.args.mode c.args.out c.requires.stands c.requires.releases c.requires.open_yet c.requires.inside
    (out_all _ (tokens_at c.store_front-2.new.lists (build_id c.store_front-2.new.build)) _ c.args.self.now.matched c.args.out ds c.args.x last (omega (arith, c.requires.stands.1.fits))
    (ap (tokens_at c.store_front-2.new.lists) c.store_front-2.ensures.same ∙ c.in_default-store_front.ensures.grown)
    (ap (tokens_at c.store.new.lists) c.store.ensures.same ∙ c.in_default-store.ensures.grown))
    refl (omega arith) c.behind-depth.ensures (λ e. no_par (goal.at.returns-clause-took c).After-store)
