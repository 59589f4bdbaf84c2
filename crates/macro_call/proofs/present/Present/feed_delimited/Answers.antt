use Rattle.std.proofs.Common.{◌≡◌, ℕ, ◌+◌, ◌-◌, ◌<◌, ◌≤◌, List, length, sym, ap, ◌∙◌, arith}
use Rattle.std.specs.Prelude.{IsTrue, ◌↔◌}
use Rattle.tex_defs.specs.declared.Token.{Token}
use Rattle.token_lists.specs.Table.{tokens_at}
use Rattle.token_lists.specs.Ids.{id_of, build_id}
use Rattle.macro_call.specs.Cursors.{delimiter_at}
use Rattle.macro_call.specs.Stages.{stage_of, Releases}
use Rattle.macro_call.proofs.Cursors.{delimiter_within, delimiter_ahead}
use Rattle.macro_call.proofs.Tables.{length_within}
use Rattle.macro_call.proofs.Taken.{depth_within, released_by, took_whole, took_brace, cut_brace, not_whole, whole_by}
use Rattle.macro_call.proofs.present.Present.feed_delimited.Goals as goal
use Rattle.macro_call.proofs.present.Present.feed_delimited.Goals.{After-advance_match-out, After-is_whole, Joined-self-gt0, then-self-gt0, else-self-gt0}

before_zero : (c : Joined-self-gt0) → 0 < c.args.self.now.matched → c.if-self-gt0.before ≡ 0
before_zero c h = elim c.if-self-gt0.branch [ then-self-gt0 w ↦ w.before-is | else-self-gt0 w ↦ absurd (omega (arith, w.if-self-gt0.false)) ]

before_depth : (c : Joined-self-gt0) → c.args.self.now.matched ≡ 0 → c.if-self-gt0.before ≡ c.args.self.now.depth
before_depth c h = elim c.if-self-gt0.branch [ then-self-gt0 w ↦ absurd (omega (arith, w.if-self-gt0.true)) | else-self-gt0 w ↦ w.before-is ]

before_small : (c : Joined-self-gt0) → c.if-self-gt0.before ≤ c.args.self.now.depth
before_small c = elim c.if-self-gt0.branch [ then-self-gt0 w ↦ omega (arith, w.before-is) | else-self-gt0 w ↦ omega (arith, w.before-is) ]

pub advance_match-out-requires-clause-shallow : goal.advance_match-out-requires-clause-shallow
advance_match-out-requires-clause-shallow c =
    let ds : List Token = delimiter_at c.args.lists.now (id_of c.args.list.now) c.args.delimiter in
    omega (
      arith,
      before_small c.before,
      depth_within ds (stage_of c.args.lists.now c.args.self.now) c.requires.stands,
      c.requires.stands.1.fits,
      length_within c.args.lists.now (build_id c.args.self.now.build),
      length_within c.args.lists.now (id_of c.args.list.now),
      delimiter_within c.args.delimiter.index (tokens_at c.args.lists.now (id_of c.args.list.now)),
      c.used-used.ensures.is,
    )

released : (c : After-advance_match-out) → Releases (delimiter_at c.args.lists.now (id_of c.args.list.now) c.args.delimiter) (stage_of c.args.lists.now c.args.self.now) c.args.x c.advance_match-out.result.0
released c =
    released_by (delimiter_at c.args.lists.now (id_of c.args.list.now) c.args.delimiter) (stage_of c.args.lists.now c.args.self.now) c.args.x c.if-self-gt0.before c.advance_match-out.result.0 c.requires.stands
    (before_zero c.before.before) (before_depth c.before.before) c.advance_match-out.ensures.within c.advance_match-out.ensures.part c.advance_match-out.ensures.rest

whole : (c : After-is_whole) → IsTrue c.is_whole.result ↔ ((c.advance_match-out.result.0 ≡ 0) × (c.args.self.now.matched + 1 ≡ length (delimiter_at c.args.lists.now (id_of c.args.list.now) c.args.delimiter)))
whole c =
    let ds : List Token = delimiter_at c.args.lists.now (id_of c.args.list.now) c.args.delimiter in
    whole_by ds _ c.args.self.now.matched c.advance_match-out.result.0 c.is_whole.result c.requires.stands.1.fits
    (delimiter_ahead c.args.lists.now (id_of c.args.list.now) c.args.delimiter (c.args.self.now.matched + 1 - c.advance_match-out.result.0) c.advance_match-out.result.1 c.advance_match-out.ensures.next (omega (arith, c.requires.stands.1.fits)))
    c.is_whole.ensures

pub returns-then-is_whole-clause-took : goal.returns-then-is_whole-clause-took
returns-then-is_whole-clause-took c =
    let ds : List Token = delimiter_at c.args.lists.now (id_of c.args.list.now) c.args.delimiter in
    let p = (whole (goal.at.returns-then-is_whole-clause-took c).After-is_whole).0 c.if-is_whole.true in
    took_whole ds (stage_of c.args.lists.now c.args.self.now) _ c.args.x c.args.mode c.advance_match-out.result.0 c.requires.stands (released (goal.at.returns-then-is_whole-clause-took c).After-advance_match-out)
    (ap (tokens_at c.without_braces.new.lists) c.without_braces.ensures.same ∙ c.without_braces.ensures.stripped) p.0 p.1

pub returns-in-Err-clause-cut_short : goal.returns-in-Err-clause-cut_short
returns-in-Err-clause-cut_short c =
    let ds : List Token = delimiter_at c.args.lists.now (id_of c.args.list.now) c.args.delimiter in
    cut_brace ds (stage_of c.args.lists.now c.args.self.now) c.args.x c.args.mode c.advance_match-out.result.0 c.requires.stands (released (goal.at.returns-in-Err-clause-cut_short c).After-advance_match-out)
    (not_whole ds c.args.self.now.matched c.advance_match-out.result.0 c.is_whole.result c.requires.stands.1.fits (whole (goal.at.returns-in-Err-clause-cut_short c).After-is_whole) c.if-is_whole.false) _
    (sym c.is_end.ensures ∙ c.if-is_end.true) c.if-self-eq0.true c.in-Err.ensures.cut_short

pub returns-then-self-eq0-clause-took : goal.returns-then-self-eq0-clause-took
returns-then-self-eq0-clause-took c =
    let ds : List Token = delimiter_at c.args.lists.now (id_of c.args.list.now) c.args.delimiter in
    took_brace ds (stage_of c.args.lists.now c.args.self.now) _ c.args.x c.args.mode c.advance_match-out.result.0 c.requires.stands (released (goal.at.returns-then-self-eq0-clause-took c).After-advance_match-out)
    (not_whole ds c.args.self.now.matched c.advance_match-out.result.0 c.is_whole.result c.requires.stands.1.fits (whole (goal.at.returns-then-self-eq0-clause-took c).After-is_whole) c.if-is_whole.false)
    (ap (tokens_at c.keep.new.lists) c.keep.ensures.same ∙ c.in_default.ensures.kept.0)
    (c.in_default.ensures.kept.1 ∙ ap (λ (k : ℕ). length (tokens_at c.keep.new.lists k)) (sym c.keep.ensures.same)) c.in_default.ensures.kept.2 c.in_default.ensures.kept.3
    (sym c.is_end.ensures ∙ c.if-is_end.true) c.if-self-eq0.true

pub feed_on-requires-clause-releases : goal.feed_on-requires-clause-releases
feed_on-requires-clause-releases c = released (goal.at.feed_on-requires-clause-releases c).After-advance_match-out

pub feed_on-requires-clause-open_yet : goal.feed_on-requires-clause-open_yet
feed_on-requires-clause-open_yet c =
    not_whole (delimiter_at c.args.lists.now (id_of c.args.list.now) c.args.delimiter) c.args.self.now.matched c.advance_match-out.result.0 c.is_whole.result c.requires.stands.1.fits (whole (goal.at.feed_on-requires-clause-open_yet c).After-is_whole) c.if-is_whole.false
