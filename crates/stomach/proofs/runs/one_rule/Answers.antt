use Rattle.std.proofs.Common.{◌≡◌, ◌∙◌, sym, ap, subst, Bool}
use Rattle.std.specs.Prelude.{Ok, Result}
use Rattle.plain_machine.specs.Extended.{Rests}
use Rattle.world_io.specs.Contents.{world}
use Rattle.equivalents.specs.Parameters.{end_of_line}
use Rattle.engine_state.proofs.CuttingReadings.{near_all}
use Rattle.engine_state.specs.declared.engine.Engine.{Engine}
use Rattle.engine_state.specs.declared.outcome.Ruled.{Ruled}
use Rattle.engine_state.specs.declared.outcome.Ruled.TheVariants as ruled
use Rattle.stomach.specs.declared.early.Early.{Early}
use Rattle.stomach.specs.declared.early.Early.TheVariants as early
use Rattle.stomach.specs.Ran.{Came, CutBy, RuledTo, step_count, whole_state}
use Rattle.stomach.specs.Ahead.{needs_step}
use Rattle.stomach.specs.Files.{AreGone}
use Rattle.stomach.proofs.OneRule.{begun, begun_cut, begun_tied, opened_now, readers_closed, reads_same, rule_done, rule_broken}
use Rattle.stomach.proofs.Reading.{reads_map}
use Rattle.stomach.proofs.RuleAsks.{opens_same}
use Rattle.stomach.proofs.Rounds.{of_err}
use Rattle.stomach.proofs.runs.one_rule.Goals as goal

pub returns-in_err-begin_file-clause-rule : goal.returns-in_err-begin_file-clause-rule
returns-in_err-begin_file-clause-rule g c =
    let rs = c.args.readers.now in
    let e = c.args.engine.now in
    let e' = c.begin_file.new.self in
    let s = g.S.Sink.told c.args.out.now in
    let i = c.in_err-begin_file in
    let b = i.field-0.0 in
    let opened = opened_now e.input.pending.next c.if-has_next.ensures in
    let column : e.in_line ≡ e'.in_line = sym (ap (λ (x : Engine). x.in_line) c.begin_file.ensures.only) in
    reads_same (λ (all left : Rests). RuledTo rs e s rs e' s all left c.from_residual.result) rs.readers _
    (λ left may. of_err c.from_residual.result (early.Broken b) (λ (r : Result Ruled Early). RuledTo rs e s rs e' s left left r) c.from_residual.ensures.1
    (λ sizes f book stands tied. subst (λ (x : Bool). CutBy sizes (whole_state left e book) (step_count (needs_step e)) e' left (world f s e.in_line) (world f s x) b) column
    (begun_cut rs e e' opened.0 opened.1 c.requires.knows left may sizes book stands tied (world f s e.in_line) (world f s e.in_line) b (near_all sizes b e' book (c.begin_file.ensures.stands sizes book stands)) (i.ensures.err sizes (world f s e.in_line) book stands.sound))))

pub returns-then-has_next-clause-rule : goal.returns-then-has_next-clause-rule
returns-then-has_next-clause-rule g c =
    let rs = c.args.readers.now in
    let e = c.args.engine.now in
    let e' = c.begin_file.new.self in
    let s = g.S.Sink.told c.args.out.now in
    let i = c.begin_file.ensures in
    let opened = opened_now e.input.pending.next c.if-has_next.ensures in
    let column : e.in_line ≡ e'.in_line = sym (ap (λ (x : Engine). x.in_line) i.only) in
    reads_same (λ (all left : Rests). RuledTo rs e s rs e' s all left (Ok ruled.Step)) rs.readers _
    (λ left may sizes f book stands tied. record {
      came = subst (λ (x : Bool). Came sizes (whole_state left e book) e' left (world f s e.in_line) (world f s x) 1) column
          (begun rs e e' opened.0 opened.1 c.requires.knows left may sizes book stands tied (world f s e.in_line) (world f s e.in_line) (i.stands sizes book stands) (c.in_ok-begin_file.ensures.did sizes (world f s e.in_line) book stands.sound));
      tied = begun_tied rs e e' (end_of_line e.input.groups.now) c.if-has_next.ensures c.in_ok-begin_file.ensures.pending (ap (λ (x : Engine). x.input.sizes) i.only) tied;
    })

pub open_file-requires-clause-starts : goal.open_file-requires-clause-starts
open_file-requires-clause-starts g c = sym (opens_same c.args.engine.now c.args.innermost.now c.requires.innermost) ∙ (sym c.opens_file.ensures ∙ c.if-opens_file.true)

pub rule-ruled-requires-clause-no_start : goal.rule-ruled-requires-clause-no_start
rule-ruled-requires-clause-no_start g c = sym (opens_same c.args.engine.now c.args.innermost.now c.requires.innermost) ∙ (sym c.opens_file.ensures ∙ c.if-opens_file.false)

pub returns-in_err-ruled-clause-rule : goal.returns-in_err-ruled-clause-rule
returns-in_err-ruled-clause-rule g c =
    let rs = c.args.readers.now in
    let rs' = c.close_ended.new.readers in
    let e = c.args.engine.now in
    let e' = c.rule-ruled.new.engine in
    let s = g.S.Sink.told c.args.out.now in
    let s' = g.S.Sink.told c.rule-ruled.new.out in
    let i = c.in_err-ruled in
    let b = i.field-0.0 in
    let k = c.close_ended.ensures in
    reads_map (λ (all left : Rests). AreGone all left _) rs.readers rs'.readers _ _ (λ (all left : Rests). RuledTo rs e s rs' e' s' all left c.from_residual-in_err-ruled.result) k.closed
    (λ all left may may' gone. of_err c.from_residual-in_err-ruled.result (early.Broken b) (λ (r : Result Ruled Early). RuledTo rs e s rs' e' s' all left r) c.from_residual-in_err-ruled.ensures.1
    (λ sizes f book stands tied. rule_broken rs rs' e e' s s' c.if-has_next.ensures (sym (opens_same e c.args.innermost.now c.requires.innermost) ∙ (sym c.opens_file.ensures ∙ c.if-opens_file.false)) c.requires.knows k.most all left may sizes f book stands tied (readers_closed rs rs' e e' k.stays all left gone book tied) b (i.ensures.err sizes f book stands)))

pub returns-clause-rule : goal.returns-clause-rule
returns-clause-rule g c =
    let rs = c.args.readers.now in
    let rs' = c.close_ended.new.readers in
    let e = c.args.engine.now in
    let e' = c.rule-ruled.new.engine in
    let s = g.S.Sink.told c.args.out.now in
    let s' = g.S.Sink.told c.rule-ruled.new.out in
    let i = c.in_ok-ruled in
    let k = c.close_ended.ensures in
    reads_map (λ (all left : Rests). AreGone all left _) rs.readers rs'.readers _ _ (λ (all left : Rests). RuledTo rs e s rs' e' s' all left (Ok i.field-0)) k.closed
    (λ all left may may' gone sizes f book stands tied. rule_done rs rs' e e' s s' c.if-has_next.ensures (sym (opens_same e c.args.innermost.now c.requires.innermost) ∙ (sym c.opens_file.ensures ∙ c.if-opens_file.false)) c.requires.knows k.most all left may sizes f book stands tied (readers_closed rs rs' e e' k.stays all left gone book tied) i.field-0 (i.ensures.rule sizes f book stands))
