use Rattle.std.proofs.Common.{◌≡◌, ◌∙◌, ◌+◌, ◌≤◌, ap, subst, ℕ, true, arith}
use Rattle.std.specs.Prelude.{None, Ok, Err}
use Rattle.plain_machine.specs.Extended.{Rests}
use Rattle.plain_machine.specs.declared.broken.Broken.{Broken}
use Rattle.engine_state.specs.declared.engine.Engine.{Engine}
use Rattle.engine_state.specs.Steps.{stops_run}
use Rattle.engine_state.proofs.ReadingsOpened.{none_of}
use Rattle.stomach.specs.declared.early.Early.{Early}
use Rattle.stomach.specs.declared.early.Early.TheVariants as early
use Rattle.stomach.specs.declared.runs.Ended.TheVariants as ended
use Rattle.stomach.specs.Ran.{StoppedTo, RanTo, FreeTo, RuledTo}
use Rattle.stomach.proofs.AtHand.{hand_broken, hand_done, hand_of}
use Rattle.stomach.proofs.OneRule.{reads_same}
use Rattle.stomach.proofs.Reading.{reads_none, reads_map, reads_then}
use Rattle.stomach.proofs.Rounds.{CameTo, came_first, came_settled, came_steps, came_then, free_some, ruled_end, ruled_err, ruled_step, runs_err, stopped_then, stops_ran, stops_then}
use Rattle.stomach.proofs.runs.make_run.Goals as goal

pub loop-taken-init : goal.loop-taken-init
loop-taken-init g c =
    let rs = c.args.readers.now in
    let e = c.args.engine.now in
    let s = g.S.Sink.told c.args.out.now in
    (omega arith, (((c.requires.idle, c.requires.running), c.requires.open), reads_none (CameTo rs e s rs e s 0) rs.readers (g.F.Files.told c.args.files.now) (λ all. came_first rs e s all)))

-- A TOKEN AT HAND

pub returns-in_err-outcome-clause-run : goal.returns-in_err-outcome-clause-run
returns-in_err-outcome-clause-run g c =
    let l = c.loop-taken in
    let i = c.in_err-outcome in
    let b : Broken = i.field-0.0 in
    let rs0 = c.args.readers.now in
    let e0 = c.args.engine.now in
    let s0 = g.S.Sink.told c.args.out.now in
    let s1 = g.S.Sink.told l.out in
    let rs = l.readers in
    let e = c.rule_of_token.new.engine in
    let s = g.S.Sink.told c.rule_of_token.new.out in
    let n = c.args.n in
    let hand = hand_of l.engine c.at_hand.result c.in-Some.want c.in-Some.is c.at_hand.ensures in
    let within : l.taken + 1 ≤ n = omega (arith, l.invariant.0, c.if-taken-n.true) in
    runs_err c.from_residual.result (early.Broken b) _ _ rs0.readers rs.readers _ _ c.from_residual.ensures.1
    (reads_then (CameTo rs0 e0 s0 rs l.engine s1 l.taken) rs0.readers rs.readers rs.readers _ _ _ (λ (all left : Rests). RuledTo rs l.engine s1 rs e s all left (Err (early.Broken b))) (StoppedTo rs0 e0 s0 e s n (early.Broken b)) l.invariant.1.1
    (reads_same (λ (all left : Rests). RuledTo rs l.engine s1 rs e s all left (Err (early.Broken b))) rs.readers _ (λ left may. hand_broken rs l.engine e s1 s c.in-Some.want hand left may b i.ensures.err))
    (λ all mid left p q. stopped_then rs0 rs rs e0 l.engine e s0 s1 s l.taken all mid left p 1 n (early.Broken b) within (ruled_err rs rs l.engine e s1 s mid left (early.Broken b) true hand.waits q)))

pub returns-in-Halted-clause-run : goal.returns-in-Halted-clause-run
returns-in-Halted-clause-run g c =
    let l = c.loop-taken in
    let i = c.in_ok-outcome in
    let o = c.in-Halted.outcome in
    let rs0 = c.args.readers.now in
    let e0 = c.args.engine.now in
    let s0 = g.S.Sink.told c.args.out.now in
    let s1 = g.S.Sink.told l.out in
    let rs = l.readers in
    let e = c.rule_of_token.new.engine in
    let s = g.S.Sink.told c.rule_of_token.new.out in
    let n = c.args.n in
    let hand = hand_of l.engine c.at_hand.result c.in-Some.want c.in-Some.is c.at_hand.ensures in
    let within : l.taken + 1 ≤ n = omega (arith, l.invariant.0, c.if-taken-n.true) in
    reads_then (CameTo rs0 e0 s0 rs l.engine s1 l.taken) rs0.readers rs.readers rs.readers _ _ _ (λ (all left : Rests). RuledTo rs l.engine s1 rs e s all left (Ok i.field-0)) (RanTo rs0 e0 s0 e s n (ended.Halted o)) l.invariant.1.1
    (reads_same (λ (all left : Rests). RuledTo rs l.engine s1 rs e s all left (Ok i.field-0)) rs.readers _ (λ left may. hand_done rs l.engine e s1 s c.in-Some.want hand left may i.field-0 i.ensures.rule))
    (λ all mid left p q. stops_ran rs0 e0 e s0 s (l.taken + 1) n o all left within
    (stops_then rs0 rs rs e0 l.engine e s0 s1 s l.taken all mid left p 1 o (ruled_end rs rs l.engine e s1 s mid left i.field-0 o true c.in-Halted.is hand.waits q)))

pub loop-taken-preserved-in-Step : goal.loop-taken-preserved-in-Step
loop-taken-preserved-in-Step g c =
    let l = c.loop-taken in
    let i = c.in_ok-outcome in
    let rs0 = c.args.readers.now in
    let e0 = c.args.engine.now in
    let s0 = g.S.Sink.told c.args.out.now in
    let s1 = g.S.Sink.told l.out in
    let rs = l.readers in
    let e = c.rule_of_token.new.engine in
    let s = g.S.Sink.told c.rule_of_token.new.out in
    let hand = hand_of l.engine c.at_hand.result c.in-Some.want c.in-Some.is c.at_hand.ensures in (
      omega (arith, l.invariant.0, c.if-taken-n.true),
      (
        ((i.ensures.idle, i.ensures.stopped ∙ ap stops_run c.in-Step.is), l.invariant.1.0.1),
        reads_then (CameTo rs0 e0 s0 rs l.engine s1 l.taken) rs0.readers rs.readers rs.readers _ _ _ (λ (all left : Rests). RuledTo rs l.engine s1 rs e s all left (Ok i.field-0)) (CameTo rs0 e0 s0 rs e s (l.taken + 1)) l.invariant.1.1
            (reads_same (λ (all left : Rests). RuledTo rs l.engine s1 rs e s all left (Ok i.field-0)) rs.readers _ (λ left may. hand_done rs l.engine e s1 s c.in-Some.want hand left may i.field-0 i.ensures.rule))
            (λ all mid left p q. came_then rs0 rs rs e0 l.engine e s0 s1 s l.taken all mid left p 1 (ruled_step rs rs l.engine e s1 s mid left i.field-0 c.in-Step.is q)),
      ),
    )

-- ANOTHER RULE

pub returns-in_err-outcome-2-clause-run : goal.returns-in_err-outcome-2-clause-run
returns-in_err-outcome-2-clause-run g c =
    let l = c.loop-taken in
    let i = c.in_err-outcome-2 in
    let x : Early = i.field-0.0 in
    let rs0 = c.args.readers.now in
    let e0 = c.args.engine.now in
    let s0 = g.S.Sink.told c.args.out.now in
    let s1 = g.S.Sink.told l.out in
    let rs = c.run_to_step.new.readers in
    let e = c.run_to_step.new.engine in
    let s = g.S.Sink.told c.run_to_step.new.out in
    let n = c.args.n in
    runs_err c.from_residual-in_err-outcome-2.result x _ _ rs0.readers rs.readers _ _ c.from_residual-in_err-outcome-2.ensures.1
    (reads_then (CameTo rs0 e0 s0 l.readers l.engine s1 l.taken) rs0.readers l.readers.readers rs.readers _ _ _ (λ (all left : Rests). FreeTo l.readers l.engine s1 rs e s all left (Err x)) (StoppedTo rs0 e0 s0 e s n x) l.invariant.1.1 i.ensures.run
    (λ all mid left p q. stopped_then rs0 l.readers rs e0 l.engine e s0 s1 s l.taken all mid left p 0 n x (omega (arith, l.invariant.0)) q))

pub returns-in-Some-2-clause-run : goal.returns-in-Some-2-clause-run
returns-in-Some-2-clause-run g c =
    let l = c.loop-taken in
    let i = c.in_ok-outcome-2 in
    let o = c.in-Some-2.outcome in
    let rs0 = c.args.readers.now in
    let e0 = c.args.engine.now in
    let s0 = g.S.Sink.told c.args.out.now in
    let s1 = g.S.Sink.told l.out in
    let rs = c.run_to_step.new.readers in
    let e = c.run_to_step.new.engine in
    let s = g.S.Sink.told c.run_to_step.new.out in
    let n = c.args.n in
    reads_then (CameTo rs0 e0 s0 l.readers l.engine s1 l.taken) rs0.readers l.readers.readers rs.readers _ _ _ (λ (all left : Rests). FreeTo l.readers l.engine s1 rs e s all left (Ok i.field-0)) (RanTo rs0 e0 s0 e s n (ended.Halted o)) l.invariant.1.1 i.ensures.run
    (λ all mid left p q. stops_ran rs0 e0 e s0 s (l.taken + 0) n o all left (omega (arith, l.invariant.0)) (stops_then rs0 l.readers rs e0 l.engine e s0 s1 s l.taken all mid left p 0 o (free_some l.readers rs l.engine e s1 s mid left i.field-0 o c.in-Some-2.is q)))

pub returns-then-taken-n-2-clause-run : goal.returns-then-taken-n-2-clause-run
returns-then-taken-n-2-clause-run g c =
    let l = c.loop-taken in
    let k = c.in_ok-outcome-2 in
    let none : k.field-0 ≡ None = none_of k.field-0 c.in_default-2.not-Some in
    let rs0 = c.args.readers.now in
    let e0 = c.args.engine.now in
    let s0 = g.S.Sink.told c.args.out.now in
    let rs = c.run_to_step.new.readers in
    let e = c.run_to_step.new.engine in
    let s = g.S.Sink.told c.run_to_step.new.out in
    let n = c.args.n in
    let at : l.taken ≡ n = omega (arith, c.if-taken-n-2.true) in
    let i = c.end_token_lists.new.self in
    let e' : Engine = record e { input = i } in
    reads_map (CameTo rs0 e0 s0 rs e s l.taken) rs0.readers rs.readers _ _ (RanTo rs0 e0 s0 e' s n ended.Steps)
    (came_settled rs0 l.readers rs e0 l.engine e s0 (g.S.Sink.told l.out) s l.taken _ _ _ k.field-0 none l.invariant.1.1 k.ensures.run)
    (λ all left may may' p. subst (λ (j : ℕ). RanTo rs0 e0 s0 e' s j ended.Steps all left) at
    (came_steps rs0 rs e0 e s0 s l.taken (k.ensures.knows none) all left may' p i c.end_token_lists.ensures.after c.end_token_lists.ensures.keeps (k.ensures.waits none)))

pub one_rule-requires-clause-innermost : goal.one_rule-requires-clause-innermost
one_rule-requires-clause-innermost g c = c.in_ok-outcome-2.ensures.innermost (none_of c.in_ok-outcome-2.field-0 c.in_default-2.not-Some)

pub one_rule-requires-clause-knows : goal.one_rule-requires-clause-knows
one_rule-requires-clause-knows g c = c.in_ok-outcome-2.ensures.knows (none_of c.in_ok-outcome-2.field-0 c.in_default-2.not-Some)

pub returns-in_err-outcome-3-clause-run : goal.returns-in_err-outcome-3-clause-run
returns-in_err-outcome-3-clause-run g c =
    let l = c.loop-taken in
    let k = c.in_ok-outcome-2 in
    let none : k.field-0 ≡ None = none_of k.field-0 c.in_default-2.not-Some in
    let rs0 = c.args.readers.now in
    let e0 = c.args.engine.now in
    let s0 = g.S.Sink.told c.args.out.now in
    let rs = c.run_to_step.new.readers in
    let e = c.run_to_step.new.engine in
    let s = g.S.Sink.told c.run_to_step.new.out in
    let n = c.args.n in
    let i = c.in_err-outcome-3 in
    let x : Early = i.field-0.0 in
    let rs' = c.one_rule.new.readers in
    let e' = c.one_rule.new.engine in
    let s' = g.S.Sink.told c.one_rule.new.out in
    let within : l.taken + 1 ≤ n = omega (arith, l.invariant.0, c.if-taken-n-2.false) in
    runs_err c.from_residual-in_err-outcome-3.result x _ _ rs0.readers rs'.readers _ _ c.from_residual-in_err-outcome-3.ensures.1
    (reads_then (CameTo rs0 e0 s0 rs e s l.taken) rs0.readers rs.readers rs'.readers _ _ _ (λ (all left : Rests). RuledTo rs e s rs' e' s' all left (Err x)) (StoppedTo rs0 e0 s0 e' s' n x)
    (came_settled rs0 l.readers rs e0 l.engine e s0 (g.S.Sink.told l.out) s l.taken _ _ _ k.field-0 none l.invariant.1.1 k.ensures.run) i.ensures.rule
    (λ all mid left p q. stopped_then rs0 rs rs' e0 e e' s0 s s' l.taken all mid left p 1 n x within (ruled_err rs rs' e e' s s' mid left x true (k.ensures.waits none) q)))

pub returns-in-Halted-2-clause-run : goal.returns-in-Halted-2-clause-run
returns-in-Halted-2-clause-run g c =
    let l = c.loop-taken in
    let k = c.in_ok-outcome-2 in
    let none : k.field-0 ≡ None = none_of k.field-0 c.in_default-2.not-Some in
    let rs0 = c.args.readers.now in
    let e0 = c.args.engine.now in
    let s0 = g.S.Sink.told c.args.out.now in
    let rs = c.run_to_step.new.readers in
    let e = c.run_to_step.new.engine in
    let s = g.S.Sink.told c.run_to_step.new.out in
    let n = c.args.n in
    let i = c.in_ok-outcome-3 in
    let o = c.in-Halted-2.outcome in
    let rs' = c.one_rule.new.readers in
    let e' = c.one_rule.new.engine in
    let s' = g.S.Sink.told c.one_rule.new.out in
    let within : l.taken + 1 ≤ n = omega (arith, l.invariant.0, c.if-taken-n-2.false) in
    reads_then (CameTo rs0 e0 s0 rs e s l.taken) rs0.readers rs.readers rs'.readers _ _ _ (λ (all left : Rests). RuledTo rs e s rs' e' s' all left (Ok i.field-0)) (RanTo rs0 e0 s0 e' s' n (ended.Halted o))
    (came_settled rs0 l.readers rs e0 l.engine e s0 (g.S.Sink.told l.out) s l.taken _ _ _ k.field-0 none l.invariant.1.1 k.ensures.run) i.ensures.rule
    (λ all mid left p q. stops_ran rs0 e0 e' s0 s' (l.taken + 1) n o all left within
    (stops_then rs0 rs rs' e0 e e' s0 s s' l.taken all mid left p 1 o (ruled_end rs rs' e e' s s' mid left i.field-0 o true c.in-Halted-2.is (k.ensures.waits none) q)))

pub loop-taken-preserved : goal.loop-taken-preserved
loop-taken-preserved g c =
    let l = c.loop-taken in
    let k = c.in_ok-outcome-2 in
    let none : k.field-0 ≡ None = none_of k.field-0 c.in_default-2.not-Some in
    let rs0 = c.args.readers.now in
    let e0 = c.args.engine.now in
    let s0 = g.S.Sink.told c.args.out.now in
    let rs = c.run_to_step.new.readers in
    let e = c.run_to_step.new.engine in
    let s = g.S.Sink.told c.run_to_step.new.out in
    let n = c.args.n in
    let i = c.in_ok-outcome-3 in
    let rs' = c.one_rule.new.readers in
    let e' = c.one_rule.new.engine in
    let s' = g.S.Sink.told c.one_rule.new.out in (
      omega (arith, l.invariant.0, c.if-taken-n-2.false),
      (
        ((i.ensures.idle, i.ensures.running (ap stops_run c.in-Step-2.is)), i.ensures.open),
        reads_then (CameTo rs0 e0 s0 rs e s l.taken) rs0.readers rs.readers rs'.readers _ _ _ (λ (all left : Rests). RuledTo rs e s rs' e' s' all left (Ok i.field-0)) (CameTo rs0 e0 s0 rs' e' s' (l.taken + 1))
            (came_settled rs0 l.readers rs e0 l.engine e s0 (g.S.Sink.told l.out) s l.taken _ _ _ k.field-0 none l.invariant.1.1 k.ensures.run) i.ensures.rule
            (λ all mid left p q. came_then rs0 rs rs' e0 e e' s0 s s' l.taken all mid left p 1 (ruled_step rs rs' e e' s s' mid left i.field-0 c.in-Step-2.is q)),
      ),
    )
