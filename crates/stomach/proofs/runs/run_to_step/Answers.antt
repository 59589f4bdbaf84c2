use Rattle.std.proofs.Common.{◌≡◌, ◌<◌, ◌∙◌, sym, ap, false, arith}
use Rattle.std.proofs.lemmas.Grind.{common_steps}
use Rattle.std.specs.Prelude.{Ok, Err}
use Rattle.world_io.specs.declared.traits.Fault.TheVariants.{Failed, NoMemory}
use Rattle.plain_machine.specs.Extended.{Rests}
use Rattle.plain_machine.proofs.Doing.{rose_on}
use Rattle.engine_state.specs.Steps.{weight, stops_run}
use Rattle.engine_state.proofs.Joining.{same_err}
use Rattle.stomach.specs.declared.early.Early.{Early}
use Rattle.stomach.specs.declared.early.Early.TheVariants as early
use Rattle.stomach.specs.Ahead.{IsGiven, needs_step}
use Rattle.stomach.specs.Ran.{StoppedTo, RuledTo}
use Rattle.stomach.proofs.Running.{when_free}
use Rattle.stomach.proofs.GivenBytes.{innermost_given, wants_given}
use Rattle.stomach.proofs.Reading.{no_left, reads_none, reads_then, reads_holds}
use Rattle.stomach.proofs.Rounds.{CameTo, StopsTo, came_first, came_more, came_then, stops_then, stopped_then, idle_given, running_given, weight_given, same_fault, reads_err, ruled_end, ruled_err, ruled_free, unread_more}
use Rattle.stomach.proofs.runs.run_to_step.Goals as goal

pub loop-wants-init : goal.loop-wants-init
loop-wants-init g c =
    let rs = c.args.readers.now in
    let e = c.args.engine.now in
    let s = g.S.Sink.told c.args.out.now in
    (((c.requires.idle, c.requires.running), c.requires.open), reads_none (CameTo rs e s rs e s 0) rs.readers (g.F.Files.told c.args.files.now) (λ all. came_first rs e s all))

pub returns-in_err-read_ahead-clause-run : goal.returns-in_err-read_ahead-clause-run
returns-in_err-read_ahead-clause-run g c =
    let l = c.loop-wants in
    let i = c.in_err-read_ahead in
    let x : Early = early.Unread i.field-0.0 in
    let rs0 = c.args.readers.now in
    let e0 = c.args.engine.now in
    let s0 = g.S.Sink.told c.args.out.now in
    let s = g.S.Sink.told l.out in
    let rs' = c.read_ahead.new.readers in
    let e' = c.read_ahead.new.engine in
    reads_err rs0 e0 s0 rs' e' s c.from_residual.result x _ _ c.from_residual.ensures.1
    (reads_then (CameTo rs0 e0 s0 l.readers l.engine s 0) rs0.readers l.readers.readers rs'.readers _ _ _ (λ (all left : Rests). IsGiven all left l.engine e') (StoppedTo rs0 e0 s0 e' s 0 x) l.invariant.1 i.ensures.came
    (λ all mid left a b. unread_more rs0 l.readers rs' e0 l.engine e' s0 s 0 0 i.field-0.0 all mid left (omega arith) i.ensures.lacks a b))

pub returns-in_err-read_ahead-clause-fault : goal.returns-in_err-read_ahead-clause-fault
returns-in_err-read_ahead-clause-fault g c =
    let i = c.in_err-read_ahead in
    same_err c.from_residual.result (early.Unread i.field-0.0) _ c.from_residual.ensures.1 (λ is. rose_on _ _ _ c.loop-wants.invariant.1.read_faults (i.ensures.fault (same_fault i.field-0.0 Failed is)))

pub returns-in_err-read_ahead-clause-want : goal.returns-in_err-read_ahead-clause-want
returns-in_err-read_ahead-clause-want g c =
    let i = c.in_err-read_ahead in
    same_err c.from_residual.result (early.Unread i.field-0.0) _ c.from_residual.ensures.1 (λ is. rose_on _ _ _ c.loop-wants.invariant.1.wants (i.ensures.want (same_fault i.field-0.0 NoMemory is)))

pub returns-then-needs_step-clause-run : goal.returns-then-needs_step-clause-run
returns-then-needs_step-clause-run g c =
    let l = c.loop-wants in
    let i = c.in_ok-read_ahead.ensures in
    let rs0 = c.args.readers.now in
    let e0 = c.args.engine.now in
    let s0 = g.S.Sink.told c.args.out.now in
    let s = g.S.Sink.told l.out in
    let rs' = c.read_ahead.new.readers in
    let e' = c.read_ahead.new.engine in
    reads_then (CameTo rs0 e0 s0 l.readers l.engine s 0) rs0.readers l.readers.readers rs'.readers _ _ _ (λ (all left : Rests). IsGiven all left l.engine e') (CameTo rs0 e0 s0 rs' e' s 0) l.invariant.1 i.came
    (λ all mid left a b. came_more rs0 l.readers rs' e0 l.engine e' s0 s 0 all mid left i.tied a b)

pub returns-then-needs_step-clause-idle : goal.returns-then-needs_step-clause-idle
returns-then-needs_step-clause-idle g c = idle_given _ no_left c.loop-wants.engine c.read_ahead.new.engine (reads_holds _ _ _ _ _ c.in_ok-read_ahead.ensures.came) c.loop-wants.invariant.0.0.0

pub returns-then-needs_step-clause-runs : goal.returns-then-needs_step-clause-runs
returns-then-needs_step-clause-runs g c = λ none. running_given _ no_left c.loop-wants.engine c.read_ahead.new.engine (reads_holds _ _ _ _ _ c.in_ok-read_ahead.ensures.came) c.loop-wants.invariant.0.0.1

pub returns-then-has_token-clause-innermost : goal.returns-then-has_token-clause-innermost
returns-then-has_token-clause-innermost g c = λ none. c.look.ensures.is

pub returns-then-needs_step-clause-innermost : goal.returns-then-needs_step-clause-innermost
returns-then-needs_step-clause-innermost g c = λ none. innermost_given _ no_left c.loop-wants.engine c.read_ahead.new.engine (reads_holds _ _ _ _ _ c.in_ok-read_ahead.ensures.came) c.look.new.self c.look.ensures.is

-- whether the next rule wants a token
pub has_token-requires : goal.has_token-requires
has_token-requires g c = c.wants_token-wants.ensures ∙ c.look.ensures.wants

pub read_ahead-requires-clause-wants : goal.read_ahead-requires-clause-wants
read_ahead-requires-clause-wants g c = c.wants_token-wants.ensures ∙ c.look.ensures.wants

pub needs_step-requires : goal.needs_step-requires
needs_step-requires g c = wants_given _ no_left c.loop-wants.engine c.read_ahead.new.engine (reads_holds _ _ _ _ _ c.in_ok-read_ahead.ensures.came) c.wants_token-wants.result (c.wants_token-wants.ensures ∙ c.look.ensures.wants)

pub one_rule-requires : goal.one_rule-requires
one_rule-requires g c =
    let i = c.in_ok-read_ahead.ensures in
    let given = reads_holds _ _ _ _ _ i.came in
    record { innermost = innermost_given _ no_left c.loop-wants.engine c.read_ahead.new.engine given c.look.new.self c.look.ensures.is; idle = idle_given _ no_left c.loop-wants.engine c.read_ahead.new.engine given c.loop-wants.invariant.0.0.0; running = running_given _ no_left c.loop-wants.engine c.read_ahead.new.engine given c.loop-wants.invariant.0.0.1; «open» = i.open; knows = i.knows }

pub returns-in_err-outcome-clause-run : goal.returns-in_err-outcome-clause-run
returns-in_err-outcome-clause-run g c =
    let l = c.loop-wants in
    let i = c.in_ok-read_ahead.ensures in
    let j = c.in_err-outcome in
    let x : Early = j.field-0.0 in
    let rs0 = c.args.readers.now in
    let e0 = c.args.engine.now in
    let s0 = g.S.Sink.told c.args.out.now in
    let s = g.S.Sink.told l.out in
    let rs = c.read_ahead.new.readers in
    let e = c.read_ahead.new.engine in
    let rs' = c.one_rule.new.readers in
    let e' = c.one_rule.new.engine in
    let s' = g.S.Sink.told c.one_rule.new.out in
    let silent : needs_step e ≡ false = sym c.needs_step.ensures ∙ grind (arith, common_steps, c.if-needs_step.false) in
    reads_err rs0 e0 s0 rs' e' s' c.from_residual-in_err-outcome.result x _ _ c.from_residual-in_err-outcome.ensures.1
    (reads_then (CameTo rs0 e0 s0 rs e s 0) rs0.readers rs.readers rs'.readers _ _ _ (λ (all left : Rests). RuledTo rs e s rs' e' s' all left (Err x)) (StoppedTo rs0 e0 s0 e' s' 0 x)
    (reads_then (CameTo rs0 e0 s0 l.readers l.engine s 0) rs0.readers l.readers.readers rs.readers _ _ _ (λ (all left : Rests). IsGiven all left l.engine e) (CameTo rs0 e0 s0 rs e s 0) l.invariant.1 i.came
    (λ all mid left a b. came_more rs0 l.readers rs e0 l.engine e s0 s 0 all mid left i.tied a b)) j.ensures.rule
    (λ all mid left a b. stopped_then rs0 rs rs' e0 e e' s0 s s' 0 all mid left a 0 0 x (omega arith) (ruled_err rs rs' e e' s s' mid left x false silent b)))

pub returns-in-Halted-clause-run : goal.returns-in-Halted-clause-run
returns-in-Halted-clause-run g c =
    let l = c.loop-wants in
    let i = c.in_ok-read_ahead.ensures in
    let j = c.in_ok-outcome in
    let o = c.in-Halted.outcome in
    let rs0 = c.args.readers.now in
    let e0 = c.args.engine.now in
    let s0 = g.S.Sink.told c.args.out.now in
    let s = g.S.Sink.told l.out in
    let rs = c.read_ahead.new.readers in
    let e = c.read_ahead.new.engine in
    let rs' = c.one_rule.new.readers in
    let e' = c.one_rule.new.engine in
    let s' = g.S.Sink.told c.one_rule.new.out in
    let silent : needs_step e ≡ false = sym c.needs_step.ensures ∙ grind (arith, common_steps, c.if-needs_step.false) in
    reads_then (CameTo rs0 e0 s0 rs e s 0) rs0.readers rs.readers rs'.readers _ _ _ (λ (all left : Rests). RuledTo rs e s rs' e' s' all left (Ok j.field-0)) (StopsTo rs0 e0 s0 e' s' 0 o)
    (reads_then (CameTo rs0 e0 s0 l.readers l.engine s 0) rs0.readers l.readers.readers rs.readers _ _ _ (λ (all left : Rests). IsGiven all left l.engine e) (CameTo rs0 e0 s0 rs e s 0) l.invariant.1 i.came
    (λ all mid left a b. came_more rs0 l.readers rs e0 l.engine e s0 s 0 all mid left i.tied a b)) j.ensures.rule
    (λ all mid left a b. stops_then rs0 rs rs' e0 e e' s0 s s' 0 all mid left a 0 o (ruled_end rs rs' e e' s s' mid left j.field-0 o false c.in-Halted.is silent b))

pub loop-wants-smaller : goal.loop-wants-smaller
loop-wants-smaller g c =
    let same : weight c.read_ahead.new.engine ≡ weight c.loop-wants.engine = weight_given _ no_left c.loop-wants.engine c.read_ahead.new.engine (reads_holds _ _ _ _ _ c.in_ok-read_ahead.ensures.came) in
    let less : weight c.one_rule.new.engine < weight c.read_ahead.new.engine = c.in_ok-outcome.ensures.light (when_free _ c.in-Free.is) in
    omega (arith, same, less)

pub loop-wants-preserved : goal.loop-wants-preserved
loop-wants-preserved g c =
    let l = c.loop-wants in
    let i = c.in_ok-read_ahead.ensures in
    let j = c.in_ok-outcome in
    let rs0 = c.args.readers.now in
    let e0 = c.args.engine.now in
    let s0 = g.S.Sink.told c.args.out.now in
    let s = g.S.Sink.told l.out in
    let rs = c.read_ahead.new.readers in
    let e = c.read_ahead.new.engine in
    let rs' = c.one_rule.new.readers in
    let e' = c.one_rule.new.engine in
    let s' = g.S.Sink.told c.one_rule.new.out in (
      ((j.ensures.idle, j.ensures.running (ap stops_run c.in-Free.is)), j.ensures.open),
      reads_then (CameTo rs0 e0 s0 rs e s 0) rs0.readers rs.readers rs'.readers _ _ _ (λ (all left : Rests). RuledTo rs e s rs' e' s' all left (Ok j.field-0)) (CameTo rs0 e0 s0 rs' e' s' 0)
          (reads_then (CameTo rs0 e0 s0 l.readers l.engine s 0) rs0.readers l.readers.readers rs.readers _ _ _ (λ (all left : Rests). IsGiven all left l.engine e) (CameTo rs0 e0 s0 rs e s 0) l.invariant.1 i.came
          (λ all mid left a b. came_more rs0 l.readers rs e0 l.engine e s0 s 0 all mid left i.tied a b)) j.ensures.rule
          (λ all mid left a b. came_then rs0 rs rs' e0 e e' s0 s s' 0 all mid left a 0 (ruled_free rs rs' e e' s s' mid left j.field-0 c.in-Free.is b)),
    )

pub returns-then-has_token-clause-run : goal.returns-then-has_token-clause-run
returns-then-has_token-clause-run g c = c.loop-wants.invariant.1

pub returns-then-has_token-clause-knows : goal.returns-then-has_token-clause-knows
returns-then-has_token-clause-knows g c = λ none tied. c.has_token.ensures.knows c.if-has_token.true c.loop-wants.readers.readers
