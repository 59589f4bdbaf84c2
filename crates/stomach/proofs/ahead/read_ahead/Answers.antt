use Rattle.std.proofs.Common.{◌∙◌, refl}
use Rattle.plain_machine.proofs.Doing.{rose_on}
use Rattle.plain_machine.specs.Extended.{Rests}
use Rattle.engine_state.proofs.Joining.{same_err}
use Rattle.stomach.specs.Ahead.{IsGiven}
use Rattle.stomach.proofs.GivenBytes.{is_given_none, is_given_more, wants_given}
use Rattle.stomach.proofs.Reading.{no_left, reads_holds, reads_none, reads_then}
use Rattle.stomach.proofs.ahead.read_ahead.Goals as goal

pub loop-engine-init : goal.loop-engine-init
loop-engine-init g c =
    (((c.requires.wants, c.requires.open), (refl, λ tied. tied)), reads_none (λ (all left : Rests). IsGiven all left c.args.engine.now c.args.engine.now) c.args.readers.now.readers (g.F.Files.told c.args.files.now) (λ all. is_given_none c.args.engine.now all))

pub loop-engine-smaller : goal.loop-engine-smaller
loop-engine-smaller g c = c.in_ok-read_window.ensures.less

pub loop-engine-preserved : goal.loop-engine-preserved
loop-engine-preserved g c =
    let l = c.loop-engine in
    let i = c.in_ok-read_window.ensures in (
      ((wants_given _ no_left l.engine c.read_window.new.engine (reads_holds _ _ _ _ _ i.came) c.args.wants l.invariant.0.0.0, i.open), (i.ids ∙ l.invariant.0.1.0, λ tied. i.tied (l.invariant.0.1.1 tied))),
      reads_then (λ (all left : Rests). IsGiven all left c.args.engine.now l.engine) c.args.readers.now.readers l.readers.readers c.read_window.new.readers.readers _ _ _
          (λ (all left : Rests). IsGiven all left l.engine c.read_window.new.engine) (λ (all left : Rests). IsGiven all left c.args.engine.now c.read_window.new.engine)
          l.invariant.1 i.came (λ all mid left a b. is_given_more c.args.engine.now l.engine c.read_window.new.engine all mid left a b),
    )

pub returns-in_err-read_window-clause-came : goal.returns-in_err-read_window-clause-came
returns-in_err-read_window-clause-came g c =
    let l = c.loop-engine in
    reads_then (λ (all left : Rests). IsGiven all left c.args.engine.now l.engine) c.args.readers.now.readers l.readers.readers c.read_window.new.readers.readers _ _ _
    (λ (all left : Rests). IsGiven all left l.engine c.read_window.new.engine) (λ (all left : Rests). IsGiven all left c.args.engine.now c.read_window.new.engine)
    l.invariant.1 c.in_err-read_window.ensures.came (λ all mid left a b. is_given_more c.args.engine.now l.engine c.read_window.new.engine all mid left a b)

pub returns-in_err-read_window-clause-ids : goal.returns-in_err-read_window-clause-ids
returns-in_err-read_window-clause-ids g c = c.in_err-read_window.ensures.ids ∙ c.loop-engine.invariant.0.1.0

pub returns-in_err-read_window-clause-tied : goal.returns-in_err-read_window-clause-tied
returns-in_err-read_window-clause-tied g c tied = c.in_err-read_window.ensures.tied (c.loop-engine.invariant.0.1.1 tied)

pub returns-in_err-read_window-clause-fault : goal.returns-in_err-read_window-clause-fault
returns-in_err-read_window-clause-fault g c =
    let i = c.in_err-read_window in
    same_err c.from_residual.result i.field-0.0 _ c.from_residual.ensures.1 (λ is. rose_on _ _ _ c.loop-engine.invariant.1.read_faults (i.ensures.fault is))

pub returns-in_err-read_window-clause-want : goal.returns-in_err-read_window-clause-want
returns-in_err-read_window-clause-want g c =
    let i = c.in_err-read_window in
    same_err c.from_residual.result i.field-0.0 _ c.from_residual.ensures.1 (λ is. rose_on _ _ _ c.loop-engine.invariant.1.wants (i.ensures.want is))

pub returns-clause-came : goal.returns-clause-came
returns-clause-came g c = c.loop-engine.invariant.1
