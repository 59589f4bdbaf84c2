use Rattle.std.proofs.Common.{◌-◌, ◌+◌, ◌∙◌, length, [], arith, refl, ap}
use Rattle.std.specs.Prelude.{◌≢◌}
use Rattle.line_reader.specs.Readers.{OpenReaders}
use Rattle.plain_machine.specs.Extended.{Rests}
use Rattle.stomach.specs.Files.{AreGone}
use Rattle.stomach.proofs.FilesClosed.{none_gone, more_gone, as_many_gone, one_closed, some_open, one_fewer}
use Rattle.stomach.proofs.Reading.{reads_none, reads_then}
use Rattle.stomach.proofs.files.close_ended.Goals as goal

pub loop-readers-init : goal.loop-readers-init
loop-readers-init g c = (
  ((omega arith, refl), (c.requires.open, λ h. h)),
  reads_none (λ (all left : Rests). AreGone all left (length c.args.readers.now.readers - length c.args.readers.now.readers)) c.args.readers.now.readers (g.F.Files.told c.args.files.now)
      (λ all. as_many_gone all all 0 (length c.args.readers.now.readers - length c.args.readers.now.readers) (omega arith) (none_gone all)),
)

pub close-requires-clause-some : goal.close-requires-clause-some
close-requires-clause-some g c = some_open c.loop-readers.readers.readers (omega (arith, c.count.ensures.count, c.loop-readers-test.true))

pub close-requires-clause-open : goal.close-requires-clause-open
close-requires-clause-open g c = c.loop-readers.invariant.0.1.0

pub loop-readers-smaller : goal.loop-readers-smaller
loop-readers-smaller g c =
    let i = c.close.ensures in
    let some = some_open c.loop-readers.readers.readers (omega (arith, c.count.ensures.count, c.loop-readers-test.true)) in
    omega (arith, one_fewer c.loop-readers.readers.readers c.close.new.self.readers some (ap (λ (x : OpenReaders). x.readers) i.after))

pub loop-readers-preserved : goal.loop-readers-preserved
loop-readers-preserved g c =
    let l = c.loop-readers in
    let i = c.close.ensures in
    let rs = l.readers.readers in
    let rs' = c.close.new.self.readers in
    let some : rs ≢ [] = some_open rs (omega (arith, c.count.ensures.count, c.loop-readers-test.true)) in
    let after = ap (λ (x : OpenReaders). x.readers) i.after in
    let fewer = one_fewer rs rs' some after in
    let n = length c.args.readers.now.readers in (
      ((omega (arith, l.invariant.0.0.0, fewer), ap (λ (x : OpenReaders). x.most) i.after ∙ l.invariant.0.0.1), (i.open, λ h. omega (arith, fewer, c.count.ensures.count, c.open_files.ensures.is, c.loop-readers-test.true))),
      reads_then (λ (all left : Rests). AreGone all left (n - length rs)) c.args.readers.now.readers rs rs' _ _ _ (λ (all left : Rests). AreGone all left 1) (λ (all left : Rests). AreGone all left (n - length rs')) l.invariant.1
          (one_closed rs rs' _ _ some after i.closed i.told i.open i.knows i.counts)
          (λ all mid left a b. as_many_gone all left (n - length rs + 1) (n - length rs') (omega (arith, fewer, l.invariant.0.0.0)) (more_gone all mid left (n - length rs) 1 a b)),
    )

pub returns-clause-closed : goal.returns-clause-closed
returns-clause-closed g c = c.loop-readers.invariant.1

pub returns-clause-fewer : goal.returns-clause-fewer
returns-clause-fewer g c = c.loop-readers.invariant.0.0.0

pub returns-clause-stays : goal.returns-clause-stays
returns-clause-stays g c = λ h. omega (arith, c.loop-readers.invariant.0.1.1 h, c.count.ensures.count, c.open_files.ensures.is, c.loop-readers-test.false)

pub returns-clause-most : goal.returns-clause-most
returns-clause-most g c = c.loop-readers.invariant.0.0.1

pub returns-clause-open : goal.returns-clause-open
returns-clause-open g c = c.loop-readers.invariant.0.1.0
