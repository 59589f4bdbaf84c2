use Rattle.std.proofs.Common.{[], sym, ap, ◌∙◌, arith}
use Rattle.line_reader.specs.Ahead.{Ahead}
use Rattle.line_reader.proofs.AheadOf.{stands, not_begun}
use Rattle.line_reader.proofs.windows.find.Goals as goal

pub returns-then-reader : goal.returns-then-reader
returns-then-reader c =
    stands _ _ _ c.index-windows-k.result c.loop-k-test.true (ap (λ (a : Ahead). a.reader) (sym c.index-windows-k.is) ∙ sym c.reader.ensures ∙ c.if-reader.true)
    (λ j lt. c.loop-k.invariant j c.index-windows-k.result lt (omega (arith, lt, c.loop-k-test.true)))

pub returns : goal.returns
returns c = not_begun _ c.args.windows.now (record { reader = 0; bytes = [] }) (λ k lt. c.loop-k.invariant k (record { reader = 0; bytes = [] }) (omega (arith, lt, c.loop-k-test.false)) lt)
