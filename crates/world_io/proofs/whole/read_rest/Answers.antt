use Rattle.std.proofs.Common.{rules, arith, ◌≡◌, ◌∙◌, ◌+◌, ◌++◌, take, length, length-take, true, refl, sym, ap, subst, List, ℕ}
use Rattle.std.specs.Prelude.{Err, is_ok, vec_len}
use Rattle.world_io.specs.Contents.{SoFar}
use Rattle.world_io.proofs.Reading.{so_far_none, so_far_read, so_far_whole, only_reads_none, only_reads_on, only_reads_same}
use Rattle.world_io.proofs.whole.read_rest.Goals as goal

pub loop-n-init : goal.loop-n-init
loop-n-init g c =
    let rest = (g.F.Files.told c.args.files.now).rest c.args.id.number in (
      subst (λ (bytes : List ℕ). SoFar rest bytes rest) (sym c.new-bytes.ensures.items) (so_far_none rest),
      only_reads_none _ _,
      omega arith,
      refl,
      omega arith,
      omega (arith, c.new-bytes.ensures.len),
    )

pub returns-in-Err-clause-only : goal.returns-in-Err-clause-only
returns-in-Err-clause-only g c = only_reads_same _ _ _ _ c.loop-n.invariant.1 c.in-Err.ensures.err

pub returns-in-Err-clause-failed : goal.returns-in-Err-clause-failed
returns-in-Err-clause-failed g c =
    λ e. omega (arith, c.loop-n.invariant.2, c.read.ensures.cause.failed (c.in-Err.is ∙ ap Err e))

pub returns-in-Err-clause-writes : goal.returns-in-Err-clause-writes
returns-in-Err-clause-writes g c = c.read.ensures.writes ∙ c.loop-n.invariant.3

pub returns-in-Err-clause-later : goal.returns-in-Err-clause-later
returns-in-Err-clause-later g c = omega (arith, c.loop-n.invariant.2, c.read.ensures.cause.later)

pub returns-in-Err-clause-later_wants : goal.returns-in-Err-clause-later_wants
returns-in-Err-clause-later_wants g c = omega (arith, c.loop-n.invariant.4, c.read.ensures.cause.later_wants)

pub returns-then-n-eq0-clause-all : goal.returns-then-n-eq0-clause-all
returns-then-n-eq0-clause-all g c =
    so_far_whole _ _ _ c.loop-n.invariant.0 (c.in-Ok.ensures.ended c.if-n-eq0.true (omega arith))

pub returns-then-n-eq0-clause-only : goal.returns-then-n-eq0-clause-only
returns-then-n-eq0-clause-only g c = only_reads_on _ _ _ _ _ _ c.loop-n.invariant.1 c.in-Ok.ensures.read

pub returns-then-n-eq0-clause-writes : goal.returns-then-n-eq0-clause-writes
returns-then-n-eq0-clause-writes g c = c.read.ensures.writes ∙ c.loop-n.invariant.3

pub returns-then-n-eq0-clause-later : goal.returns-then-n-eq0-clause-later
returns-then-n-eq0-clause-later g c = omega (arith, c.loop-n.invariant.2, c.read.ensures.cause.later)

pub returns-then-n-eq0-clause-later_wants : goal.returns-then-n-eq0-clause-later_wants
returns-then-n-eq0-clause-later_wants g c = omega (arith, c.loop-n.invariant.4, c.read.ensures.cause.later_wants)

pub returns-then-len-ge-MOST-clause-only : goal.returns-then-len-ge-MOST-clause-only
returns-then-len-ge-MOST-clause-only g c = only_reads_on _ _ _ _ _ _ c.loop-n.invariant.1 c.in-Ok.ensures.read

pub returns-then-len-ge-MOST-clause-writes : goal.returns-then-len-ge-MOST-clause-writes
returns-then-len-ge-MOST-clause-writes g c = c.read.ensures.writes ∙ c.loop-n.invariant.3

pub returns-then-len-ge-MOST-clause-later : goal.returns-then-len-ge-MOST-clause-later
returns-then-len-ge-MOST-clause-later g c = omega (arith, c.loop-n.invariant.2, c.read.ensures.cause.later)

pub returns-then-len-ge-MOST-clause-later_wants : goal.returns-then-len-ge-MOST-clause-later_wants
returns-then-len-ge-MOST-clause-later_wants g c = omega (arith, c.loop-n.invariant.4, c.read.ensures.cause.later_wants)

pub loop-n-preserved : goal.loop-n-preserved
loop-n-preserved g c =
    let inv = c.loop-n.invariant in
    let read = c.read.ensures in
    let first = (g.F.Files.told c.args.files.now).rest c.args.id.number in
    let left = (g.F.Files.told c.read.new.self).rest c.args.id.number in
    let went : is_ok c.extend_from_slice.result ≡ true = search rules in
    let more : c.extend_from_slice.new.self.items ≡ c.loop-n.bytes.items ++ take c.in-Ok.n c.read.new.piece = rw went at c.extend_from_slice.ensures.items in
    let longer : vec_len c.extend_from_slice.new.self ≡ vec_len c.loop-n.bytes + length (take c.in-Ok.n c.read.new.piece) = rw went at c.extend_from_slice.ensures.len in (
      subst (λ (bytes : List ℕ). SoFar first bytes left) (sym more) (so_far_read _ _ _ _ _ _ _ inv.0 c.in-Ok.ensures.read),
      only_reads_on _ _ _ _ _ _ inv.1 c.in-Ok.ensures.read,
      omega (arith, read.cause.later, inv.2),
      read.writes ∙ inv.3,
      omega (arith, read.cause.later_wants, inv.4),
      omega (arith, length-take {A = ℕ}, longer, c.in-Ok.ensures.count),
    )
