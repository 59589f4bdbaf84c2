use Rattle.std.proofs.Common.{◌≡◌, ◌≢◌, ℕ, ap, sym, ◌∙◌, arith}
use Rattle.cs_hash.specs.Names.{Names}
use Rattle.cs_hash.specs.Index.{bucket_of}
use Rattle.cs_hash.proofs.Paths.{bytes_from, bytes_apart}
use Rattle.cs_hash.proofs.Walk.{at_start, at_next, IsRead, is_read, table_seen}
use Rattle.cs_hash.proofs.CsHash.search.Goals as goal

pub walk-init : goal.walk-init
walk-init c =
    let size : c.self.inside.size ≡ c.args.self.now.hash_size = ap (λ (n : Names). n.hash_size) c.self.view_is in
    at_start _ _ _ _ (c.bucket-slot.ensures.value ∙ ap (λ (k : ℕ). bucket_of c.args.name.now k) size) (omega (arith, size, c.bucket-slot.ensures.within))

pub returns-then-eq : goal.returns-then-eq
returns-then-eq c =
    let r : IsRead c.args.self.now c.args.pool.now.kept c.walk.slot c.index-no.result.now c.bytes.result.now =
    is_read _ _ _ _ _ _ _ _ _ _ _ _ c.self.view_is c.self.invariant c.walk.invariant c.index-no.ensures c.if-no-eq0.false c.index.ensures c.bytes.ensures in
    let some : c.index-no.result.now ≢ 0 = c.if-no-eq0.false in
    record {
      first = omega arith;
      last = r.last;
      named = r.named ∙ bytes_from _ _ (sym c.eq.ensures ∙ c.if-eq.true);
    }

pub walk-preserved : goal.walk-preserved
walk-preserved c =
    let size : c.self.inside.size ≡ c.args.self.now.hash_size = ap (λ (n : Names). n.hash_size) c.self.view_is in
    let r : IsRead c.args.self.now c.args.pool.now.kept c.walk.slot c.index-no.result.now c.bytes.result.now =
    is_read _ _ _ _ _ _ _ _ _ _ _ _ c.self.view_is c.self.invariant c.walk.invariant c.index-no.ensures c.if-no-eq0.false c.index.ensures c.bytes.ensures in
    rw size (at_next _ _ _ _ _ _ _ _ (table_seen _ _ _ _ _ c.self.view_is c.self.invariant) c.walk.invariant r.read c.if-no-eq0.false
    (λ same. bytes_apart _ _ (sym c.eq.ensures ∙ c.if-eq.false) (sym r.named ∙ same)) c.turn.ensures.value c.turn.ensures.small)
