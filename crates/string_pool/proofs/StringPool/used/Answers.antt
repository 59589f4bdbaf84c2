use Rattle.std.proofs.Common.{sym, subst, ◌≡◌}
use Rattle.string_pool.specs.Pool.{Pool, kept_bytes}
use Rattle.string_pool.proofs.Cuts.{kept_bytes_of}
use Rattle.string_pool.proofs.StringPool.used.Goals as goal

pub returns : goal.returns
returns c =
    let i = c.self.inside in
    let P : Pool → Type 0 = λ pool. i.kept ≡ kept_bytes pool in
    subst P c.self.view_is (sym (kept_bytes_of _ _ _ _ _ _ _ _ c.self.invariant))
