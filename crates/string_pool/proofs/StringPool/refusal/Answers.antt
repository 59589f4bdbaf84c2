use Rattle.std.proofs.Common.{◌≡◌, length, sym, arith}
use Rattle.string_pool.proofs.Views.{IsSeen, seen, string_refused, string_taken}
use Rattle.string_pool.proofs.StringPool.refusal.Goals as goal

pub overflow_cast-len : goal.overflow_cast-len
overflow_cast-len c =
    let i = c.self.inside in
    omega (arith, c.self.invariant.strings_fit, c.self.invariant.few_strings, i.ends.ok.0, c.len.ensures)

pub overflow_cast-result : goal.overflow_cast-result
overflow_cast-result c =
    let i = c.self.inside in
    omega (arith, c.self.invariant.strings_fit, c.self.invariant.few_strings, i.ends.ok.0, c.len-else-len-self.ensures)

pub returns-then-len-self : goal.returns-then-len-self
returns-then-len-self c =
    let i = c.self.inside in
    let s : IsSeen c.args.self.now i.bytes.items i.ends.items i.kept i.pool_size i.number_of_strings = seen _ _ _ _ _ _ _ _ _ c.self.view_is c.self.invariant in
    sym (string_taken c.args.self.now (λ same. absurd (omega (arith, same, c.if-len-self.true, s.count_is, s.strings_is, i.ends.ok.0, c.len.ensures))))

pub returns-else-len-self : goal.returns-else-len-self
returns-else-len-self c =
    let i = c.self.inside in
    let s : IsSeen c.args.self.now i.bytes.items i.ends.items i.kept i.pool_size i.number_of_strings = seen _ _ _ _ _ _ _ _ _ c.self.view_is c.self.invariant in
    let count : length c.args.self.now.kept ≡ c.len-else-len-self.result = omega (arith, s.count_is, i.ends.ok.0, c.len-else-len-self.ensures) in
    sym (string_refused c.args.self.now c.len-else-len-self.result i.number_of_strings count s.strings_is (omega (arith, c.if-len-self.false, c.self.invariant.strings_fit, i.ends.ok.0, c.len-else-len-self.ensures, c.len.ensures)))
