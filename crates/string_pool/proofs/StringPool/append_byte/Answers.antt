use Rattle.std.proofs.Common.{◌≡◌, ◌+◌, length, sym, ◌∙◌, arith}
use Rattle.string_pool.specs.Pool.{open_string}
use Rattle.string_pool.proofs.Views.{IsSeen, seen, bytes_refused, bytes_taken, appended}
use Rattle.string_pool.proofs.StringPool.append_byte.Goals as goal

pub returns-then-len-self-clause-answer : goal.returns-then-len-self-clause-answer
returns-then-len-self-clause-answer c =
    let i = c.self.inside in
    let s : IsSeen c.args.self.now i.bytes.items i.ends.items i.kept i.pool_size i.number_of_strings = seen _ _ _ _ _ _ _ _ _ c.self.view_is c.self.invariant in
    bytes_refused c.args.self.now i.kept i.pool_size s.kept_is s.pool_size_is (s.open_is c.requires ∙ sym i.bytes.ok.0 ∙ sym c.len.ensures ∙ c.if-len-self.true)

pub returns-clause-answer : goal.returns-clause-answer
returns-clause-answer c =
    let i = c.self.inside in
    let s : IsSeen c.args.self.now i.bytes.items i.ends.items i.kept i.pool_size i.number_of_strings = seen _ _ _ _ _ _ _ _ _ c.self.view_is c.self.invariant in
    let o : i.kept + length (open_string c.args.self.now) ≡ length i.bytes.items = s.open_is c.requires in
    bytes_taken c.args.self.now (λ same. c.if-len-self.false (omega (arith, same, o, s.kept_is, s.pool_size_is, i.bytes.ok.0, c.len.ensures)))

pub returns-clause-after : goal.returns-clause-after
returns-clause-after c =
    rw (c.in-Ok.ensures.items) (appended _ _ _ _ _ _ _ _ _ _ c.self.view_is c.self.invariant c.requires)
