use Rattle.std.proofs.Common.{◌≡◌, ◌-◌, reverse, List, sym, ap, ◌∙◌, arith}
use Rattle.std.proofs.lemmas.List.{length-reverse}
use Rattle.conditionals.specs.declared.open.Conditional.{Conditional}
use Rattle.conditionals.specs.Open.{above, with_limit}
use Rattle.conditionals.proofs.Opened.{limit_kept, unchanged}
use Rattle.conditionals.proofs.open.Conditionals.set_limit.Goals as goal

pub returns-then-above-count : goal.returns-then-above-count
returns-then-above-count c =
    let kept : List Conditional = c.self.inside.stack.items in
    let is : c.above_test-above.result ≡ above (reverse kept) = c.above_test-above.ensures ∙ ap (λ (cs : List Conditional). above (reverse cs)) c.deref.ensures.value in
    let limit = limit_kept c.args.limit kept (c.len-count.result - 1 - c.above_test-above.result) c.index_mut.result.now (omega (arith, is)) (omega (arith, is)) c.index_mut.ensures.value in
    rw (← c.self.view_is) (ap (λ (cs : List Conditional). record { items = cs; size = c.self.inside.size }) limit)

pub returns-else-above-count : goal.returns-else-above-count
returns-else-above-count c =
    let kept : List Conditional = c.self.inside.stack.items in
    let is : c.above_test-above.result ≡ above (reverse kept) = c.above_test-above.ensures ∙ ap (λ (cs : List Conditional). above (reverse cs)) c.deref.ensures.value in
    let same : with_limit c.args.limit (reverse kept) ≡ reverse kept = unchanged c.args.limit (reverse kept) (omega (arith, is, length-reverse kept)) in
    rw (← c.self.view_is) (ap (λ (cs : List Conditional). record { items = cs; size = c.self.inside.size }) (sym same))
