use Rattle.std.proofs.Common.{ℕ, ap, arith}
use Rattle.token_lists.specs.Accounts.{holds}
use Rattle.part_tests.proofs.token_lists_tests.braced.Goals as goal

pub returns-in-Ok-append_braced-clause-account : goal.returns-in-Ok-append_braced-clause-account
returns-in-Ok-append_braced-clause-account c = λ h.
    omega
    (arith, c.in-Ok.ensures.account h, c.append_braced.ensures.account h, ap (λ (held : ℕ → ℕ). held h) c.finish.ensures.account, ap (λ (id : ℕ). holds id h) c.append_braced.ensures.same)

pub returns-in-Err-clause-none : goal.returns-in-Err-clause-none
returns-in-Err-clause-none c = λ h.
    omega (arith, c.in-Ok.ensures.account h, c.append_braced.ensures.account h, c.abandon.ensures.account h, ap (λ (id : ℕ). holds id h) c.append_braced.ensures.same)
