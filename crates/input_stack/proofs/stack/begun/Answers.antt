use Rattle.std.proofs.Common.{List, Option, ℕ, ◌∙◌, sym, ap, subst, arith}
use Rattle.token_lists.specs.Table.{Entry, tokens_at, places_at, holders_at, entry_at}
use Rattle.token_lists.specs.Accounts.{holds}
use Rattle.token_lists.specs.Refusals.{IsFull}
use Rattle.input_stack.proofs.stack.begun.Goals as goal

pub returns-in-Err-clause-account : goal.returns-in-Err-clause-account
returns-in-Err-clause-account c = λ h. omega (arith, ap (λ (t : List (Option Entry)). holders_at t h) c.in-Err.ensures.err)

pub returns-in-Err-clause-kept : goal.returns-in-Err-clause-kept
returns-in-Err-clause-kept c = record {
  tokens = λ h less. ap (λ (t : List (Option Entry)). tokens_at t h) c.in-Err.ensures.err;
  places = λ h less. ap (λ (t : List (Option Entry)). places_at t h) c.in-Err.ensures.err;
}

pub returns-in-Err-clause-refused : goal.returns-in-Err-clause-refused
returns-in-Err-clause-refused c = subst (λ (t : List (Option Entry)). IsFull c.in-Err.full t) (sym c.in-Err.ensures.err) c.in-Err.ensures.full

pub append-requires : goal.append-requires
append-requires c = c.in-Ok.ensures.building

pub finish-requires : goal.finish-requires
finish-requires c = c.append.ensures.building

pub returns-in-Ok-append-clause-held : goal.returns-in-Ok-append-clause-held
returns-in-Ok-append-clause-held c = c.finish.ensures.held

pub returns-in-Ok-append-clause-fresh : goal.returns-in-Ok-append-clause-fresh
returns-in-Ok-append-clause-fresh c = ap (entry_at c.args.lists.now) (c.finish.ensures.same ∙ c.append.ensures.same) ∙ c.in-Ok.ensures.fresh

pub returns-in-Ok-append-clause-account : goal.returns-in-Ok-append-clause-account
returns-in-Ok-append-clause-account c = λ h. omega (arith, c.in-Ok.ensures.account h, c.append.ensures.account h, ap (λ (n : ℕ). holds n h) (c.finish.ensures.same ∙ c.append.ensures.same))

pub returns-in-Err-append-clause-account : goal.returns-in-Err-append-clause-account
returns-in-Err-append-clause-account c = λ h. omega (arith, c.in-Ok.ensures.account h, c.append.ensures.account h, ap (λ (n : ℕ). holds n h) c.append.ensures.same)
