use Rattle.std.proofs.Common.{ℕ, ◌≡◌, ap, ◌∙◌, arith}
use Rattle.token_lists.specs.Accounts.{holds}
use Rattle.input_stack.specs.Rest.{number}
use Rattle.input_stack.proofs.CallKept.{open_held}
use Rattle.input_stack.proofs.call.Call.release.Goals as goal

pub let_level_go-requires : goal.let_level_go-requires
let_level_go-requires c = open_held c.let_go.new.lists c.args.self.argument (λ h. omega (arith, c.requires.held h, c.let_go.ensures.account h, ap (λ (n : ℕ). holds n h) c.into_list.ensures.same))

pub returns-clause-account : goal.returns-clause-account
returns-clause-account c = λ h. omega (arith, c.let_go.ensures.account h, ap (λ (n : ℕ). holds n h) c.into_list.ensures.same, c.let_level_go.ensures.account h)

pub returns-clause-kept : goal.returns-clause-kept
returns-clause-kept c =
    let same : (h : ℕ) → holds c.into_list.result.id h ≡ holds (number c.args.self.body) h = λ h. ap (λ (n : ℕ). holds n h) c.into_list.ensures.same in
    record {
      tokens = λ h l.
          c.let_level_go.ensures.kept.tokens h (omega (arith, l, same h, c.let_go.ensures.account h))
          ∙ c.let_go.ensures.kept.tokens h (omega (arith, l, same h));
      places = λ h l.
          c.let_level_go.ensures.kept.places h (omega (arith, l, same h, c.let_go.ensures.account h))
          ∙ c.let_go.ensures.kept.places h (omega (arith, l, same h));
    }
