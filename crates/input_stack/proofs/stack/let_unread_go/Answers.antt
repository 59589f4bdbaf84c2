use Rattle.std.proofs.Common.{◌∙◌, arith}
use Rattle.token_lists.specs.Ids.{id_of}
use Rattle.input_stack.proofs.Kept.{holds_itself}
use Rattle.input_stack.proofs.stack.let_unread_go.Goals as goal

pub let_go-requires : goal.let_go-requires
let_go-requires c = omega (arith, c.requires (id_of c.args.body), holds_itself (id_of c.args.body))

pub release-requires : goal.release-requires
release-requires c = λ h. omega (arith, c.requires h, c.let_go.ensures.account h)

pub returns-clause-account : goal.returns-clause-account
returns-clause-account c = λ h. omega (arith, c.let_go.ensures.account h, c.release.ensures.account h)

pub returns-clause-kept : goal.returns-clause-kept
returns-clause-kept c = record {
  tokens = λ h l. c.release.ensures.kept.tokens h (omega (arith, l, c.let_go.ensures.account h)) ∙ c.let_go.ensures.kept.tokens h (omega (arith, l));
  places = λ h l. c.release.ensures.kept.places h (omega (arith, l, c.let_go.ensures.account h)) ∙ c.let_go.ensures.kept.places h (omega (arith, l));
}

pub returns-clause-lasting : goal.returns-clause-lasting
returns-clause-lasting c =
    let a = c.let_go.ensures.lasting in
    let m = c.release.ensures.account in
    record {
      size = c.release.ensures.size ∙ a.size;
      fewer = λ h. omega (arith, m h, a.fewer h);
      tokens = λ h some. c.release.ensures.kept.tokens h (omega (arith, m h, some)) ∙ a.tokens h (omega (arith, m h, some));
    }
