use Rattle.equivalents.proofs.Whole.{sets, sets_all, opens, keeps, closes, enters}
use Rattle.equivalents.proofs.laws.stays_whole.Goals as goal

pub returns : goal.returns
returns c = record {
  sets = λ s l v whole within placed suits. sets s whole l v within suits;
  sets_all = λ s l v whole within placed suits. sets_all s whole l v within suits;
  opens = λ s kind whole. opens s whole kind;
  keeps = λ s t whole. keeps s whole t;
  closes = λ s whole some_kind. closes s whole some_kind;
  enters = λ s whole. enters s whole;
}
