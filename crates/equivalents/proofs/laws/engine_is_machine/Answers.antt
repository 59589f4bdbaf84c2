use Rattle.std.proofs.Common.{refl}
use Rattle.equivalents.proofs.Reading.{finds}
use Rattle.equivalents.proofs.Joins.{sets, sets_all, opens, closes, enters}
use Rattle.equivalents.proofs.laws.engine_is_machine.Goals as goal

pub returns : goal.returns
returns c = record {
  finds = finds;
  sets = λ s l v whole within placed. sets s whole l v within placed;
  sets_all = λ s l v whole within. sets_all s l v within;
  opens = λ s kind whole. opens s whole kind;
  keeps = λ s t. refl;
  closes = λ s whole some_kind. closes s whole some_kind;
  enters = λ s whole. enters s whole;
}
