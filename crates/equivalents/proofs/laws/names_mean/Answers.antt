use Rattle.equivalents.proofs.Names.{names_apart, changes, others, local, outside, others_outside, alike, entering, entering_outside, primitives, words, active, single, empty}
use Rattle.equivalents.proofs.laws.names_mean.Goals as goal

pub returns : goal.returns
returns c = record {
  apart = names_apart;
  changes = λ global g n k m is. changes g n m global k is;
  others = λ global g n other m is_n is_other differ. others g n m other (λ k there here. differ (names_apart n other k is_n is_other there here)) global;
  local = local;
  outside = λ g n k m. outside g n m k;
  others_outside = λ global g n other m is_n is_other differ. others_outside g n m other (λ k there here. differ (names_apart n other k is_n is_other there here)) global;
  alike = alike;
  entering = entering;
  entering_outside = entering_outside;
  primitives = primitives;
  words = words;
  active = active;
  single = single;
  empty = empty;
}
