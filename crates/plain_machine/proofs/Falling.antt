-- The rules without a step make the weight of the open readings smaller: a law of the readings.
use Rattle.tex_defs.specs.declared.Token.TheVariants.{EndPlaces}
use Rattle.plain_readings.specs.Laws.{TokensEnter}
use Rattle.plain_readings.specs.Weights.{WeightsFall}
use Rattle.plain_readings.proofs.Entering.{enters}
use Rattle.plain_readings.proofs.Weights.{begun, begun_with, valued, acted, ends, frames, heavy, begun_by_act, waits, expanded_behind, noted, fetched}

pub falls : WeightsFall
falls = record {
  begun = begun;
  begun_with = begun_with;
  valued = valued;
  acted = acted;
  ends = ends;
  frames = frames;
  heavy = heavy;
  begun_by_act = begun_by_act;
  waits = waits;
  expanded_behind = expanded_behind;
  noted = noted;
  fetched = fetched;
}

-- A token that enters an expanded text leaves it as one: this is a law of the readings too.
pub enter : TokensEnter
enter = record { copies = λ k fed t e. (enters k fed t e).copies; listed = λ k fed e. (enters k fed EndPlaces e).listed; grows = λ k fed t e. (enters k fed t e).grows }
