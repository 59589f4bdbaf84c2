use Rattle.plain_readings.proofs.Weights.{begun, begun_with, valued, acted, ends, frames, heavy, begun_by_act, waits, expanded_behind, noted, fetched}
use Rattle.plain_readings.proofs.laws.weights_fall.Goals as goal

pub returns : goal.returns
returns c = record { begun = begun; begun_with = begun_with; valued = valued; acted = acted; ends = ends; frames = frames; heavy = heavy; begun_by_act = begun_by_act; waits = waits; expanded_behind = expanded_behind; noted = noted; fetched = fetched }
