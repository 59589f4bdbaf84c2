use Rattle.reading_frames.proofs.Rules.{falls, ends_heavy, ends_frame, openings}
use Rattle.reading_frames.proofs.laws.rules_are_light.Goals as goal

pub returns : goal.returns
returns c = record { falls = falls; heavy = ends_heavy; ends = ends_frame; openings = openings }
