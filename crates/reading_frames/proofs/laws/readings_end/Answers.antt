use Rattle.reading_frames.proofs.laws.readings_end.Goals as goal

pub returns : goal.returns
returns x = λ c f fs held r work stands. stands.1
