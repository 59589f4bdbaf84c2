use Rattle.tex_defs.specs.declared.Token.TheVariants.{EndPlaces}
use Rattle.plain_readings.proofs.Entering.{enters}
use Rattle.plain_readings.proofs.laws.tokens_enter.Goals as goal

pub returns : goal.returns
returns _ = record { copies = λ k fed t e. (enters k fed t e).copies; listed = λ k fed e. (enters k fed EndPlaces e).listed; grows = λ k fed t e. (enters k fed t e).grows }
