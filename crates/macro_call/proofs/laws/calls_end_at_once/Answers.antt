use Rattle.plain_tokens.specs.Arguments.{start_of, places_of}
use Rattle.macro_call.proofs.ArgumentRuns.{call_stays}
use Rattle.macro_call.proofs.laws.calls_end_at_once.Goals as goal

pub returns : goal.returns
returns c = λ text mode fed more. call_stays fed more mode (start_of text) (places_of text)
