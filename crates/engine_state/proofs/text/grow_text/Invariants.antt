use Rattle.std.proofs.Common.{take}
use Rattle.plain_tokens.specs.Tokens.{made_text}
use Rattle.engine_state.specs.Making.{HasGrown}
use Rattle.engine_state.proofs.text.grow_text.Given as goal

abbrev pub invariant-loop-code : goal.invariant-loop-code
invariant-loop-code l = HasGrown l.fn.input l.input (made_text (take l.code-index l.text))
