-- What a call that takes tokens has in work is what is scanned.
use Rattle.std.proofs.Common.{sym, ◌∙◌}
use Rattle.engine_state.proofs.Checking.{call_finds}
use Rattle.engine_state.proofs.engine.Engine.scanned.Goals as goal

pub returns-in-Some-More-clause-some : goal.returns-in-Some-More-clause-some
returns-in-Some-More-clause-some c = call_finds c.args.self.now c.in-Some-More.field-0 (sym c.call.ensures ∙ c.in-Some-More.is)
