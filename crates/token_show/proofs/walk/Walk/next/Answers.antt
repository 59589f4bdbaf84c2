use Rattle.std.proofs.Common.{sym, ◌∙◌}
use Rattle.token_show.proofs.Walking.{walk_more}
use Rattle.token_show.proofs.walk.Walk.next.Goals as goal

pub returns : goal.returns
returns c = sym c.self.view_is ∙ walk_more _ _ _ _ _ _ c.in-Some.is c.self.invariant c.token-token.ensures
