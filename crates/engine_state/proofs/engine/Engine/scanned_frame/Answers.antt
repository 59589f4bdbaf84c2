use Rattle.engine_state.specs.Rules.{IsListed}
use Rattle.engine_state.proofs.Checking.{frame_asked, frame_scan, list_there}
use Rattle.engine_state.proofs.Joining.{when_true, when_false}
use Rattle.engine_state.proofs.engine.Engine.scanned_frame.Goals as goal

pub returns-then-has_list_of-clause-is : goal.returns-then-has_list_of-clause-is
returns-then-has_list_of-clause-is c = let e = c.args.self.now in let x = c.in-Some.found in
    frame_asked e x c.in-Some.ensures.is (when_true (IsListed x e) (IsListed x e → ⊥) c.has_list_of.result c.if-has_list_of.true c.has_list_of.ensures)

pub returns-then-has_list_of-clause-some : goal.returns-then-has_list_of-clause-some
returns-then-has_list_of-clause-some c = λ sizes book want t. frame_scan c.args.self.now sizes book c.requires c.in-Some.found c.in-Some.ensures.is want t

pub returns-else-has_list_of-clause-none : goal.returns-else-has_list_of-clause-none
returns-else-has_list_of-clause-none c = λ is sizes book want t. let e = c.args.self.now in let x = c.in-Some.found in
    absurd (when_false (IsListed x e) (IsListed x e → ⊥) c.has_list_of.result c.if-has_list_of.false c.has_list_of.ensures (list_there e sizes book c.requires x c.in-Some.ensures.is want t))
