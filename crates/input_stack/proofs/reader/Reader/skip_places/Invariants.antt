use Rattle.std.proofs.Common.{◌≡◌, length}
use Rattle.input_stack.specs.Rest.{IsAt, rest, number}
use Rattle.input_stack.specs.Calls.{body_of}
use Rattle.input_stack.proofs.reader.Reader.skip_places.Given as goal

abbrev pub invariant-loop-token : goal.invariant-loop-token
invariant-loop-token l = record { same : number l.self ≡ number l.fn.self; list : l.self.list ≡ l.fn.self.list; at_next : IsAt l.lists l.self; body : body_of (rest l.lists l.self) ≡ body_of (rest l.lists l.fn.self) }

abbrev pub decreases-loop-token : goal.decreases-loop-token
decreases-loop-token l = length (rest l.lists l.self)
