use Rattle.std.proofs.Common.{◌∙◌, ap, arith}
use Rattle.std.specs.Prelude.{Some}
use Rattle.line_reader.proofs.Views.{refused, taken, size_view, full_is}
use Rattle.line_reader.proofs.buffer.Buffer.refusal.Goals as goal

pub returns-then-self-len : goal.returns-then-self-len
returns-then-self-len c = ap Some (full_is c.args.self.now c.used.result c.self.inside.buffer_size c.used.ensures (size_view _ _ _ _ _ _ _ _ _ _ _ c.self.view_is c.self.invariant)) ∙ refused _ _ _ _ _ _ _ _ _ _ _ c.self.view_is c.self.invariant c.args.need (omega (arith, c.if-self-len.true, c.len.ensures, c.self.inside.starts.ok.0))

pub returns-else-self-len : goal.returns-else-self-len
returns-else-self-len c = taken _ _ _ _ _ _ _ _ _ _ _ c.self.view_is c.self.invariant c.args.need (omega (arith, c.if-self-len.false, c.len.ensures, c.self.inside.starts.ok.0))
