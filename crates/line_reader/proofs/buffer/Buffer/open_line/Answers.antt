use Rattle.std.proofs.Common.{arith}
use Rattle.line_reader.proofs.Views.{used_view, size_view, opened_is, opened_sound}
use Rattle.line_reader.proofs.buffer.Buffer.open_line.Goals as goal

pub unreachable-requires : goal.unreachable-requires
unreachable-requires c =
    let i = c.self.inside in
    omega (arith, c.in_default.ensures.full, used_view _ _ _ _ _ _ _ _ _ _ _ c.self.view_is c.self.invariant, size_view _ _ _ _ _ _ _ _ _ _ _ c.self.view_is c.self.invariant, c.self.invariant.starts_reserved, c.requires.room, i.starts.ok.0)

pub invariant_of-self : goal.invariant_of-self
invariant_of-self c =
    rw (c.truncate.ensures.items, c.in-Ok.ensures.items, c.truncate.ensures.capacity)
    (opened_sound _ _ _ _ _ _ _ _ _ _ _ c.self.view_is c.self.invariant c.args.count _ c.requires.within c.requires.room c.in-Ok.ensures.capacity)

pub returns : goal.returns
returns c = rw (c.truncate.ensures.items, c.in-Ok.ensures.items) (opened_is _ _ _ _ _ _ _ _ _ _ _ c.self.view_is c.self.invariant c.args.count)
