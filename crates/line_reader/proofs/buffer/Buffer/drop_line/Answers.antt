use Rattle.std.proofs.Common.{arith, ◌∙◌}
use Rattle.line_reader.proofs.Views.{dropped_is, dropped_sound, dropped_start, no_starts, empty_of}
use Rattle.line_reader.proofs.buffer.Buffer.drop_line.Goals as goal

pub unreachable-requires : goal.unreachable-requires
unreachable-requires c = c.requires (no_starts _ _ _ _ _ _ _ _ _ _ _ c.self.view_is c.self.invariant (empty_of _ (omega (arith, c.in_default.ensures.cases, c.self.inside.starts.ok.0))))

pub drain-requires-clause-start_le_end : goal.drain-requires-clause-start_le_end
drain-requires-clause-start_le_end c = dropped_start _ _ _ _ _ _ _ _ _ _ _ c.self.view_is c.self.invariant c.pop.new.self.items c.in-Some.start c.in-Some.ensures.items

pub invariant_of-self : goal.invariant_of-self
invariant_of-self c =
    rw (c.drop.ensures.items ∙ c.drain.ensures.kept, c.drop.ensures.capacity ∙ c.drain.ensures.capacity, c.pop.ensures.capacity)
    (dropped_sound _ _ _ _ _ _ _ _ _ _ _ c.self.view_is c.self.invariant c.pop.new.self.items c.in-Some.start c.in-Some.ensures.items)

pub returns : goal.returns
returns c = rw (c.drop.ensures.items ∙ c.drain.ensures.kept) (dropped_is _ _ _ _ _ _ _ _ _ _ _ c.self.view_is c.self.invariant c.pop.new.self.items c.in-Some.start c.in-Some.ensures.items)
