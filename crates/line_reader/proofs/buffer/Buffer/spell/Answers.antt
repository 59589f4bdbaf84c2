use Rattle.std.proofs.Common.{◌≡◌, ℕ, ◌+◌, ◌-◌, ◌∷◌, [], length, ap, sym, arith, ◌∙◌}
use Rattle.std.specs.Prelude.{None}
use Rattle.line_reader.specs.OpenLines.{refusal}
use Rattle.line_reader.proofs.Gathering.{is_none}
use Rattle.line_reader.proofs.Views.{room, byte_is, grown_sound, size_view, used_view, length_tail}
use Rattle.line_reader.proofs.buffer.Buffer.spell.Goals as goal

pub returns-in-Some-clause-answer : goal.returns-in-Some-clause-answer
returns-in-Some-clause-answer c =
    let b = c.args.self.now in
    let size : length b.tail ≡ c.len.result - c.self.inside.behind = omega (arith, length_tail _ _ _ _ _ _ _ _ _ _ _ c.self.view_is c.self.invariant, c.len.ensures) in
    ap (λ (n : ℕ). refusal b (n + 1)) size ∙ sym c.refusal.ensures ∙ c.in-Some.is

pub unreachable-requires : goal.unreachable-requires
unreachable-requires c =
    let i = c.self.inside in
    let fits = room c.args.self.now _ (λ full e. c.in_default.not-Some full (c.refusal.ensures ∙ e)) in
    omega (arith, fits, used_view _ _ _ _ _ _ _ _ _ _ _ c.self.view_is c.self.invariant, size_view _ _ _ _ _ _ _ _ _ _ _ c.self.view_is c.self.invariant, c.in_default-push.ensures.full, c.self.invariant.bytes_reserved, c.self.invariant.within, c.len.ensures, i.bytes.ok.0)

pub invariant_of-self : goal.invariant_of-self
invariant_of-self c =
    let i = c.self.inside in
    let fits = room c.args.self.now _ (λ full e. c.in_default.not-Some full (c.refusal.ensures ∙ e)) in
    rw (c.in-Ok.ensures.items)
    (grown_sound _ _ _ _ _ _ _ _ _ _ _ c.self.view_is c.self.invariant (c.args.byte ∷ []) None i.windows.items _ _ (omega (arith, fits, length_tail _ _ _ _ _ _ _ _ _ _ _ c.self.view_is c.self.invariant, c.len.ensures, i.bytes.ok.0)) tt c.self.invariant.readers_fit c.in-Ok.ensures.capacity (omega arith))

pub returns-clause-answer : goal.returns-clause-answer
returns-clause-answer c =
    let b = c.args.self.now in
    let size : length b.tail ≡ c.len.result - c.self.inside.behind = omega (arith, length_tail _ _ _ _ _ _ _ _ _ _ _ c.self.view_is c.self.invariant, c.len.ensures) in
    ap (λ (n : ℕ). refusal b (n + 1)) size ∙ sym c.refusal.ensures ∙ is_none _ c.in_default.not-Some

pub returns-clause-after : goal.returns-clause-after
returns-clause-after c = rw (c.in-Ok.ensures.items) (byte_is _ _ _ _ _ _ _ _ _ _ _ c.self.view_is c.self.invariant c.args.byte)
