use Rattle.std.proofs.Common.{◌≡◌, ◌∙◌, None, ap}
use Rattle.cs_hash.specs.Names.{entered}
use Rattle.plain_tokens.specs.Lookup.{name_number}
use Rattle.name_table.specs.Strings.{Strings}
use Rattle.name_table.proofs.Changes.{entering, entering_sound}
use Rattle.name_table.proofs.NameTable.enter.Goals as goal

pub invariant_of-self : goal.invariant_of-self
invariant_of-self c =
    let absent : name_number (entered c.self.inside.hash c.self.inside.pool.kept) c.args.name.now ≡ None = ap (λ (s : Strings). name_number s.names c.args.name.now) c.self.view_is ∙ c.requires in
    entering_sound _ _ _ _ _ c.self.invariant _ _ _ _ absent c.enter.ensures.enters c.enter.ensures.still_knows c.enter.ensures.still_closed

pub returns-clause-answer : goal.returns-clause-answer
returns-clause-answer c =
    let absent : name_number (entered c.self.inside.hash c.self.inside.pool.kept) c.args.name.now ≡ None = ap (λ (s : Strings). name_number s.names c.args.name.now) c.self.view_is ∙ c.requires in
    (entering _ _ _ _ _ c.self.invariant _ _ _ _ absent c.enter.ensures.enters _ c.self.view_is).answer

pub returns-clause-number : goal.returns-clause-number
returns-clause-number c =
    let absent : name_number (entered c.self.inside.hash c.self.inside.pool.kept) c.args.name.now ≡ None = ap (λ (s : Strings). name_number s.names c.args.name.now) c.self.view_is ∙ c.requires in
    (entering _ _ _ _ _ c.self.invariant _ _ _ _ absent c.enter.ensures.enters _ c.self.view_is).number

pub returns-clause-after : goal.returns-clause-after
returns-clause-after c =
    let absent : name_number (entered c.self.inside.hash c.self.inside.pool.kept) c.args.name.now ≡ None = ap (λ (s : Strings). name_number s.names c.args.name.now) c.self.view_is ∙ c.requires in
    (entering _ _ _ _ _ c.self.invariant _ _ _ _ absent c.enter.ensures.enters _ c.self.view_is).after
