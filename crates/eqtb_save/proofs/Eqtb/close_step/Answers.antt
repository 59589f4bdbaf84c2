use Rattle.std.proofs.Common.{◌≡◌, inl, inr, Option, None, Some, sym, ap, ◌∙◌, subst}
use Rattle.std.proofs.lemmas.Option.{none-some}
use Rattle.save_stack.specs.declared.GroupKind.{GroupKind}
use Rattle.eqtb_save.specs.Table.{Table, GivesNext, closing_from}
use Rattle.eqtb_save.proofs.Eqtb.close_step.Goals as goal

pub close_group-requires-clause-open : goal.close_group-requires-clause-open
close_group-requires-clause-open c = elim c.requires.open [
  | inl some ↦ some
  | inr ending ↦ absurd (ending (ap (λ (t : Table). t.ending) (sym c.self.view_is) ∙ c.in-None.is))
]

pub next_closing-requires-in-Some : goal.next_closing-requires-in-Some
next_closing-requires-in-Some c = λ none. absurd (none-some c.in-Some.field-0 (sym none ∙ ap (λ (t : Table). t.ending) (sym c.self.view_is) ∙ c.in-Some.is))

pub returns-in-None-clause-step : goal.returns-in-None-clause-step
returns-in-None-clause-step c =
    let none : c.args.self.now.ending ≡ None = ap (λ (t : Table). t.ending) (sym c.self.view_is) ∙ c.in-None.is in
    subst (λ (o : Option GroupKind). GivesNext c.next_closing.result (closing_from o c.args.self.now) c.next_closing.new.self) (sym none)
    (subst (λ (t : Table). GivesNext c.next_closing.result t c.next_closing.new.self) c.close_group.ensures.after c.next_closing.ensures.step)

pub returns-in-Some-clause-step : goal.returns-in-Some-clause-step
returns-in-Some-clause-step c =
    let ending : c.args.self.now.ending ≡ Some c.in-Some.field-0 = ap (λ (t : Table). t.ending) (sym c.self.view_is) ∙ c.in-Some.is in
    subst (λ (o : Option GroupKind). GivesNext c.next_closing-in-Some.result (closing_from o c.args.self.now) c.next_closing-in-Some.new.self) (sym ending) c.next_closing-in-Some.ensures.step
