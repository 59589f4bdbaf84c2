use Rattle.std.proofs.Common.{◌≡◌, ◌+◌, ◌-◌, ◌≤◌, ℕ, List, ◌∷◌, true, false, None, Some, refl, sym, subst, ◌∙◌, arith}
use Rattle.std.specs.Prelude.{◌==◌}
use Rattle.std.proofs.lemmas.Bool.{eq-eqb, ne_eqb}
use Rattle.tex_syntax.specs.declared.words.Manner.{Manner}
use Rattle.tex_defs.specs.declared.Token.{Token}
use Rattle.tex_defs.specs.declared.Seen.{Seen}
use Rattle.plain_tokens.specs.Categories.{begin_group, end_group}
use Rattle.plain_tokens.specs.Tokens.{has_category}
use Rattle.plain_state.specs.declared.body.Body.{Body}
use Rattle.plain_state.specs.Definitions.{Fed, Tok, body, is_reference}
use Rattle.list_builder.specs.declared.stage.Next.TheVariants.{On, Finished}
use Rattle.list_builder.specs.declared.stage.Stage.{Stage}
use Rattle.list_builder.specs.declared.stage.Stage.TheVariants.{InBody, Reference}
use Rattle.list_builder.specs.declared.stage.Step.{Step}
use Rattle.list_builder.specs.Stages.{goes, depth_after, growth}
use Rattle.list_builder.proofs.stage.Stage.took_body.Goals as goal

-- a token in a body comes to this step
record Comes (b : Body) (d : ℕ) (x : Seen) (r : Step) : Type 0 where
  takes : (m : Manner) (list : List Token) (fed : List Fed) → body m b d list (Tok x ∷ fed) ≡ goes r m list fed
  shallow : depth_after r.next ≤ d + growth r

abbrev to : Stage → Step
to s = record { first = None; second = None; next = On s }

abbrev with : Token → Stage → Step
with t s = record { first = Some t; second = None; next = On s }

equal : (b : Body) (d : ℕ) (x : Seen) (r r' : Step) → r ≡ r' → Comes b d x r' → Comes b d x r
equal b d x r r' f h = subst (λ (q : Step). Comes b d x q) (sym f) h

module _ (b : Body) (d : ℕ) (x : Seen) where
  opens : has_category begin_group x.token ≡ true → Comes b d x (with x.token (InBody b (d + 1)))
  opens e = record { takes = λ m list fed. rw e refl; shallow = omega arith }

  module _ (e : has_category begin_group x.token ≡ false) where
    ends : has_category end_group x.token ≡ true → (d == 0) ≡ true → Comes b d x (record { first = b.brace; second = None; next = Finished })
    ends f z = record { takes = λ m list fed. rw (e, f, z) refl; shallow = omega arith }

    closes : has_category end_group x.token ≡ true → (d == 0) ≡ false → Comes b d x (with x.token (InBody b (d - 1)))
    closes f z = record { takes = λ m list fed. rw (e, f, z) refl; shallow = omega arith }

    refers : has_category end_group x.token ≡ false → is_reference b x ≡ true → Comes b d x (to (Reference b d x.token))
    refers f g = record { takes = λ m list fed. rw (e, f, g) refl; shallow = omega arith }

    stays : has_category end_group x.token ≡ false → is_reference b x ≡ false → Comes b d x (with x.token (InBody b d))
    stays f g = record { takes = λ m list fed. rw (e, f, g) refl; shallow = omega arith }

pub returns-then-has_category : goal.returns-then-has_category
returns-then-has_category c =
    let h = equal c.args.inside c.args.depth c.args.x _ _ c.with.ensures (opens c.args.inside c.args.depth c.args.x (sym c.has_category.ensures ∙ c.if-has_category.true)) in
    record { takes = h.takes; shallow = h.shallow }

pub returns-then-depth-eq0 : goal.returns-then-depth-eq0
returns-then-depth-eq0 c =
    let h = ends c.args.inside c.args.depth c.args.x (sym c.has_category.ensures ∙ c.if-has_category.false) (sym c.has_category-2.ensures ∙ c.if-has_category-2.true) (eq-eqb c.args.depth 0 c.if-depth-eq0.true) in
    record { takes = h.takes; shallow = h.shallow }

pub returns-then-has_category-2 : goal.returns-then-has_category-2
returns-then-has_category-2 c =
    let h = equal c.args.inside c.args.depth c.args.x _ _ c.with-then-has_category-2.ensures (closes c.args.inside c.args.depth c.args.x (sym c.has_category.ensures ∙ c.if-has_category.false) (sym c.has_category-2.ensures ∙ c.if-has_category-2.true) (ne_eqb c.args.depth 0 c.if-depth-eq0.false)) in
    record { takes = h.takes; shallow = h.shallow }

pub returns-then-is_reference : goal.returns-then-is_reference
returns-then-is_reference c =
    let h = equal c.args.inside c.args.depth c.args.x _ _ c.to.ensures (refers c.args.inside c.args.depth c.args.x (sym c.has_category.ensures ∙ c.if-has_category.false) (sym c.has_category-2.ensures ∙ c.if-has_category-2.false) (sym c.is_reference.ensures ∙ c.if-is_reference.true)) in
    record { takes = h.takes; shallow = h.shallow }

pub returns : goal.returns
returns c =
    let h = equal c.args.inside c.args.depth c.args.x _ _ c.with-2.ensures (stays c.args.inside c.args.depth c.args.x (sym c.has_category.ensures ∙ c.if-has_category.false) (sym c.has_category-2.ensures ∙ c.if-has_category-2.false) (sym c.is_reference.ensures ∙ c.if-is_reference.false)) in
    record { takes = h.takes; shallow = h.shallow }
