use Rattle.std.proofs.Common.{◌≡◌, ℕ, List, ◌∷◌, true, false, None, Some, refl, sym, ap, subst, ◌∙◌}
use Rattle.tex_syntax.specs.declared.words.Manner.{Manner}
use Rattle.tex_defs.specs.declared.Token.{Token}
use Rattle.tex_defs.specs.declared.Token.TheVariants.{EndPlaces}
use Rattle.tex_defs.specs.declared.Seen.{Seen}
use Rattle.plain_tokens.specs.Categories.{begin_group, end_group}
use Rattle.plain_tokens.specs.Tokens.{has_category}
use Rattle.plain_state.specs.Definitions.{Fed, Tok, parameters, is_parameter, character_of}
use Rattle.list_builder.specs.declared.stage.Next.TheVariants.{On}
use Rattle.list_builder.specs.declared.stage.Stage.{Stage}
use Rattle.list_builder.specs.declared.stage.Stage.TheVariants.{Parameters, Place, BodyMissing, InBody}
use Rattle.list_builder.specs.declared.stage.Step.{Step}
use Rattle.list_builder.specs.Stages.{goes, depth_after}
use Rattle.list_builder.proofs.stage.Stage.took_parameters.Goals as goal

-- a token in a parameter text comes to this step
record Comes (n : ℕ) (x : Seen) (r : Step) : Type 0 where
  takes : (m : Manner) (list : List Token) (fed : List Fed) → parameters m n list (Tok x ∷ fed) ≡ goes r m list fed
  shallow : depth_after r.next ≡ 0

abbrev to : Stage → Step
to s = record { first = None; second = None; next = On s }

abbrev with : Token → Stage → Step
with t s = record { first = Some t; second = None; next = On s }

equal : (n : ℕ) (x : Seen) (r r' : Step) → r ≡ r' → Comes n x r' → Comes n x r
equal n x r r' f h = subst (λ (q : Step). Comes n x q) (sym f) h

module _ (n : ℕ) (x : Seen) where
  opens : has_category begin_group x.token ≡ true → Comes n x (with EndPlaces (InBody (record { places = Some n; brace = None }) 0))
  opens e = record { takes = λ m list fed. rw e refl; shallow = refl }

  module _ (e : has_category begin_group x.token ≡ false) where
    no_body : has_category end_group x.token ≡ true → Comes n x (with EndPlaces BodyMissing)
    no_body f = record { takes = λ m list fed. rw (e, f) refl; shallow = refl }

    place : has_category end_group x.token ≡ false → is_parameter x ≡ true → Comes n x (to (Place n (character_of x.meaning)))
    place f g = record { takes = λ m list fed. rw (e, f, g) refl; shallow = refl }

    stays : has_category end_group x.token ≡ false → is_parameter x ≡ false → Comes n x (with x.token (Parameters n))
    stays f g = record { takes = λ m list fed. rw (e, f, g) refl; shallow = refl }

pub returns-then-has_category : goal.returns-then-has_category
returns-then-has_category c =
    let h = equal c.args.count c.args.x _ _ c.with.ensures (opens c.args.count c.args.x (sym c.has_category.ensures ∙ c.if-has_category.true)) in
    record { takes = h.takes; shallow = h.shallow }

pub returns-then-has_category-2 : goal.returns-then-has_category-2
returns-then-has_category-2 c =
    let h = equal c.args.count c.args.x _ _ c.with-then-has_category-2.ensures (no_body c.args.count c.args.x (sym c.has_category.ensures ∙ c.if-has_category.false) (sym c.has_category-2.ensures ∙ c.if-has_category-2.true)) in
    record { takes = h.takes; shallow = h.shallow }

pub returns-then-is_parameter : goal.returns-then-is_parameter
returns-then-is_parameter c =
    let h = equal c.args.count c.args.x _ _ (c.to.ensures ∙ ap (λ (k : ℕ). to (Place c.args.count k)) c.character_of.ensures) (place c.args.count c.args.x (sym c.has_category.ensures ∙ c.if-has_category.false) (sym c.has_category-2.ensures ∙ c.if-has_category-2.false) (sym c.is_parameter.ensures ∙ c.if-is_parameter.true)) in
    record { takes = h.takes; shallow = h.shallow }

pub returns : goal.returns
returns c =
    let h = equal c.args.count c.args.x _ _ c.with-2.ensures (stays c.args.count c.args.x (sym c.has_category.ensures ∙ c.if-has_category.false) (sym c.has_category-2.ensures ∙ c.if-has_category-2.false) (sym c.is_parameter.ensures ∙ c.if-is_parameter.false)) in
    record { takes = h.takes; shallow = h.shallow }
