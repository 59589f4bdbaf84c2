use Rattle.std.proofs.Common.{◌≡◌, Bool, true, false, List, [], ◌∷◌, ◌++◌, refl, sym, subst, ◌∙◌}
use Rattle.std.specs.Prelude.{◌&&◌, ℕ, not}
use Rattle.tex_syntax.specs.declared.words.Manner.{Manner}
use Rattle.tex_defs.specs.declared.Token.{Token}
use Rattle.tex_defs.specs.declared.Seen.{Seen}
use Rattle.plain_tokens.specs.Categories.{begin_group, end_group}
use Rattle.plain_tokens.specs.Tokens.{has_category}
use Rattle.plain_state.specs.declared.body.Body.{Body}
use Rattle.plain_state.specs.Definitions.{Fed, Tok, is_reference}
use Rattle.list_builder.specs.declared.stage.Stage.{Stage}
use Rattle.list_builder.specs.declared.stage.Stage.TheVariants.{InBody}
use Rattle.list_builder.specs.Stages.{resume}
use Rattle.list_builder.proofs.stage.Stage.keeps.Goals as goal

-- none of the three
record AreFalse (a b c : Bool) : Type 0 where
  first : a ≡ false
  second : b ≡ false
  third : c ≡ false

none_of : (a b c : Bool) → ((not a && not b) && not c) ≡ true → AreFalse a b c
none_of true b c is = cc
none_of false true c is = cc
none_of false false true is = cc
none_of false false false is = record { first = refl; second = refl; third = refl }

stays : (b : Body) (d : ℕ) (x : Seen) → AreFalse (has_category begin_group x.token) (has_category end_group x.token) (is_reference b x) → (m : Manner) (list : List Token) (fed : List Fed) → resume m (InBody b d) list (Tok x ∷ fed) ≡ resume m (InBody b d) (list ++ x.token ∷ []) fed
stays b d x h m list fed = rw (h.first, h.second, h.third) refl

pub returns-in-InBody-clause-stays : goal.returns-in-InBody-clause-stays
returns-in-InBody-clause-stays c = λ kept m list fed.
    subst (λ (s : Stage). resume m s list (Tok c.args.x ∷ fed) ≡ resume m s (list ++ c.args.x.token ∷ []) fed) (sym c.in-InBody.is)
    (stays c.in-InBody.inside _ c.args.x (none_of _ _ _ (sym c.is_kept.ensures ∙ kept)) m list fed)
