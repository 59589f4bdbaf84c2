-- A list that is complete stays so.
use Rattle.std.proofs.Common.{◌≡◌, Bool, true, false, List, [], ◌∷◌, ◌++◌, ◌+◌, ◌-◌, Some, None}
use Rattle.std.specs.Prelude.{if◌then◌else◌, ◌==◌, nat_le}
use Rattle.tex_syntax.specs.declared.words.Manner.{Manner}
use Rattle.tex_defs.specs.declared.Token.{Token}
use Rattle.tex_defs.specs.declared.Token.TheVariants.{Place, Number, EndPlaces}
use Rattle.plain_tokens.specs.Categories.{begin_group, end_group}
use Rattle.plain_tokens.specs.Tokens.{has_category, means_category}
use Rattle.list_builder.specs.declared.stage.Stage.{Stage}
use Rattle.list_builder.specs.declared.stage.Stage.TheVariants.{First, FirstMissing, Parameters, Misnumbered, Tenth, BodyMissing, InBody, Reference, Illegal}
use Rattle.list_builder.specs.declared.stage.Stage.TheVariants as stage
use Rattle.plain_state.specs.Definitions.{Fed, Tok, Noted, Given, Answer, Done, is_parameter, character_of, is_digit, is_number, place_digit, is_reference, count_of, macro_body, text_body}
use Rattle.list_builder.specs.Stages.{resume}

split : (c : Bool) (p q p2 q2 : Answer) (ts : List Token) → (p ≡ Done ts → p2 ≡ Done ts) → (q ≡ Done ts → q2 ≡ Done ts) → (if c then p else q) ≡ Done ts → (if c then p2 else q2) ≡ Done ts
split true p q p2 q2 ts f g e = f e
split false p q p2 q2 ts f g e = g e

pub ends : (m : Manner) (s : Stage) (list : List Token) (fed more : List Fed) (ts : List Token) → resume m s list fed ≡ Done ts → resume m s list (fed ++ more) ≡ Done ts
ends m First list [] more ts e = cc
ends m First list (Noted ∷ fed) more ts e = ends m First list fed more ts e
ends m First list (Given us ∷ fed) more ts e = ends m First list fed more ts e
ends m First list (Tok x ∷ fed) more ts e =
    split (means_category begin_group x.meaning) _ _ _ _ ts (λ h. ends m (InBody text_body 0) list fed more ts h)
    (λ h. ends m FirstMissing list fed more ts h) e
ends m FirstMissing list [] more ts e = cc
ends m FirstMissing list (Noted ∷ fed) more ts e = ends m (InBody text_body 0) list fed more ts e
ends m FirstMissing list (Given us ∷ fed) more ts e = ends m FirstMissing list fed more ts e
ends m FirstMissing list (Tok x ∷ fed) more ts e = ends m FirstMissing list fed more ts e
ends m (Parameters n) list [] more ts e = cc
ends m (Parameters n) list (Noted ∷ fed) more ts e = ends m (Parameters n) list fed more ts e
ends m (Parameters n) list (Given us ∷ fed) more ts e = ends m (Parameters n) list fed more ts e
ends m (Parameters n) list (Tok x ∷ fed) more ts e =
    split (has_category begin_group x.token) _ _ _ _ ts (λ h. ends m (InBody (macro_body n None) 0) (list ++ EndPlaces ∷ []) fed more ts h)
    (λ g. split (has_category end_group x.token) _ _ _ _ ts (λ h. ends m BodyMissing (list ++ EndPlaces ∷ []) fed more ts h)
    (λ h. split (is_parameter x) _ _ _ _ ts (λ i. ends m (stage.Place n (character_of x.meaning)) list fed more ts i) (λ i. ends m (Parameters n) (list ++ x.token ∷ []) fed more ts i) h) g) e
ends m (stage.Place n c) list [] more ts e = cc
ends m (stage.Place n c) list (Noted ∷ fed) more ts e = ends m (stage.Place n c) list fed more ts e
ends m (stage.Place n c) list (Given us ∷ fed) more ts e = ends m (stage.Place n c) list fed more ts e
ends m (stage.Place n c) list (Tok y ∷ fed) more ts e =
    split (has_category begin_group y.token) _ _ _ _ ts (λ h. ends m (InBody (macro_body n (Some y.token)) 0) ((list ++ y.token ∷ []) ++ EndPlaces ∷ []) fed more ts h)
    (λ g. split (nat_le 9 n) _ _ _ _ ts (λ h. ends m (Tenth n) list fed more ts h)
    (λ h. split (is_digit (n + 1) y.token) _ _ _ _ ts (λ i. ends m (Parameters (n + 1)) (list ++ Place c ∷ []) fed more ts i) (λ i. ends m (Misnumbered (n + 1) c) list fed more ts i) h) g) e
ends m (Misnumbered n c) list [] more ts e = cc
ends m (Misnumbered n c) list (Noted ∷ fed) more ts e = ends m (Parameters n) (list ++ Place c ∷ []) fed more ts e
ends m (Misnumbered n c) list (Given us ∷ fed) more ts e = ends m (Misnumbered n c) list fed more ts e
ends m (Misnumbered n c) list (Tok y ∷ fed) more ts e = ends m (Misnumbered n c) list fed more ts e
ends m (Tenth n) list [] more ts e = cc
ends m (Tenth n) list (Noted ∷ fed) more ts e = ends m (Parameters n) list fed more ts e
ends m (Tenth n) list (Given us ∷ fed) more ts e = ends m (Tenth n) list fed more ts e
ends m (Tenth n) list (Tok y ∷ fed) more ts e = ends m (Tenth n) list fed more ts e
ends m BodyMissing list [] more ts e = cc
ends m BodyMissing list (Noted ∷ fed) more ts e = e
ends m BodyMissing list (Given us ∷ fed) more ts e = ends m BodyMissing list fed more ts e
ends m BodyMissing list (Tok y ∷ fed) more ts e = ends m BodyMissing list fed more ts e
ends m (InBody b d) list [] more ts e = cc
ends m (InBody b d) list (Noted ∷ fed) more ts e = ends m (InBody b d) list fed more ts e
ends m (InBody b d) list (Given us ∷ fed) more ts e = ends m (InBody b d) (list ++ us) fed more ts e
ends m (InBody b d) list (Tok x ∷ fed) more ts e =
    split (has_category begin_group x.token) _ _ _ _ ts (λ h. ends m (InBody b (d + 1)) (list ++ x.token ∷ []) fed more ts h)
    (λ g. split (has_category end_group x.token) _ _ _ _ ts (λ h. split (d == 0) _ _ _ _ ts (λ i. i) (λ i. ends m (InBody b (d - 1)) (list ++ x.token ∷ []) fed more ts i) h)
    (λ h. split (is_reference b x) _ _ _ _ ts (λ i. ends m (Reference b d x.token) list fed more ts i) (λ i. ends m (InBody b d) (list ++ x.token ∷ []) fed more ts i) h) g) e
ends m (Reference b d c) list [] more ts e = cc
ends m (Reference b d c) list (Noted ∷ fed) more ts e = ends m (Reference b d c) list fed more ts e
ends m (Reference b d c) list (Given us ∷ fed) more ts e = ends m (Reference b d c) list fed more ts e
ends m (Reference b d c) list (Tok y ∷ fed) more ts e =
    split (is_parameter y) _ _ _ _ ts (λ h. ends m (InBody b d) (list ++ y.token ∷ []) fed more ts h)
    (λ g. split (is_number (count_of b.places) y.token) _ _ _ _ ts (λ h. ends m (InBody b d) (list ++ Number (place_digit y.token) ∷ []) fed more ts h) (λ h. ends m (Illegal b d c) list fed more ts h) g) e
ends m (Illegal b d c) list [] more ts e = cc
ends m (Illegal b d c) list (Noted ∷ fed) more ts e = ends m (InBody b d) (list ++ c ∷ []) fed more ts e
ends m (Illegal b d c) list (Given us ∷ fed) more ts e = ends m (Illegal b d c) list fed more ts e
ends m (Illegal b d c) list (Tok y ∷ fed) more ts e = ends m (Illegal b d c) list fed more ts e
