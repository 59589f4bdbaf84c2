-- The rest of a list behind its next token.
use Rattle.std.proofs.Common.{zero, suc, ◌≡◌, ℕ, ◌+◌, List, [], ◌∷◌, drop, Some, ap, ◌∙◌, arith}
use Rattle.std.specs.Prelude.{slice_get}
use Rattle.std.proofs.lemmas.Option.{same_Some, none-some}
use Rattle.tex_defs.specs.declared.Token.{Token}

pub get_drop : (ts : List Token) (i : ℕ) (t : Token) → slice_get ts i ≡ Some t → drop i ts ≡ t ∷ drop (i + 1) ts
get_drop [] i t is = absurd (none-some t is)
get_drop (x ∷ ts) zero t is = ap (λ (y : Token). y ∷ ts) (same_Some _ _ is)
get_drop (x ∷ ts) (suc i) t is =
    let e : suc (i + 1) ≡ suc i + 1 = omega arith in
    get_drop ts i t is ∙ ap (λ (n : ℕ). t ∷ drop n (x ∷ ts)) e
