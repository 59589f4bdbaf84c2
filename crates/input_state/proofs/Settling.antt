-- Finished lists in front count for nothing.
use Rattle.std.proofs.Common.{◌≡◌, ◌+◌, List, [], ◌∷◌, ◌++◌, length, refl, sym, ap, ◌∙◌, arith}
use Rattle.std.proofs.lemmas.List.Sums.{sum_by-cons, sum_by-append}
use Rattle.plain_tokens.specs.Puts.{Item, Put, without_ended, unless_ended, put_levels, levels_of, put_parameters, when_some}

top_levels : (p : Put) (xs : List Item) (below rest : List Put) → p.items ≡ xs → put_levels below ≡ put_levels rest → put_levels (unless_ended p xs below rest) ≡ levels_of xs + put_levels rest
top_levels p [] below rest is same = omega (arith, same)
top_levels p (x ∷ xs) below rest is same = omega (arith, sum_by-cons (λ (q : Put). levels_of q.items) p rest, ap levels_of is)

-- they have no level
settled_levels : (ps : List Put) → put_levels (without_ended ps) ≡ put_levels ps
settled_levels [] = refl
settled_levels (p ∷ ps) = top_levels p p.items (without_ended ps) ps refl (settled_levels ps) ∙ sym (sum_by-cons (λ (q : Put). levels_of q.items) p ps)

pub settled_levels_in : (ps qs : List Put) → put_levels (without_ended ps ++ qs) ≡ put_levels (ps ++ qs)
settled_levels_in ps qs = omega (arith, settled_levels ps, sum_by-append (λ (q : Put). levels_of q.items) (without_ended ps) qs, sum_by-append (λ (q : Put). levels_of q.items) ps qs)

top_parameters : (p : Put) (xs : List Item) (below rest : List Put) → p.items ≡ xs → put_parameters below ≡ put_parameters rest → put_parameters (unless_ended p xs below rest) ≡ when_some xs (length p.arguments) + put_parameters rest
top_parameters p [] below rest is same = omega (arith, same)
top_parameters p (x ∷ xs) below rest is same = omega (arith, sum_by-cons (λ (q : Put). when_some q.items (length q.arguments)) p rest, ap (λ (ys : List Item). when_some ys (length p.arguments)) is)

-- nor parameters
settled_parameters : (ps : List Put) → put_parameters (without_ended ps) ≡ put_parameters ps
settled_parameters [] = refl
settled_parameters (p ∷ ps) = top_parameters p p.items (without_ended ps) ps refl (settled_parameters ps) ∙ sym (sum_by-cons (λ (q : Put). when_some q.items (length q.arguments)) p ps)

pub settled_parameters_in : (ps qs : List Put) → put_parameters (without_ended ps ++ qs) ≡ put_parameters (ps ++ qs)
settled_parameters_in ps qs =
    omega (arith, settled_parameters ps, sum_by-append (λ (q : Put). when_some q.items (length q.arguments)) (without_ended ps) qs, sum_by-append (λ (q : Put). when_some q.items (length q.arguments)) ps qs)
