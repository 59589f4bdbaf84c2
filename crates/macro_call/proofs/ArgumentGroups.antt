-- A list that is one group.
use Rattle.std.proofs.Common.{◌≡◌, ◌≢◌, List, [], ◌∷◌, ◌++◌, refl, sym, ap, ◌∙◌, Bool, true, false, ◌&&◌}
use Rattle.std.proofs.lemmas.Bool.{and_parts, and_from, true≢false}
use Rattle.tex_defs.specs.declared.Token.{Token}
use Rattle.plain_tokens.specs.Arguments.{is_begin, is_end, is_balanced, without_last, ends_in_brace, is_group, without_braces}
use Rattle.macro_call.specs.ArgumentLaws.{OneGroupLosesBraces}

pub without_last_on : (t : List Token) (x : Token) → without_last (t ++ x ∷ []) ≡ t
without_last_on [] x = refl
without_last_on (y ∷ []) x = refl
without_last_on (y ∷ z ∷ zs) x = ap (λ (l : List Token). y ∷ l) (without_last_on (z ∷ zs) x)

pub ends_in_brace_on : (t : List Token) (x : Token) → ends_in_brace (t ++ x ∷ []) ≡ is_end x
ends_in_brace_on [] x = refl
ends_in_brace_on (y ∷ []) x = refl
ends_in_brace_on (y ∷ z ∷ zs) x = ends_in_brace_on (z ∷ zs) x

pub group_braces : (b e : Token) (us : List Token) → is_begin b ≡ true → is_end e ≡ true → is_balanced us ≡ true → without_braces (b ∷ us ++ e ∷ []) ≡ us
group_braces b e us begin closes balanced =
    let w : without_last (us ++ e ∷ []) ≡ us = without_last_on us e in
    let n : ends_in_brace (us ++ e ∷ []) ≡ true = ends_in_brace_on us e ∙ closes in
    let p : is_balanced (without_last (us ++ e ∷ [])) ≡ true = ap is_balanced w ∙ balanced in
    let g : is_group (b ∷ us ++ e ∷ []) ≡ true = and_from (is_begin b && ends_in_brace (us ++ e ∷ [])) (is_balanced (without_last (us ++ e ∷ []))) (and_from (is_begin b) (ends_in_brace (us ++ e ∷ [])) begin n) p in
    rw g w

-- the last token of a list that ends in a brace
last_brace : (xs : List Token) → ends_in_brace xs ≡ true → (e : Token) × ((xs ≡ without_last xs ++ e ∷ []) × (is_end e ≡ true))
last_brace [] h = absurd (true≢false (sym h))
last_brace (x ∷ []) h = (x, (refl, h))
last_brace (x ∷ y ∷ ys) h = let (e, (p, q)) = last_brace (y ∷ ys) h in (e, (ap (λ (l : List Token). x ∷ l) p, q))

other_by : (x : Token) (xs : List Token) (g : Bool) → is_group (x ∷ xs) ≡ g → ((b e : Token) (us : List Token) → is_begin b ≡ true → is_end e ≡ true → is_balanced us ≡ true → x ∷ xs ≢ b ∷ us ++ e ∷ []) → without_braces (x ∷ xs) ≡ x ∷ xs
other_by x xs false h other = rw h refl
other_by x xs true h other =
    let parts : ((is_begin x && ends_in_brace xs) ≡ true) × (is_balanced (without_last xs) ≡ true) = and_parts (is_begin x && ends_in_brace xs) (is_balanced (without_last xs)) h in
    let both : (is_begin x ≡ true) × (ends_in_brace xs ≡ true) = and_parts (is_begin x) (ends_in_brace xs) parts.0 in
    let (e, (p, q)) = last_brace xs both.1 in
    absurd (other x e (without_last xs) both.0 q parts.1 (ap (λ (l : List Token). x ∷ l) p))

other_list : (a : List Token) → ((b e : Token) (us : List Token) → is_begin b ≡ true → is_end e ≡ true → is_balanced us ≡ true → a ≢ b ∷ us ++ e ∷ []) → without_braces a ≡ a
other_list [] other = refl
other_list (x ∷ xs) other = other_by x xs (is_group (x ∷ xs)) refl other

pub one_group : OneGroupLosesBraces
one_group = record { group = group_braces; other = other_list }
