-- Lists that are what was read.
use Rattle.std.proofs.Common.{◌≡◌, ℕ, ◌+◌, ◌-◌, Bool, true, false, not, List, [], ◌∷◌, ◌++◌, Option, Some, None, refl, sym, ap, ◌∙◌, arith, append_assoc}
use Rattle.std.specs.Prelude.{◌==◌, ◌&&◌, is_some}
use Rattle.std.proofs.lemmas.Bool.Decides.{nat_tests}
use Rattle.std.proofs.lemmas.List.{append-nil}
use Rattle.std.proofs.lemmas.Option.{same_Some}
use Rattle.tex_syntax.specs.declared.words.Manner.{Manner}
use Rattle.tex_defs.specs.declared.Token.{Token}
use Rattle.tex_defs.specs.declared.Token.TheVariants.{EndPlaces}
use Rattle.tex_defs.specs.declared.Seen.{Seen}
use Rattle.plain_tokens.specs.Categories.{begin_group, end_group}
use Rattle.plain_tokens.specs.Tokens.{has_category}
use Rattle.plain_state.specs.Definitions.{Fed, Tok, Done, body, parameters, text, definition, is_parameter, is_reference}
use Rattle.list_builder.specs.Forms.{closes, fed_with, tokens_of, no_parameters, no_braces, IsBraced}
use Rattle.list_builder.proofs.Groups.{pick, both_left, both_right, not_true, end_begins_not, no_brace}

-- no token stands for a parameter
no_references : Option ℕ → List Seen → Bool
no_references count [] = true
no_references count (x ∷ xs) = not (is_some count && is_parameter x) && no_references count xs

none_in_text : (xs : List Seen) → no_references None xs ≡ true
unfolding no_references
none_in_text [] = refl
none_in_text (x ∷ xs) = none_in_text xs

none_in_macro : (n : ℕ) (xs : List Seen) → no_parameters xs ≡ true → no_references (Some n) xs ≡ true
unfolding no_references
none_in_macro n [] e = refl
none_in_macro n (x ∷ xs) e = by (not (is_parameter x)) (both_left _ _ e) (none_in_macro n xs (both_right _ _ e))
  where
    by : (b : Bool) → b ≡ true → no_references (Some n) xs ≡ true → (b && no_references (Some n) xs) ≡ true
    by true e f = f
    by false e f = e

zero_of : (d : ℕ) → d ≡ 0 → (d == 0) ≡ true
zero_of d e = grind (arith, nat_tests)

inside : (m : Manner) (count : Option ℕ) (d : ℕ) (list : List Token) (xs : List Seen) (e : Seen) (more : List Fed) → closes d (tokens_of xs) ≡ Some 0 → no_references count xs ≡ true → has_category end_group e.token ≡ true →
    body m (record { places = count; brace = None }) d list (fed_with xs ++ Tok e ∷ more) ≡ Done (list ++ tokens_of xs)
unfolding no_references
inside m count d list [] e more c out ends =
    let z : (d == 0) ≡ true = zero_of d (same_Some _ _ c) in
    rw (end_begins_not e.token ends) (rw ends (rw z (ap Done (sym (append-nil list)))))
inside m count d list (x ∷ xs) e more c out ends =
    let r : is_reference (record { places = count; brace = None }) x ≡ false = not_true _ (both_left _ _ out) in
    let o : no_references count xs ≡ true = both_right _ _ out in
    let on : (l : List Token) → Done ((list ++ x.token ∷ []) ++ l) ≡ Done (list ++ (x.token ∷ l)) = λ l. ap Done (append_assoc list (x.token ∷ []) l) in
    pick (has_category begin_group x.token) _ _ _ _ (Done (list ++ tokens_of (x ∷ xs))) (Some 0)
    (λ a h. inside m count (d + 1) (list ++ x.token ∷ []) xs e more h o ends ∙ on (tokens_of xs))
    (λ a g. pick (has_category end_group x.token) _ _ _ _ (Done (list ++ tokens_of (x ∷ xs))) (Some 0)
    (λ b h. pick (d == 0) _ _ _ _ (Done (list ++ tokens_of (x ∷ xs))) (Some 0) (λ z i. cc) (λ z i. inside m count (d - 1) (list ++ x.token ∷ []) xs e more i o ends ∙ on (tokens_of xs)) h)
    (λ b h. rw r (inside m count d (list ++ x.token ∷ []) xs e more h o ends ∙ on (tokens_of xs))) g) c

pub text_itself : (m : Manner) (b e : Seen) (xs : List Seen) (more : List Fed) → IsBraced b e xs → text m (Tok b ∷ fed_with xs ++ Tok e ∷ more) ≡ Done (tokens_of xs)
text_itself m b e xs more is = rw is.means (inside m None 0 [] xs e more is.balanced (none_in_text xs) is.ends)

front : (m : Manner) (b e : Seen) (list : List Token) (us xs : List Seen) (more : List Fed) → IsBraced b e xs → no_braces us ≡ true → no_parameters us ≡ true → no_parameters xs ≡ true →
    parameters m 0 list (fed_with us ++ Tok b ∷ fed_with xs ++ Tok e ∷ more) ≡ Done (list ++ (tokens_of us ++ EndPlaces ∷ tokens_of xs))
front m b e list [] xs more is braces plain out =
    rw is.begins (inside m (Some 0) 0 (list ++ EndPlaces ∷ []) xs e more is.balanced (none_in_macro 0 xs out) is.ends ∙ ap Done (append_assoc list (EndPlaces ∷ []) (tokens_of xs)))
front m b e list (u ∷ us) xs more is braces plain out =
    let n = no_brace u.token (not_true _ (both_left _ _ braces)) in
    let p : is_parameter u ≡ false = not_true _ (both_left _ _ plain) in
    rw n.0 (rw n.1 (rw p (front m b e (list ++ u.token ∷ []) us xs more is (both_right _ _ braces) (both_right _ _ plain) out
    ∙ ap Done (append_assoc list (u.token ∷ []) (tokens_of us ++ EndPlaces ∷ tokens_of xs)))))

pub definition_itself : (m : Manner) (b e : Seen) (us xs : List Seen) (more : List Fed) → IsBraced b e xs → no_braces us ≡ true → no_parameters us ≡ true → no_parameters xs ≡ true →
    definition m (fed_with us ++ Tok b ∷ fed_with xs ++ Tok e ∷ more) ≡ Done (tokens_of us ++ EndPlaces ∷ tokens_of xs)
definition_itself m b e us xs more is braces plain out = front m b e [] us xs more is braces plain out
