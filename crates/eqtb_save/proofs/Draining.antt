-- The tokens of a group, one by one.
use Rattle.std.proofs.Common.{◌≡◌, ◌+◌, ◌<◌, ◌≤◌, ℕ, List, [], ◌∷◌, ◌++◌, length, ap, sym, ◌∙◌, subst, arith}
use Rattle.std.proofs.lemmas.List.{append_assoc, length-append}
use Rattle.tex_defs.specs.declared.Token.{Token}
use Rattle.save_stack.specs.declared.Closed.{Closed}
use Rattle.save_stack.specs.declared.Closed.TheVariants.{After, Done}
use Rattle.save_stack.specs.Groups.{Stack, depth, top, last_entry}
use Rattle.save_stack.specs.Closing.{ClosesBy}
use Rattle.save_stack.proofs.Restoring.{Given, left_after, step_given, left_less, last_of}
use Rattle.eqtb_save.proofs.Held.{K}

pub first_left : (g g' : Stack K) (r : Closed) → ClosesBy r g g' → left_after r g' ≤ length (top g.tokens)
first_left g g' (After t) by = omega (arith, ap length (last_of g.tokens t by.0), ap (λ (k : Stack K). length (top k.tokens)) by.1)
first_left g g' (Done k) by = omega arith

-- a step that gave a token
given_token : (old g : Stack K) (c : List Token) (t : Token) (r : Closed) → r ≡ After t → Given old c r g → Given old c (After t) g
given_token old g c t r is given = subst (λ (x : Closed). Given old c x g) is given

pub next_given : (old g g' : Stack K) (c c' : List Token) (t : Token) (r r' : Closed) → r ≡ After t → Given old c r g → c' ≡ c ++ t ∷ [] → ClosesBy r' g g' → Given old c' r' g'
next_given old g g' c c' t r r' is given pushed by =
    let now = given_token old g c t r is given in
    let so_far : c' ++ top g.tokens ≡ top old.tokens = ap (λ (ts : List Token). ts ++ top g.tokens) pushed ∙ append_assoc c (t ∷ []) (top g.tokens) ∙ now.0 in
    step_given old g g' c' r' so_far now.1 by

pub next_open : (old g : Stack K) (c : List Token) (t : Token) (r : Closed) → r ≡ After t → Given old c r g → depth g ≡ depth old
next_open old g c t r is given = ap (λ (k : Stack K). depth k) (given_token old g c t r is given).1

pub next_taken : (old g : Stack K) (c : List Token) (t : Token) (r : Closed) → r ≡ After t → Given old c r g → last_entry g.entries ≡ last_entry old.entries
next_taken old g c t r is given = ap (λ (k : Stack K). last_entry k.entries) (given_token old g c t r is given).1

pub next_left : (g g' : Stack K) (t : Token) (r r' : Closed) → r ≡ After t → ClosesBy r' g g' → left_after r' g' < left_after r g
next_left g g' t r r' is by = subst (λ (x : Closed). left_after r' g' < left_after x g) (sym is) (left_less g g g' [] t r' by)

pub next_room : (g g' : Stack K) (c c' : List Token) (t : Token) (r r' : Closed) (room : ℕ) → r ≡ After t → c' ≡ c ++ t ∷ [] → ClosesBy r' g g' → length c + left_after r g ≤ room → length c' + left_after r' g' ≤ room
next_room g g' c c' t r r' room is pushed by fits = omega (arith, next_left g g' t r r' is by, ap length pushed, length-append c (t ∷ []), fits)
