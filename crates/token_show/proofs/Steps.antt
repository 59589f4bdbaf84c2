-- What is left of a text after a character, and where a token's text begins.
use Rattle.std.proofs.Common.{◌≡◌, ℕ, ◌-◌, List, [], ◌∷◌, ◌++◌, length, Option, None, Some, refl, ap, ◌∙◌, arith, length-append}
use Rattle.tex_defs.specs.declared.Token.{Token}
use Rattle.plain_tokens.specs.Printed.{Style, printed, printed_all, places_after, last_after, runaway_from}
use Rattle.token_show.specs.Texts.{text_from, room_after}

-- the first character, and the rest with the room behind it
pub give : (style : Style) (room : Option ℕ) (places last c : ℕ) (piece : List ℕ) (ts : List Token)
    → text_from style room places last (c ∷ piece) ts ≡ c ∷ text_from style (room_after room style.newline c) places last piece ts
give style None places last c piece ts = refl
give style (Some room) places last c piece ts =
    let less : room - length (printed style c ++ printed_all style piece) ≡ room - length (printed style c) - length (printed_all style piece) =
    omega (arith, length-append (printed style c) (printed_all style piece)) in
    ap (λ (left : ℕ). c ∷ piece ++ runaway_from style left places last ts) less

-- behind a piece that is used up a token's text begins, and its first character is the next
pub after_token : (style : Style) (room room' room'' : Option ℕ) (places last places' last' c : ℕ) (t : Token) (piece piece' piece'' : List ℕ) (ts ts' ts'' : List Token)
    → piece ≡ [] → room' ≡ room → ts ≡ t ∷ ts'
    → text_from style room' places last [] (t ∷ ts') ≡ text_from style room' (places_after places t) (last_after last t) piece' ts''
    → places' ≡ places_after places t → last' ≡ last_after last t
    → piece' ≡ c ∷ piece'' → room'' ≡ room_after room' style.newline c
    → text_from style room places last piece ts ≡ c ∷ text_from style room'' places' last' piece'' ts''
after_token style room room' room'' places last places' last' c t piece piece' piece'' ts ts' ts'' none same front begun few char begins left =
    rw (none, ← same, front, few, char, left) (begun ∙ rw begins (give style room' (places_after places t) (last_after last t) c piece'' ts''))
