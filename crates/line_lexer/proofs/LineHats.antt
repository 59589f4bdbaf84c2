-- `^^` in front of a rest of a line.
use Rattle.std.proofs.Common.{◌≡◌, ℕ, ◌+◌, ◌<◌, ◌≤◌, true, false, List, [], ◌∷◌, drop, length, get_or, arith, ap, ◌∙◌}
use Rattle.plain_tokens.specs.Lex.{headed, has_hats, without_hats, behind_hats}
use Rattle.plain_tokens.proofs.Heads.{headed_hats, headed_none, headed_nil}
use Rattle.line_lexer.proofs.LineRests.{drop_at, drop_end}

two_more : (line : List ℕ) (next : ℕ) → next + 1 < length line → drop next line ≡ get_or line next 0 ∷ get_or line (next + 1) 0 ∷ drop (next + 1 + 1) line
two_more line next here =
    let first : next < length line = omega arith in
    drop_at line next first ∙ ap (λ (xs : List ℕ). get_or line next 0 ∷ xs) (drop_at line (next + 1) here)

-- the head is that of the line with the character that `^^` stands for
pub hats_on : (cats line short : List ℕ) (code next : ℕ) → next + 1 < length line → has_hats cats (code ∷ drop next line) ≡ true →
    behind_hats (get_or line (next + 1) 0) (drop (next + 1 + 1) line) ≡ short → headed cats (code ∷ drop next line) ≡ headed cats short
hats_on cats line short code next here is e =
    headed_hats cats (code ∷ drop next line) is ∙
    ap (headed cats) (ap (λ (xs : List ℕ). without_hats (code ∷ xs)) (two_more line next here) ∙ e)

pub no_hats : (cats line : List ℕ) → has_hats cats line ≡ false → headed cats line ≡ line
no_hats cats line e = headed_none cats line e

-- no head behind the end
pub headed_end : (cats line : List ℕ) (at : ℕ) → length line ≤ at → headed cats (drop at line) ≡ []
headed_end cats line at h = ap (headed cats) (drop_end line at h) ∙ headed_nil cats
