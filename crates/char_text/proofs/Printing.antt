-- The printing of a fraction, digit by digit.
use Rattle.std.proofs.Common.{◌≡◌, ℕ, zero, suc, ◌+◌, ◌-◌, ◌*◌, ◌/◌, ◌%◌, ◌<◌, ◌≤◌, nat_le, nat_lt, cond, List, [], ◌∷◌, ◌++◌, length, ap, sym, ◌∙◌, arith, append_assoc, length-append}
use Rattle.std.proofs.lemmas.Bool.{cond-true, cond-false, le-leb, lt-leb, lt-ltb, le-ltb}
use Rattle.char_text.specs.Readings.{characters}
use Rattle.plain_tokens.specs.Numerals.{digits_until}

-- t, or t with 32768 - 50000 added where d passes 65536
abbrev pub kept_part : ℕ → ℕ → ℕ
kept_part t d = cond (nat_lt 65536 d) (t + 32768 - 50000) t

pub kept_large : (t d : ℕ) → 65536 < d → kept_part t d ≡ t + 32768 - 50000
kept_large t d h = cond-true (nat_lt 65536 d) (t + 32768 - 50000) t (lt-ltb 65536 d h)

pub kept_small : (t d : ℕ) → d ≤ 65536 → kept_part t d ≡ t
kept_small t d h = cond-false (nat_lt 65536 d) (t + 32768 - 50000) t (le-ltb 65536 d h)

-- after the last digit nothing is left to print
pub last_digit : (done total : List ℕ) (more t d s : ℕ) → 0 < more → s ≡ kept_part t d → done ++ characters (digits_until more t d) ≡ total
    → 10 * (s % 65536) ≤ 10 * d → done ++ (48 + s / 65536) ∷ [] ≡ total
last_digit done total zero t d s some e h stop = absurd (omega arith)
last_digit done total (suc more) t d s some e h stop =
    let k = kept_part t d in
    let stop' : 10 * (k % 65536) ≤ 10 * d = rw (← e) stop in
    let none = cond-true (nat_le (10 * (k % 65536)) (10 * d)) [] (digits_until more (10 * (k % 65536)) (10 * d)) (le-leb _ _ stop') in
    rw e (ap (λ rest. done ++ (48 + k / 65536) ∷ characters rest) (sym none) ∙ h)

-- after another digit the rest is left to print
pub another_digit : (done total : List ℕ) (more t d s : ℕ) → 0 < more → s ≡ kept_part t d → done ++ characters (digits_until more t d) ≡ total
    → 10 * d < 10 * (s % 65536) → (done ++ (48 + s / 65536) ∷ []) ++ characters (digits_until (more - 1) (10 * (s % 65536)) (10 * d)) ≡ total
another_digit done total zero t d s some e h go = absurd (omega arith)
another_digit done total (suc more) t d s some e h go =
    let k = kept_part t d in
    let go' : 10 * d < 10 * (k % 65536) = rw (← e) go in
    let rest = digits_until more (10 * (k % 65536)) (10 * d) in
    let left = cond-false (nat_le (10 * (k % 65536)) (10 * d)) [] rest (lt-leb _ _ go') in
    let one : suc more - 1 ≡ more = omega arith in
    rw (e, one) (append_assoc done ((48 + k / 65536) ∷ []) (characters rest) ∙ ap (λ digits. done ++ (48 + k / 65536) ∷ characters digits) (sym left) ∙ h)

-- there is room for another digit
pub room_for_digit : (done total : List ℕ) (more t d : ℕ) → 0 < more → done ++ characters (digits_until more t d) ≡ total → length done < length total
room_for_digit done total zero t d some h = absurd (omega arith)
room_for_digit done total (suc more) t d some h = omega (arith, simp length-append at (ap length h))
