-- The head of a line.
use Rattle.std.proofs.Common.{◌≡◌, ◌⊎◌, inl, inr, ℕ, ◌≤◌, ◌<◌, zero, suc, Bool, true, false, List, [], ◌∷◌, length, arith, refl, sym, ap, ◌∙◌}
use Rattle.plain_tokens.specs.Lex.{headed, headed_within, has_hats, without_hats, behind_hats, is_hexadecimal}
use Rattle.std.specs.Prelude.{◌&&◌}

pub kind : (b : Bool) → (b ≡ true) ⊎ (b ≡ false)
kind true = inl refl
kind false = inr refl

behind_length : (c : ℕ) (line : List ℕ) → length (behind_hats c line) ≤ suc (length line)
behind_length c [] = omega arith
behind_length c (d ∷ line) = elim (kind (is_hexadecimal c && is_hexadecimal d)) [ inl e ↦ rw e (omega arith) | inr e ↦ rw e (omega arith) ]

-- `^^` and its codes are longer than what they stand for
pub hats_shorter : (cats line : List ℕ) → has_hats cats line ≡ true → length (without_hats line) < length line
hats_shorter cats [] h = absurd (cc)
hats_shorter cats (a ∷ []) h = absurd (cc)
hats_shorter cats (a ∷ b ∷ []) h = absurd (cc)
hats_shorter cats (a ∷ b ∷ c ∷ line) h = omega (arith, behind_length c line)

module _ (cats : List ℕ) where
  within_nil : (n : ℕ) → headed_within n cats [] ≡ []
  within_nil zero = refl
  within_nil (suc n) = refl

  -- one replacement, or none
  pub within_hats : (n : ℕ) (line : List ℕ) → has_hats cats line ≡ true → headed_within (suc n) cats line ≡ headed_within n cats (without_hats line)
  within_hats n line e = rw e refl

  pub within_none : (n : ℕ) (line : List ℕ) → has_hats cats line ≡ false → headed_within n cats line ≡ line
  within_none zero line e = refl
  within_none (suc n) line e = rw e refl

  -- turns beyond the length change nothing
  pub turns_enough : (n m : ℕ) (line : List ℕ) → length line ≤ n → length line ≤ m → headed_within n cats line ≡ headed_within m cats line
  turns_enough zero m [] h i = sym (within_nil m)
  turns_enough zero m (c ∷ cs) h i = absurd (omega arith)
  turns_enough (suc n) zero [] h i = refl
  turns_enough (suc n) zero (c ∷ cs) h i = absurd (omega arith)
  turns_enough (suc n) (suc m) line h i = elim (kind (has_hats cats line)) [
    | inl e ↦
        let less : length (without_hats line) < length line = hats_shorter cats line e in
        within_hats n line e ∙ turns_enough n m (without_hats line) (omega arith) (omega arith) ∙ sym (within_hats m line e)
    | inr e ↦ within_none (suc n) line e ∙ sym (within_none (suc m) line e)
  ]

  pub within_shorter : (n : ℕ) (line : List ℕ) → length (headed_within n cats line) ≤ length line
  within_shorter zero line = omega arith
  within_shorter (suc n) line = elim (kind (has_hats cats line)) [
    | inl e ↦
        let less : length (without_hats line) < length line = hats_shorter cats line e in
        let on : length (headed_within n cats (without_hats line)) ≤ length (without_hats line) = within_shorter n (without_hats line) in
        rw e (omega arith)
    | inr e ↦ rw e (omega arith)
  ]

  pub headed_nil : headed cats [] ≡ []
  unfolding headed
  headed_nil = refl

  pub headed_hats : (line : List ℕ) → has_hats cats line ≡ true → headed cats line ≡ headed cats (without_hats line)
  unfolding headed
  headed_hats [] e = absurd (cc)
  headed_hats (c ∷ cs) e =
      let less : length (without_hats (c ∷ cs)) < length (c ∷ cs) = hats_shorter cats (c ∷ cs) e in
      within_hats (length cs) (c ∷ cs) e ∙ turns_enough (length cs) (length (without_hats (c ∷ cs))) (without_hats (c ∷ cs)) (omega arith) (omega arith)

  pub headed_none : (line : List ℕ) → has_hats cats line ≡ false → headed cats line ≡ line
  unfolding headed
  headed_none line e = within_none (length line) line e

  pub headed_shorter : (line : List ℕ) → length (headed cats line) ≤ length line
  unfolding headed
  headed_shorter line = within_shorter (length line) line

  -- what is behind a head is shorter than the line
  pub behind_head : (c : ℕ) (cs line : List ℕ) → headed cats line ≡ c ∷ cs → length cs < length line
  behind_head c cs line e = omega (arith, headed_shorter line, ap length e)
