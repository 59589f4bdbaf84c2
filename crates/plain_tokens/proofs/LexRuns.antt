-- Runs of letters, and what a line gives by its head.
use Rattle.std.proofs.Common.{◌≡◌, ℕ, ◌≤◌, ◌<◌, zero, suc, List, [], ◌∷◌, length, arith, refl}
use Rattle.plain_tokens.specs.declared.line_state.LineState.{LineState}
use Rattle.plain_tokens.specs.Lex.{Lexed, headed, letter_and, letters_within, letters, behind_letter, behind_letters_within, behind_letters, by_head, lexed_within, lexed}
use Rattle.plain_tokens.proofs.Heads.{headed_nil, behind_head}

-- two that agree behind the head give the same
module _ (cats : List ℕ) where
  letter_and_same : (f g : List ℕ → List ℕ) (line : List ℕ) → ((c : ℕ) (cs : List ℕ) → line ≡ c ∷ cs → f cs ≡ g cs) → letter_and cats f line ≡ letter_and cats g line
  letter_and_same f g [] h = refl
  letter_and_same f g (c ∷ cs) h = rw (h c cs refl) refl

  behind_letter_same : (f g : List ℕ → List ℕ) (line : List ℕ) → ((c : ℕ) (cs : List ℕ) → line ≡ c ∷ cs → f cs ≡ g cs) → behind_letter cats f line ≡ behind_letter cats g line
  behind_letter_same f g [] h = refl
  behind_letter_same f g (c ∷ cs) h = rw (h c cs refl) refl

  by_head_same : (state : LineState) (f g : List ℕ → Lexed) (line : List ℕ) → ((c : ℕ) (cs : List ℕ) → line ≡ c ∷ cs → f cs ≡ g cs) → by_head cats state f line ≡ by_head cats state g line
  by_head_same state f g [] h = refl
  by_head_same state f g (c ∷ cs) h = rw (h c cs refl) refl

  -- turns beyond the length change nothing
  letters_enough : (n m : ℕ) (line : List ℕ) → length line ≤ n → length line ≤ m → letters_within n cats line ≡ letters_within m cats line
  letters_enough zero zero line h i = refl
  letters_enough zero (suc m) [] h i = rw (headed_nil cats) refl
  letters_enough zero (suc m) (c ∷ cs) h i = absurd (omega arith)
  letters_enough (suc n) zero [] h i = rw (headed_nil cats) refl
  letters_enough (suc n) zero (c ∷ cs) h i = absurd (omega arith)
  letters_enough (suc n) (suc m) line h i =
      letter_and_same (letters_within n cats) (letters_within m cats) (headed cats line)
      (λ c cs e. let less : length cs < length line = behind_head cats c cs line e in letters_enough n m cs (omega arith) (omega arith))

  behind_enough : (n m : ℕ) (line : List ℕ) → length line ≤ n → length line ≤ m → behind_letters_within n cats line ≡ behind_letters_within m cats line
  behind_enough zero zero line h i = refl
  behind_enough zero (suc m) [] h i = rw (headed_nil cats) refl
  behind_enough zero (suc m) (c ∷ cs) h i = absurd (omega arith)
  behind_enough (suc n) zero [] h i = rw (headed_nil cats) refl
  behind_enough (suc n) zero (c ∷ cs) h i = absurd (omega arith)
  behind_enough (suc n) (suc m) line h i =
      behind_letter_same (behind_letters_within n cats) (behind_letters_within m cats) (headed cats line)
      (λ c cs e. let less : length cs < length line = behind_head cats c cs line e in behind_enough n m cs (omega arith) (omega arith))

  lexed_enough : (state : LineState) (n m : ℕ) (line : List ℕ) → length line ≤ n → length line ≤ m → lexed_within n cats state line ≡ lexed_within m cats state line
  lexed_enough state zero zero line h i = refl
  lexed_enough state zero (suc m) [] h i = rw (headed_nil cats) refl
  lexed_enough state zero (suc m) (c ∷ cs) h i = absurd (omega arith)
  lexed_enough state (suc n) zero [] h i = rw (headed_nil cats) refl
  lexed_enough state (suc n) zero (c ∷ cs) h i = absurd (omega arith)
  lexed_enough state (suc n) (suc m) line h i =
      by_head_same state (lexed_within n cats state) (lexed_within m cats state) (headed cats line)
      (λ c cs e. let less : length cs < length line = behind_head cats c cs line e in lexed_enough state n m cs (omega arith) (omega arith))

  -- the letters in front, and what is behind them, by the head
  pub letters_by_head : (line : List ℕ) → letters cats line ≡ letter_and cats (letters cats) (headed cats line)
  unfolding letters
  letters_by_head [] = rw (headed_nil cats) refl
  letters_by_head (d ∷ ds) =
      letter_and_same (letters_within (length ds) cats) (letters cats) (headed cats (d ∷ ds))
      (λ c cs e. let less : length cs < length (d ∷ ds) = behind_head cats c cs (d ∷ ds) e in letters_enough (length ds) (length cs) cs (omega arith) (omega arith))

  pub behind_by_head : (line : List ℕ) → behind_letters cats line ≡ behind_letter cats (behind_letters cats) (headed cats line)
  unfolding behind_letters
  behind_by_head [] = rw (headed_nil cats) refl
  behind_by_head (d ∷ ds) =
      behind_letter_same (behind_letters_within (length ds) cats) (behind_letters cats) (headed cats (d ∷ ds))
      (λ c cs e. let less : length cs < length (d ∷ ds) = behind_head cats c cs (d ∷ ds) e in behind_enough (length ds) (length cs) cs (omega arith) (omega arith))

  pub lexed_by_head : (state : LineState) (line : List ℕ) → lexed cats state line ≡ by_head cats state (lexed cats state) (headed cats line)
  unfolding lexed
  lexed_by_head state [] = rw (headed_nil cats) refl
  lexed_by_head state (d ∷ ds) =
      by_head_same state (lexed_within (length ds) cats state) (lexed cats state) (headed cats (d ∷ ds))
      (λ c cs e. let less : length cs < length (d ∷ ds) = behind_head cats c cs (d ∷ ds) e in lexed_enough state (length ds) (length cs) cs (omega arith) (omega arith))
